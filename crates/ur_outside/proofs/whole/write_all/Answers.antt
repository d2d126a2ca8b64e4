use Rattle.std.proofs.Common.{◌≡◌, ℕ, ◌+◌, ◌-◌, length, List, ◌++◌, take, drop, arith, subst, sym, ap, ◌∙◌, length-take, length-drop}
use Rattle.std.specs.Io.KnownBytes.{Appends}
use Rattle.std.proofs.Math.Seq.{take-add}
use Rattle.std.proofs.lemmas.List.{take_rest}
use Rattle.ur_outside.proofs.Told.{appends_more}
use Rattle.ur_outside.proofs.whole.write_all.Goals as goal

pub loop-at-preserved : goal.loop-at-preserved
loop-at-preserved g c =
    let at = c.loop-at.at in
    let n = c.in_ok-count.count in
    let piece = c.args.piece.now in
    let joined : take at piece ++ take n (take (length piece - at) (drop at piece)) ≡ take (at + n) piece =
    ap (λ (l : List ℕ). take at piece ++ take n l) (take_rest piece at) ∙ sym (take-add at n piece) in
    record {
      bytes = subst (Appends (g.O.Sink.wrote c.args.output.now) (g.O.Sink.wrote c.write.new.self)) joined
          (appends_more (g.O.Sink.wrote c.args.output.now) (g.O.Sink.wrote c.loop-at.output) (g.O.Sink.wrote c.write.new.self) (take at piece) _ c.loop-at.invariant.bytes c.in_ok-count.ensures.bytes);
      in_range = omega (arith, c.in_ok-count.ensures.bound, length-take {A = ℕ}, length-drop {A = ℕ});
      later = omega (arith, c.loop-at.invariant.later, c.in_ok-count.ensures.cause.later);
    }
