use Rattle.std.proofs.Common.{◌≡◌, ◌<◌, None, drop, subst, sym, ◌∙◌}
use Rattle.std.proofs.lemmas.Result.{err_from_is_err_and}
use Rattle.grammar_engine.proofs.Keeping.Smaller.{left_over, smaller}
use Rattle.hole_reader.specs.Holes.{hole_of}
use Rattle.hole_reader.specs.Progress.{Comes}
use Rattle.hole_reader.specs.Progress.Comes.{met}
use Rattle.hole_reader.proofs.Stops.{stop_met}
use Rattle.hole_reader.proofs.walk.read_on.Goals as goal

pub loop-want-smaller : goal.loop-want-smaller
loop-want-smaller c =
    let items = c.args.tokens.now.items in
    let w = c.in-Some.want in
    let after = record c.loop-want.machine { wants = c.pop.new.self } in
    subst (λ l. left_over (drop c.meet.new.machine.at items) c.meet.new.machine.wants < left_over (drop c.loop-want.machine.at items) l) (sym c.in-Some.ensures)
    (smaller items w.part w.room w.tag after c.meet.new.machine c.in_ok-meet.ensures.meets)

pub loop-want-preserved : goal.loop-want-preserved
loop-want-preserved c =
    let items = c.args.tokens.now.items in
    let w = c.in-Some.want in
    let m = c.loop-want.machine in
    let after = record m { wants = c.pop.new.self } in
    let skips : hole_of w.part ≡ None = sym c.hole_of.ensures.hole ∙ c.in-None.is in
    record {
      comes = λ first handed h. met handed w after c.meet.new.machine skips c.in_ok-meet.ensures.meets c.in_ok-meet.ensures.sure c.in_ok-meet.ensures.looked c.in_ok-meet.ensures.counted
          (subst (λ l. Comes items first handed m.at m.far m.tree l) c.in-Some.ensures (c.loop-want.invariant.comes first handed h));
    }

pub returns-in_err-meet-clause-stops : goal.returns-in_err-meet-clause-stops
returns-in_err-meet-clause-stops c first handed h =
    let items = c.args.tokens.now.items in
    let w = c.in-Some.want in
    let m = c.loop-want.machine in
    let after = record m { wants = c.pop.new.self } in
    let skips : hole_of w.part ≡ None = sym c.hole_of.ensures.hole ∙ c.in-None.is in
    let p = err_from_is_err_and c.from_residual.result c.from_residual.ensures.1 in
    rw (p.1, p.2)
    (stop_met items first handed w after c.in_err-meet.field-0.0 (subst (λ l. Comes items first handed m.at m.far m.tree l) c.in-Some.ensures (c.loop-want.invariant.comes first handed h)) skips
    c.in_err-meet.ensures.refused c.in_err-meet.ensures.blocked c.in_err-meet.ensures.enough)
