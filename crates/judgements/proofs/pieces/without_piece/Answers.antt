use Rattle.std.proofs.Common.{◌≡◌, ◌<◌, ◌≤◌, ◌∙◌, ap, sym, length, arith, List, Some}
use Rattle.con_terms.specs.Trees.{Cn}
use Rattle.con_terms.specs.View.{con_tree}
use Rattle.con_terms.specs.declared.con.Con.TheViews.{out-Cons}
use Rattle.judgements.specs.View.{leaving_tree}
use Rattle.judgements.proofs.OverPieces.{rolled, left_on, left_all, out_at, kept_at}
use Rattle.judgements.proofs.pieces.without_piece.Goals as goal

pub loop-i-preserved : goal.loop-i-preserved
loop-i-preserved c =
    let xs = (out-Cons c.args.pieces.now).items in
    let h : c.loop-i.i < length xs.items = omega (arith, xs.ok.0) in
    left_on (con_tree c.args.out.now) xs.items c.loop-i.i _ (leaving_tree c.loop-i.now) (leaving_tree c.in_ok-now.now) _ c.index.ensures h c.in_ok-now.ensures c.loop-i.invariant

pub returns-then-is_out : goal.returns-then-is_out
returns-then-is_out c =
    let xs = (out-Cons c.args.pieces.now).items in
    let h : length xs.items ≤ c.loop-i.i = omega (arith, xs.ok.0) in
    ap (λ (l : List Cn). Some l) (rolled c.loop-i.now.past)
    ∙ sym (out_at (con_tree c.args.out.now) c.loop-i.now c.if-is_out.true)
    ∙ left_all (con_tree c.args.out.now) c.args.pieces.now c.loop-i.i (leaving_tree c.loop-i.now) h c.loop-i.invariant

pub returns-else-is_out : goal.returns-else-is_out
returns-else-is_out c =
    let xs = (out-Cons c.args.pieces.now).items in
    let h : length xs.items ≤ c.loop-i.i = omega (arith, xs.ok.0) in
    sym (kept_at (con_tree c.args.out.now) c.loop-i.now c.if-is_out.false) ∙ left_all (con_tree c.args.out.now) c.args.pieces.now c.loop-i.i (leaving_tree c.loop-i.now) h c.loop-i.invariant
