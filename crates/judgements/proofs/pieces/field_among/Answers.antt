use Rattle.std.proofs.Common.{◌≡◌, ◌<◌, ◌≤◌, ◌∙◌, ap, sym, length, arith, List, Option, Some}
use Rattle.con_terms.specs.Trees.{Cn}
use Rattle.con_terms.specs.View.{con_tree}
use Rattle.con_terms.specs.declared.con.Con.TheViews.{out-Cons}
use Rattle.judgements.specs.View.{taking_tree}
use Rattle.judgements.proofs.OverPieces.{rolled, taken_on, taken_all, none_at, some_at}
use Rattle.judgements.proofs.pieces.field_among.Goals as goal

pub loop-i-preserved : goal.loop-i-preserved
loop-i-preserved c =
    let xs = (out-Cons c.args.pieces.now).items in
    let h : c.loop-i.i < length xs.items = omega (arith, xs.ok.0) in
    taken_on (con_tree c.args.name.now) xs.items c.loop-i.i _ (taking_tree c.loop-i.now) (taking_tree c.in_ok-now.now) _ c.index.ensures h c.in_ok-now.ensures c.loop-i.invariant

pub returns-in-None : goal.returns-in-None
returns-in-None c =
    let xs = (out-Cons c.args.pieces.now).items in
    let h : length xs.items ≤ c.loop-i.i = omega (arith, xs.ok.0) in
    sym (none_at (con_tree c.args.name.now) c.loop-i.now c.in-None.is) ∙ taken_all (con_tree c.args.name.now) c.args.pieces.now c.loop-i.i (taking_tree c.loop-i.now) h c.loop-i.invariant

pub returns-in-Some : goal.returns-in-Some
returns-in-Some c =
    let xs = (out-Cons c.args.pieces.now).items in
    let h : length xs.items ≤ c.loop-i.i = omega (arith, xs.ok.0) in
    ap (λ (l : List Cn). Some (con_tree c.in-Some.value, l)) (rolled c.loop-i.now.past)
    ∙ sym (some_at (con_tree c.args.name.now) c.loop-i.now c.in-Some.value c.in-Some.is)
    ∙ taken_all (con_tree c.args.name.now) c.args.pieces.now c.loop-i.i (taking_tree c.loop-i.now) h c.loop-i.invariant
