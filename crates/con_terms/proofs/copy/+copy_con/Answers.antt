use Rattle.std.proofs.Common.{◌≤◌, length, ◌∙◌, ap, arith, sym, map, take_all}
use Rattle.con_terms.specs.View.{con_tree, cons_from, pair_tree, pairs_from}
use Rattle.con_terms.specs.declared.con.Pairs.{out-Pairs}
use Rattle.con_terms.proofs.Lists.{cons_tree-roll, cons_tree_is, pairs_tree-roll, pairs_tree_is}
use Rattle.con_terms.proofs.copy.+copy_con.Goals as goal

pub copy_cons-returns : goal.copy_cons-returns
copy_cons-returns t c =
    let done : length c.args.cs.now.items.items ≤ c.loop-i.i = omega arith in
    cons_tree-roll (record { items = c.loop-i.items })
    ∙ ap cons_from (c.loop-i.invariant ∙ ap (map con_tree) (take_all _ _ done))
    ∙ sym (cons_tree_is c.args.cs.now)

pub copy_pairs-returns : goal.copy_pairs-returns
copy_pairs-returns t c =
    let done : length (out-Pairs c.args.ps.now).items.items ≤ c.loop-i.i = omega (arith, (out-Pairs c.args.ps.now).items.ok.0) in
    pairs_tree-roll (record { items = c.loop-i.items })
    ∙ ap pairs_from (c.loop-i.invariant ∙ ap (map pair_tree) (take_all _ _ done))
    ∙ sym (pairs_tree_is c.args.ps.now)
