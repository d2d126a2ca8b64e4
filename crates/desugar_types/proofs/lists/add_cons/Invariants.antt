use Rattle.std.proofs.Common.{◌≡◌, ◌++◌, map}
use Rattle.plain_tree.specs.ConView.{con_tree}
use Rattle.desugar_values.specs.View.{meaning_tree, meanings_from}
use Rattle.desugar_types.specs.Lists.{cons_of}
use Rattle.desugar_types.proofs.lists.add_cons.Given as goal

abbrev pub invariant-loop-part : goal.invariant-loop-part
invariant-loop-part l =
    map con_tree l.all.items ++ cons_of (meanings_from (map meaning_tree l.part-iterator.rest.items))
    ≡ map con_tree l.fn.items.items ++ cons_of (meanings_from (map meaning_tree l.fn.more.items))
