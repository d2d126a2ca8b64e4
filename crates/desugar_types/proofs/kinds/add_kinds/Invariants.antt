use Rattle.std.proofs.Common.{◌≡◌, ◌++◌, map}
use Rattle.con_terms.specs.View.{kind_tree}
use Rattle.desugar_values.specs.View.{meaning_tree, meanings_from}
use Rattle.desugar_types.specs.Kinds.{kinds_of}
use Rattle.desugar_types.proofs.kinds.add_kinds.Given as goal

abbrev pub invariant-loop-part : goal.invariant-loop-part
invariant-loop-part l =
    map kind_tree l.all.items ++ kinds_of (meanings_from (map meaning_tree l.part-iterator.rest.items))
    ≡ map kind_tree l.fn.items.items ++ kinds_of (meanings_from (map meaning_tree l.fn.more.items))
