use Rattle.std.proofs.Common.{◌≡◌, ◌++◌, map}
use Rattle.desugar_values.specs.View.{meaning_tree, meanings_from, meanings_tree}
use Rattle.desugar_types.specs.Patterns.{but_last, last_name}
use Rattle.desugar_types.proofs.patterns.upper_names.Given as goal

abbrev pub invariant-loop-part : goal.invariant-loop-part
invariant-loop-part l =
    (l.modules ++ but_last l.name (meanings_from (map meaning_tree l.part-iterator.rest.items))
    ≡ but_last l.fn.name (meanings_tree l.fn.more))
    × (last_name l.name (meanings_from (map meaning_tree l.part-iterator.rest.items))
    ≡ last_name l.fn.name (meanings_tree l.fn.more))
