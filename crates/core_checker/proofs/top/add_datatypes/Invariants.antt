use Rattle.std.proofs.Common.{◌≡◌, ◌++◌, map, drop}
use Rattle.core_terms.specs.View.{datatype_view}
use Rattle.core_typing.specs.Scopes.{datatype_kinds}
use Rattle.kind_rules.specs.View.{basic_tree}
use Rattle.core_checker.proofs.top.add_datatypes.Given as goal

abbrev pub invariant-loop-i : goal.invariant-loop-i
invariant-loop-i l =
    map basic_tree l.all.items ++ datatype_kinds (map datatype_view (drop l.i l.ds.items))
    ≡ map basic_tree l.initial.all.items ++ datatype_kinds (map datatype_view l.ds.items)
