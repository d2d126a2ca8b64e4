use Rattle.std.proofs.Common.{map, drop, []}
use Rattle.std.specs.List.{AllByRecursion}
use Rattle.core_terms.specs.View.{named_from, named_list_tree, named_tree}
use Rattle.core_terms.specs.declared.exp.Form.TheViews.{out-NamedList}
use Rattle.core_typing.specs.Declarations.{named_values}
use Rattle.program_forms.specs.Values.{Stands}
use Rattle.program_forms.proofs.values.names_stand.Given as goal

abbrev pub invariant-loop-i : goal.invariant-loop-i
invariant-loop-i l =
    AllByRecursion (Stands l.modules l.count) (named_values [] (named_from (map named_tree (drop l.i (out-NamedList l.ns).items.items)))) → AllByRecursion (Stands l.modules l.count) (named_values [] (named_list_tree l.ns))
