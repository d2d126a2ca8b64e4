use Rattle.std.proofs.Common.{◌≡◌, ◌++◌, map, drop}
use Rattle.con_terms.specs.View.{con_tree}
use Rattle.core_terms.specs.View.{named_from, named_tree}
use Rattle.core_terms.specs.declared.exp.Form.TheViews.{out-NamedList}
use Rattle.core_checker.specs.Declarations.{types_of}
use Rattle.core_checker.proofs.declarations.add_types.Given as goal

abbrev pub invariant-loop-i : goal.invariant-loop-i
invariant-loop-i l =
    map con_tree l.tops.items ++ types_of (named_from (map named_tree (drop l.i (out-NamedList l.ns).items.items)))
    ≡ map con_tree l.initial.tops.items ++ types_of (named_from (map named_tree (out-NamedList l.ns).items.items))
