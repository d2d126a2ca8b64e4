use Rattle.std.proofs.Common.{◌≡◌, ◌++◌, map, drop}
use Rattle.core_terms.specs.View.{named_from, named_tree}
use Rattle.core_terms.specs.declared.exp.Form.TheViews.{out-NamedList}
use Rattle.core_checker.specs.Twice.{named_places}
use Rattle.core_checker.proofs.entries.add_places.Given as goal

abbrev pub invariant-loop-i : goal.invariant-loop-i
invariant-loop-i l =
    l.all.items ++ named_places (named_from (map named_tree (drop l.i (out-NamedList l.ns).items.items)))
    ≡ l.initial.all.items ++ named_places (named_from (map named_tree (out-NamedList l.ns).items.items))
