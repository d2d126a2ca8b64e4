use Rattle.std.proofs.Common.{◌≡◌, ◌++◌, map, drop}
use Rattle.core_terms.specs.View.{named_from, named_tree, program_view, symbols_view}
use Rattle.core_terms.specs.declared.exp.Form.TheViews.{out-NamedList}
use Rattle.core_typing.specs.Declarations.{named_values}
use Rattle.site_routes.specs.Linked.{linked}
use Rattle.site_routes.specs.View.{value_view}
use Rattle.site_routes.proofs.values.add_list.Given as goal

abbrev pub invariant-loop-i : goal.invariant-loop-i
invariant-loop-i l =
    map value_view l.values.items ++ map (linked (program_view l.p)) (named_values (symbols_view l.path) (named_from (map named_tree (drop l.i (out-NamedList l.ns).items.items))))
    ≡ map value_view l.fn.values.items ++ map (linked (program_view l.p)) (named_values (symbols_view l.path) (named_from (map named_tree (out-NamedList l.ns).items.items)))
