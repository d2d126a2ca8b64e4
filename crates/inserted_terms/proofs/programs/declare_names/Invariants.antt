use Rattle.std.proofs.Common.{◌≡◌, map, drop}
use Rattle.core_terms.specs.View.{named_from, named_list_tree, named_tree}
use Rattle.core_terms.specs.declared.exp.Form.TheViews.{out-NamedList}
use Rattle.source_names.specs.View.{tables_view}
use Rattle.inserted_terms.specs.Programs.{with_names}
use Rattle.inserted_terms.specs.View.{reached_view}
use Rattle.inserted_terms.proofs.programs.declare_names.Given as goal

abbrev pub invariant-loop-i : goal.invariant-loop-i
invariant-loop-i l =
    with_names (tables_view l.program) (named_list_tree l.ns) (reached_view l.fn.s)
    ≡ with_names (tables_view l.program) (named_from (map named_tree (drop l.i (out-NamedList l.ns).items.items)))
    (reached_view l.reached)
