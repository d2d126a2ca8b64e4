use Rattle.std.proofs.Common.{◌≡◌, map, drop}
use Rattle.core_terms.specs.View.{named_from, named_list_tree, named_tree}
use Rattle.core_terms.specs.declared.exp.Form.TheViews.{out-NamedList}
use Rattle.inserted_terms.specs.Inside.{inside_names}
use Rattle.inserted_terms.specs.View.{at_view}
use Rattle.inserted_terms.proofs.scopes.inside_names.Given as goal

abbrev pub invariant-loop-i : goal.invariant-loop-i
invariant-loop-i l =
    inside_names (named_list_tree l.ns) (at_view l.h)
    ≡ inside_names (named_from (map named_tree (drop l.i (out-NamedList l.ns).items.items))) (at_view l.here)
