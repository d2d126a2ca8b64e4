use Rattle.std.proofs.Common.{◌≡◌, map, drop}
use Rattle.core_terms.specs.Lists.{pat_field_tree}
use Rattle.core_terms.specs.View.{pat_fields_from, pat_fields_tree}
use Rattle.core_terms.specs.declared.pat.PatForm.TheViews.{out-PatFields}
use Rattle.inserted_terms.specs.Inside.{inside_fields}
use Rattle.inserted_terms.specs.View.{at_view}
use Rattle.inserted_terms.proofs.scopes.+under.Given as goal

abbrev pub invariant-under_fields-loop-i : goal.invariant-under_fields-loop-i
invariant-under_fields-loop-i l =
    inside_fields (pat_fields_tree l.fs) (at_view l.fn.h)
    ≡ inside_fields (pat_fields_from (map pat_field_tree (drop l.i (out-PatFields l.fs).items.items))) (at_view l.here)
