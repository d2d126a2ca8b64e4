use Rattle.std.proofs.Common.{◌≡◌, drop}
use Rattle.core_terms.specs.Lists.{pat_field_tree}
use Rattle.core_terms.specs.View.{pat_fields_tree}
use Rattle.core_terms.specs.declared.pat.PatForm.TheViews.{out-PatFields}
use Rattle.plain_tree.specs.ConView as plain
use Rattle.plain_tree.specs.declared.pat.PatForm.TheViews as plain_views
use Rattle.source_names.specs.View.{scope_view}
use Rattle.source_terms.specs.Parts.{reads_pat_field}
use Rattle.source_terms.specs.Patterns.{reads_pat_fields}
use Rattle.source_terms.proofs.Pairs.{both}
use Rattle.source_terms.proofs.patterns.+reads.Given as goal

abbrev pub invariant-read_fields-loop-i : goal.invariant-read_fields-loop-i
invariant-read_fields-loop-i l =
    reads_pat_fields (scope_view l.s) (plain.pat_fields_tree l.fs) (pat_fields_tree l.gs)
    ≡ both (λ x y. reads_pat_field (scope_view l.s) (plain.pat_field_tree x) (pat_field_tree y))
    (drop l.i (plain_views.out-PatFields l.fs).items.items) (drop l.i (out-PatFields l.gs).items.items)
