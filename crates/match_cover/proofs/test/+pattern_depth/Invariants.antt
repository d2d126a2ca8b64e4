use Rattle.std.proofs.Common.{◌≡◌, ◌≤◌, drop, map, vec_len, ◌+◌, ◌*◌}
use Rattle.core_terms.specs.Lists.{pat_field_tree}
use Rattle.core_terms.specs.View.{pat_fields_from}
use Rattle.core_terms.specs.declared.pat.PatForm.TheViews.{out-PatFields}
use Rattle.core_typing.specs.Cover.{fields_depth}
use Rattle.match_cover.proofs.test.+pattern_depth.Given as goal

abbrev pub invariant-fields_depth-loop-left : goal.invariant-fields_depth-loop-left
invariant-fields_depth-loop-left l =
    (l.deepest ≡ fields_depth (pat_fields_from (map pat_field_tree (drop l.left (out-PatFields l.fs).items.items)))) × (l.deepest ≤ l.room) × (l.left ≤ vec_len (out-PatFields l.fs).items)

abbrev pub decreases-fields_depth-loop-left : goal.decreases-fields_depth-loop-left
decreases-fields_depth-loop-left l = l.left

abbrev pub decreases-pattern_depth : goal.decreases-pattern_depth
decreases-pattern_depth l = 4 * l.room

abbrev pub decreases-form_depth : goal.decreases-form_depth
decreases-form_depth l = 4 * l.room + 3

abbrev pub decreases-fields_depth : goal.decreases-fields_depth
decreases-fields_depth l = 4 * l.room + 2
