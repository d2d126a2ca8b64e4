use Rattle.std.proofs.Common.{◌≡◌, ◌≤◌, drop, map, vec_len, ◌+◌, ◌*◌}
use Rattle.core_terms.specs.Lists.{pat_field_tree}
use Rattle.core_terms.specs.View.{pat_fields_from}
use Rattle.core_terms.specs.declared.pat.PatForm.TheViews.{out-PatFields}
use Rattle.match_cover.specs.Tests.{fields_test}
use Rattle.match_cover.specs.View.{tests_tree}
use Rattle.match_cover.proofs.test.+test_of.Given as goal

abbrev pub invariant-fields_test-loop-left : goal.invariant-fields_test-loop-left
invariant-fields_test-loop-left l =
    (tests_tree l.tests ≡ fields_test (pat_fields_from (map pat_field_tree (drop l.left (out-PatFields l.fs).items.items)))) × (l.left ≤ vec_len (out-PatFields l.fs).items)

abbrev pub decreases-fields_test-loop-left : goal.decreases-fields_test-loop-left
decreases-fields_test-loop-left l = l.left

abbrev pub decreases-test_of : goal.decreases-test_of
decreases-test_of l = 4 * l.room

abbrev pub decreases-form_test : goal.decreases-form_test
decreases-form_test l = 4 * l.room + 3

abbrev pub decreases-fields_test : goal.decreases-fields_test
decreases-fields_test l = 4 * l.room + 2
