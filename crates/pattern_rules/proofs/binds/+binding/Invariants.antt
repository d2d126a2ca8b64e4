use Rattle.std.proofs.Common.{◌≡◌, ◌+◌, ◌*◌, drop, map, None}
use Rattle.core_terms.specs.Lists.{pat_field_tree}
use Rattle.core_terms.specs.View.{pat_fields_from, pat_fields_tree}
use Rattle.core_terms.specs.declared.pat.PatForm.TheViews.{out-PatFields}
use Rattle.judgements.specs.View.{cons_view, locals_view, sc_view}
use Rattle.type_faults.specs.View.{maybe_fault}
use Rattle.pattern_rules.specs.Binds.{fields_binding}
use Rattle.pattern_rules.proofs.binds.+binding.Given as goal

abbrev pub invariant-fields_binding-loop-i : goal.invariant-fields_binding-loop-i
invariant-fields_binding-loop-i l =
    fields_binding (sc_view l.g l.s) (maybe_fault l.told) (locals_view l.bound.value) (pat_fields_from (map pat_field_tree (drop l.i (out-PatFields l.fs).items.items))) (cons_view l.rest)
    ≡ fields_binding (sc_view l.g l.s) None (locals_view l.locals.value) (pat_fields_tree l.fs) (cons_view l.fn.all)

abbrev pub decreases-binding : goal.decreases-binding
decreases-binding l = 8 * l.room

abbrev pub decreases-holding_binding : goal.decreases-holding_binding
decreases-holding_binding l = 8 * l.room + 3

abbrev pub decreases-annotated_binding : goal.decreases-annotated_binding
decreases-annotated_binding l = 8 * l.room + 3

abbrev pub decreases-record_binding : goal.decreases-record_binding
decreases-record_binding l = 8 * l.room + 3

abbrev pub decreases-fields_binding : goal.decreases-fields_binding
decreases-fields_binding l = 8 * l.room + 2

abbrev pub decreases-field_binding : goal.decreases-field_binding
decreases-field_binding l = 8 * l.room + 1
