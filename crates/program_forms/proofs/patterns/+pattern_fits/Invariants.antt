use Rattle.std.proofs.Common.{map, drop}
use Rattle.core_terms.specs.Leaves.{PatternFieldsFit}
use Rattle.core_terms.specs.Lists.{pat_field_tree}
use Rattle.core_terms.specs.View.{pat_fields_tree, pat_fields_from}
use Rattle.core_terms.specs.declared.pat.PatForm.TheViews.{out-PatFields}
use Rattle.program_forms.proofs.patterns.+pattern_fits.Given as goal

abbrev pub invariant-pattern_fields_fit-loop-i : goal.invariant-pattern_fields_fit-loop-i
invariant-pattern_fields_fit-loop-i l =
    PatternFieldsFit l.count (pat_fields_from (map pat_field_tree (drop l.i (out-PatFields l.fs).items.items))) → PatternFieldsFit l.count (pat_fields_tree l.fs)
