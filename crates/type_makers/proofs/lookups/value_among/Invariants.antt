use Rattle.std.proofs.Common.{◌≡◌, length}
use Rattle.core_terms.specs.BasisTexts.{value_text}
use Rattle.type_makers.specs.Lookup.{first_named}
use Rattle.type_makers.proofs.lookups.value_among.Given as goal

abbrev pub invariant-loop-values : goal.invariant-loop-values
invariant-loop-values l = first_named value_text l.values l.text ≡ first_named value_text l.fn.values l.text

abbrev pub decreases-loop-values : goal.decreases-loop-values
decreases-loop-values l = length l.values
