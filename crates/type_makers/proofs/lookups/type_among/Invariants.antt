use Rattle.std.proofs.Common.{◌≡◌, length}
use Rattle.core_terms.specs.BasisTexts.{type_text}
use Rattle.type_makers.specs.Lookup.{first_named}
use Rattle.type_makers.proofs.lookups.type_among.Given as goal

abbrev pub invariant-loop-types : goal.invariant-loop-types
invariant-loop-types l = first_named type_text l.types l.text ≡ first_named type_text l.fn.types l.text

abbrev pub decreases-loop-types : goal.decreases-loop-types
decreases-loop-types l = length l.types
