-- How two constructors compare: by their normal forms, which have the units of one comparison together.
-- The Ur/Web Manual, "Definitional Equality".
use Rattle.std.specs.Prelude.{◌≡◌, ◌≢◌, Bool, Result, Ok, Err, if◌then◌else◌}
use Rattle.con_terms.specs.Trees.{Cn}
use Rattle.con_terms.specs.Equal.{Equal}
use Rattle.row_normal.specs.SameTree.{cn_eq}
use Rattle.kind_rules.specs.Flaws.{Flw}
use Rattle.kind_rules.specs.Compared.{comparison_units, normal_forms}

pub data Comparison : Type 0 where
  -- one normal form
  alike : Comparison
  -- two normal forms, the left side's first
  differing : Cn → Cn → Comparison
  -- a normal form is refused
  incomparable : Comparison

-- two normal forms are one, or they differ
abbrev pub told : Cn × Cn → Comparison
told mn = if cn_eq mn.0 mn.1 then alike else differing mn.0 mn.1

abbrev pub told_of : Result (Cn × Cn) Flw → Comparison
told_of (Err flaw) = incomparable
told_of (Ok mn) = told mn

abbrev pub compared : Cn → Cn → Comparison
compared a b = told_of (normal_forms comparison_units a b)

-- What is told of a and b: alike only where they are equal; differing with two constructors that differ, of which the
-- one is
-- equal to a and the other to b.
abbrev pub IsFair : Cn → Cn → Comparison → Type 0
IsFair a b alike = Equal a b
IsFair a b (differing m n) = (m ≢ n) × Equal a m × Equal b n
IsFair a b incomparable = Unit {0}
