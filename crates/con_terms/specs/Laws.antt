-- Laws of shifting, substitution and equality.
use Rattle.std.specs.Prelude.{◌≡◌, ◌↔◌, ℕ, ◌+◌, List, Some, slice_get}
use Rattle.std.specs.List.{IsDistinct}
use Rattle.std.specs.Str.{bytes_eq}
use Rattle.con_terms.specs.Trees.{Cn}
use Rattle.con_terms.specs.Substitution.{shift, subst_at}
use Rattle.con_terms.specs.Equal.{Equal}
use Rattle.con_terms.specs.Symbols.{Table}

-- one substitution after another: the outer one goes first where it also goes into the inner argument
abbrev pub SubstitutionsSwap : Type 0
SubstitutionsSwap =
    (a b c : Cn) (d m : ℕ)
    → subst_at b (subst_at a c d) (m + d) ≡ subst_at (subst_at b a m) (subst_at b c (m + d + 1)) d

-- equal constructors stay equal under a shift
abbrev pub ShiftKeepsEqual : Type 0
ShiftKeepsEqual = (c d : Cn) (by from : ℕ) → Equal c d → Equal (shift by c from) (shift by d from)

-- equal arguments in equal bodies leave equal constructors
abbrev pub SubstitutionKeepsEqual : Type 0
SubstitutionKeepsEqual = (a b c d : Cn) (n : ℕ) → Equal a b → Equal c d → Equal (subst_at a c n) (subst_at b d n)

-- two symbols of a table, whose texts are distinct, are equal exactly where their texts are
abbrev pub SymbolsAreTexts : Type 0
SymbolsAreTexts =
    (t : Table) (s n : ℕ) (x y : List ℕ) → IsDistinct bytes_eq t → slice_get t s ≡ Some x → slice_get t n ≡ Some y
    → s ≡ n ↔ x ≡ y
