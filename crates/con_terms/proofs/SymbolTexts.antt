-- The symbols of a table of distinct texts.
use Rattle.std.proofs.Common.{◌≡◌, ◌↔◌, ℕ, ◌<◌, ◌⊎◌, inl, inr, Bool, true, false, List, [], length, Some, slice_get, get_or, refl, ap, sym, ◌∙◌}
use Rattle.std.specs.List.{IsDistinct}
use Rattle.std.specs.Str.{bytes_eq}
use Rattle.std.proofs.lemmas.Bool.{cases_order}
use Rattle.std.proofs.lemmas.Map.Keys.{apart_from_distinct}
use Rattle.std.proofs.lemmas.Option.{slice_get_within, get_or_from_slice_get}
use Rattle.std.proofs.lemmas.Slice.Eq.{bytes_eq-Decides}
use Rattle.con_terms.specs.Symbols.{Table}
use Rattle.con_terms.specs.Laws.{SymbolsAreTexts}

never : {P : Type 0} (b : Bool) → b ≡ true → b ≡ false → P
never true h g = cc
never false h g = cc

some_same : {X : Type 0} (x y : X) → Some x ≡ Some y → x ≡ y
some_same x y h = cc

-- an earlier text is another one
earlier : {P : Type 0} (t : Table) (s n : ℕ) (x y : List ℕ) → IsDistinct bytes_eq t → slice_get t s ≡ Some x → slice_get t n ≡ Some y → s < n → x ≡ y → P
earlier t s n x y d a b l e =
    let first : get_or t s [] ≡ x = get_or_from_slice_get t s x [] a in
    let second : get_or t n [] ≡ y = get_or_from_slice_get t n y [] b in
    let differ : bytes_eq (get_or t s []) (get_or t n []) ≡ false = apart_from_distinct bytes_eq t s n [] d l (slice_get_within t n y b) in
    never _ ((bytes_eq-Decides (get_or t s []) (get_or t n [])).1 (first ∙ e ∙ sym second)) differ

pub symbols_are_texts : SymbolsAreTexts
symbols_are_texts t s n x y d a b = (
  λ e. some_same x y (sym a ∙ ap (λ i. slice_get t i) e ∙ b),
  λ e. elim (cases_order s n) [
    | inl q ↦ q
    | inr o ↦ elim o [ inl l ↦ earlier t s n x y d a b l e | inr l ↦ earlier t n s y x d b a l (sym e) ]
  ],
)
