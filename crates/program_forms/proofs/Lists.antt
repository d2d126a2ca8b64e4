-- Lists, element by element.
use Rattle.std.proofs.Common.{◌≡◌, ℕ, zero, suc, ◌<◌, ◌+◌, List, [], ◌∷◌, ◌++◌, map, drop, length, get_or, Some, slice_get, refl, ap, sym, subst, ◌∙◌, arith}
use Rattle.std.specs.List.{AllByRecursion, Contains}
use Rattle.std.proofs.lemmas.List.Elements.{All-contains}
use Rattle.std.proofs.Math.Seq.{drop-cons}
use Rattle.con_terms.specs.Trees.{Kd}
use Rattle.core_typing.specs.Accepts.{FoldersDiffer}
use Rattle.core_typing.specs.Declarations.{Distinct}
use Rattle.program_forms.specs.Symbols.{KindsDiffer, SymbolsDiffer}
use Rattle.std.proofs.lemmas.Option.{same_Some as same}
pub use Rattle.std.proofs.lemmas.List.Elements.{All-from_recursion as all_from}

pub of_contained : {X : Type 0} (P : X → Type 0) (xs : List X) (x : X) → AllByRecursion P xs → Contains xs x → P x
of_contained P xs x h c = All-contains P xs x (all_from P xs h) c

pub all_weaker : {X : Type 0} (P Q : X → Type 0) (xs : List X) → ((x : X) → P x → Q x) → AllByRecursion P xs → AllByRecursion Q xs
all_weaker P Q [] f h = h
all_weaker P Q (x ∷ xs) f h = (f x h.0, all_weaker P Q xs f h.1)

pub all_append : {X : Type 0} (P : X → Type 0) (xs ys : List X) → AllByRecursion P xs → AllByRecursion P ys → AllByRecursion P (xs ++ ys)
all_append P [] ys h g = g
all_append P (x ∷ xs) ys h g = (h.0, all_append P xs ys h.1 g)

pub all_left : {X : Type 0} (P : X → Type 0) (xs ys : List X) → AllByRecursion P (xs ++ ys) → AllByRecursion P xs
all_left P [] ys h = tt
all_left P (x ∷ xs) ys h = (h.0, all_left P xs ys h.1)

pub at_place : {X : Type 0} (P : X → Type 0) (xs : List X) (i : ℕ) (x : X) → AllByRecursion P xs → slice_get xs i ≡ Some x → P x
at_place P [] i x h e = absurd cc
at_place P (y ∷ ys) zero x h e = subst P (same y x e) h.0
at_place P (y ∷ ys) (suc i) x h e = at_place P ys i x h.1 e

pub plus_one : (i : ℕ) → suc i ≡ i + 1
plus_one i = omega arith

pub folders_differ : (fs : List (Kd × ℕ)) → KindsDiffer fs → FoldersDiffer fs
folders_differ [] d i j f g a b e = absurd cc
folders_differ (x ∷ xs) d zero zero f g a b e = refl
folders_differ (x ∷ xs) d zero (suc j) f g a b e =
    absurd (at_place (λ (z : Kd × ℕ). x.0 ≡ z.0 → ⊥) xs j g d.0 b (ap (λ (z : Kd × ℕ). z.0) (same x f a) ∙ e))
folders_differ (x ∷ xs) d (suc i) zero f g a b e =
    absurd (at_place (λ (z : Kd × ℕ). x.0 ≡ z.0 → ⊥) xs i f d.0 a (ap (λ (z : Kd × ℕ). z.0) (same x g b) ∙ sym e))
folders_differ (x ∷ xs) d (suc i) (suc j) f g a b e = ap suc (folders_differ xs d.1 i j f g a b e)

-- one more folder in front of those that differ
pub kinds_more : {X : Type 0} (view : X → Kd × ℕ) (xs : List X) (i : ℕ) (x : X) → i < length xs → x ≡ get_or xs i x
    → AllByRecursion (λ (g : Kd × ℕ). (view x).0 ≡ g.0 → ⊥) (map view (drop (i + 1) xs))
    → KindsDiffer (map view (drop (i + 1) xs)) → KindsDiffer (map view (drop i xs))
kinds_more view xs i x l e others rest =
    let same = drop-cons xs i x l ∙ ap (λ y. y ∷ drop (suc i) xs) (sym e) ∙ ap (λ n. x ∷ drop n xs) (plus_one i) in
    subst (λ ys. KindsDiffer (map view ys)) (sym same) (others, rest)

pub distinct : (xs : List ℕ) → SymbolsDiffer xs → Distinct xs
distinct [] d = d
distinct (x ∷ xs) d = (all_from (λ y. x ≡ y → ⊥) xs d.0, distinct xs d.1)
