-- Names and entries that are one.
use Rattle.std.proofs.Common.{◌≡◌, ℕ, zero, suc, ◌+◌, ◌<◌, ◌≤◌, Bool, true, false, List, [], ◌∷◌, length, map, get_or, slice_get, option_map, Some, refl, ap, sym, ◌∙◌, subst, arith, ◌⊎◌, inl, inr}
use Rattle.std.specs.Bool.{Decides}
use Rattle.std.proofs.lemmas.Option.{same_Some, slice_get-map, slice_get_read}
use Rattle.link_router.specs.Calls.{Ent, is_post}
use Rattle.link_router.specs.View.{entry_view}
use Rattle.link_router.specs.declared.routes.Entry.{Entry}
use Rattle.core_checker.specs.Twice.{SameCall, Twice}

pub same_length : (a b : List (List ℕ)) → (length a ≡ length b → ⊥) → Decides false (a ≡ b)
same_length a b h = (λ e. absurd (cc), λ e. absurd (h (ap length e)))

pub same_piece : (a b : List (List ℕ)) (i : ℕ) (r : Bool) → Decides r (get_or a i [] ≡ get_or b i []) → r ≡ false → Decides false (a ≡ b)
same_piece a b i r d h = (λ e. absurd (cc), λ e. let z = d.1 (ap (λ xs. get_or xs i []) e) in absurd (cc))

all_same : (a b : List (List ℕ)) → length a ≡ length b → ((k : ℕ) → k < length a → get_or a k [] ≡ get_or b k []) → a ≡ b
all_same [] [] e h = refl
all_same [] (y ∷ b) e h = absurd (omega (arith, e))
all_same (x ∷ a) [] e h = absurd (omega (arith, e))
all_same (x ∷ a) (y ∷ b) e h = ap (λ z. z ∷ a) (h 0 (omega arith)) ∙ ap (λ zs. y ∷ zs) (all_same a b (omega (arith, e)) (λ k l. h (suc k) (omega arith)))

pub same_names : (a b : List (List ℕ)) (i : ℕ) → length a ≡ length b → length a ≤ i → ((k : ℕ) → k < i → get_or a k [] ≡ get_or b k []) → Decides true (a ≡ b)
same_names a b i e l h = (λ _. all_same a b e (λ k m. h k (omega arith)), λ _. refl)

pub other_method : (a b : Ent) → (is_post a.form ≡ is_post b.form → ⊥) → Decides false (SameCall a b)
other_method a b h = (λ e. absurd (cc), λ s. absurd (h s.0))

pub one_method : (a b : Ent) (r : Bool) → is_post a.form ≡ is_post b.form → Decides r (a.name ≡ b.name) → Decides r (SameCall a b)
one_method a b r e d = (λ h. (e, d.0 h), λ s. d.1 s.1)

below : (n j : ℕ) → n < j + 1 → (n < j) ⊎ (j ≡ n)
below zero zero h = inr refl
below zero (suc j) h = inl (omega arith)
below (suc n) zero h = absurd (omega arith)
below (suc n) (suc j) h = elim (below n j (omega arith)) [ inl l ↦ inl (omega arith) | inr e ↦ inr (ap suc e) ]

-- the entries before a place
pub twice_here : (es : List Ent) (i j : ℕ) (a b : Ent) → i < j → slice_get es i ≡ Some a → slice_get es j ≡ Some b → SameCall a b → Decides true (Twice es j)
twice_here es i j a b l g h s = (λ _. (i, a, b, l, g, h, s), λ _. refl)

pub never_twice : (es : List Ent) (i j : ℕ) → j ≤ i → ((k : ℕ) (a b : Ent) → k < i → slice_get es k ≡ Some a → slice_get es j ≡ Some b → SameCall a b → ⊥) → Decides false (Twice es j)
never_twice es i j h f = (λ e. absurd (cc), λ w. absurd (f w.0 w.1 w.2 (let l = w.3 in omega arith) w.4 w.5 w.6))

pub not_yet : (es : List Ent) (i j : ℕ) (x y : Ent) (r : Bool) → slice_get es i ≡ Some x → slice_get es j ≡ Some y → Decides r (SameCall x y) → r ≡ false →
    ((k : ℕ) (a b : Ent) → k < i → slice_get es k ≡ Some a → slice_get es j ≡ Some b → SameCall a b → ⊥) →
    (k : ℕ) (a b : Ent) → k < i + 1 → slice_get es k ≡ Some a → slice_get es j ≡ Some b → SameCall a b → ⊥
not_yet es i j x y r g h d e f k a b l p q s = elim (below k i l) [
  | inl c ↦ f k a b c p q s
  | inr c ↦ (let t = d.1 (subst (λ (z : Ent). SameCall z y) (same_Some a x (sym p ∙ ap (slice_get es) (sym c) ∙ g)) (subst (λ (z : Ent). SameCall a z) (same_Some b y (sym q ∙ h)) s)) in cc)
]

pub entry_at : (xs : List Entry) (i : ℕ) (x : Entry) → x ≡ get_or xs i x → i < length xs → slice_get (map entry_view xs) i ≡ Some (entry_view x)
entry_at xs i x e h = slice_get-map entry_view xs i ∙ ap (option_map entry_view) (slice_get_read xs (length xs) i x refl h e)
