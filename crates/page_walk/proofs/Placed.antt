-- Fields in the byte order of their names: one more in its place.
use Rattle.std.proofs.Common.{◌≡◌, ℕ, zero, suc, ◌<◌, length, get_or, subst, Bool, true, false, List, [], ◌∷◌, ◌++◌, map, take, drop, Option, Some, None, slice_get, if◌then◌else◌, refl, ap, sym, ◌∙◌}
use Rattle.std.specs.List.{insert}
use Rattle.std.specs.Ordering.{is_lt, nat_cmp}
use Rattle.std.specs.Cmp.Lexicographic.{slice_cmp}
use Rattle.std.proofs.lemmas.List.{map-append}
use Rattle.value_trees.specs.Values.{V}
use Rattle.run_values.specs.View.{value_tree, slot_tree, slots_tree}
use Rattle.run_values.specs.declared.value.Slot.{Slot}
use Rattle.run_values.specs.declared.value.Value.{Value}
use Rattle.run_values.specs.declared.entry.Constr.TheViews.{out-Slot}
use Rattle.page_walk.specs.Adding.{ArePut, label, pending, place_in, put_value, put_named, sorted}
use Rattle.page_walk.proofs.Forms.{last_first}
use Rattle.page_walk.proofs.Whole.{next_back}
use Rattle.page_walk.specs.declared.links.Labelled.{Labelled}
use Rattle.run_values.proofs.Fields.{slot_is}

put_one : (n : List ℕ) (v : V) (f : List ℕ × V) (fs : List (List ℕ × V)) (b : Bool) → put_value n v fs ≡ insert fs (place_in n fs) (n, v)
    → (if b then f ∷ put_value n v fs else (n, v) ∷ f ∷ fs) ≡ insert (f ∷ fs) (if b then suc (place_in n fs) else 0) (n, v)
put_one n v f fs true h = ap (λ gs. f ∷ gs) h
put_one n v f fs false h = refl

put_is : (n : List ℕ) (v : V) (fs : List (List ℕ × V)) → put_value n v fs ≡ insert fs (place_in n fs) (n, v)
put_is n v [] = refl
put_is n v (f ∷ fs) = put_one n v f fs (is_lt (slice_cmp nat_cmp f.0 n)) (put_is n v fs)

map_take : {A B : Type 0} (f : A → B) (i : ℕ) (xs : List A) → map f (take i xs) ≡ take i (map f xs)
map_take f zero xs = refl
map_take f (suc i) [] = refl
map_take f (suc i) (x ∷ xs) = ap (λ ys. f x ∷ ys) (map_take f i xs)

map_drop : {A B : Type 0} (f : A → B) (i : ℕ) (xs : List A) → map f (drop i xs) ≡ drop i (map f xs)
map_drop f zero xs = refl
map_drop f (suc i) [] = refl
map_drop f (suc i) (x ∷ xs) = map_drop f i xs

map_insert : {A B : Type 0} (f : A → B) (xs : List A) (i : ℕ) (x : A) → map f (insert xs i x) ≡ insert (map f xs) i (f x)
map_insert f xs i x =
    map-append f (take i xs) (x ∷ drop i xs) ∙ ap (λ ys. ys ++ f x ∷ map f (drop i xs)) (map_take f i xs)
    ∙ ap (λ ys. take i (map f xs) ++ f x ∷ ys) (map_drop f i xs)

pub put_at : (f : Labelled) (fs new : List Labelled) (i : ℕ) → new ≡ insert fs i f → i ≡ place_in (label f).0 (map label fs)
    → map label new ≡ put_value (label f).0 (label f).1 (map label fs)
put_at f fs new i h e =
    ap (map label) h ∙ map_insert label fs i f ∙ ap (λ k. insert (map label fs) k (label f)) e
    ∙ sym (put_is (label f).0 (label f).1 (map label fs))

first_sorted : (names : List (List ℕ)) (s : Slot) (ss : List Slot)
    → sorted names (slots_tree (s ∷ ss)) ≡ put_named (slice_get names (out-Slot s).name.number) (value_tree (out-Slot s).value) (sorted names (slots_tree ss))
first_sorted names s ss = ap (λ (t : ℕ × V). put_named (slice_get names t.0) t.1 (sorted names (slots_tree ss))) (slot_is s)

pub one_sorted : (names : List (List ℕ)) (slots : List Slot) (j k : ℕ) (s : Slot) (name : List ℕ) (fs new : List Labelled)
    → j < length slots → s ≡ get_or slots j s → k ≡ suc j → Some name ≡ slice_get names (out-Slot s).name.number
    → sorted names (slots_tree (drop k slots)) ≡ Some (map label fs)
    → map label new ≡ put_value name (value_tree (out-Slot s).value) (map label fs)
    → sorted names (slots_tree (drop j slots)) ≡ Some (map label new)
one_sorted names slots j k s name fs new h e g n was f =
    ap (λ ss. sorted names (slots_tree ss)) (next_back slots j k s h e g)
    ∙ first_sorted names s (drop k slots)
    ∙ ap (λ o. put_named o (value_tree (out-Slot s).value) (sorted names (slots_tree (drop k slots)))) (sym n)
    ∙ ap (put_named (Some name) (value_tree (out-Slot s).value)) was
    ∙ ap Some (sym f)

without_rest : (o : Option (List ℕ)) (v : V) → put_named o v None ≡ None
without_rest None v = refl
without_rest (Some n) v = refl

not_sorted : (names : List (List ℕ)) (slots : List Slot) (j : ℕ) → sorted names (slots_tree (drop j slots)) ≡ None → sorted names (slots_tree slots) ≡ None
not_sorted names [] zero h = h
not_sorted names [] (suc j) h = h
not_sorted names (s ∷ ss) zero h = h
not_sorted names (s ∷ ss) (suc j) h =
    ap (put_named (slice_get names (slot_tree s).0) (slot_tree s).1) (not_sorted names ss j h) ∙ without_rest (slice_get names (slot_tree s).0) (slot_tree s).1

pub unsorted : (names : List (List ℕ)) (slots : List Slot) (j : ℕ) (s : Slot) → j < length slots → s ≡ get_or slots j s
    → None ≡ slice_get names (out-Slot s).name.number → sorted names (slots_tree slots) ≡ None
unsorted names slots j s h e n =
    not_sorted names slots j
    (ap (λ ss. sorted names (slots_tree ss)) (next_back slots j (suc j) s h e refl)
    ∙ first_sorted names s (drop (suc j) slots)
    ∙ ap (λ o. put_named o (value_tree (out-Slot s).value) (sorted names (slots_tree (drop (suc j) slots)))) (sym n))

-- fields that are put down, the last first
pub one_put : (fs : List Labelled) (xs ys : List Value) (f : Labelled) (us : List V) (j k : ℕ) → j < length fs → f ≡ get_or fs j f → k ≡ suc j
    → pending xs [] ≡ map (λ (g : Labelled). value_tree g.value) (drop k fs) ++ us → ys ≡ xs ++ f.value ∷ []
    → pending ys [] ≡ map (λ (g : Labelled). value_tree g.value) (drop j fs) ++ us
one_put fs xs ys f us j k h e g was new =
    ap (λ zs. pending zs []) new ∙ last_first xs f.value [] ∙ ap (λ vs. value_tree f.value ∷ vs) was
    ∙ ap (λ gs. map (λ (g : Labelled). value_tree g.value) gs ++ us) (sym (next_back fs j k f h e g))

values_of : (fs : List Labelled) → map (λ (g : Labelled). value_tree g.value) fs ≡ map (λ (g : List ℕ × V). g.1) (map label fs)
values_of [] = refl
values_of (f ∷ fs) = ap (λ vs. value_tree f.value ∷ vs) (values_of fs)

pub all_put : (o : Option (List (List ℕ × V))) (fs : List Labelled) (us vs : List V) (k : ℕ) → o ≡ Some (map label fs)
    → vs ≡ map (λ (g : Labelled). value_tree g.value) (drop k fs) ++ us → k ≡ 0 → ArePut o us vs
all_put o fs us vs k h e z =
    subst (λ p. ArePut p us vs) (sym h) (e ∙ ap (λ i. map (λ (g : Labelled). value_tree g.value) (drop i fs) ++ us) z ∙ ap (λ ws. ws ++ us) (values_of fs))
