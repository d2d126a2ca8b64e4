-- The order of fields is that of what is printed of them.
use Rattle.std.proofs.Common.{◌≡◌, ℕ, Bool, true, false, List, [], ◌∷◌, ◌++◌, map, Option, Some, None, if◌then◌else◌, refl, ap, sym, ◌∙◌}
use Rattle.std.proofs.lemmas.List.{map-append}
use Rattle.con_terms.specs.Trees.{Prs, no_pairs, pair, pair_list}
use Rattle.shown_types.specs.Names.{Known}
use Rattle.shown_types.specs.Order.{comes_before, put_in, put_named, put_unnamed, sorted, unnamed, second, in_order}
use Rattle.shown_types.specs.Printed.{put_row, put_field, by_name}

-- what is made of a thing, with the same name
abbrev pub each : {A B N : Type 0} → (A → B) → N × A → N × B
each f e = (e.0, f e.1)

put_if : {A B : Type 0} (f : A → B) (n : List ℕ) (x : A) (e : List ℕ × A) (fs : List (List ℕ × A)) (b : Bool)
    → map (each f) (put_in n x fs) ≡ put_in n (f x) (map (each f) fs)
    → map (each f) (if b then e ∷ put_in n x fs else (n, x) ∷ e ∷ fs)
    ≡ (if b then each f e ∷ put_in n (f x) (map (each f) fs) else (n, f x) ∷ each f e ∷ map (each f) fs)
put_if f n x e fs true h = ap (λ gs. each f e ∷ gs) h
put_if f n x e fs false h = refl

put_each : {A B : Type 0} (f : A → B) (n : List ℕ) (x : A) (fs : List (List ℕ × A)) → map (each f) (put_in n x fs) ≡ put_in n (f x) (map (each f) fs)
put_each f n x [] = refl
put_each f n x (e ∷ fs) = put_if f n x e fs (comes_before e.0 n) (put_each f n x fs)

named_each : {A B : Type 0} (f : A → B) (o : Option (List ℕ)) (x : A) (fs : List (List ℕ × A)) → map (each f) (put_named o x fs) ≡ put_named o (f x) (map (each f) fs)
named_each f None x fs = refl
named_each f (Some n) x fs = put_each f n x fs

sorted_each : {A B : Type 0} (f : A → B) (es : List (Option (List ℕ) × A)) → map (each f) (sorted es) ≡ sorted (map (each f) es)
sorted_each f [] = refl
sorted_each f (e ∷ es) = named_each f e.0 e.1 (sorted es) ∙ ap (put_named e.0 (f e.1)) (sorted_each f es)

kept_each : {A B : Type 0} (f : A → B) (o : Option (List ℕ)) (x : A) (fs : List A) → map f (put_unnamed o x fs) ≡ put_unnamed o (f x) (map f fs)
kept_each f None x fs = refl
kept_each f (Some n) x fs = refl

unnamed_each : {A B : Type 0} (f : A → B) (es : List (Option (List ℕ) × A)) → map f (unnamed es) ≡ unnamed (map (each f) es)
unnamed_each f [] = refl
unnamed_each f (e ∷ es) = kept_each f e.0 e.1 (unnamed es) ∙ ap (put_unnamed e.0 (f e.1)) (unnamed_each f es)

second_each : {A B : Type 0} (f : A → B) (fs : List (List ℕ × A)) → map f (map second fs) ≡ map second (map (each f) fs)
second_each f [] = refl
second_each f (e ∷ fs) = ap (λ gs. f e.1 ∷ gs) (second_each f fs)

pub order_each : {A B : Type 0} (f : A → B) (es : List (Option (List ℕ) × A)) → map f (in_order es) ≡ in_order (map (each f) es)
order_each f es =
    map-append f (map second (sorted es)) (unnamed es)
    ∙ ap (λ fs. fs ++ map f (unnamed es)) (second_each f (sorted es) ∙ ap (map second) (sorted_each f es))
    ∙ ap (λ fs. map second (sorted (map (each f) es)) ++ fs) (unnamed_each f es)

row_each : (g : Known) (called : List (List ℕ)) (ps : Prs) → put_row g called ps ≡ map (each (put_field g called)) (map (by_name g) (pair_list ps))
row_each g called no_pairs = refl
row_each g called (pair n v ps) = ap (λ fs. each (put_field g called) (by_name g (n, v)) ∷ fs) (row_each g called ps)

pub row_ordered : (g : Known) (called : List (List ℕ)) (ps : Prs)
    → map (put_field g called) (in_order (map (by_name g) (pair_list ps))) ≡ in_order (put_row g called ps)
row_ordered g called ps = order_each (put_field g called) (map (by_name g) (pair_list ps)) ∙ ap in_order (sym (row_each g called ps))
