-- What is told of the entries of a site is what is told of the program's entries; and where nothing is, they differ.
use Rattle.std.proofs.Common.{◌≡◌, ℕ, zero, suc, ◌<◌, ◌≤◌, Bool, true, false, List, [], ◌∷◌, length, map, drop, Option, Some, None, option_map, slice_get, refl, ap, sym, ◌∙◌, subst, arith, ◌⊎◌, inl, inr}
use Rattle.std.proofs.lemmas.Option.{same_Some, slice_get-map, slice_get_within}
use Rattle.con_terms.specs.declared.place.Place.{Place}
use Rattle.link_router.specs.Calls.{Ent, Rts, is_post}
use Rattle.core_terms.specs.Trees.{Pg}
use Rattle.core_typing.specs.Declarations.{Value, values}
use Rattle.core_typing.specs.Entries.{IsEntry, by_export, by_link, by_action, EntriesFrom, no_values, neither, get_alone, post_alone, get_and_post, entries_of, value_name, RoutesOf}
use Rattle.core_typing.specs.Accepts.{EntriesDiffer}
use Rattle.core_typing.specs.Faults.{Fault, redeclared, twice_entry}
use Rattle.told_faults.specs.Told.{Picks}
use Rattle.told_faults.proofs.Verdict.{picks_as}
use Rattle.core_checker.specs.Twice.{Twice, places_of, ToldTwice, told_twice, ToldBefore, told_before, SecondEntry, second_entry}

split_le : (i k : ℕ) → i ≤ k → (i ≡ k) ⊎ (suc i ≤ k)
split_le zero zero h = inl refl
split_le zero (suc k) h = inr (omega arith)
split_le (suc i) zero h = absurd (omega arith)
split_le (suc i) (suc k) h = elim (split_le i k (omega arith)) [ inl e ↦ inl (ap suc e) | inr l ↦ inr (omega arith) ]

apart : (i k : ℕ) → (i ≡ k → ⊥) → (i < k) ⊎ (k < i)
apart zero zero h = absurd (h refl)
apart zero (suc k) h = inl (omega arith)
apart (suc i) zero h = inr (omega arith)
apart (suc i) (suc k) h = elim (apart i k (λ e. h (ap suc e))) [ inl l ↦ inl (omega arith) | inr l ↦ inr (omega arith) ]

entry_name : (p : Pg) (i : ℕ) (post : Bool) (e : Ent) → IsEntry p i post e → (v : Value) × (slice_get (values p.decls) i ≡ Some v) × (e.name ≡ value_name p v) × (is_post e.form ≡ post)
entry_name p i post e (by_export {v = v} at c t) = (v, at, refl, refl)
entry_name p i post e (by_link {v = v} at c t) = (v, at, refl, refl)
entry_name p i post e (by_action {v = v} at c t) = (v, at, refl, refl)

same_name : (p : Pg) (i : ℕ) (post w : Bool) (e d : Ent) → IsEntry p i post e → IsEntry p i w d → e.name ≡ d.name
same_name p i post w e d h g =
    let (v, a, n, m) = entry_name p i post e h in
    let (u, b, k, l) = entry_name p i w d g in
    n ∙ ap (value_name p) (same_Some v u (sym a ∙ b)) ∙ sym k

none_left : {X : Type 0} (xs : List X) (i k : ℕ) → drop i xs ≡ [] → i ≤ k → slice_get xs k ≡ None
none_left [] i k e h = refl
none_left (x ∷ xs) zero k e h = absurd (cc)
none_left (x ∷ xs) (suc i) zero e h = absurd (omega arith)
none_left (x ∷ xs) (suc i) (suc k) e h = none_left xs i k e (omega arith)

next_left : {X : Type 0} (xs : List X) (i : ℕ) (y : X) (ys : List X) → drop i xs ≡ y ∷ ys → drop (suc i) xs ≡ ys
next_left [] zero y ys e = absurd (cc)
next_left [] (suc i) y ys e = absurd (cc)
next_left (x ∷ xs) zero y ys e = cc
next_left (x ∷ xs) (suc i) y ys e = next_left xs i y ys e

-- an entry stands in the list
abbrev Stands : List (ℕ × Ent) → ℕ → Bool → Ent → Type 0
Stands es k post e = (m : ℕ) × (x : ℕ × Ent) × (slice_get es m ≡ Some x) × (x.0 ≡ k) × (x.1.name ≡ e.name) × (is_post x.1.form ≡ post)

later : (y : ℕ × Ent) (es : List (ℕ × Ent)) (k : ℕ) (post : Bool) (e : Ent) → Stands es k post e → Stands (y ∷ es) k post e
later y es k post e (m, x, a, b, c, d) = (suc m, x, a, b, c, d)

first_is : (p : Pg) (i k : ℕ) (post w : Bool) (e d : Ent) (es : List (ℕ × Ent)) → i ≡ k → post ≡ w → IsEntry p i w d → IsEntry p k post e → Stands ((i, d) ∷ es) k post e
first_is p i k post w e d es a b g h =
    let (u, at, n, m) = entry_name p i w d g in
    (0, (i, d), refl, a, same_name p i w post d e g (subst (λ (z : ℕ). IsEntry p z post e) (sym a) h), m ∙ sym b)

get_here : (p : Pg) (i k : ℕ) (post : Bool) (e d : Ent) (es : List (ℕ × Ent)) → i ≡ k → IsEntry p i false d → ((c : Ent) → IsEntry p i true c → ⊥) → IsEntry p k post e → Stands ((i, d) ∷ es) k post e
get_here p i k false e d es a g n h = first_is p i k false false e d es a refl g h
get_here p i k true e d es a g n h = absurd (n e (subst (λ (z : ℕ). IsEntry p z true e) (sym a) h))

post_here : (p : Pg) (i k : ℕ) (post : Bool) (e d : Ent) (es : List (ℕ × Ent)) → i ≡ k → IsEntry p i true d → ((c : Ent) → IsEntry p i false c → ⊥) → IsEntry p k post e → Stands ((i, d) ∷ es) k post e
post_here p i k true e d es a g n h = first_is p i k true true e d es a refl g h
post_here p i k false e d es a g n h = absurd (n e (subst (λ (z : ℕ). IsEntry p z false e) (sym a) h))

both_here : (p : Pg) (i k : ℕ) (post : Bool) (e c d : Ent) (es : List (ℕ × Ent)) → i ≡ k → IsEntry p i false c → IsEntry p i true d → IsEntry p k post e → Stands ((i, c) ∷ (i, d) ∷ es) k post e
both_here p i k false e c d es a f g h = first_is p i k false false e c ((i, d) ∷ es) a refl f h
both_here p i k true e c d es a f g h = later (i, c) ((i, d) ∷ es) k true e (first_is p i k true true e d es a refl g h)

not_there : (p : Pg) (i k : ℕ) (post : Bool) (e : Ent) → drop i (values p.decls) ≡ [] → i ≤ k → IsEntry p k post e → ⊥
not_there p i k post e l h is =
    let (v, at, n, m) = entry_name p k post e is in
    let z = none_left (values p.decls) i k l h in
    cc

stands : (p : Pg) (i : ℕ) (vs : List Value) (es : List (ℕ × Ent)) → EntriesFrom p i vs es → drop i (values p.decls) ≡ vs → (k : ℕ) (post : Bool) (e : Ent) → i ≤ k → IsEntry p k post e → Stands es k post e
stands p i vs es no_values l k post e h is = absurd (not_there p i k post e l h is)
stands p i vs es (neither {v = v} {vs = ws} f more) l k post e h is = elim (split_le i k h) [
  | inl a ↦ absurd (f post e (subst (λ (z : ℕ). IsEntry p z post e) (sym a) is))
  | inr b ↦ stands p (suc i) _ _ more (next_left (values p.decls) i v ws l) k post e b is
]
stands p i vs es (get_alone {v = v} {vs = ws} {e = d} {rest = rest} g n more) l k post e h is = elim (split_le i k h) [
  | inl a ↦ get_here p i k post e d rest a g n is
  | inr b ↦ later (i, d) rest k post e (stands p (suc i) _ _ more (next_left (values p.decls) i v ws l) k post e b is)
]
stands p i vs es (post_alone {v = v} {vs = ws} {e = d} {rest = rest} n g more) l k post e h is = elim (split_le i k h) [
  | inl a ↦ post_here p i k post e d rest a g n is
  | inr b ↦ later (i, d) rest k post e (stands p (suc i) _ _ more (next_left (values p.decls) i v ws l) k post e b is)
]
stands p i vs es (get_and_post {v = v} {vs = ws} {e = c} {d = d} {rest = rest} f g more) l k post e h is = elim (split_le i k h) [
  | inl a ↦ both_here p i k post e c d rest a f g is
  | inr b ↦ later (i, c) ((i, d) ∷ rest) k post e (later (i, d) rest k post e (stands p (suc i) _ _ more (next_left (values p.decls) i v ws l) k post e b is))
]

-- what stands at a place of a list that is made from another
record Made {X Y : Type 0} (f : X → Y) (xs : List X) (n : ℕ) (y : Y) : Type 0 where
  from : X
  there : slice_get xs n ≡ Some from
  made : f from ≡ y

made_at : {X Y : Type 0} (f : X → Y) (xs : List X) (n : ℕ) (y : Y) → slice_get (map f xs) n ≡ Some y → Made f xs n y
made_at f [] n y h = absurd (cc)
made_at f (x ∷ xs) zero y h = record { from = x; there = refl; made = same_Some (f x) y h }
made_at f (x ∷ xs) (suc n) y h = let m = made_at f xs n y h in record { from = m.from; there = m.there; made = m.made }

makes_at : {X Y : Type 0} (f : X → Y) (xs : List X) (n : ℕ) (x : X) → slice_get xs n ≡ Some x → slice_get (map f xs) n ≡ Some (f x)
makes_at f xs n x h = slice_get-map f xs n ∙ ap (option_map f) h

abbrev number : ℕ × Ent → ℕ
number e = e.0

abbrev entry : ℕ × Ent → Ent
entry e = e.1

-- what is listed is an entry, of a value from the first on
abbrev IsListed : Pg → ℕ → ℕ × Ent → Type 0
IsListed p i x = (i ≤ x.0) × IsEntry p x.0 (is_post x.1.form) x.1

is_listed : (p : Pg) (i : ℕ) (post : Bool) (e : Ent) (x : ℕ × Ent) → IsEntry p i post e → ◌≡◌ {A = ℕ × Ent} (i, e) x → IsListed p i x
is_listed p i post e x h k =
    subst (IsListed p i) k (omega arith, subst (λ (z : Bool). IsEntry p i z e) (sym (entry_name p i post e h).3) h)

from_next : (p : Pg) (i : ℕ) (x : ℕ × Ent) → IsListed p (suc i) x → IsListed p i x
from_next p i x (l, h) = (omega (arith, l), h)

listed_is : (p : Pg) (i : ℕ) (vs : List Value) (es : List (ℕ × Ent)) → EntriesFrom p i vs es → (m : ℕ) (x : ℕ × Ent) → slice_get es m ≡ Some x → IsListed p i x
listed_is p i vs es no_values m x h = absurd (cc)
listed_is p i vs es (neither f more) m x h = from_next p i x (listed_is p (suc i) _ _ more m x h)
listed_is p i vs es (get_alone {e = e} g n more) zero x h = is_listed p i false e x g (same_Some (i, e) x h)
listed_is p i vs es (get_alone g n more) (suc m) x h = from_next p i x (listed_is p (suc i) _ _ more m x h)
listed_is p i vs es (post_alone {e = e} n g more) zero x h = is_listed p i true e x g (same_Some (i, e) x h)
listed_is p i vs es (post_alone n g more) (suc m) x h = from_next p i x (listed_is p (suc i) _ _ more m x h)
listed_is p i vs es (get_and_post {e = e} f g more) zero x h = is_listed p i false e x f (same_Some (i, e) x h)
listed_is p i vs es (get_and_post {d = d} f g more) (suc zero) x h = is_listed p i true d x g (same_Some (i, d) x h)
listed_is p i vs es (get_and_post f g more) (suc (suc m)) x h = from_next p i x (listed_is p (suc i) _ _ more m x h)

-- and those of one method stand in the order of the values
first_before : (p : Pg) (i : ℕ) (e : Ent) (x y : ℕ × Ent) → ◌≡◌ {A = ℕ × Ent} (i, e) x → IsListed p (suc i) y → x.0 < y.0
first_before p i e x y h (l, k) = let n : i ≡ x.0 = ap number h in omega (arith, n, l)

not_one_method : (p : Pg) (i : ℕ) (e d : Ent) (x y : ℕ × Ent) → IsEntry p i false e → IsEntry p i true d → ◌≡◌ {A = ℕ × Ent} (i, e) x → ◌≡◌ {A = ℕ × Ent} (i, d) y → is_post x.1.form ≡ is_post y.1.form → ⊥
not_one_method p i e d x y f g h k s =
    let a : is_post x.1.form ≡ false = ap (λ (z : ℕ × Ent). is_post z.1.form) (sym h) ∙ (entry_name p i false e f).3 in
    let b : is_post y.1.form ≡ true = ap (λ (z : ℕ × Ent). is_post z.1.form) (sym k) ∙ (entry_name p i true d g).3 in
    cc

in_order : (p : Pg) (i : ℕ) (vs : List Value) (es : List (ℕ × Ent)) → EntriesFrom p i vs es → (m n : ℕ) (x y : ℕ × Ent) → slice_get es m ≡ Some x → slice_get es n ≡ Some y → m < n → is_post x.1.form ≡ is_post y.1.form → x.0 < y.0
in_order p i vs es no_values m n x y h k l s = absurd (cc)
in_order p i vs es (neither f more) m n x y h k l s = in_order p (suc i) _ _ more m n x y h k l s
in_order p i vs es (get_alone {e = e} g o more) m zero x y h k l s = absurd (omega (arith, l))
in_order p i vs es (get_alone {e = e} g o more) zero (suc n) x y h k l s = first_before p i e x y (same_Some (i, e) x h) (listed_is p (suc i) _ _ more n y k)
in_order p i vs es (get_alone {e = e} g o more) (suc m) (suc n) x y h k l s = in_order p (suc i) _ _ more m n x y h k (omega (arith, l)) s
in_order p i vs es (post_alone {e = e} o g more) m zero x y h k l s = absurd (omega (arith, l))
in_order p i vs es (post_alone {e = e} o g more) zero (suc n) x y h k l s = first_before p i e x y (same_Some (i, e) x h) (listed_is p (suc i) _ _ more n y k)
in_order p i vs es (post_alone {e = e} o g more) (suc m) (suc n) x y h k l s = in_order p (suc i) _ _ more m n x y h k (omega (arith, l)) s
in_order p i vs es (get_and_post {e = e} {d = d} f g more) m zero x y h k l s = absurd (omega (arith, l))
in_order p i vs es (get_and_post {e = e} {d = d} f g more) zero (suc zero) x y h k l s = absurd (not_one_method p i e d x y f g (same_Some (i, e) x h) (same_Some (i, d) y k) s)
in_order p i vs es (get_and_post {e = e} {d = d} f g more) zero (suc (suc n)) x y h k l s = first_before p i e x y (same_Some (i, e) x h) (listed_is p (suc i) _ _ more n y k)
in_order p i vs es (get_and_post {e = e} {d = d} f g more) (suc m) (suc zero) x y h k l s = absurd (omega (arith, l))
in_order p i vs es (get_and_post {e = e} {d = d} f g more) (suc zero) (suc (suc n)) x y h k l s = first_before p i d x y (same_Some (i, d) x h) (listed_is p (suc i) _ _ more n y k)
in_order p i vs es (get_and_post {e = e} {d = d} f g more) (suc (suc m)) (suc (suc n)) x y h k l s = in_order p (suc i) _ _ more m n x y h k (omega (arith, l)) s

-- each second entry stands behind the first
stand_in_order : (p : Pg) (vs : List Value) (es : List (ℕ × Ent)) → EntriesFrom p 0 vs es → (post : Bool) (i j : ℕ) → i < j → (m n : ℕ) (x y : ℕ × Ent) → slice_get es m ≡ Some x → slice_get es n ≡ Some y → x.0 ≡ i → y.0 ≡ j → is_post x.1.form ≡ post → is_post y.1.form ≡ post → m < n
stand_in_order p vs es f post i j l m n x y a c u v w z = elim (apart m n (λ (k : m ≡ n). never k)) [
  | inl k ↦ k
  | inr k ↦ (let o = in_order p 0 vs es f n m y x c a k (z ∙ sym w) in absurd (omega (arith, o, u, v, l)))
]
  where
    never : m ≡ n → ⊥
    never k =
        let q : x ≡ y = same_Some x y (sym a ∙ ap (slice_get es) k ∙ c) in
        let r : i ≡ j = sym u ∙ ap number q ∙ v in
        omega (arith, r, l)

-- what is told of the entries of a program, as they are listed, is what is told of its entries
abbrev OfListed : Pg → List (ℕ × Ent) → Fault → Type 0
OfListed p es = ToldBefore (entries_of es) (places_of (values p.decls)) (map number es) (length (entries_of es))

is_second : (p : Pg) (es : List (ℕ × Ent)) → EntriesFrom p 0 (values p.decls) es → (n m : ℕ) (a b e : Ent) (i : ℕ) (q : Place) → m < n →
    slice_get (entries_of es) m ≡ Some a → slice_get (entries_of es) n ≡ Some b → is_post a.form ≡ is_post b.form → a.name ≡ b.name →
    slice_get (entries_of es) n ≡ Some e → slice_get (map number es) n ≡ Some i → slice_get (places_of (values p.decls)) i ≡ Some q →
    SecondEntry p (redeclared q (twice_entry e.name))
is_second p es f n m a b e i q l g h s k c o r =
    let x = made_at entry es m a g in
    let y = made_at entry es n b h in
    let z = made_at number es n i o in
    let v = made_at (λ (v : Value). v.place) (values p.decls) i q r in
    let same : y.from ≡ z.from = same_Some y.from z.from (sym y.there ∙ z.there) in
    let called : y.from.0 ≡ i = ap number same ∙ z.made in
    let one : y.from.1 ≡ e = y.made ∙ same_Some b e (sym h ∙ c) in
    let post : is_post x.from.1.form ≡ is_post y.from.1.form =
    ap (λ (d : Ent). is_post d.form) x.made ∙ s ∙ ap (λ (d : Ent). is_post d.form) (sym y.made) in
    let below = in_order p 0 (values p.decls) es f m n x.from y.from x.there y.there l post in
    told_so x.from y.from v.from called one post below (ap (λ (d : Ent). d.name) x.made ∙ k ∙ ap (λ (d : Ent). d.name) (sym y.made))
    (listed_is p 0 (values p.decls) es f m x.from x.there).1 (listed_is p 0 (values p.decls) es f n y.from y.there).1 v.there v.made
  where
    told_so : (x y : ℕ × Ent) (v : Value) → y.0 ≡ i → y.1 ≡ e → is_post x.1.form ≡ is_post y.1.form → x.0 < y.0 → x.1.name ≡ y.1.name →
        IsEntry p x.0 (is_post x.1.form) x.1 → IsEntry p y.0 (is_post y.1.form) y.1 → slice_get (values p.decls) i ≡ Some v → v.place ≡ q → SecondEntry p (redeclared q (twice_entry e.name))
    told_so x y v called one post below name h k at place =
        subst (λ (z : Place). SecondEntry p (redeclared z (twice_entry e.name))) place
        (subst (λ (d : Ent). SecondEntry p (redeclared v.place (twice_entry d.name))) one
        (second_entry (subst (λ (w : Bool). IsEntry p x.0 w x.1) post h) k below name (ap (slice_get (values p.decls)) called ∙ at)))

listed_second : (p : Pg) (es : List (ℕ × Ent)) → EntriesFrom p 0 (values p.decls) es → (f : Fault) → OfListed p es f → SecondEntry p f
listed_second p es h f (told_before {n = n} l (told_twice {e = e} {i = i} {q = q} (m, a, b, k, x, y, (s, t)) c o r)) = is_second p es h n m a b e i q k x y s t c o r

-- and each second entry is told
told_there : (p : Pg) (es : List (ℕ × Ent)) (post : Bool) (i j : ℕ) (b e : Ent) (v : Value) (m n : ℕ) (x y : ℕ × Ent) → m < n → slice_get es m ≡ Some x → slice_get es n ≡ Some y → y.0 ≡ j →
    x.1.name ≡ b.name → y.1.name ≡ e.name → is_post x.1.form ≡ post → is_post y.1.form ≡ post → b.name ≡ e.name → slice_get (values p.decls) j ≡ Some v → OfListed p es (redeclared v.place (twice_entry e.name))
told_there p es post i j b e v m n x y l a c called named as' w z same at =
    subst (λ (t : List (List ℕ)). OfListed p es (redeclared v.place (twice_entry t))) as'
    (told_before (slice_get_within (entries_of es) n y.1 (makes_at entry es n y c))
    (told_twice {e = y.1} {i = j} {q = v.place} (m, x.1, y.1, l, makes_at entry es m x a, makes_at entry es n y c, (w ∙ sym z, named ∙ same ∙ sym as'))
    (makes_at entry es n y c) (makes_at number es n y c ∙ ap (λ k. Some k) called) (makes_at (λ (u : Value). u.place) (values p.decls) j v at)))

second_listed : (p : Pg) (es : List (ℕ × Ent)) → EntriesFrom p 0 (values p.decls) es → (f : Fault) → SecondEntry p f → OfListed p es f
second_listed p es h f (second_entry {i = i} {j = j} {post = post} {b = b} {e = e} {v = v} c d l same at) =
    let s = stands p 0 (values p.decls) es h refl i post b (omega arith) c in
    let t = stands p 0 (values p.decls) es h refl j post e (omega arith) d in
    let k = stand_in_order p (values p.decls) es h post i j l s.0 t.0 s.1 t.1 s.2 t.2 s.3 t.3 s.5 t.5 in
    told_there p es post i j b e v s.0 t.0 s.1 t.1 k s.2 t.2 t.3 s.4 t.4 s.5 t.5 same at

pub entries_pick : (p : Pg) (r : Rts) (callees : List ℕ) (places : List Place) (o : Option Fault) → RoutesOf p r callees → places ≡ places_of (values p.decls) →
    Picks (ToldBefore r.entries places callees (length r.entries)) o → Picks (SecondEntry p) o
entries_pick p r callees places o routes e h =
    picks_as (OfListed p routes.listed) (SecondEntry p) o (listed_second p routes.listed routes.are_entries) (second_listed p routes.listed routes.are_entries)
    (subst (λ (es : List Ent). Picks (ToldBefore es (places_of (values p.decls)) (map number routes.listed) (length es)) o) routes.entries
    (subst (λ (cs : List ℕ). Picks (ToldBefore r.entries (places_of (values p.decls)) cs (length r.entries)) o) routes.called
    (subst (λ (qs : List Place). Picks (ToldBefore r.entries qs callees (length r.entries)) o) e h)))

-- where none is told, no two entries of a method have one name
pub entries_differ : (p : Pg) → Picks (SecondEntry p) None → EntriesDiffer p
entries_differ p none i j post e d f g ne same =
    let (v, at, n, m) = entry_name p i post e f in
    let (u, as', k, l) = entry_name p j post d g in
    elim (apart i j ne) [
      | inl b ↦ none (redeclared u.place (twice_entry d.name)) (second_entry f g b same as')
      | inr b ↦ none (redeclared v.place (twice_entry e.name)) (second_entry g f b (sym same) at)
    ]
