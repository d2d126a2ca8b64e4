-- The texts of a set of strings.
use Rattle.std.proofs.Common.{◌≡◌, ◌↔◌, ℕ, suc, ◌<◌, ◌+◌, Bool, true, false, not, cond, nat_lt, ◌||◌, if◌then◌else◌, List, [], ◌∷◌, ◌++◌, map, length, get_or, Option, Some, None, IsSome, is_some, position, slice_get, option_map, String, string_bytes, refl, ap, sym, ◌∙◌, arith}
use Rattle.std.specs.List.{list_any, Contains, IsDistinct, AllByRecursion, position_or_len}
use Rattle.std.specs.Str.{bytes_eq}
use Rattle.std.specs.String.{string_eq}
use Rattle.indexmap.specs.IndexSet.{insert_key}
use Rattle.con_terms.specs.Symbols.{Table, put_text, symbol_of}
use Rattle.std.proofs.lemmas.List.Quantifiers.{position-Some}
use Rattle.std.proofs.lemmas.List.Folds.{list_any_at}
use Rattle.std.proofs.lemmas.Option.{slice_get-map, slice_get-get_or, none-some}
use Rattle.std.proofs.lemmas.Option.{slice_get_read}
use Rattle.std.proofs.lemmas.List.{map-append, length-map, length-append}
use Rattle.std.proofs.Math.Seq.{get_or-append_seam}
use Rattle.std.proofs.lemmas.Slice.Eq.{bytes_eq-Decides}

pub list_any_map : {X Y : Type 0} (p : Y → Bool) (f : X → Y) (xs : List X) → list_any p (map f xs) ≡ list_any (λ x. p (f x)) xs
list_any_map p f [] = refl
list_any_map p f (x ∷ xs) = ap (λ b. p (f x) || b) (list_any_map p f xs)

first_map : {X Y : Type 0} (p : Y → Bool) (f : X → Y) (xs : List X) → position_or_len p (map f xs) ≡ position_or_len (λ x. p (f x)) xs
first_map p f [] = refl
first_map p f (x ∷ xs) = ap (λ n. cond (not (p (f x))) (1 + n) 0) (first_map p f xs)

-- the first place in a list of views
pub position_map : {X Y : Type 0} (p : Y → Bool) (f : X → Y) (xs : List X) → position p (map f xs) ≡ position (λ x. p (f x)) xs
position_map p f xs =
    ap (λ n. cond (nat_lt n (length (map f xs))) (Some n) None) (first_map p f xs)
    ∙ ap (λ m. cond (nat_lt (position_or_len (λ x. p (f x)) xs) m) (Some (position_or_len (λ x. p (f x)) xs)) None) (length-map xs f)

is_some_cond : {X : Type 0} (b : Bool) (x : X) → is_some (cond b (Some x) None) ≡ b
is_some_cond true x = refl
is_some_cond false x = refl

further : (b c : Bool) (n m : ℕ) → nat_lt n m ≡ c → nat_lt (cond (not b) (1 + n) 0) (suc m) ≡ (b || c)
further true c n m h = grind arith
further false c n m h = grind (arith, h)

within_any : {X : Type 0} (p : X → Bool) (xs : List X) → nat_lt (position_or_len p xs) (length xs) ≡ list_any p xs
within_any p [] = refl
within_any p (x ∷ xs) = further (p x) (list_any p xs) (position_or_len p xs) (length xs) (within_any p xs)

-- there is a place exactly where some element passes
pub any_place : {X : Type 0} (p : X → Bool) (xs : List X) → is_some (position p xs) ≡ list_any p xs
any_place p xs = is_some_cond (nat_lt (position_or_len p xs) (length xs)) (position_or_len p xs) ∙ within_any p xs

-- a symbol that is found names the text
pub symbol_named : (t : Table) (text : List ℕ) (s : ℕ) → symbol_of t text ≡ Some s → slice_get t s ≡ Some text
symbol_named t text s found =
    let p = position-Some (bytes_eq text) t s text found in
    slice_get-get_or t s text p.0 ∙ ap (λ x. Some x) (sym ((bytes_eq-Decides text (get_or t s text)).0 p.1))

there_from : (t : Table) (text : List ℕ) (o : Option ℕ) → symbol_of t text ≡ o → is_some o ≡ true → Contains t text
there_from t text (Some s) e h =
    let p = position-Some (bytes_eq text) t s text e in (s, p.0, sym ((bytes_eq-Decides text (get_or t s text)).0 p.1))
there_from t text None e h = cc

-- a symbol is found exactly where the text is there
pub symbol_there : (t : Table) (text : List ℕ) → IsSome (symbol_of t text) ↔ Contains t text
symbol_there t text = (
  there_from t text (symbol_of t text) refl,
  λ c. any_place (bytes_eq text) t ∙ list_any_at (bytes_eq text) t c.0 text c.1 ((bytes_eq-Decides text (get_or t c.0 text)).1 (sym c.2)),
)

-- the symbol of a text, by the strings of a set
pub found_at : {Z : Type 0} (ks : List (String Z)) (t : Table) (text : List ℕ) (o : Option ℕ) → map string_bytes ks ≡ t →
    o ≡ position (λ k. bytes_eq text (string_bytes k)) ks → o ≡ symbol_of t text
found_at ks t text o v h = h ∙ sym (position_map (bytes_eq text) string_bytes ks) ∙ ap (λ u. symbol_of u text) v

-- a table with the text stays
pub known_stays : (t : Table) (text : List ℕ) → IsSome (symbol_of t text) → t ≡ put_text t text
known_stays t text h = ap (λ b. if b then t else t ++ text ∷ []) (sym (sym (any_place (bytes_eq text) t) ∙ h))

-- no symbol, no text
pub none_any : (t : Table) (text : List ℕ) → symbol_of t text ≡ None → list_any (bytes_eq text) t ≡ false
none_any t text e = sym (any_place (bytes_eq text) t) ∙ ap is_some e

pub named : {Z : Type 0} (ks : List (String Z)) (text : List ℕ) (i : ℕ)
    → position (λ k. bytes_eq text (string_bytes k)) ks ≡ Some i
    → slice_get (map string_bytes ks) i ≡ Some text
named [] text i found = absurd (none-some i found)
named (k ∷ ks) text i found =
    let p = position-Some (λ x. bytes_eq text (string_bytes x)) (k ∷ ks) i k found in
    slice_get-map string_bytes (k ∷ ks) i ∙ ap (option_map string_bytes) (slice_get-get_or (k ∷ ks) i k p.0)
    ∙ ap (λ x. Some x) (sym ((bytes_eq-Decides text _).0 p.1))

pub put_new : {Z : Type 0} (ks new : List (String Z)) (owned : String Z) (text : List ℕ)
    → string_bytes owned ≡ text
    → new ≡ insert_key string_eq ks owned
    → list_any (λ k. bytes_eq text (string_bytes k)) ks ≡ false
    → (map string_bytes new ≡ put_text (map string_bytes ks) text)
    × (slice_get (map string_bytes new) (length ks) ≡ Some text)
put_new ks new owned text owns grown absent =
    let same : list_any (string_eq owned) ks ≡ false = ap (λ t. list_any (λ k. bytes_eq t (string_bytes k)) ks) owns ∙ absent in
    let none : list_any (bytes_eq text) (map string_bytes ks) ≡ false = list_any_map (bytes_eq text) string_bytes ks ∙ absent in
    let view : map string_bytes new ≡ map string_bytes ks ++ text ∷ [] =
    ap (map string_bytes) (grown ∙ rw same refl) ∙ map-append string_bytes ks (owned ∷ []) ∙ ap (λ t. map string_bytes ks ++ t ∷ []) owns in
    let long : length (map string_bytes ks ++ text ∷ []) ≡ length (map string_bytes ks) + 1 = length-append (map string_bytes ks) (text ∷ []) in
    let within : length (map string_bytes ks) < length (map string_bytes ks ++ text ∷ []) = omega (arith, long) in (
      rw none view,
      rw (view, ← length-map ks string_bytes) (slice_get_read (map string_bytes ks ++ text ∷ []) (length (map string_bytes ks ++ text ∷ [])) (length (map string_bytes ks)) text refl within (sym (get_or-append_seam (map string_bytes ks) text [] text))),
    )

all_other : {Z : Type 0} (k : String Z) (ks : List (String Z)) → AllByRecursion (λ y. string_eq k y ≡ false) ks
    → AllByRecursion (λ y. bytes_eq (string_bytes k) y ≡ false) (map string_bytes ks)
all_other k [] none = none
all_other k (x ∷ xs) none = (none.0, all_other k xs none.1)

pub distinct_texts : {Z : Type 0} (ks : List (String Z)) → IsDistinct string_eq ks → IsDistinct bytes_eq (map string_bytes ks)
unfolding IsDistinct
distinct_texts [] d = d
distinct_texts (k ∷ ks) d = (all_other k ks d.0, distinct_texts ks d.1)
