-- Keys of entries, and tables of them.
use Rattle.std.proofs.Common.{◌≡◌, ℕ, suc, ◌+◌, ◌<◌, ◌≤◌, inl, inr, Bool, true, false, cond, List, [], ◌∷◌, ◌++◌, length, get_or, map, drop, Some, slice_get, ap, sym, ◌∙◌, subst, arith, append_assoc, drop-cons, drop_of_length-le, if◌then◌else◌}
use Rattle.std.specs.Bool.{Decides}
use Rattle.std.specs.List.{Contains, list_any}
use Rattle.std.specs.Str.{bytes_eq}
use Rattle.std.proofs.lemmas.List.{append-nil}
use Rattle.std.proofs.lemmas.List.Elements.{Contains-append_left}
use Rattle.std.proofs.lemmas.Option.{same_Some}
use Rattle.con_terms.specs.Symbols.{put_text}
use Rattle.link_router.specs.Calls.{Ent, is_post}
use Rattle.link_router.specs.View.{entry_view}
use Rattle.link_router.specs.declared.routes.Entry.{Entry}
use Rattle.core_checker.specs.Keys.{dotted, key_of, HasKeys}
use Rattle.core_checker.specs.Twice.{SameCall, Twice}
use Rattle.core_checker.proofs.EntryNames.{entry_at}
use Rattle.core_checker.proofs.EntryFaults.{below as next_or}

-- the pieces of a name, one after another
pub pieces_on : (xs : List (List ℕ)) (i : ℕ) (x old new all : List ℕ) → x ≡ get_or xs i [] → i < length xs →
    new ≡ old ++ x ++ 46 ∷ [] → old ++ dotted (drop i xs) ≡ all → new ++ dotted (drop (i + 1) xs) ≡ all
pieces_on xs i x old new all e h n k =
    let rest = dotted (drop (i + 1) xs) in
    ap (λ ys. ys ++ rest) n ∙ append_assoc (old ++ x) (46 ∷ []) rest ∙ append_assoc old x (46 ∷ rest)
    ∙ ap (λ y. old ++ (y ++ 46 ∷ rest)) e
    ∙ ap (λ m. old ++ (get_or xs i [] ++ 46 ∷ dotted (drop m xs))) (let p : i + 1 ≡ suc i = omega arith in p)
    ∙ ap (λ ys. old ++ dotted ys) (sym (drop-cons xs i [] h)) ∙ k

pub pieces_end : (xs : List (List ℕ)) (i : ℕ) (old all : List ℕ) → length xs ≤ i → old ++ dotted (drop i xs) ≡ all → old ≡ all
pieces_end xs i old all h k = sym (append-nil old) ∙ ap (λ ys. old ++ dotted ys) (sym (drop_of_length-le xs h)) ∙ k

-- a key, by whether the entry is read by POST
pub key_is : (e : Ent) (b : Bool) (start key : List ℕ) → b ≡ is_post e.form → start ≡ (if b then 80 else 71) ∷ [] →
    key ≡ start ++ dotted e.name → key ≡ key_of e
key_is e b start key p s k =
    k ∙ ap (λ z. z ++ dotted e.name) (s ∙ ap (λ z. (if z then 80 else 71) ∷ []) p)

same_key : (a b : Ent) → SameCall a b → key_of a ≡ key_of b
same_key a b (m, n) = ap (λ z. (if z then 80 else 71) ∷ dotted a.name) m ∙ ap (λ z. (if is_post b.form then 80 else 71) ∷ dotted z) n

-- an entry whose key isn't there isn't one call with an earlier one
pub not_twice : (es : List Ent) (j : ℕ) (e : Ent) (table : List (List ℕ)) → slice_get es j ≡ Some e → HasKeys es j table →
    (Contains table (key_of e) → ⊥) → Twice es j → ⊥
not_twice es j e table at has absent (i, a, b, l, g, h, s) =
    absent (subst (Contains table) (same_key a b s ∙ ap key_of (same_Some b e (sym h ∙ at))) (has i a l g))

-- a table keeps its texts
pub kept_by : (table : List (List ℕ)) (key x : List ℕ) → Contains table x → Contains (put_text table key) x
kept_by table key x c = by (list_any (bytes_eq key) table)
  where
    by : (b : Bool) → Contains (cond b table (table ++ key ∷ [])) x
    by true = c
    by false = Contains-append_left table (key ∷ []) x c

-- the keys before the next place
pub keys_on : (es : List Ent) (j : ℕ) (e : Ent) (old new : List (List ℕ)) → slice_get es j ≡ Some e → HasKeys es j old →
    ((x : List ℕ) → Contains old x → Contains new x) → Contains new (key_of e) → HasKeys es (j + 1) new
keys_on es j e old new at has more there i a l g = elim (next_or i j l) [
  | inl h ↦ more (key_of a) (has i a h g)
  | inr p ↦ subst (λ z. Contains new (key_of z)) (sym (same_Some a e (sym g ∙ ap (slice_get es) p ∙ at))) there
]

pub keys_none : (es : List Ent) (table : List (List ℕ)) → HasKeys es 0 table
keys_none es table i e l g = absurd (omega (arith, l))

-- what a table tells of the entry at a place, whose key it is asked for, and what it has behind it
pub second_not : (xs : List Entry) (j : ℕ) (x : Entry) (key : List ℕ) (old : List (List ℕ)) (b : Bool) → j < length xs → x ≡ get_or xs j x →
    key ≡ key_of (entry_view x) → HasKeys (map entry_view xs) j old → Decides b (Contains old key) → b ≡ false → Decides false (Twice (map entry_view xs) j)
second_not xs j x key old b h e k has d f = (
  λ z. absurd (cc),
  λ w. absurd (not_twice (map entry_view xs) j (entry_view x) old (entry_at xs j x e h) has
      (λ c. let t = d.1 (subst (Contains old) (sym k) c) in cc) w),
)

pub second_noted : (xs : List Entry) (j : ℕ) (x : Entry) (key : List ℕ) (old new : List (List ℕ)) → j < length xs → x ≡ get_or xs j x →
    key ≡ key_of (entry_view x) → HasKeys (map entry_view xs) j old → ((y : List ℕ) → Contains old y → Contains new y) → Contains new key →
    HasKeys (map entry_view xs) (j + 1) new
second_noted xs j x key old new h e k has more there =
    keys_on (map entry_view xs) j (entry_view x) old new (entry_at xs j x e h) has more (subst (Contains new) k there)
