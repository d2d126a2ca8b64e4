-- Texts in a table, and the values that a module exports.
use Rattle.std.proofs.Common.{◌≡◌, ℕ, suc, ◌+◌, ◌-◌, ◌<◌, ◌≤◌, ◌==◌, nat_lt, if◌then◌else◌, append_assoc, Bool}
use Rattle.std.proofs.Common.{true, false, not, cond, ◌&&◌, ◌||◌, List, [], ◌∷◌, ◌++◌, length, map, reverse, get_or}
use Rattle.std.proofs.Common.{drop, Option, Some, None, is_some, refl, ap, sym, ◌∙◌, arith}
use Rattle.std.specs.List.{list_any, position_or_len}
use Rattle.std.specs.Str.{bytes_eq}
use Rattle.std.proofs.lemmas.List.{at_drop_more, reverse-append}
use Rattle.std.proofs.lemmas.List.Folds.{list_any-append}
use Rattle.std.proofs.lemmas.Slice.Eq.{bytes_eq-Decides}
use Rattle.con_terms.specs.Symbols.{Table, put_text, symbol_of}
use Rattle.source_names.specs.View.{value_view}
use Rattle.source_names.specs.declared.marked.KnownValue.{KnownValue}
use Rattle.source_terms.specs.Programs.{is_one_of, is_exported, is_export, declares, exports_from}
use Rattle.source_terms.specs.Selected.{stands, is_selected, is_chosen}

some_if : {X : Type 0} (b : Bool) (x : X) → is_some (cond b (Some x) None) ≡ b
some_if true x = refl
some_if false x = refl

first_less : (n : ℕ) → nat_lt 0 (suc n) ≡ true
first_less n = grind arith

next_less : (a n : ℕ) → nat_lt (1 + a) (suc n) ≡ nat_lt a n
next_less a n = grind arith

found_step : (b : Bool) (a n : ℕ) (rest : Bool) → nat_lt a n ≡ rest
    → nat_lt (cond (not b) (1 + a) 0) (suc n) ≡ (b || rest)
found_step true a n rest h = first_less n
found_step false a n rest h = next_less a n ∙ h

found_from : {X : Type 0} (p : X → Bool) (xs : List X) → nat_lt (position_or_len p xs) (length xs) ≡ list_any p xs
found_from p [] = refl
found_from p (x ∷ xs) = found_step (p x) (position_or_len p xs) (length xs) (list_any p xs) (found_from p xs)

found : (t : Table) (x : List ℕ) → stands t x ≡ list_any (bytes_eq x) t
found t x =
    some_if (nat_lt (position_or_len (bytes_eq x) t) (length t)) (position_or_len (bytes_eq x) t)
    ∙ found_from (bytes_eq x) t

alike : (x y : List ℕ) → bytes_eq x y ≡ bytes_eq y x
alike x y = both (bytes_eq x y) (bytes_eq y x) refl refl
  where
    both : (b c : Bool) → bytes_eq x y ≡ b → bytes_eq y x ≡ c → bytes_eq x y ≡ bytes_eq y x
    both true c h k = h ∙ sym ((bytes_eq-Decides y x).1 (sym ((bytes_eq-Decides x y).0 h)))
    both false true h k = absurd (differ (sym h ∙ (bytes_eq-Decides x y).1 (sym ((bytes_eq-Decides y x).0 k))))
      where
        differ : false ≡ true → ⊥
        differ e = cc
    both false false h k = h ∙ sym k

or_nothing : (a b : Bool) → (a || (b || false)) ≡ (b || a)
or_nothing true true = refl
or_nothing true false = refl
or_nothing false true = refl
or_nothing false false = refl

or_same : (a b c : Bool) → c ≡ true → (b ≡ true → a ≡ c) → a ≡ (b || a)
or_same a true c h k = k refl ∙ h
or_same a false c h k = refl

pub stands_put : (t : Table) (y x : List ℕ) → stands (put_text t y) x ≡ (bytes_eq y x || stands t x)
stands_put t y x = by (list_any (bytes_eq y) t) refl
  where
    by : (b : Bool) → list_any (bytes_eq y) t ≡ b → stands (cond b t (t ++ y ∷ [])) x ≡ (bytes_eq y x || stands t x)
    by true h = or_same (stands t x) (bytes_eq y x) (stands t y) (found t y ∙ h)
        (λ e. sym (ap (stands t) ((bytes_eq-Decides y x).0 e)))
    by false h =
        found (t ++ y ∷ []) x ∙ list_any-append (bytes_eq x) t (y ∷ [])
        ∙ or_nothing (list_any (bytes_eq x) t) (bytes_eq x y)
        ∙ ap (λ b. b || list_any (bytes_eq x) t) (alike x y)
        ∙ ap (λ b. bytes_eq y x || b) (sym (found t x))

turn_or : (a b c : Bool) → (a || (b || c)) ≡ ((b || a) || c)
turn_or true true c = refl
turn_or true false c = refl
turn_or false true c = refl
turn_or false false c = refl

-- one text more of a list is put into a table
pub table_more : (t u : Table) (texts : List (List ℕ)) (i : ℕ) (y x : List ℕ) → i < length texts
    → y ≡ get_or texts i y
    → (stands t x || is_one_of x (drop i texts)) ≡ is_one_of x texts
    → stands u x ≡ (bytes_eq y x || stands t x)
    → (stands u x || is_one_of x (drop (i + 1) texts)) ≡ is_one_of x texts
table_more t u texts i y x h e so new =
    ap (λ b. b || is_one_of x (drop (i + 1) texts)) new
    ∙ sym (turn_or (stands t x) (bytes_eq y x) (is_one_of x (drop (i + 1) texts)))
    ∙ ap (λ z. stands t x || (bytes_eq z x || is_one_of x (drop (i + 1) texts))) e
    ∙ ap (λ b. stands t x || b) (sym (at_drop_more (is_one_of x) texts i y h))
    ∙ so

-- From the last value to the first: what is behind a place is known, and its own value comes next.
back_at : {A : Type 0} (f : ℕ → List KnownValue → A) (vs : List KnownValue) (back i : ℕ) (v : KnownValue)
    → back < length vs → i ≡ length vs - 1 - back → v ≡ get_or vs i v
    → f (length vs - (back + 1)) (drop (length vs - (back + 1)) vs) ≡ f i (v ∷ drop (length vs - back) vs)
back_at f vs back i v h k e =
    let a : length vs - (back + 1) ≡ i = omega arith in
    let b : i + 1 ≡ length vs - back = omega arith in
    let c : i < length vs = omega arith in
    ap (λ n. f n (drop n vs)) a
    ∙ at_drop_more (λ ws. f i ws) vs i v c
    ∙ ap (λ w. f i (w ∷ drop (i + 1) vs)) (sym e)
    ∙ ap (λ n. f i (v ∷ drop n vs)) b

pub behind_more : (home : ℕ) (x : List ℕ) (vs : List KnownValue) (back i : ℕ) (v : KnownValue) (a b : Bool)
    → back < length vs → i ≡ length vs - 1 - back → v ≡ get_or vs i v
    → b ≡ declares home x (map value_view (drop (length vs - back) vs))
    → a ≡ ((v.home == home) && bytes_eq v.name x || b)
    → a ≡ declares home x (map value_view (drop (length vs - (back + 1)) vs))
behind_more home x vs back i v a b h k e so new =
    new
    ∙ ap (λ c. (v.home == home) && bytes_eq v.name x || c) so
    ∙ sym (back_at (λ n ws. declares home x (map value_view ws)) vs back i v h k e)

one_if : (t : Bool) (ns ms : List ℕ) (i : ℕ) (rest : List ℕ) → ms ≡ (if t then ns ++ i ∷ [] else ns)
    → reverse ns ≡ rest → reverse ms ≡ (if t then i ∷ rest else rest)
one_if true ns ms i rest e so = ap reverse e ∙ reverse-append ns (i ∷ []) ∙ ap (λ r. i ∷ r) so
one_if false ns ms i rest e so = ap reverse e ∙ so

pub numbers_more : (home : ℕ) (o : Option (List (List ℕ))) (sel : Option Table) (later : Table)
    (vs : List KnownValue)
    (back i : ℕ) (v : KnownValue) (ns ms : List ℕ)
    → back < length vs → i ≡ length vs - 1 - back → v ≡ get_or vs i v
    → ((x : List ℕ) → is_selected sel x ≡ is_exported o x)
    → ((x : List ℕ) → stands later x ≡ declares home x (map value_view (drop (length vs - back) vs)))
    → reverse ns ≡ exports_from home o (length vs - back) (map value_view (drop (length vs - back) vs))
    → ms ≡ (if is_chosen home sel (value_view v) later then ns ++ i ∷ [] else ns)
    → reverse ms ≡ exports_from home o (length vs - (back + 1)) (map value_view (drop (length vs - (back + 1)) vs))
numbers_more home o sel later vs back i v ns ms h k e pick known so new =
    let n : i + 1 ≡ length vs - back = omega arith in
    let rest = drop (length vs - back) vs in
    let t : is_chosen home sel (value_view v) later ≡ is_export home o (value_view v) (map value_view rest) =
    ap (λ b. (v.home == home) && b && not (stands later v.name)) (pick v.name)
    ∙ ap (λ b. (v.home == home) && is_exported o v.name && not b) (known v.name) in
    one_if (is_chosen home sel (value_view v) later) ns ms i (exports_from home o (i + 1) (map value_view rest)) new
    (so ∙ ap (λ m. exports_from home o m (map value_view rest)) (sym n))
    ∙ ap (λ b. if b then i ∷ exports_from home o (i + 1) (map value_view rest)
    else exports_from home o (i + 1) (map value_view rest)) t
    ∙ sym (back_at (λ m ws. exports_from home o m (map value_view ws)) vs back i v h k e)
