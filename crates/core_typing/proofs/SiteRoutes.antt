-- The routes of an accepted program have names by which calls are told apart.
use Rattle.std.proofs.Common.{◌≡◌, ℕ, zero, suc, ◌<◌, ◌≤◌, Bool, true, false, ◌==◌, List, [], ◌∷◌, map, length, get_or, Option, Some, None, option_map, slice_get, ◌⊎◌, inl, inr, refl, ap, sym, subst, ◌∙◌, arith, ◌++◌}
use Rattle.std.specs.List.{AllByRecursion, Contains}
use Rattle.std.proofs.lemmas.Bool.Decides.{Decides-eqb}
use Rattle.std.proofs.lemmas.Option.{slice_get-map, slice_get-get_or, get_or_from_slice_get, slice_get_within}
use Rattle.con_terms.specs.Trees.{Cn}
use Rattle.table_rows.specs.Shapes.{Sh, Cases}
use Rattle.row_normal.proofs.Options.{option_map_from}
use Rattle.core_terms.specs.Names.{false_name, true_name, none_name, some_name, nil_name, cons_name}
use Rattle.link_router.specs.Calls.{Ent, Rts, Cl, is_post}
use Rattle.link_router.specs.Links.{Route}
use Rattle.link_router.specs.RouteLaws.{IsPlain, AreNamed}
use Rattle.link_router.proofs.Sent.{listed_in}
use Rattle.link_router.proofs.OneCall.{one_call}
use Rattle.core_terms.specs.Trees.{Cd, Dt, De, Pg, arity}
use Rattle.core_typing.specs.Asks.{Asks}
use Rattle.core_typing.specs.Declarations.{Value, values, datatypes, Distinct, DeclsTyped, no_decls, a_val, some_vals, a_con, a_datatype}
use Rattle.core_typing.specs.Entries.{IsEntry, by_export, by_link, by_action, EntriesFrom, no_values, neither, get_alone, post_alone, get_and_post, RoutesOf, DatatypesShaped, no_datatype, carried, not_carried, CasesShaped, no_case, a_case, all_datatypes, value_name}
use Rattle.core_typing.specs.Accepts.{Accepts, EntriesDiffer}
use Rattle.core_typing.proofs.Differing.{distinct_by_test}
use Rattle.core_typing.specs.SiteLaws.{NoEntryBeginsAnother}

some_is : {X : Type 0} {x y : X} → Some x ≡ Some y → x ≡ y
some_is h = cc

pub no_place : {X P : Type 0} {x : X} → None ≡ Some x → P
no_place h = cc

pub place_of : {X : Type 0} (xs : List X) (x : X) → Contains xs x → (k : ℕ) × (slice_get xs k ≡ Some x)
place_of xs x c = (c.0, slice_get-get_or xs c.0 x c.1 ∙ ap (λ y. Some y) c.2)

plain_at : (ts : List (List ℕ)) → AllByRecursion IsPlain ts → (i : ℕ) (t : List ℕ) → slice_get ts i ≡ Some t → IsPlain t
plain_at [] h i t e = no_place e
plain_at (u ∷ us) h zero t e = subst IsPlain (some_is e) h.0
plain_at (u ∷ us) h (suc i) t e = plain_at us h.1 i t e

plain_or : (ts : List (List ℕ)) → AllByRecursion IsPlain ts → (i : ℕ) → IsPlain (get_or ts i [])
plain_or [] h i = tt
plain_or (u ∷ us) h zero = h.0
plain_or (u ∷ us) h (suc i) = plain_or us h.1 i

all_plain : (ts : List (List ℕ)) → AllByRecursion IsPlain ts → (xs : List ℕ) → AllByRecursion IsPlain (map (λ x. get_or ts x []) xs)
all_plain ts h [] = tt
all_plain ts h (x ∷ xs) = (plain_or ts h x, all_plain ts h xs)

-- names of values
record NamedWell (name : List (List ℕ)) : Type 0 where
  some : 0 < length name
  plain : AllByRecursion IsPlain name

named_value : {p : Pg} (a : Accepts p) (v : Value) → NamedWell (value_name p v)
named_value {p} a v = record { some = omega arith; plain = (plain_or p.modules a.formed.plain_modules v.place.file, all_plain p.names a.formed.plain (v.path ++ v.name ∷ [])) }

-- the value of an entry
record OfValue (p : Pg) (e : Ent) : Type 0 where
  value : Value
  there : Contains (values p.decls) value
  called : e.name ≡ value_name p value

of_value : {p : Pg} {i : ℕ} {post : Bool} {e : Ent} → IsEntry p i post e → OfValue p e
of_value {p} (by_export {i = i} {v = v} h c q) = record { value = v; there = listed_in (values p.decls) i v h; called = refl }
of_value {p} (by_link {i = i} {v = v} h c q) = record { value = v; there = listed_in (values p.decls) i v h; called = refl }
of_value {p} (by_action {i = i} {v = v} h c q) = record { value = v; there = listed_in (values p.decls) i v h; called = refl }

pub none_begins : NoEntryBeginsAnother
none_begins p i j post posts e d more a h g s =
    let x = of_value h in
    let y = of_value g in
    a.formed.names_begin_none x.value y.value more x.there y.there (ap (λ n. n ++ more) (sym x.called) ∙ s ∙ y.called)

named_entry : {p : Pg} {i : ℕ} {post : Bool} {e : Ent} → Accepts p → IsEntry p i post e → NamedWell e.name
named_entry a (by_export {i = i} {v = v} h c q) = named_value a v
named_entry a (by_link {i = i} {v = v} h c q) = named_value a v
named_entry a (by_action {i = i} {v = v} h c q) = named_value a v

-- entries in their list
entry_post : {p : Pg} {i : ℕ} {post : Bool} {e : Ent} → IsEntry p i post e → is_post e.form ≡ post
entry_post (by_export h c q) = refl
entry_post (by_link h c q) = refl
entry_post (by_action h c q) = refl

record Listed (p : Pg) (from : ℕ) (x : ℕ × Ent) : Type 0 where
  is_entry : IsEntry p x.0 (is_post x.1.form) x.1
  later : from ≤ x.0

by_form : {p : Pg} {i : ℕ} {post : Bool} {e : Ent} → IsEntry p i post e → IsEntry p i (is_post e.form) e
by_form {p} {i} {post} {e} h = subst (λ b. IsEntry p i b e) (sym (entry_post h)) h

listed_head : {p : Pg} {i : ℕ} {post : Bool} {e : Ent} {x : ℕ × Ent} → IsEntry p i post e → Some (i, e) ≡ Some x → Listed p i x
listed_head {p} {i} {post} {e} {x} h q = subst (Listed p i) (some_is q) (record { is_entry = by_form h; later = omega arith })

listed_more : {p : Pg} {i : ℕ} {x : ℕ × Ent} → Listed p (suc i) x → Listed p i x
listed_more l = record { is_entry = l.is_entry; later = omega (arith, l.later) }

listed_at : {p : Pg} {i : ℕ} {vs : List Value} {xs : List (ℕ × Ent)} → EntriesFrom p i vs xs → (k : ℕ) (x : ℕ × Ent) → slice_get xs k ≡ Some x → Listed p i x
listed_at no_values k x e = no_place e
listed_at (neither n r) k x e = listed_more (listed_at r k x e)
listed_at (get_alone h n r) zero x e = listed_head h e
listed_at (get_alone h n r) (suc k) x e = listed_more (listed_at r k x e)
listed_at (post_alone n h r) zero x e = listed_head h e
listed_at (post_alone n h r) (suc k) x e = listed_more (listed_at r k x e)
listed_at (get_and_post h g r) zero x e = listed_head h e
listed_at (get_and_post h g r) (suc zero) x e = listed_head g e
listed_at (get_and_post h g r) (suc (suc k)) x e = listed_more (listed_at r k x e)

-- what is told of two of them: one value, and one method
abbrev Alike : ℕ × Ent → ℕ × Ent → Type 0
Alike x y = (x.0 ≡ y.0) × (is_post x.1.form ≡ is_post y.1.form)

not_behind : {P : Type 0} {p : Pg} {i : ℕ} {e : Ent} {x y : ℕ × Ent} → Some (i, e) ≡ Some x → Listed p (suc i) y → x.0 ≡ y.0 → P
not_behind {i = i} {x = x} q l s = let at : i ≡ x.0 = ap (λ (z : ℕ × Ent). z.0) (some_is q) in absurd (omega (arith, at, l.later, s))

get_not_post : {P : Type 0} {p : Pg} {i : ℕ} {e d : Ent} {x y : ℕ × Ent} → IsEntry p i false e → IsEntry p i true d → Some (i, e) ≡ Some x → Some (i, d) ≡ Some y → is_post x.1.form ≡ is_post y.1.form → P
get_not_post {e = e} {d = d} {x = x} {y = y} h g q r s =
    let one : is_post x.1.form ≡ false = ap (λ (z : ℕ × Ent). is_post z.1.form) (sym (some_is q)) ∙ entry_post h in
    let other : is_post y.1.form ≡ true = ap (λ (z : ℕ × Ent). is_post z.1.form) (sym (some_is r)) ∙ entry_post g in
    let bad : false ≡ true = sym one ∙ s ∙ other in cc

one_place : {p : Pg} {i : ℕ} {vs : List Value} {xs : List (ℕ × Ent)} → EntriesFrom p i vs xs → (m n : ℕ) (x y : ℕ × Ent) → slice_get xs m ≡ Some x → slice_get xs n ≡ Some y → Alike x y → m ≡ n
one_place no_values m n x y e d s = no_place e
one_place (neither o r) m n x y e d s = one_place r m n x y e d s
one_place (get_alone h o r) zero zero x y e d s = refl
one_place (get_alone h o r) zero (suc n) x y e d s = not_behind e (listed_at r n y d) s.0
one_place (get_alone h o r) (suc m) zero x y e d s = not_behind d (listed_at r m x e) (sym s.0)
one_place (get_alone h o r) (suc m) (suc n) x y e d s = ap suc (one_place r m n x y e d s)
one_place (post_alone o h r) zero zero x y e d s = refl
one_place (post_alone o h r) zero (suc n) x y e d s = not_behind e (listed_at r n y d) s.0
one_place (post_alone o h r) (suc m) zero x y e d s = not_behind d (listed_at r m x e) (sym s.0)
one_place (post_alone o h r) (suc m) (suc n) x y e d s = ap suc (one_place r m n x y e d s)
one_place (get_and_post h g r) zero zero x y e d s = refl
one_place (get_and_post h g r) zero (suc zero) x y e d s = get_not_post h g e d s.1
one_place (get_and_post h g r) zero (suc (suc n)) x y e d s = not_behind e (listed_at r n y d) s.0
one_place (get_and_post h g r) (suc zero) zero x y e d s = get_not_post h g d e (sym s.1)
one_place (get_and_post h g r) (suc zero) (suc zero) x y e d s = refl
one_place (get_and_post h g r) (suc zero) (suc (suc n)) x y e d s = not_behind e (listed_at r n y d) s.0
one_place (get_and_post h g r) (suc (suc m)) zero x y e d s = not_behind d (listed_at r m x e) (sym s.0)
one_place (get_and_post h g r) (suc (suc m)) (suc zero) x y e d s = not_behind d (listed_at r m x e) (sym s.0)
one_place (get_and_post h g r) (suc (suc m)) (suc (suc n)) x y e d s = ap suc (ap suc (one_place r m n x y e d s))

-- an entry of the routes is one of the program's
found_entry : {p : Pg} {routes : Rts} {callees : List ℕ} (r : RoutesOf p routes callees) (i : ℕ) (e : Ent) → slice_get routes.entries i ≡ Some e → (x : ℕ × Ent) × (slice_get r.listed i ≡ Some x) × (x.1 ≡ e)
found_entry r i e h = option_map_from (λ (x : ℕ × Ent). x.1) (slice_get r.listed i) e (sym (slice_get-map (λ (x : ℕ × Ent). x.1) r.listed i) ∙ ap (λ es. slice_get es i) (sym r.entries) ∙ h)

entry_named : {p : Pg} {routes : Rts} {callees : List ℕ} → Accepts p → RoutesOf p routes callees → (e : Ent) → Contains routes.entries e → NamedWell e.name
entry_named {p} {routes} a r e c =
    let (k, at) = place_of routes.entries e c in
    let (x, here, is) = found_entry r k e at in
    subst (λ (d : Ent). NamedWell d.name) is (named_entry a (listed_at r.are_entries k x here).is_entry)

by_number : {p : Pg} {x y : ℕ × Ent} (b : Bool) → (x.0 == y.0) ≡ b → EntriesDiffer p → IsEntry p x.0 (is_post x.1.form) x.1 → IsEntry p y.0 (is_post x.1.form) y.1 → x.1.name ≡ y.1.name → x.0 ≡ y.0
by_number {x = x} {y = y} true q a h g s = (Decides-eqb x.0 y.0).0 q
by_number {x = x} {y = y} false q a h g s = absurd (a x.0 y.0 (is_post x.1.form) x.1 y.1 h g (λ e. let yes : (x.0 == y.0) ≡ true = (Decides-eqb x.0 y.0).1 e in cc) s)

entries_apart : {p : Pg} {routes : Rts} {callees : List ℕ} → Accepts p → RoutesOf p routes callees → (i j : ℕ) (e d : Ent) → slice_get routes.entries i ≡ Some e → slice_get routes.entries j ≡ Some d → is_post e.form ≡ is_post d.form → e.name ≡ d.name → i ≡ j
entries_apart {p} a r i j e d h g s n =
    let (x, at, is) = found_entry r i e h in
    let (y, at2, is2) = found_entry r j d g in
    let method : is_post x.1.form ≡ is_post y.1.form = ap (λ (z : Ent). is_post z.form) is ∙ s ∙ ap (λ (z : Ent). is_post z.form) (sym is2) in
    let name : x.1.name ≡ y.1.name = ap (λ (z : Ent). z.name) is ∙ n ∙ ap (λ (z : Ent). z.name) (sym is2) in
    let other : IsEntry p y.0 (is_post x.1.form) y.1 = subst (λ b. IsEntry p y.0 b y.1) (sym method) (listed_at r.are_entries j y at2).is_entry in
    one_place r.are_entries i j x y at at2 (by_number (x.0 == y.0) refl a.entries (listed_at r.are_entries i x at).is_entry other name, method)

-- constructors in their lists
record CaseOf (names : List (List ℕ)) (cs : List Cd) (m : ℕ) (n : List ℕ) : Type 0 where
  constructor' : Cd
  at : slice_get cs m ≡ Some constructor'
  text : slice_get names constructor'.name ≡ Some n

case_at : {names : List (List ℕ)} {ds : List Dt} {k : ℕ} {cs : List Cd} {cases : Cases} → CasesShaped names ds k cs cases → (m : ℕ) (n : List ℕ) (h : Option Sh) → slice_get cases m ≡ Some (n, h) → CaseOf names cs m n
case_at no_case m n h e = no_place e
case_at {names = names} (a_case {c = c} t s r) zero n h e =
    record { constructor' = c; at = refl; text = t ∙ ap (λ (x : List ℕ × Option Sh). Some x.0) (some_is e) }
case_at (a_case t s r) (suc m) n h e = let w = case_at r m n h e in record { constructor' = w.constructor'; at = w.at; text = w.text }

pub distinct_places : (xs : List ℕ) → Distinct xs → (m n x : ℕ) → slice_get xs m ≡ Some x → slice_get xs n ≡ Some x → m ≡ n
distinct_places [] d m n x e g = no_place e
distinct_places (y ∷ ys) d zero zero x e g = refl
distinct_places (y ∷ ys) d zero (suc n) x e g = absurd (d.0 n x (slice_get_within ys n x g) (some_is e ∙ sym (get_or_from_slice_get ys n x x g)))
distinct_places (y ∷ ys) d (suc m) zero x e g = absurd (d.0 m x (slice_get_within ys m x e) (some_is g ∙ sym (get_or_from_slice_get ys m x x e)))
distinct_places (y ∷ ys) d (suc m) (suc n) x e g = ap suc (distinct_places ys d.1 m n x e g)

abbrev names_in : Dt → List ℕ
names_in d = map (λ (c : Cd). c.name) d.constructors

decl_distinct : {A : Asks} {p : Pg} {tops : List Cn} {ds : List Dt} {decls : List De} → DeclsTyped A p tops ds decls → (k : ℕ) (d : Dt) → slice_get (datatypes decls) k ≡ Some d → Distinct (names_in d)
decl_distinct no_decls k d e = no_place e
decl_distinct (a_val h t r) k d e = decl_distinct r k d e
decl_distinct (some_vals h r) k d e = decl_distinct r k d e
decl_distinct (a_con h r) k d e = decl_distinct r k d e
decl_distinct (a_datatype h s r) zero d e = subst (λ (x : Dt). Distinct (names_in x)) (some_is e) s
decl_distinct (a_datatype h s r) (suc k) d e = decl_distinct r k d e

all_distinct : (p : Pg) → Accepts p → (k : ℕ) (d : Dt) → slice_get (all_datatypes p) k ≡ Some d → Distinct (names_in d)
all_distinct p a zero d e = subst (λ (x : Dt). Distinct (names_in x)) (some_is e) (distinct_by_test (false_name ∷ true_name ∷ []) refl)
all_distinct p a (suc zero) d e = subst (λ (x : Dt). Distinct (names_in x)) (some_is e) (distinct_by_test (none_name ∷ some_name ∷ []) refl)
all_distinct p a (suc (suc zero)) d e = subst (λ (x : Dt). Distinct (names_in x)) (some_is e) (distinct_by_test (nil_name ∷ cons_name ∷ []) refl)
all_distinct p a (suc (suc (suc k))) d e = decl_distinct a.typed k d e

record ShapeOfOne (names : List (List ℕ)) (all ds : List Dt) (cs : Cases) : Type 0 where
  place : ℕ
  datatype : Dt
  at : slice_get ds place ≡ Some datatype
  shaped : CasesShaped names all (arity datatype) datatype.constructors cs

datatype_at : {names : List (List ℕ)} {all ds : List Dt} {css : List Cases} → DatatypesShaped names all ds css → (k : ℕ) (cs : Cases) → slice_get css k ≡ Some cs → ([] ≡ cs) ⊎ ShapeOfOne names all ds cs
datatype_at no_datatype k cs e = no_place e
datatype_at {names} {all} (carried {d = d} s r) zero cs e = inr (record { place = 0; datatype = d; at = refl; shaped = subst (λ (x : Cases). CasesShaped names all (arity d) d.constructors x) (some_is e) s })
datatype_at (not_carried s r) zero cs e = inl (some_is e)
datatype_at (carried s r) (suc k) cs e = elim (datatype_at r k cs e) [ inl q ↦ inl q | inr w ↦ inr (record { place = suc w.place; datatype = w.datatype; at = w.at; shaped = w.shaped }) ]
datatype_at (not_carried s r) (suc k) cs e = elim (datatype_at r k cs e) [ inl q ↦ inl q | inr w ↦ inr (record { place = suc w.place; datatype = w.datatype; at = w.at; shaped = w.shaped }) ]

none_in : {X P : Type 0} {x : X} (xs : List X) → [] ≡ xs → Contains xs x → P
none_in [] e c = absurd (omega (arith, c.1))
none_in (y ∷ ys) e c = cc

constructor_plain : {p : Pg} {routes : Rts} {callees : List ℕ} → Accepts p → RoutesOf p routes callees → (cs : Cases) (n : List ℕ) (h : Option Sh) → Contains routes.datatypes cs → Contains cs (n, h) → IsPlain n
constructor_plain {p} {routes} a r cs n h c i =
    let (k, at) = place_of routes.datatypes cs c in
    let (m, here) = place_of cs (n, h) i in
    elim (datatype_at r.datatypes k cs at) [
      | inl q ↦ none_in cs q i
      | inr w ↦ (let v = case_at w.shaped m n h here in plain_at p.names a.formed.plain v.constructor'.name n v.text)
    ]

-- a name stands at one place among the cases of a datatype
pub case_place : {p : Pg} {routes : Rts} {callees : List ℕ} → Accepts p → RoutesOf p routes callees → (cs : Cases) (n : List ℕ) (h k : Option Sh) → Contains routes.datatypes cs → (m o : ℕ) → slice_get cs m ≡ Some (n, h) → slice_get cs o ≡ Some (n, k) → m ≡ o
case_place {p} {routes} a r cs n h k c m o here there =
    let (l, at) = place_of routes.datatypes cs c in
    elim (datatype_at r.datatypes l cs at) [
      | inl q ↦ none_in cs q (m, slice_get_within cs m (n, h) here, get_or_from_slice_get cs m (n, h) (n, h) here)
      | inr w ↦ (
          let v = case_at w.shaped m n h here in
          let u = case_at w.shaped o n k there in
          let one : v.constructor'.name ≡ u.constructor'.name = a.formed.differ v.constructor'.name u.constructor'.name n v.text u.text in
          let first : slice_get (names_in w.datatype) m ≡ Some v.constructor'.name = slice_get-map (λ (x : Cd). x.name) w.datatype.constructors m ∙ ap (option_map (λ (x : Cd). x.name)) v.at in
          let second : slice_get (names_in w.datatype) o ≡ Some v.constructor'.name = slice_get-map (λ (x : Cd). x.name) w.datatype.constructors o ∙ ap (option_map (λ (x : Cd). x.name)) u.at ∙ ap (λ z. Some z) (sym one) in
          distinct_places (names_in w.datatype) (all_distinct p a w.place w.datatype w.at) m o v.constructor'.name first second)
    ]

constructor_once : {p : Pg} {routes : Rts} {callees : List ℕ} → Accepts p → RoutesOf p routes callees → (cs : Cases) (n : List ℕ) (h k : Option Sh) → Contains routes.datatypes cs → Contains cs (n, h) → Contains cs (n, k) → h ≡ k
constructor_once {p} {routes} a r cs n h k c i j =
    let (m, here) = place_of cs (n, h) i in
    let (o, there) = place_of cs (n, k) j in
    let place : m ≡ o = case_place a r cs n h k c m o here there in
    ap (λ (x : List ℕ × Option Sh). x.1) (some_is (sym here ∙ ap (slice_get cs) place ∙ there))

begin_none : {p : Pg} {routes : Rts} {callees : List ℕ} → Accepts p → RoutesOf p routes callees → (e d : Ent) (more : List (List ℕ)) → Contains routes.entries e → Contains routes.entries d → e.name ++ more ≡ d.name → more ≡ []
begin_none {p} {routes} a r e d more c g s =
    let (k, at) = place_of routes.entries e c in
    let (l, at2) = place_of routes.entries d g in
    let (x, here, is) = found_entry r k e at in
    let (y, there, is2) = found_entry r l d at2 in
    none_begins p x.0 y.0 (is_post x.1.form) (is_post y.1.form) x.1 y.1 more a (listed_at r.are_entries k x here).is_entry (listed_at r.are_entries l y there).is_entry
    (ap (λ (z : Ent). z.name ++ more) is ∙ s ∙ ap (λ (z : Ent). z.name) (sym is2))

pub routes_named : {p : Pg} {routes : Rts} {callees : List ℕ} → Accepts p → RoutesOf p routes callees → AreNamed routes
routes_named a r = record {
  some_pieces = λ e c. (entry_named a r e c).some;
  none_begins = begin_none a r;
  plain_names = λ e c. (entry_named a r e c).plain;
  entries_differ = entries_apart a r;
  plain_constructors = constructor_plain a r;
  constructors_differ = constructor_once a r;
}

pub one_call_of_accepted : (p : Pg) (routes : Rts) (callees : List ℕ) (post : Bool) (target : List ℕ) (c d : Cl) → Accepts p → RoutesOf p routes callees → Route routes post target c → Route routes post target d → c ≡ d
one_call_of_accepted p routes callees post target c d a r h g = one_call routes post target c d (routes_named a r) h g
