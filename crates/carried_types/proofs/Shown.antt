-- What is computed of pages and forms is so.
use Rattle.std.proofs.Common.{◌≡◌, ℕ, zero, suc, ◌==◌, Bool, true, false, List, Option, Some, None, if◌then◌else◌, refl, ap, sym, ◌∙◌, subst}
use Rattle.std.proofs.Common.{◌⊎◌, inl, inr}
use Rattle.std.specs.Bool.{Decides}
use Rattle.std.proofs.lemmas.Bool.{eqb-true}
use Rattle.std.proofs.lemmas.Option.{same_Some}
use Rattle.con_terms.specs.Trees.{Cn, var, basic, arrow, record_of, name, row, Kd, types, Prs, no_pairs, pair}
use Rattle.con_terms.specs.Same.{kd_eq}
use Rattle.con_terms.proofs.SameKinds.{kd_eq_same}
use Rattle.core_terms.specs.Names.{string_name, bool_name}
use Rattle.core_terms.specs.Trees.{Dt}
use Rattle.core_terms.specs.Types.{string_type, bool_type, transaction_of, page_type, type_row}
use Rattle.core_typing.specs.Scopes.{normal_of}
use Rattle.core_typing.specs.Carried.{Filled, FieldsFilled, no_field, a_field, ShowsPage, at_once, takes_one, SendsForm, at_last, behind_one}
use Rattle.carried_types.specs.Built.{can_carry, is_name}
use Rattle.carried_types.specs.Filling.{is_filled, field_filled, are_filled, row_filled, normal_filled, can_fill}
use Rattle.carried_types.specs.Carriers.{AreCarriers}
use Rattle.carried_types.specs.Pages.{gives_page, arrow_parts, left_of, left_behind, page_left, shows_page, form_parts, form_left, sends_form}
use Rattle.carried_types.specs.Pages as computed
use Rattle.carried_types.proofs.Alike.{alike_is}
use Rattle.carried_types.proofs.BuiltMeans.{name_is}
use Rattle.carried_types.proofs.Marks.{carried_is_carried}

if_both : (b c : Bool) → (if b then c else false) ≡ true → (b ≡ true) × (c ≡ true)
if_both true c h = (refl, h)
if_both false c h = absurd (cc)

-- strings and bools
either_name : (s : ℕ) (b : Bool) → (s == string_name) ≡ b → (if b then true else s == bool_name) ≡ true → (basic s ≡ string_type) ⊎ (basic s ≡ bool_type)
either_name s true e h = inl (ap basic (eqb-true s string_name e))
either_name s false e h = inr (ap basic (eqb-true s bool_name h))

filled_type : (t : Cn) → is_filled t ≡ true → (t ≡ string_type) ⊎ (t ≡ bool_type)
filled_type (basic s) h = either_name s (s == string_name) refl h
filled_type _ h = absurd (cc)

type_filled : (t : Cn) → (t ≡ string_type) ⊎ (t ≡ bool_type) → is_filled t ≡ true
type_filled t (inl e) = ap is_filled e
type_filled t (inr e) = ap is_filled e

fields_yes : (ps : Prs) → are_filled ps ≡ true → FieldsFilled ps
fields_yes no_pairs h = no_field
fields_yes (pair n t ps) h =
    let (p, q) = if_both (field_filled n t) (are_filled ps) h in
    let (named, r) = if_both (is_name n) (is_filled t) p in
    let (x, e) = name_is n named in
    subst (λ (m : Cn). FieldsFilled (pair m t ps)) (sym e) (a_field (filled_type t r) (fields_yes ps q))

fields_so : (ps : Prs) → FieldsFilled ps → are_filled ps ≡ true
fields_so no_pairs f = refl
fields_so (pair (name x) t ps) (a_field e f) = ap (λ (b : Bool). if b then are_filled ps else false) (type_filled t e) ∙ fields_so ps f
fields_so (pair _ t ps) f = elim f [ ]

row_yes : (r : Cn) → row_filled r ≡ true → (ps : Prs) × (r ≡ type_row ps) × FieldsFilled ps
row_yes (row k ps) h =
    let (same, q) = if_both (kd_eq k types) (are_filled ps) h in
    (ps, ap (λ (m : Kd). row m ps) (kd_eq_same k types same), fields_yes ps q)
row_yes _ h = absurd (cc)

normal_yes : (t : Cn) (o : Option Cn) → normal_of t ≡ o → normal_filled o ≡ true → Filled t
normal_yes t None e h = absurd (cc)
normal_yes t (Some (record_of r)) e h =
    let (ps, same, f) = row_yes r h in
    (ps, e ∙ ap (λ (z : Cn). Some (record_of z)) same, f)
normal_yes t (Some _) e h = absurd (cc)

pub filled_is_filled : (t : Cn) → Decides (can_fill t) (Filled t)
filled_is_filled t = (λ h. normal_yes t (normal_of t) refl h, λ f. ap normal_filled f.1 ∙ fields_so f.0 f.2)

-- functions
pub parts_are : (o : Option Cn) (a b : Cn) → arrow_parts o ≡ Some (a, b) → o ≡ Some (arrow a b)
parts_are None a b h = absurd (cc)
parts_are (Some (arrow c d)) a b h = let e = same_Some (c, d) (a, b) h in ap (λ (z : Cn × Cn). Some (arrow z.0 z.1)) e
parts_are (Some _) a b h = absurd (cc)

behind_is : (ds : List Dt) (bs : List Bool) (b : Cn) (o : Option (Cn × Cn)) → computed.behind_one ds bs o ≡ Some b → (a : Cn) × (o ≡ Some (a, b)) × (can_carry ds bs a ≡ true)
behind_is ds bs b None h = absurd (cc)
behind_is ds bs b (Some ab) h = by_carried (can_carry ds bs ab.0) refl h where
  by_carried : (c : Bool) → can_carry ds bs ab.0 ≡ c → (if c then Some ab.1 else None) ≡ Some b → (a : Cn) × (Some ab ≡ Some (a, b)) × (can_carry ds bs a ≡ true)
  by_carried true e h = (ab.0, ap (λ (z : Cn). Some (ab.0, z)) (same_Some ab.1 b h), e)
  by_carried false e h = absurd (cc)

left_is : (ds : List Dt) (bs : List Bool) (t b : Cn) → left_of ds bs t ≡ Some b → (a : Cn) × (normal_of t ≡ Some (arrow a b)) × (can_carry ds bs a ≡ true)
left_is ds bs t b h =
    let (a, e, c) = behind_is ds bs b (arrow_parts (normal_of t)) h in
    (a, parts_are (normal_of t) a b e, c)

shown_past : (ds : List Dt) (bs : List Bool) (n : ℕ) (t : Cn) → AreCarriers ds bs → (o : Option Cn) → left_of ds bs t ≡ o →
    ((b : Cn) → shows_page ds bs n b ≡ true → ShowsPage ds n b) →
    page_left (elim o [ None ↦ None | Some b ↦ left_behind ds bs n b ]) ≡ true → ShowsPage ds (suc n) t
shown_past ds bs n t a None e f h = absurd (cc)
shown_past ds bs n t a (Some b) e f h =
    let (c, is, carried) = left_is ds bs t b e in
    takes_one is (carried_is_carried ds bs c a carried) (f b h)

pub shown_is_shown : (ds : List Dt) (bs : List Bool) (n : ℕ) (t : Cn) → AreCarriers ds bs → shows_page ds bs n t ≡ true → ShowsPage ds n t
shown_is_shown ds bs zero t a h = at_once (alike_is t (transaction_of page_type) h)
shown_is_shown ds bs (suc n) t a h = shown_past ds bs n t a (left_of ds bs t) refl (λ b p. shown_is_shown ds bs n b a p) h

form_is : (t : Cn) (o : Option (Cn × Cn)) → arrow_parts (normal_of t) ≡ o → form_parts o ≡ true → (ds : List Dt) → SendsForm ds 0 t
form_is t None e h ds = absurd (cc)
form_is t (Some ab) e h ds =
    let (p, q) = if_both (can_fill ab.0) (gives_page ab.1) h in
    at_last (parts_are (normal_of t) ab.0 ab.1 e) ((filled_is_filled ab.0).0 p) (alike_is ab.1 (transaction_of page_type) q)

sent_past : (ds : List Dt) (bs : List Bool) (n : ℕ) (t : Cn) → AreCarriers ds bs → (o : Option Cn) → left_of ds bs t ≡ o →
    ((b : Cn) → sends_form ds bs n b ≡ true → SendsForm ds n b) →
    form_left (elim o [ None ↦ None | Some b ↦ left_behind ds bs n b ]) ≡ true → SendsForm ds (suc n) t
sent_past ds bs n t a None e f h = absurd (cc)
sent_past ds bs n t a (Some b) e f h =
    let (c, is, carried) = left_is ds bs t b e in
    behind_one is (carried_is_carried ds bs c a carried) (f b h)

pub sent_is_sent : (ds : List Dt) (bs : List Bool) (n : ℕ) (t : Cn) → AreCarriers ds bs → sends_form ds bs n t ≡ true → SendsForm ds n t
sent_is_sent ds bs zero t a h = form_is t (arrow_parts (normal_of t)) refl h ds
sent_is_sent ds bs (suc n) t a h = sent_past ds bs n t a (left_of ds bs t) refl (λ b p. sent_is_sent ds bs n b a p) h
