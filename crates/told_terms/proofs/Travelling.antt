-- What links and actions carry is told to be carried, and what is told to be left of a function's type behind the
-- arguments is left of it.
use Rattle.std.proofs.Common.{◌≡◌, ℕ, zero, suc, Bool, true, false, List, Option, Some, None, if◌then◌else◌, refl, ap, ◌∙◌, subst}
use Rattle.con_terms.specs.Trees.{Cn, arrow}
use Rattle.core_terms.specs.Trees.{Dt}
use Rattle.core_terms.specs.Types.{transaction_of, page_type}
use Rattle.core_typing.specs.Scopes.{normal_of}
use Rattle.core_typing.specs.Compared.{Alike}
use Rattle.core_typing.specs.Carried.{Filled, ShowsPage, at_once, takes_one, SendsForm, at_last, behind_one, CarriesTo, carries_none, carries_one}
use Rattle.carried_types.specs.Built.{can_carry}
use Rattle.carried_types.specs.Filling.{can_fill}
use Rattle.carried_types.specs.Carriers.{AreCarriers}
use Rattle.carried_types.specs.Pages.{gives_page, arrow_parts, left_of, left_behind, page_left, shows_page, form_parts, form_left, sends_form}
use Rattle.carried_types.specs.Pages as computed
use Rattle.carried_types.proofs.Alike.{is_alike}
use Rattle.carried_types.proofs.Marks.{carried_is_carried}
use Rattle.carried_types.proofs.Shown.{filled_is_filled, parts_are}
use Rattle.markup_rules.proofs.Basics.{none_some, some_is}
use Rattle.told_terms.proofs.Room.{carried_told}

-- behind one argument
left_so : (ds : List Dt) (bs : List Bool) (t a b : Cn) → normal_of t ≡ Some (arrow a b) → can_carry ds bs a ≡ true → left_of ds bs t ≡ Some b
left_so ds bs t a b h c =
    ap (λ (o : Option Cn). computed.behind_one ds bs (arrow_parts o)) h ∙ ap (λ (z : Bool). if z then Some b else None) c

record Left (ds : List Dt) (bs : List Bool) (t b : Cn) : Type 0 where
  argument : Cn
  is : normal_of t ≡ Some (arrow argument b)
  carried : can_carry ds bs argument ≡ true

by_carried : (ds : List Dt) (bs : List Bool) (t a d b : Cn) (c : Bool) → normal_of t ≡ Some (arrow a d) → can_carry ds bs a ≡ c → (if c then Some d else None) ≡ Some b → Left ds bs t b
by_carried ds bs t a d b true e c h = record { argument = a; is = e ∙ ap (λ (z : Cn). Some (arrow a z)) (some_is h); carried = c }
by_carried ds bs t a d b false e c h = absurd (none_some h)

by_parts : (ds : List Dt) (bs : List Bool) (t b : Cn) (o : Option (Cn × Cn)) → arrow_parts (normal_of t) ≡ o → computed.behind_one ds bs o ≡ Some b → Left ds bs t b
by_parts ds bs t b None e h = absurd (none_some h)
by_parts ds bs t b (Some (a, d)) e h = by_carried ds bs t a d b (can_carry ds bs a) (parts_are (normal_of t) a d e) refl h

left_is : (ds : List Dt) (bs : List Bool) (t b : Cn) → left_of ds bs t ≡ Some b → Left ds bs t b
left_is ds bs t b h = by_parts ds bs t b (arrow_parts (normal_of t)) refl h

-- behind several
abbrev more_left : List Dt → List Bool → ℕ → Option Cn → Option Cn
more_left ds bs n o = elim o [ None ↦ None | Some b ↦ left_behind ds bs n b ]

pub left_told : {ds : List Dt} {n : ℕ} {t u : Cn} (bs : List Bool) → AreCarriers ds bs → CarriesTo ds n t u → left_behind ds bs n t ≡ Some u
left_told bs m carries_none = refl
left_told {ds} bs m (carries_one {n = n} {t = t} {a = a} {b = b} h c r) =
    ap (λ (o : Option Cn). more_left ds bs n o) (left_so ds bs t a b h (carried_told ds bs a m c)) ∙ left_told bs m r

past_one : (ds : List Dt) (bs : List Bool) (n : ℕ) (t u : Cn) (o : Option Cn) → AreCarriers ds bs → left_of ds bs t ≡ o → more_left ds bs n o ≡ Some u → ((b : Cn) → left_behind ds bs n b ≡ Some u → CarriesTo ds n b u) → CarriesTo ds (suc n) t u
past_one ds bs n t u None m e h f = absurd (none_some h)
past_one ds bs n t u (Some b) m e h f =
    let x = left_is ds bs t b e in
    carries_one x.is (carried_is_carried ds bs x.argument m x.carried) (f b h)

pub told_left : (ds : List Dt) (bs : List Bool) (n : ℕ) (t u : Cn) → AreCarriers ds bs → left_behind ds bs n t ≡ Some u → CarriesTo ds n t u
told_left ds bs zero t u m h = subst (λ z. CarriesTo ds 0 t z) (some_is h) carries_none
told_left ds bs (suc n) t u m h = past_one ds bs n t u (left_of ds bs t) m refl h (λ b k. told_left ds bs n b u m k)

-- a function that gives a page
record ShowsLeft (ds : List Dt) (n : ℕ) (t : Cn) : Type 0 where
  rest : Cn
  carries : CarriesTo ds n t rest
  page : Alike rest (transaction_of page_type)

shows_left : {ds : List Dt} {n : ℕ} {t : Cn} → ShowsPage ds n t → ShowsLeft ds n t
shows_left (at_once {t = t} x) = record { rest = t; carries = carries_none; page = x }
shows_left (takes_one h c r) = let x = shows_left r in record { rest = x.rest; carries = carries_one h c x.carries; page = x.page }

pub shown_told : {ds : List Dt} {n : ℕ} {t : Cn} (bs : List Bool) → AreCarriers ds bs → ShowsPage ds n t → shows_page ds bs n t ≡ true
shown_told bs m s = let x = shows_left s in ap page_left (left_told bs m x.carries) ∙ is_alike x.rest (transaction_of page_type) x.page

-- a function that takes a form
record SendsLeft (ds : List Dt) (n : ℕ) (t : Cn) : Type 0 where
  rest : Cn
  carries : CarriesTo ds n t rest
  form : Cn
  answer : Cn
  is : normal_of rest ≡ Some (arrow form answer)
  filled : Filled form
  page : Alike answer (transaction_of page_type)

sends_left : {ds : List Dt} {n : ℕ} {t : Cn} → SendsForm ds n t → SendsLeft ds n t
sends_left (at_last {t = t} {a = a} {b = b} h f p) =
    record { rest = t; carries = carries_none; form = a; answer = b; is = h; filled = f; page = p }
sends_left (behind_one h c r) =
    let x = sends_left r in
    record { rest = x.rest; carries = carries_one h c x.carries; form = x.form; answer = x.answer; is = x.is; filled = x.filled; page = x.page }

if_both : (a b : Bool) → a ≡ true → b ≡ true → (if a then b else false) ≡ true
if_both true b h k = k
if_both false b h k = h

pub sent_told : {ds : List Dt} {n : ℕ} {t : Cn} (bs : List Bool) → AreCarriers ds bs → SendsForm ds n t → sends_form ds bs n t ≡ true
sent_told bs m s =
    let x = sends_left s in
    ap form_left (left_told bs m x.carries)
    ∙ ap (λ (o : Option Cn). form_parts (arrow_parts o)) x.is
    ∙ if_both (can_fill x.form) (gives_page x.answer) ((filled_is_filled x.form).1 x.filled) (is_alike x.answer (transaction_of page_type) x.page)
