-- Links and actions: calls of top-level functions, what carries their arguments, and what they break.
use Rattle.std.proofs.Common.{◌≡◌, ℕ, suc, Bool, true, false, not, List, length, Option, Some, None, slice_get, refl, ap, sym, ◌∙◌, subst, inl, inr}
use Rattle.std.proofs.lemmas.Bool.{not-true as not_false, and_parts}
use Rattle.con_terms.specs.Trees.{Cn, arrow, poly, guarded}
use Rattle.con_terms.specs.declared.place.Place.{Place}
use Rattle.xml_trees.specs.declared.source_name.AttrName.{AttrName}
use Rattle.xml_trees.specs.declared.source_name.AttrName.TheVariants as attr
use Rattle.core_terms.specs.declared.exp.Sigil.{Sigil}
use Rattle.core_terms.specs.Trees.{Ex, node, top, call, Its, Dt}
use Rattle.core_terms.specs.Lists.{item_list}
use Rattle.core_typing.specs.Scopes.{Sc, normal_of}
use Rattle.core_typing.specs.Typed.{AreTerms, no_term, one_more, IsCallOf, alone, applied, IsLinked, as_link, as_action, as_title, as_href, as_src, as_alt, as_border, as_value, as_size}
use Rattle.core_typing.specs.Carried.{CarriesTo, Filled}
use Rattle.core_typing.specs.Compared.{Alike}
use Rattle.core_typing.specs.Found.{Found}
use Rattle.core_typing.specs.Faults.{Fault, at, link_not_call, not_serialisable}
use Rattle.core_typing.specs.Own.{IsFunction, IsGeneric, CallsTop, top_alone, top_called, Travels, link_travels, action_travels, AsCalled, as_a_link, as_an_action, as_a_generic, NotLinked, link_calls_none, action_calls_none, link_lacks, action_has_all, action_lacks, cannot_travel, not_carried}
use Rattle.core_typing.proofs.OneType.{one_found, one_value, one_result}
use Rattle.told_faults.specs.Told.{TypeIs, Picks}
use Rattle.told_faults.proofs.Parts.{at_one}
use Rattle.judgements.specs.Comparisons.{are_alike}
use Rattle.carried_types.specs.Filling.{can_fill}
use Rattle.carried_types.specs.Carriers.{AreCarriers}
use Rattle.carried_types.specs.Pages.{left_behind}
use Rattle.carried_types.proofs.Alike.{alike_is, is_alike}
use Rattle.carried_types.proofs.Shown.{shown_is_shown, sent_is_sent, filled_is_filled}
use Rattle.markup_rules.specs.Links.{Lk, nothing_broken, no_call, no_travel, is_top, calls_top, all_terms, counted, term_count, with_count, call_of, carries_type, carries, linked_call, is_linked, is_generic, plain_form, is_plain, form_travels, rest_travels, left_travels, arguments_travel, travelling_call, travels, Lx, lacks_call, as_called, not_known, behind_form, lack_of_form, lack_of, told_unless, of_lack, of_alike, of_type, of_called, link_fault}
use Rattle.markup_rules.specs.Attributes.{link_told, link_of, is_link}
use Rattle.markup_rules.proofs.Basics.{false_true}
use Rattle.markup_rules.proofs.LinksAre.{call_is}
use Rattle.told_terms.proofs.Tests.{true_false, refused, no_value, both_so}
use Rattle.told_terms.proofs.Travelling.{left_told, told_left, shown_told, sent_told}

-- calls of top-level values
called_so : {e : Ex} → CallsTop e → calls_top e ≡ true
called_so top_alone = refl
called_so top_called = refl

head_is : (p : Place) (a : Bool) (f : Ex) (s : Sigil) (is : Its) → is_top f ≡ true → CallsTop (node p a (call f s is))
head_is p a (node q b (top i)) s is h = top_called
head_is p a (node q b _) s is h = absurd (false_true h)

called_is : (e : Ex) → calls_top e ≡ true → CallsTop e
called_is (node p a (top i)) h = top_alone
called_is (node p a (call f s is)) h = head_is p a f s is h
called_is (node p a _) h = absurd (false_true h)

-- with how many terms
all_so : {is : Its} {n : ℕ} → AreTerms is n → (all_terms (item_list is) ≡ true) × (length (item_list is) ≡ n)
all_so no_term = (refl, refl)
all_so (one_more x) = let (a, b) = all_so x in (a, ap suc b)

count_so : {is : Its} {n : ℕ} → AreTerms is n → term_count (item_list is) ≡ Some n
count_so {is} x = let (a, b) = all_so x in ap (counted (item_list is)) a ∙ ap (λ (z : ℕ). Some z) b

call_so : {e : Ex} {i n : ℕ} → IsCallOf e i n → call_of e ≡ Some (i, n)
call_so alone = refl
call_so (applied {i = i} x) = ap (with_count i) (count_so x)

-- a call of a value that has a type
pub record Calls (ts : List Cn) (e : Ex) (P : ℕ → Cn → Type 0) : Type 0 where
  pub number : ℕ
  pub count : ℕ
  pub type : Cn
  pub is : IsCallOf e number count
  pub has : slice_get ts number ≡ Some type
  pub so : P count type

-- the attribute of a link or of an action
abbrev pub name_of : Bool → AttrName
name_of true = attr.Action
name_of false = attr.Link

-- links are told to be linked
call_linked : {e : Ex} {i n : ℕ} {t : Cn} (ts : List Cn) (ds : List Dt) (bs : List Bool) (action : Bool) → IsCallOf e i n → slice_get ts i ≡ Some t → carries_type ds bs action n t ≡ true → is_linked ts ds bs action e ≡ true
call_linked {i = i} {n = n} ts ds bs action c h k = ap (linked_call ts ds bs action) (call_so c) ∙ ap (carries ds bs action n) h ∙ k

pub linked_so : (G : Sc) (bs : List Bool) (action : Bool) (e : Ex) → AreCarriers G.datatypes bs → IsLinked G (name_of action) e → is_linked G.tops G.datatypes bs action e ≡ true
linked_so G bs false e m (as_link c h s) = call_linked G.tops G.datatypes bs false c h (shown_told bs m s)
linked_so G bs true e m (as_action c h s) = call_linked G.tops G.datatypes bs true c h (sent_told bs m s)

-- and what is told to be linked is
by_type : (ts : List Cn) (ds : List Dt) (bs : List Bool) (action : Bool) (e : Ex) (i n : ℕ) (o : Option Cn) → slice_get ts i ≡ o → IsCallOf e i n → carries ds bs action n o ≡ true → Calls ts e (λ k t. carries_type ds bs action k t ≡ true)
by_type ts ds bs action e i n None k c h = absurd (false_true h)
by_type ts ds bs action e i n (Some t) k c h = record { number = i; count = n; type = t; is = c; has = k; so = h }

by_call : (ts : List Cn) (ds : List Dt) (bs : List Bool) (action : Bool) (e : Ex) (o : Option (ℕ × ℕ)) → call_of e ≡ o → linked_call ts ds bs action o ≡ true → Calls ts e (λ k t. carries_type ds bs action k t ≡ true)
by_call ts ds bs action e None k h = absurd (false_true h)
by_call ts ds bs action e (Some (i, n)) k h = by_type ts ds bs action e i n (slice_get ts i) refl (call_is e i n k) h

pub linked_is : (G : Sc) (bs : List Bool) (action : Bool) (e : Ex) → AreCarriers G.datatypes bs → is_linked G.tops G.datatypes bs action e ≡ true → IsLinked G (name_of action) e
linked_is G bs false e m h =
    let c = by_call G.tops G.datatypes bs false e (call_of e) refl h in
    as_link c.is c.has (shown_is_shown G.datatypes bs c.count c.type m c.so)
linked_is G bs true e m h =
    let c = by_call G.tops G.datatypes bs true e (call_of e) refl h in
    as_action c.is c.has (sent_is_sent G.datatypes bs c.count c.type m c.so)

-- types that take a constructor or a guard's proof
generic_so : {n : Cn} → IsGeneric n → is_generic n ≡ true
generic_so (inl (i, k, t, e)) = ap is_generic e
generic_so (inr (a, b, t, e)) = ap is_generic e

generic_is : (n : Cn) → is_generic n ≡ true → IsGeneric n
generic_is (poly i k t) h = inl (i, k, t, refl)
generic_is (guarded a b t) h = inr (a, b, t, refl)
generic_is _ h = absurd (false_true h)

not_generic : (n : Cn) (b : Bool) → is_generic n ≡ b → (IsGeneric n → ⊥) → not b ≡ true
not_generic n true e none = absurd (none (generic_is n e))
not_generic n false e none = refl

plain_so : (t n : Cn) → normal_of t ≡ Some n → (IsGeneric n → ⊥) → is_plain t ≡ true
plain_so t n h none = ap plain_form h ∙ not_generic n (is_generic n) refl none

-- a type that isn't one, by its normal form
record Plain (t : Cn) : Type 0 where
  form : Cn
  is : normal_of t ≡ Some form
  none : IsGeneric form → ⊥

plain_by : (t : Cn) (o : Option Cn) → normal_of t ≡ o → plain_form o ≡ true → Plain t
plain_by t None e h = absurd (false_true h)
plain_by t (Some n) e h = record { form = n; is = e; none = refused generic_so (not_false (is_generic n) h) }

plain_is : (t : Cn) → is_plain t ≡ true → Plain t
plain_is t h = plain_by t (normal_of t) refl h

-- what travels
call_travels : {e : Ex} {i n : ℕ} {t u : Cn} (G : Sc) (bs : List Bool) (action : Bool) → AreCarriers G.datatypes bs → IsCallOf e i n → slice_get G.tops i ≡ Some t → CarriesTo G.datatypes n t u → rest_travels action u ≡ true → travels G.tops G.datatypes bs action e ≡ true
call_travels {n = n} G bs action m c h x k =
    ap (travelling_call G.tops G.datatypes bs action) (call_so c)
    ∙ ap (arguments_travel G.datatypes bs action n) h
    ∙ ap (left_travels action) (left_told bs m x)
    ∙ k

travels_so : (G : Sc) (bs : List Bool) (action : Bool) (e : Ex) → AreCarriers G.datatypes bs → Travels G (name_of action) e → travels G.tops G.datatypes bs action e ≡ true
travels_so G bs false e m (link_travels c h x k none) = call_travels G bs false m c h x (plain_so _ _ k none)
travels_so G bs true e m (action_travels {a = a} {b = b} c h x k f l none) =
    call_travels G bs true m c h x (ap form_travels k ∙ both_so (can_fill a) (is_plain b) ((filled_is_filled a).1 f) (plain_so b _ l none))

by_left : (G : Sc) (bs : List Bool) (action : Bool) (e : Ex) (i n : ℕ) (t : Cn) (o : Option Cn) → AreCarriers G.datatypes bs → IsCallOf e i n → slice_get G.tops i ≡ Some t → left_behind G.datatypes bs n t ≡ o → left_travels action o ≡ true → Calls G.tops e (λ k v. (u : Cn) × CarriesTo G.datatypes k v u × (rest_travels action u ≡ true))
by_left G bs action e i n t None m c h l k = absurd (false_true k)
by_left G bs action e i n t (Some u) m c h l k =
    record { number = i; count = n; type = t; is = c; has = h; so = (u, told_left G.datatypes bs n t u m l, k) }

by_top : (G : Sc) (bs : List Bool) (action : Bool) (e : Ex) (i n : ℕ) (o : Option Cn) → AreCarriers G.datatypes bs → IsCallOf e i n → slice_get G.tops i ≡ o → arguments_travel G.datatypes bs action n o ≡ true → Calls G.tops e (λ k v. (u : Cn) × CarriesTo G.datatypes k v u × (rest_travels action u ≡ true))
by_top G bs action e i n None m c h k = absurd (false_true k)
by_top G bs action e i n (Some t) m c h k = by_left G bs action e i n t (left_behind G.datatypes bs n t) m c h refl k

by_travelling : (G : Sc) (bs : List Bool) (action : Bool) (e : Ex) (o : Option (ℕ × ℕ)) → AreCarriers G.datatypes bs → call_of e ≡ o → travelling_call G.tops G.datatypes bs action o ≡ true → Calls G.tops e (λ k v. (u : Cn) × CarriesTo G.datatypes k v u × (rest_travels action u ≡ true))
by_travelling G bs action e None m c k = absurd (false_true k)
by_travelling G bs action e (Some (i, n)) m c k = by_top G bs action e i n (slice_get G.tops i) m (call_is e i n c) refl k

-- a function of a form
record Form (u : Cn) : Type 0 where
  form : Cn
  answer : Cn
  is : normal_of u ≡ Some (arrow form answer)
  filled : Filled form
  plain : Plain answer

form_by : (u : Cn) (o : Option Cn) → normal_of u ≡ o → form_travels o ≡ true → Form u
form_by u None e h = absurd (false_true h)
form_by u (Some (arrow a b)) e h =
    let (x, y) = and_parts (can_fill a) (is_plain b) h in
    record { form = a; answer = b; is = e; filled = (filled_is_filled a).0 x; plain = plain_is b y }
form_by u (Some _) e h = absurd (false_true h)

travels_is : (G : Sc) (bs : List Bool) (action : Bool) (e : Ex) → AreCarriers G.datatypes bs → travels G.tops G.datatypes bs action e ≡ true → Travels G (name_of action) e
travels_is G bs false e m h =
    let c = by_travelling G bs false e (call_of e) m refl h in
    let (u, x, k) = c.so in
    let y = plain_is u k in
    link_travels c.is c.has x y.is y.none
travels_is G bs true e m h =
    let c = by_travelling G bs true e (call_of e) m refl h in
    let (u, x, k) = c.so in
    let y = form_by u (normal_of u) refl k in
    action_travels c.is c.has x y.is y.filled y.plain.is y.plain.none

-- what is lacked: a link lacks arguments, or an action lacks more than the form or has it already
pub data Lacking : AttrName → Cn → Type 0 where
  link_more : {v a b : Cn}
      → normal_of v ≡ Some (arrow a b)
      → Lacking attr.Link v
  action_none : {v n : Cn}
      → normal_of v ≡ Some n
      → (IsFunction n → ⊥)
      → (IsGeneric n → ⊥)
      → Lacking attr.Action v
  action_more : {v a b c d : Cn}
      → normal_of v ≡ Some (arrow a b)
      → normal_of b ≡ Some (arrow c d)
      → Lacking attr.Action v

-- a function is no function of a constructor
generic_function : {a b : Cn} → IsGeneric (arrow a b) → ⊥
generic_function (inl (i, k, t, e)) = cc
generic_function (inr (c, d, t, e)) = cc

no_arrow : {m n : Cn} → m ≡ n → IsFunction m → IsFunction n
no_arrow h x = subst IsFunction h x

-- what is called as it should be lacks nothing
called_out : {n : AttrName} {v : Cn} → AsCalled n v → Lacking n v → ⊥
called_out (as_a_link h none) (link_more {a = a} {b = b} k) = none (no_arrow (one_value k h) (a, b, refl))
called_out (as_an_action {a = a} {b = b} h i none) (action_none k f g) = f (no_arrow (one_value h k) (a, b, refl))
called_out (as_an_action h i none) (action_more {c = c} {d = d} k l) =
    none (no_arrow (one_value l (ap normal_of (one_result (one_value k h)) ∙ i)) (c, d, refl))
called_out (as_a_generic h x) (action_none k f g) = g (subst IsGeneric (one_value h k) x)
called_out (as_a_generic h x) (action_more {a = a} {b = b} k l) = generic_function (subst IsGeneric (one_value h k) x)

pub data Lack : Bool → Cn → Lx → Type 0 where
  it_lacks : {action : Bool} {v : Cn}
      → Lacking (name_of action) v
      → Lack action v lacks_call
  it_is_called : {action : Bool} {v : Cn}
      → AsCalled (name_of action) v
      → Lack action v as_called
  it_is_large : {action : Bool} {v : Cn}
      → (Lacking (name_of action) v → ⊥)
      → (AsCalled (name_of action) v → ⊥)
      → Lack action v not_known

large_link : {v : Cn} → normal_of v ≡ None → Lacking attr.Link v → ⊥
large_link h (link_more k) = no_value h k

large_called : {n : AttrName} {v : Cn} → normal_of v ≡ None → AsCalled n v → ⊥
large_called h (as_a_link k none) = no_value h k
large_called h (as_an_action k l none) = no_value h k
large_called h (as_a_generic k x) = no_value h k

large_action : {v : Cn} → normal_of v ≡ None → Lacking attr.Action v → ⊥
large_action h (action_none k f g) = no_value h k
large_action h (action_more k l) = no_value h k

large_behind : {v a b : Cn} → normal_of v ≡ Some (arrow a b) → normal_of b ≡ None → Lacking attr.Action v → ⊥
large_behind {a = a} {b = b} h i (action_none k f g) = f (no_arrow (one_value h k) (a, b, refl))
large_behind h i (action_more k l) = no_value i (ap normal_of (one_result (one_value h k)) ∙ l)

behind_called : {v a b : Cn} → normal_of v ≡ Some (arrow a b) → normal_of b ≡ None → AsCalled attr.Action v → ⊥
behind_called h i (as_an_action k l none) = no_value i (ap normal_of (one_result (one_value h k)) ∙ l)
behind_called {a = a} {b = b} h i (as_a_generic k x) = generic_function (subst IsGeneric (one_value k h) x)

by_behind : (v a b : Cn) (o : Option Cn) → normal_of v ≡ Some (arrow a b) → normal_of b ≡ o → Lack true v (behind_form o)
by_behind v a b None h k = it_is_large (large_behind h k) (behind_called h k)
by_behind v a b (Some (arrow c d)) h k = it_lacks (action_more h k)
by_behind v a b (Some n) h k = it_is_called (as_an_action h k (λ z. let (x1, x2, e) = z in cc))

no_generic : {n : Cn} → is_generic n ≡ false → IsGeneric n → ⊥
no_generic h x = refused generic_so h x

lack_by : (action : Bool) (v : Cn) (o : Option Cn) → normal_of v ≡ o → Lack action v (lack_of_form action o)
lack_by false v None h = it_is_large (large_link h) (large_called h)
lack_by false v (Some (arrow a b)) h = it_lacks (link_more h)
lack_by false v (Some n) h = it_is_called (as_a_link h (λ z. let (x1, x2, e) = z in cc))
lack_by true v None h = it_is_large (large_action h) (large_called h)
lack_by true v (Some (arrow a b)) h = by_behind v a b (normal_of b) h refl
lack_by true v (Some (poly i k t)) h = it_is_called (as_a_generic h (inl (i, k, t, refl)))
lack_by true v (Some (guarded a b t)) h = it_is_called (as_a_generic h (inr (a, b, t, refl)))
lack_by true v (Some n) h = it_lacks (action_none h (λ z. let (x1, x2, e) = z in cc) (no_generic refl))

lack_is : (action : Bool) (v : Cn) → Lack action v (lack_of action v)
lack_is action v = lack_by action v (normal_of v) refl

-- what is told of a link of a type that is found
abbrev Broken : Sc → Place → Bool → Cn → Ex → Fault → Type 0
Broken G p action t e f = NotLinked G p (name_of action) t e f

pub data Told (P : Fault → Type 0) (p : Place) : Lk → Type 0 where
  it_breaks_nothing : ((f : Fault) → P f → ⊥) → Told P p nothing_broken
  it_calls_none : P (link_not_call p) → Told P p no_call
  it_travels_not : P (not_serialisable p) → Told P p no_travel

calls_none : (G : Sc) (p : Place) (action : Bool) (t : Cn) (e : Ex) → (CallsTop e → ⊥) → Broken G p action t e (link_not_call p)
calls_none G p false t e none = link_calls_none none
calls_none G p true t e none = action_calls_none none

lacking_broken : {G : Sc} {p : Place} {n : AttrName} {t v : Cn} {e : Ex} → CallsTop e → Found G e v → (Alike t v → ⊥) → Lacking n v → NotLinked G p n t e (link_not_call p)
lacking_broken c x a (link_more h) = link_lacks c x a h
lacking_broken c x a (action_none h f g) = action_has_all c x a h f g
lacking_broken c x a (action_more h k) = action_lacks c x a h k

-- what is broken, at the type that is found
data BrokenAt (G : Sc) (n : AttrName) (t : Cn) (e : Ex) (v : Cn) : Type 0 where
  broken_lacks : (Alike t v → ⊥) → Lacking n v → BrokenAt G n t e v
  broken_travels : (Alike t v → ⊥) → AsCalled n v → (Travels G n e → ⊥) → BrokenAt G n t e v
  broken_carries : Alike t v → (IsLinked G n e → ⊥) → BrokenAt G n t e v

record BrokenType (G : Sc) (n : AttrName) (t : Cn) (e : Ex) : Type 0 where
  type : Cn
  found : Found G e type
  broken : BrokenAt G n t e type

broken_type : {G : Sc} {p : Place} {n : AttrName} {t : Cn} {e : Ex} {f : Fault} → CallsTop e → NotLinked G p n t e f → BrokenType G n t e
broken_type c (link_calls_none none) = absurd (none c)
broken_type c (action_calls_none none) = absurd (none c)
broken_type c (link_lacks {v = v} d x a h) = record { type = v; found = x; broken = broken_lacks a (link_more h) }
broken_type c (action_has_all {v = v} d x a h f g) = record { type = v; found = x; broken = broken_lacks a (action_none h f g) }
broken_type c (action_lacks {v = v} d x a h k) = record { type = v; found = x; broken = broken_lacks a (action_more h k) }
broken_type c (cannot_travel {v = v} d x a k none) = record { type = v; found = x; broken = broken_travels a k none }
broken_type c (not_carried {v = v} d x a none) = record { type = v; found = x; broken = broken_carries a none }

broken_at : {G : Sc} {p : Place} {n : AttrName} {t v : Cn} {e : Ex} {f : Fault} → CallsTop e → Found G e v → NotLinked G p n t e f → BrokenAt G n t e v
broken_at {G} {n = n} {t = t} {e = e} c x b = let y = broken_type c b in subst (λ z. BrokenAt G n t e z) (one_found y.found x) y.broken

alike_out : {G : Sc} {n : AttrName} {t v : Cn} {e : Ex} → Alike t v → IsLinked G n e → BrokenAt G n t e v → ⊥
alike_out a l (broken_lacks b x) = b a
alike_out a l (broken_travels b k x) = b a
alike_out a l (broken_carries b x) = x l

differ_out : {G : Sc} {n : AttrName} {t v : Cn} {e : Ex} → (Alike t v → ⊥) → (Lacking n v → ⊥) → (AsCalled n v → Travels G n e) → BrokenAt G n t e v → ⊥
differ_out a l g (broken_lacks b x) = l x
differ_out a l g (broken_travels b k x) = x (g k)
differ_out a l g (broken_carries b x) = a b

-- a link of its type
by_linked : (G : Sc) (bs : List Bool) (p : Place) (action : Bool) (t v : Cn) (e : Ex) (b : Bool) → AreCarriers G.datatypes bs → CallsTop e → Found G e v → Alike t v → is_linked G.tops G.datatypes bs action e ≡ b → Told (Broken G p action t e) p (told_unless b)
by_linked G bs p action t v e true m c x a h = it_breaks_nothing (λ f y. alike_out a (linked_is G bs action e m h) (broken_at c x y))
by_linked G bs p action t v e false m c x a h = it_travels_not (not_carried c x a (refused (linked_so G bs action e m) h))

-- a link of another type
by_travels : (G : Sc) (bs : List Bool) (p : Place) (action : Bool) (t v : Cn) (e : Ex) (l : Lx) (b : Bool) → AreCarriers G.datatypes bs → CallsTop e → Found G e v → (Alike t v → ⊥) → Lack action v l → travels G.tops G.datatypes bs action e ≡ b → Told (Broken G p action t e) p (of_lack l b)
by_travels G bs p action t v e lacks_call b m c x a (it_lacks k) h = it_calls_none (lacking_broken c x a k)
by_travels G bs p action t v e as_called true m c x a (it_is_called k) h =
    it_breaks_nothing (λ f y. differ_out a (called_out k) (λ z. travels_is G bs action e m h) (broken_at c x y))
by_travels G bs p action t v e as_called false m c x a (it_is_called k) h =
    it_travels_not (cannot_travel c x a k (refused (travels_so G bs action e m) h))
by_travels G bs p action t v e not_known b m c x a (it_is_large none never) h =
    it_breaks_nothing (λ f y. differ_out a none (λ z. absurd (never z)) (broken_at c x y))

by_alike : (G : Sc) (bs : List Bool) (p : Place) (action : Bool) (t v : Cn) (e : Ex) (b : Bool) → AreCarriers G.datatypes bs → CallsTop e → Found G e v → are_alike t v ≡ b → Told (Broken G p action t e) p (of_alike G.tops G.datatypes bs action e v b)
by_alike G bs p action t v e true m c x h = by_linked G bs p action t v e (is_linked G.tops G.datatypes bs action e) m c x (alike_is t v h) refl
by_alike G bs p action t v e false m c x h =
    by_travels G bs p action t v e (lack_of action v) (travels G.tops G.datatypes bs action e) m c x (refused (is_alike t v) h) (lack_is action v) refl

by_found : (G : Sc) (bs : List Bool) (p : Place) (action : Bool) (t : Cn) (e : Ex) (o : Option Cn) → AreCarriers G.datatypes bs → CallsTop e → TypeIs G e o → Told (Broken G p action t e) p (of_type G.tops G.datatypes bs action t e o)
by_found G bs p action t e None m c v = it_breaks_nothing (λ f y. let z = broken_type c y in v z.type z.found)
by_found G bs p action t e (Some u) m c v = by_alike G bs p action t u e (are_alike t u) m c v refl

by_called : (G : Sc) (bs : List Bool) (p : Place) (action : Bool) (t : Cn) (e : Ex) (o : Option Cn) (b : Bool) → AreCarriers G.datatypes bs → TypeIs G e o → calls_top e ≡ b → Told (Broken G p action t e) p (of_called G.tops G.datatypes bs action t e o b)
by_called G bs p action t e o true m v h = by_found G bs p action t e o m (called_is e h) v
by_called G bs p action t e o false m v h = it_calls_none (calls_none G p action t e (refused called_so h))

-- all stands at the attribute's name
linked_at : {G : Sc} {p : Place} {n : AttrName} {t : Cn} {e : Ex} {f : Fault} → NotLinked G p n t e f → at f ≡ p
linked_at (link_calls_none none) = refl
linked_at (action_calls_none none) = refl
linked_at (link_lacks c x a h) = refl
linked_at (action_has_all c x a h f g) = refl
linked_at (action_lacks c x a h k) = refl
linked_at (cannot_travel c x a k none) = refl
linked_at (not_carried c x a none) = refl

told_picks : (P : Fault → Type 0) (p : Place) (l : Lk) → ((f : Fault) → P f → at f ≡ p) → Told P p l → Picks P (link_told p l)
told_picks P p nothing_broken all (it_breaks_nothing none) = none
told_picks P p no_call all (it_calls_none x) = at_one P p (link_not_call p) all x
told_picks P p no_travel all (it_travels_not x) = at_one P p (not_serialisable p) all x

of_name : (G : Sc) (bs : List Bool) (p : Place) (action : Bool) (t : Cn) (e : Ex) (o : Option Cn) → AreCarriers G.datatypes bs → TypeIs G e o → Picks (Broken G p action t e) (link_told p (link_fault G.tops G.datatypes bs action t e o))
of_name G bs p action t e o m v =
    told_picks (Broken G p action t e) p (link_fault G.tops G.datatypes bs action t e o) (λ f x. linked_at x)
    (by_called G bs p action t e o (calls_top e) m v refl)

-- another attribute is no link
plain_linked : (G : Sc) (n : AttrName) (e : Ex) → is_link n ≡ false → IsLinked G n e
plain_linked G attr.Title e h = as_title
plain_linked G attr.Href e h = as_href
plain_linked G attr.Src e h = as_src
plain_linked G attr.Alt e h = as_alt
plain_linked G attr.Border e h = as_border
plain_linked G attr.Value e h = as_value
plain_linked G attr.Size e h = as_size
plain_linked G attr.Link e h = absurd (false_true (sym h))
plain_linked G attr.Action e h = absurd (false_true (sym h))

called_link : {n : AttrName} {v : Cn} → AsCalled n v → is_link n ≡ true
called_link (as_a_link h none) = refl
called_link (as_an_action h k none) = refl
called_link (as_a_generic h x) = refl

plain_never : {G : Sc} {p : Place} {n : AttrName} {t : Cn} {e : Ex} {f : Fault} → is_link n ≡ false → NotLinked G p n t e f → ⊥
plain_never h (link_calls_none none) = true_false refl h
plain_never h (action_calls_none none) = true_false refl h
plain_never h (link_lacks c x a k) = true_false refl h
plain_never h (action_has_all c x a k f g) = true_false refl h
plain_never h (action_lacks c x a k l) = true_false refl h
plain_never h (cannot_travel c x a k none) = true_false (called_link k) h
plain_never {G} {n = n} {e = e} h (not_carried c x a none) = none (plain_linked G n e h)

-- what a link or an action breaks is told
pub links_pick : (G : Sc) (bs : List Bool) (p : Place) (n : AttrName) (t : Cn) (e : Ex) (o : Option Cn) → (is_link n ≡ true → AreCarriers G.datatypes bs) → TypeIs G e o → Picks (NotLinked G p n t e) (link_told p (link_of bs G n t e o))
links_pick G bs p attr.Link t e o m v = of_name G bs p false t e o (m refl) v
links_pick G bs p attr.Action t e o m v = of_name G bs p true t e o (m refl) v
links_pick G bs p attr.Title t e o m v = λ f x. plain_never refl x
links_pick G bs p attr.Href t e o m v = λ f x. plain_never refl x
links_pick G bs p attr.Src t e o m v = λ f x. plain_never refl x
links_pick G bs p attr.Alt t e o m v = λ f x. plain_never refl x
links_pick G bs p attr.Border t e o m v = λ f x. plain_never refl x
links_pick G bs p attr.Value t e o m v = λ f x. plain_never refl x
links_pick G bs p attr.Size t e o m v = λ f x. plain_never refl x
