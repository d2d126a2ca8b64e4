-- The attributes of an element: what each breaks, and a second one of a name.
use Rattle.std.proofs.Common.{◌≡◌, ℕ, Bool, true, false, ◌||◌, List, [], ◌∷◌, ◌++◌, Option, Some, None, refl, ap, sym, subst, ◌⊎◌, inl, inr}
use Rattle.std.proofs.lemmas.Bool.{or_left as link_first}
use Rattle.con_terms.specs.Trees.{Cn}
use Rattle.con_terms.specs.declared.place.Place.{Place}
use Rattle.xml_trees.specs.declared.source_name.TagName.{TagName}
use Rattle.xml_trees.specs.declared.source_name.AttrName.{AttrName}
use Rattle.core_terms.specs.Trees.{Ex, Ats, no_attributes, attribute}
use Rattle.core_terms.specs.Lists.{attribute_list}
use Rattle.core_terms.specs.Markup.{attribute_type}
use Rattle.core_terms.specs.View.{AttributeTree}
use Rattle.core_typing.specs.Scopes.{Sc}
use Rattle.core_typing.specs.Asks.{no_cover}
use Rattle.core_typing.specs.Typed.{IsCallOf, alone, applied, IsLinked, as_link, as_action, HasAttribute}
use Rattle.core_typing.specs.Typed as typed
use Rattle.core_typing.specs.Compared.{Alike}
use Rattle.core_typing.specs.Found.{Found, AttributesFound, attribute_found}
use Rattle.core_typing.specs.Faults.{Fault, at, unbound, an_attribute, redeclared, twice_attribute}
use Rattle.core_typing.specs.Own.{place_of, Wants, CallsTop, top_alone, top_called, NotLinked, link_calls_none, action_calls_none, link_lacks, action_has_all, action_lacks, cannot_travel, not_carried, AttributeFault, no_attribute, attribute_differs, not_linked, later_attribute, SecondAt, here, further, AttributeTwice, second_of, later_twice}
use Rattle.core_typing.proofs.OneType.{one_found, one_value}
use Rattle.core_typing.proofs.Excluded.{wants_out, second_there}
use Rattle.told_faults.specs.Computed.{Jd, first, wants}
use Rattle.told_faults.specs.Told.{TypeIs, Picks, Or, or_first, or_second, Never, OfType}
use Rattle.told_faults.proofs.Verdict.{picks_as, picks_two, picks_never}
use Rattle.told_faults.proofs.Parts.{at_one, picks_of_type, picks_wants}
use Rattle.carried_types.specs.Carriers.{AreCarriers}
use Rattle.markup_rules.specs.Attributes.{same_name, stands_among, link_told, link_of, other_told, typed_told, told_at, attribute_told, twice_told, second_told, At, has_type, with_attribute, attributes_from, attributes_found, no_attribute_yet, is_link, has_link}
use Rattle.markup_rules.specs.Laws.{attribute_terms}
use Rattle.markup_rules.proofs.Basics.{false_true, Given, or_right}
use Rattle.markup_rules.proofs.AttributesAre.{has_attribute, same_self, stands_last, stands_more}
use Rattle.told_terms.proofs.Wanted.{AttributesTold}
use Rattle.told_terms.proofs.Tests.{true_false, no_value, both_so}
use Rattle.told_terms.proofs.Links.{links_pick}

-- what one attribute breaks
pub data Breaks (G : Sc) (u : Cn) (g : TagName) (p : Place) (n : AttrName) (e : Ex) : Fault → Type 0 where
  unknown_one : attribute_type u g n ≡ None
      → Breaks G u g p n e (unbound p (an_attribute n))
  differing_one : {t v : Cn} {f : Fault}
      → attribute_type u g n ≡ Some t
      → Found G e v
      → Wants G (place_of e) t v f
      → Breaks G u g p n e f
  unlinked_one : {t : Cn} {f : Fault}
      → attribute_type u g n ≡ Some t
      → NotLinked G p n t e f
      → Breaks G u g p n e f

abbrev Differs : Sc → Ex → Cn → Fault → Type 0
Differs G e t = OfType G e (λ v. Wants G (place_of e) t v)

differs_pick : (G : Sc) (p : Place) (n : AttrName) (e : Ex) (t : Cn) (o : Option Cn) → TypeIs G e o → Picks (Differs G e t) (other_told G (p, n, e) o t)
differs_pick G p n e t None v = picks_of_type G e (λ z. Wants G (place_of e) t z) (λ z. wants G (place_of e) t z) (λ z. picks_wants G (place_of e) t z) None v
differs_pick G p n e t (Some u) v = picks_of_type G e (λ z. Wants G (place_of e) t z) (λ z. wants G (place_of e) t z) (λ z. picks_wants G (place_of e) t z) (Some u) v

typed_there : (G : Sc) (u t : Cn) (g : TagName) (p : Place) (n : AttrName) (e : Ex) → attribute_type u g n ≡ Some t → (f : Fault) → Or (Differs G e t) (NotLinked G p n t e) f → Breaks G u g p n e f
typed_there G u t g p n e h f (or_first (v, x, w)) = differing_one h x w
typed_there G u t g p n e h f (or_second x) = unlinked_one h x

typed_back : (G : Sc) (u t : Cn) (g : TagName) (p : Place) (n : AttrName) (e : Ex) → attribute_type u g n ≡ Some t → (f : Fault) → Breaks G u g p n e f → Or (Differs G e t) (NotLinked G p n t e) f
typed_back G u t g p n e h f (unknown_one k) = absurd (no_value k h)
typed_back G u t g p n e h f (differing_one {v = v} k x w) = or_first (v, x, subst (λ z. Wants G (place_of e) z v f) (one_value k h) w)
typed_back G u t g p n e h f (unlinked_one k x) = or_second (subst (λ z. NotLinked G p n z e f) (one_value k h) x)

unknown_at : {G : Sc} {u : Cn} {g : TagName} {p : Place} {n : AttrName} {e : Ex} {f : Fault} → attribute_type u g n ≡ None → Breaks G u g p n e f → at f ≡ p
unknown_at h (unknown_one k) = refl
unknown_at h (differing_one k x w) = absurd (no_value h k)
unknown_at h (unlinked_one k x) = absurd (no_value h k)

by_type : (bs : List Bool) (G : Sc) (u : Cn) (g : TagName) (p : Place) (n : AttrName) (e : Ex) (o t : Option Cn) → (is_link n ≡ true → AreCarriers G.datatypes bs) → TypeIs G e o → attribute_type u g n ≡ t → Picks (Breaks G u g p n e) (told_at bs G (p, n, e) o t)
by_type bs G u g p n e o None m v h =
    at_one (Breaks G u g p n e) p (unbound p (an_attribute n)) (λ f x. unknown_at h x) (unknown_one h)
by_type bs G u g p n e o (Some t) m v h =
    picks_as (Or (Differs G e t) (NotLinked G p n t e)) (Breaks G u g p n e) (typed_told bs G (p, n, e) o t)
    (typed_there G u t g p n e h) (typed_back G u t g p n e h)
    (picks_two (Differs G e t) (NotLinked G p n t e) (other_told G (p, n, e) o t) (link_told p (link_of bs G n t e o))
    (differs_pick G p n e t o v) (links_pick G bs p n t e o m v))

one_pick : (bs : List Bool) (G : Sc) (u : Cn) (g : TagName) (p : Place) (n : AttrName) (e : Ex) (o : Option Cn) → (is_link n ≡ true → AreCarriers G.datatypes bs) → TypeIs G e o → Picks (Breaks G u g p n e) (attribute_told bs G g u (p, n, e) o)
one_pick bs G u g p n e o m v = by_type bs G u g p n e o (attribute_type u g n) m v refl

-- a name that stands before
pub data Second (past : List AttributeTree) (p : Place) (n : AttrName) : Fault → Type 0 where
  is_second : stands_among n past ≡ true
      → Second past p n (redeclared p (twice_attribute n))

second_at : {past : List AttributeTree} {p : Place} {n : AttrName} {f : Fault} → Second past p n f → at f ≡ p
second_at (is_second h) = refl

never_second : {past : List AttributeTree} {p : Place} {n : AttrName} {f : Fault} → stands_among n past ≡ false → Second past p n f → ⊥
never_second h (is_second k) = true_false k h

second_by : (past : List AttributeTree) (p : Place) (n : AttrName) (e : Ex) (b : Bool) → stands_among n past ≡ b → Picks (Second past p n) (twice_told (p, n, e) b)
second_by past p n e true h = at_one (Second past p n) p (redeclared p (twice_attribute n)) (λ f x. second_at x) (is_second h)
second_by past p n e false h = λ f x. never_second h x

second_pick : (past : List AttributeTree) (p : Place) (n : AttrName) (e : Ex) → Picks (Second past p n) (second_told past (p, n, e))
second_pick past p n e = second_by past p n e (stands_among n past) refl

-- one that stands before it, behind some
pub data Again : List AttributeTree → Ats → Fault → Type 0 where
  again_here : {past : List AttributeTree} {p : Place} {n : AttrName} {e : Ex} {as' : Ats} {f : Fault}
      → Second past p n f
      → Again past (attribute p n e as') f
  again_later : {past : List AttributeTree} {p : Place} {n : AttrName} {e : Ex} {as' : Ats} {f : Fault}
      → Again (past ++ (p, n, e) ∷ []) as' f
      → Again past (attribute p n e as') f

abbrev Rest : Sc → Cn → TagName → List AttributeTree → Ats → Fault → Type 0
Rest G u g past as' = Or (AttributeFault G u g as') (Again past as')

abbrev Past : (Fault → Type 0) → Sc → Cn → TagName → List AttributeTree → Place → AttrName → Ex → Fault → Type 0
Past P G u g past p n e = Or (Or P (Breaks G u g p n e)) (Second past p n)

breaks_fault : {G : Sc} {u : Cn} {g : TagName} {p : Place} {n : AttrName} {e : Ex} {as' : Ats} {f : Fault} → Breaks G u g p n e f → AttributeFault G u g (attribute p n e as') f
breaks_fault (unknown_one h) = no_attribute h
breaks_fault (differing_one h x w) = attribute_differs h x w
breaks_fault (unlinked_one h x) = not_linked h x

fault_breaks : {G : Sc} {u : Cn} {g : TagName} {p : Place} {n : AttrName} {e : Ex} {as' : Ats} {f : Fault} → AttributeFault G u g (attribute p n e as') f → Breaks G u g p n e f ⊎ AttributeFault G u g as' f
fault_breaks (no_attribute h) = inl (unknown_one h)
fault_breaks (attribute_differs h x w) = inl (differing_one h x w)
fault_breaks (not_linked h x) = inl (unlinked_one h x)
fault_breaks (later_attribute x) = inr x

again_either : {past : List AttributeTree} {p : Place} {n : AttrName} {e : Ex} {as' : Ats} {f : Fault} → Again past (attribute p n e as') f → Second past p n f ⊎ Again (past ++ (p, n, e) ∷ []) as' f
again_either (again_here x) = inl x
again_either (again_later x) = inr x

rest_there : (P : Fault → Type 0) (G : Sc) (u : Cn) (g : TagName) (past : List AttributeTree) (p : Place) (n : AttrName) (e : Ex) (as' : Ats) (f : Fault) → Or (Past P G u g past p n e) (Rest G u g (past ++ (p, n, e) ∷ []) as') f → Or P (Rest G u g past (attribute p n e as')) f
rest_there P G u g past p n e as' f (or_first (or_first (or_first x))) = or_first x
rest_there P G u g past p n e as' f (or_first (or_first (or_second x))) = or_second (or_first (breaks_fault x))
rest_there P G u g past p n e as' f (or_first (or_second x)) = or_second (or_second (again_here x))
rest_there P G u g past p n e as' f (or_second (or_first x)) = or_second (or_first (later_attribute x))
rest_there P G u g past p n e as' f (or_second (or_second x)) = or_second (or_second (again_later x))

rest_back : (P : Fault → Type 0) (G : Sc) (u : Cn) (g : TagName) (past : List AttributeTree) (p : Place) (n : AttrName) (e : Ex) (as' : Ats) (f : Fault) → Or P (Rest G u g past (attribute p n e as')) f → Or (Past P G u g past p n e) (Rest G u g (past ++ (p, n, e) ∷ []) as') f
rest_back P G u g past p n e as' f (or_first x) = or_first (or_first (or_first x))
rest_back P G u g past p n e as' f (or_second (or_first x)) =
    elim (fault_breaks x) [ inl y ↦ or_first (or_first (or_second y)) | inr y ↦ or_second (or_first y) ]
rest_back P G u g past p n e as' f (or_second (or_second x)) =
    elim (again_either x) [ inl y ↦ or_first (or_second y) | inr y ↦ or_second (or_second y) ]

none_fault : {G : Sc} {u : Cn} {g : TagName} {f : Fault} → AttributeFault G u g no_attributes f → ⊥
none_fault x = elim x [ ]

none_again : {past : List AttributeTree} {f : Fault} → Again past no_attributes f → ⊥
none_again x = elim x [ ]

none_back : (P : Fault → Type 0) (G : Sc) (u : Cn) (g : TagName) (past : List AttributeTree) (f : Fault) → Or P (Rest G u g past no_attributes) f → P f
none_back P G u g past f (or_first x) = x
none_back P G u g past f (or_second (or_first x)) = absurd (none_fault x)
none_back P G u g past f (or_second (or_second x)) = absurd (none_again x)

rest_pick : (P : Fault → Type 0) (bs : List Bool) (G : Sc) (g : TagName) (u : Cn) (past : List AttributeTree) (r : At) (as' : Ats) (js : List Jd) → (has_link (attribute_list as') ≡ true → AreCarriers G.datatypes bs) → AttributesTold G as' js → Picks P r.own →
    Picks (Or P (Rest G u g past as')) (attributes_from bs G g u past r (attribute_list as') js).own
rest_pick P bs G g u past r no_attributes [] m x h =
    picks_as P (Or P (Rest G u g past no_attributes)) r.own (λ f y. or_first y) (none_back P G u g past) h
rest_pick P bs G g u past r no_attributes (j ∷ js) m x h = absurd x
rest_pick P bs G g u past r (attribute p n e as') [] m x h = absurd x
rest_pick P bs G g u past r (attribute p n e as') (j ∷ js) m x h =
    let a : AttributeTree = (p, n, e) in
    let now : At = with_attribute bs G g u past a j.type r in
    picks_as (Or (Past P G u g past p n e) (Rest G u g (past ++ a ∷ []) as')) (Or P (Rest G u g past (attribute p n e as')))
    (attributes_from bs G g u (past ++ a ∷ []) now (attribute_list as') js).own
    (rest_there P G u g past p n e as') (rest_back P G u g past p n e as')
    (rest_pick (Past P G u g past p n e) bs G g u (past ++ a ∷ []) now as' js (λ k. m (or_right (is_link n) (has_link (attribute_list as')) k)) x.1
    (picks_two (Or P (Breaks G u g p n e)) (Second past p n) (first r.own (attribute_told bs G g u a j.type)) (second_told past a)
    (picks_two P (Breaks G u g p n e) r.own (attribute_told bs G g u a j.type) h
    (one_pick bs G u g p n e j.type (λ k. m (link_first (is_link n) (has_link (attribute_list as')) k)) x.0.type))
    (second_pick past p n e)))

-- one that is there stands among them
pub attribute_stands : {n : AttrName} {as' : Ats} → HasAttribute as' n → stands_among n (attribute_list as') ≡ true
attribute_stands (typed.first {n = n} {as' = as'}) = ap (λ b. b || stands_among n (attribute_list as')) (same_self n)
attribute_stands {n} (typed.later {m = m} {as' = as'} x) = or_right (same_name m n) (stands_among n (attribute_list as')) (attribute_stands x)

only_name : {p : Place} {m n : AttrName} {e : Ex} → HasAttribute (attribute p m e no_attributes) n → m ≡ n
only_name typed.first = refl
only_name (typed.later x) = elim x [ ]

last_or : (b c d : Bool) (P : Type 0) → (b || c) ≡ true → (c ≡ true → (d ≡ true) ⊎ P) → ((b || d) ≡ true) ⊎ P
last_or true c d P h f = inl refl
last_or false c d P h f = f h

stands_or : (past : List AttributeTree) (p : Place) (m n : AttrName) (e : Ex) → stands_among n (past ++ (p, m, e) ∷ []) ≡ true → (stands_among n past ≡ true) ⊎ (m ≡ n)
stands_or [] p m n e h = inr (only_name (has_attribute n (attribute p m e no_attributes) h))
stands_or (a ∷ past) p m n e h =
    last_or (same_name a.1 n) (stands_among n (past ++ (p, m, e) ∷ [])) (stands_among n past) (m ≡ n) h (stands_or past p m n e)

-- a second one of a name
data TwiceIn (past : List AttributeTree) (as' : Ats) (f : Fault) : Type 0 where
  twice_here : AttributeTwice as' f → TwiceIn past as' f
  twice_from : (n : AttrName) → stands_among n past ≡ true → SecondAt n as' f → TwiceIn past as' f

past_one : {past : List AttributeTree} {p : Place} {m n : AttrName} {e : Ex} {as' : Ats} {f : Fault} → (stands_among n past ≡ true) ⊎ (m ≡ n) → SecondAt n as' f → TwiceIn past (attribute p m e as') f
past_one {n = n} (inl h) x = twice_from n h (further x)
past_one {as' = as'} {f = f} (inr h) x = twice_here (second_of (subst (λ z. SecondAt z as' f) (sym h) x))

second_in : {past : List AttributeTree} {p : Place} {n : AttrName} {e : Ex} {as' : Ats} {f : Fault} → Second past p n f → TwiceIn past (attribute p n e as') f
second_in {n = n} (is_second h) = twice_from n h here

twice_in : {past : List AttributeTree} {as' : Ats} {f : Fault} → Again past as' f → TwiceIn past as' f
twice_in (again_here x) = second_in x
twice_in (again_later {past = past} {p = p} {n = m} {e = e} x) =
    elim (twice_in x) [ twice_here y ↦ twice_here (later_twice y) | twice_from n h y ↦ past_one (stands_or past p m n e h) y ]

none_past : {as' : Ats} {f : Fault} → TwiceIn [] as' f → AttributeTwice as' f
none_past (twice_here x) = x
none_past (twice_from n h x) = absurd (false_true h)

second_again : {n : AttrName} {as' : Ats} {f : Fault} (past : List AttributeTree) → stands_among n past ≡ true → SecondAt n as' f → Again past as' f
second_again past h here = again_here (is_second h)
second_again {n} past h (further {p = p} {m = m} {e = e} x) =
    again_later (second_again (past ++ (p, m, e) ∷ []) (stands_more n past ((p, m, e) ∷ []) h) x)

twice_again : {as' : Ats} {f : Fault} (past : List AttributeTree) → AttributeTwice as' f → Again past as' f
twice_again past (second_of {p = p} {n = n} {e = e} x) = again_later (second_again (past ++ (p, n, e) ∷ []) (stands_last past p n e) x)
twice_again past (later_twice {p = p} {n = n} {e = e} x) = again_later (twice_again (past ++ (p, n, e) ∷ []) x)

-- all of them
abbrev pub AttributesFault : Sc → Cn → TagName → Ats → Fault → Type 0
AttributesFault G u g as' = Or (AttributeFault G u g as') (AttributeTwice as')

all_there : (G : Sc) (u : Cn) (g : TagName) (as' : Ats) (f : Fault) → Or Never (Rest G u g [] as') f → AttributesFault G u g as' f
all_there G u g as' f (or_first x) = elim x [ ]
all_there G u g as' f (or_second (or_first x)) = or_first x
all_there G u g as' f (or_second (or_second x)) = or_second (none_past (twice_in x))

all_back : (G : Sc) (u : Cn) (g : TagName) (as' : Ats) (f : Fault) → AttributesFault G u g as' f → Or Never (Rest G u g [] as') f
all_back G u g as' f (or_first x) = or_second (or_first x)
all_back G u g as' f (or_second x) = or_second (or_second (twice_again [] x))

pub attributes_pick : (bs : List Bool) (G : Sc) (g : TagName) (u : Cn) (as' : Ats) (js : List Jd) → (has_link (attribute_list as') ≡ true → AreCarriers G.datatypes bs) → AttributesTold G as' js →
    Picks (AttributesFault G u g as') (attributes_found bs G g u (attribute_list as') js).own
attributes_pick bs G g u as' js m x =
    picks_as (Or Never (Rest G u g [] as')) (AttributesFault G u g as') (attributes_found bs G g u (attribute_list as') js).own
    (all_there G u g as') (all_back G u g as') (rest_pick Never bs G g u [] no_attribute_yet as' js m x picks_never)

-- attributes that are found
type_so : (G : Sc) (e : Ex) (v : Cn) (o : Option Cn) → TypeIs G e o → Found G e v → has_type o ≡ true
type_so G e v None h x = absurd (h v x)
type_so G e v (Some t) h x = refl

found_from : (bs : List Bool) (G : Sc) (g : TagName) (u : Cn) (past : List AttributeTree) (r : At) (as' : Ats) (js : List Jd) → AttributesTold G as' js → AttributesFound no_cover G u g as' → r.found ≡ true →
    (attributes_from bs G g u past r (attribute_list as') js).found ≡ true
found_from bs G g u past r no_attributes [] x y h = h
found_from bs G g u past r no_attributes (j ∷ js) x y h = absurd x
found_from bs G g u past r (attribute p n e as') [] x y h = absurd x
found_from bs G g u past r (attribute p n e as') (j ∷ js) x (attribute_found {v = v} a f b l o y) h =
    found_from bs G g u (past ++ (p, n, e) ∷ []) (with_attribute bs G g u past (p, n, e) j.type r) as' js x.1 y
    (both_so r.found (has_type j.type) h (type_so G e v j.type x.0.type f))

pub found_told : (bs : List Bool) (G : Sc) (g : TagName) (u : Cn) (as' : Ats) (js : List Jd) → AttributesTold G as' js → AttributesFound no_cover G u g as' →
    (attributes_found bs G g u (attribute_list as') js).found ≡ true
found_told bs G g u as' js x y = found_from bs G g u [] no_attribute_yet as' js x y refl

pub attributes_given : (G : Sc) (as' : Ats) (js : List Jd) → AttributesTold G as' js → Given no_cover G (attribute_terms as') js
attributes_given G no_attributes [] x = tt
attributes_given G no_attributes (j ∷ js) x = x
attributes_given G (attribute p n e as') [] x = x
attributes_given G (attribute p n e as') (j ∷ js) x = ((λ t k. subst (λ o. TypeIs G e o) k x.0.type), attributes_given G as' js x.1)

-- which break nothing
call_top : {e : Ex} {i n : ℕ} → IsCallOf e i n → CallsTop e
call_top alone = top_alone
call_top (applied x) = top_called

alike_at : {G : Sc} {e : Ex} {t u v : Cn} → Found G e u → Found G e v → Alike t v → Alike t u
alike_at {t = t} x y a = subst (λ z. Alike t z) (one_found y x) a

linked_out : {G : Sc} {p : Place} {n : AttrName} {t v : Cn} {e : Ex} {f : Fault} → NotLinked G p n t e f → Found G e v → Alike t v → IsLinked G n e → ⊥
linked_out (link_calls_none none) x a (as_link c h s) = none (call_top c)
linked_out (action_calls_none none) x a (as_action c h s) = none (call_top c)
linked_out (link_lacks c y none h) x a l = none (alike_at y x a)
linked_out (action_has_all c y none h k m) x a l = none (alike_at y x a)
linked_out (action_lacks c y none h k) x a l = none (alike_at y x a)
linked_out (cannot_travel c y none h k) x a l = none (alike_at y x a)
linked_out (not_carried c y b none) x a l = none l

pub attribute_out : {G : Sc} {u : Cn} {g : TagName} {as' : Ats} {f : Fault} → AttributeFault G u g as' f → AttributesFound no_cover G u g as' → ⊥
attribute_out (no_attribute h) (attribute_found k x a l o y) = no_value h k
attribute_out (attribute_differs {v = v} h z w) (attribute_found k x a l o y) =
    wants_out (subst (λ s. Alike s v) (one_value k h) (alike_at z x a)) w
attribute_out (not_linked h z) (attribute_found {v = v} k x a l o y) = linked_out z x (subst (λ s. Alike s v) (one_value k h) a) l
attribute_out (later_attribute z) (attribute_found k x a l o y) = attribute_out z y

pub twice_out : {G : Sc} {u : Cn} {g : TagName} {as' : Ats} {f : Fault} → AttributeTwice as' f → AttributesFound no_cover G u g as' → ⊥
twice_out (second_of z) (attribute_found k x a l o y) = o (second_there z)
twice_out (later_twice z) (attribute_found k x a l o y) = twice_out z y
