-- What an element breaks, part by part: where it stands, its rows, its field's name, its action, its attributes and
-- what it holds.
use Rattle.std.proofs.Common.{◌≡◌, Bool, true, false, List, Option, Some, None, refl, sym, subst}
use Rattle.con_terms.specs.Trees.{names, Cn, unit_con}
use Rattle.con_terms.specs.declared.place.Place.{Place}
use Rattle.xml_trees.specs.declared.source_name.TagName.{TagName}
use Rattle.core_terms.specs.Trees.{El, tagged, Ats, Xs}
use Rattle.core_terms.specs.Types.{no_types, one_field}
use Rattle.core_terms.specs.Lists.{attribute_list}
use Rattle.core_terms.specs.Markup.{Where, Sort, holding, of_words, empty, a_form, an_input, a_button, stands, sort_of}
use Rattle.core_typing.specs.Scopes.{Sc}
use Rattle.core_typing.specs.Judged.{LacksKind}
use Rattle.core_typing.specs.Faults.{Fault, unbound, an_input_name, mismatch, too_large, link_not_call}
use Rattle.core_typing.specs.Own.{StandsEitherWay, ElementFault, stands_elsewhere, form_in_form, input_outside, button_outside, form_filled_before, context_kind, uses_kind, in_attributes, same_attribute, no_name, name_kind_of, name_on_other, large_on_other, holds_nothing, input_holds_nothing, button_holds_nothing, no_words, large_words, in_nodes, in_title, in_form_nodes, no_action}
use Rattle.core_typing.proofs.DecidedElements.{either_way, no_input}
use Rattle.told_faults.specs.Computed.{Jd, first}
use Rattle.told_faults.specs.Told.{Picks, Or, or_first, or_second, Never, just}
use Rattle.told_faults.proofs.Verdict.{picks_as, picks_two}
use Rattle.markup_rules.specs.Nodes.{Nd}
use Rattle.markup_rules.specs.Attributes.{At, attributes_found}
use Rattle.markup_rules.specs.Standing.{Po, is_input}
use Rattle.markup_rules.specs.Elements.{LinksMarked, action_told, element_stands, element_rows, element_name, itself, content_found, element_found}
use Rattle.told_terms.proofs.Wanted.{AttributesTold, NodesTold}
use Rattle.told_terms.proofs.Attributes.{AttributesFault, attributes_pick}
use Rattle.told_terms.proofs.Standing.{Elsewhere, is_elsewhere, StandsFault, stands_pick, OtherName, other_is, other_large, NameFault, name_pick, NoAction, acts_not, ActionFault, action_pick}
use Rattle.told_terms.proofs.Literals.{RowFault, rows_pick}
use Rattle.told_terms.proofs.Words.{NoWords, other_word, large_word}
use Rattle.told_terms.proofs.Content.{Held, held_first}
use Rattle.told_terms.proofs.ElementContent.{Within, is_within, InTitle, is_in_title, ContentFault, words_stand, content_pick}

-- of the element itself
abbrev pub Itself : Sc → Place → TagName → Option (Place × Cn) → Cn → Cn → Ats → Fault → Type 0
Itself G p g n c u as' =
    Or (Or (StandsFault G p (stands g) c u (sort_of g)) (RowFault G p c u)) (Or (NameFault G p (is_input (sort_of g)) n) (ActionFault p as' (sort_of g)))

-- with its attributes and what it holds
abbrev pub Parts : Sc → Place → TagName → Option (Place × Cn) → Cn → Cn → Ats → Xs → Fault → Type 0
Parts G p g n c u as' xs = Or (Itself G p g n c u as') (Or (AttributesFault G u g as') (ContentFault G (stands g) c u xs (sort_of g)))

-- there
elsewhere_at : (G : Sc) (p : Place) (w : Where) (c u : Cn) (s : Sort) (f : Fault) → StandsEitherWay s → Elsewhere G p w c f → StandsFault G p w c u s f
elsewhere_at G p w c u (holding v) f h x = x
elsewhere_at G p w c u of_words f h x = x
elsewhere_at G p w c u empty f h x = x
elsewhere_at G p w c u a_form f h x = absurd h
elsewhere_at G p w c u (an_input t) f h x = absurd h
elsewhere_at G p w c u a_button f h x = absurd h

kind_named : (G : Sc) (p q : Place) (n : Cn) (b : Bool) (f : Fault) → LacksKind G q n names f → NameFault G p b (Some (q, n)) f
kind_named G p q n true f x = x
kind_named G p q n false f x = or_first x

other_named : (G : Sc) (p q : Place) (n : Cn) (s : Sort) (f : Fault) → ((t : Cn) → s ≡ an_input t → ⊥) → OtherName G q n f → NameFault G p (is_input s) (Some (q, n)) f
other_named G p q n (holding v) f h x = or_second x
other_named G p q n of_words f h x = or_second x
other_named G p q n empty f h x = or_second x
other_named G p q n a_form f h x = or_second x
other_named G p q n (an_input t) f h x = absurd (h t refl)
other_named G p q n a_button f h x = or_second x

stands_at : (G : Sc) (p : Place) (g : TagName) (c u : Cn) (s : Sort) (f : Fault) → sort_of g ≡ s → StandsFault G p (stands g) c u s f → StandsFault G p (stands g) c u (sort_of g) f
stands_at G p g c u s f h x = subst (λ z. StandsFault G p (stands g) c u z f) (sym h) x

content_at : (G : Sc) (g : TagName) (c u : Cn) (xs : Xs) (s : Sort) (f : Fault) → sort_of g ≡ s → ContentFault G (stands g) c u xs s f → ContentFault G (stands g) c u xs (sort_of g) f
content_at G g c u xs s f h x = subst (λ z. ContentFault G (stands g) c u xs z f) (sym h) x

element_parts : (G : Sc) (p : Place) (g : TagName) (n : Option (Place × Cn)) (c u : Cn) (as' : Ats) (xs : Xs) (f : Fault) → ElementFault G p (tagged g n c u as' xs) f → Parts G p g n c u as' xs f
element_parts G p g n c u as' xs f (stands_elsewhere z none w) = or_first (or_first (or_first (elsewhere_at G p (stands g) c u (sort_of g) f z (is_elsewhere none w))))
element_parts G p g n c u as' xs f (form_in_form s w) = or_first (or_first (or_first (stands_at G p g c u a_form f s (or_first w))))
element_parts G p g n c u as' xs f (input_outside {t = t} s w) = or_first (or_first (or_first (stands_at G p g c u (an_input t) f s w)))
element_parts G p g n c u as' xs f (button_outside s w) = or_first (or_first (or_first (stands_at G p g c u a_button f s w)))
element_parts G p g n c u as' xs f (form_filled_before s w) = or_first (or_first (or_first (stands_at G p g c u a_form f s (or_second w))))
element_parts G p g n c u as' xs f (context_kind x) = or_first (or_first (or_second (or_first x)))
element_parts G p g n c u as' xs f (uses_kind x) = or_first (or_first (or_second (or_second x)))
element_parts G p g n c u as' xs f (in_attributes x) = or_second (or_first (or_first x))
element_parts G p g n c u as' xs f (same_attribute x) = or_second (or_first (or_second x))
element_parts G p g n c u as' xs f (no_name s) =
    or_first (or_second (or_first (subst (λ z. NameFault G p (is_input z) None (unbound p an_input_name)) (sym s) just)))
element_parts G p g n c u as' xs f (name_kind_of {at = q} {n = m} x) = or_first (or_second (or_first (kind_named G p q m (is_input (sort_of g)) f x)))
element_parts G p g n c u as' xs f (name_on_other {at = q} {n = m} {m = k} h x e) =
    or_first (or_second (or_first (other_named G p q m (sort_of g) (mismatch q G.called no_types (one_field k unit_con)) h (other_is x e))))
element_parts G p g n c u as' xs f (large_on_other {at = q} {n = m} h x e) =
    or_first (or_second (or_first (other_named G p q m (sort_of g) (too_large q) h (other_large x e))))
element_parts G p g n c u as' xs f (holds_nothing s x y) = or_second (or_second (content_at G g c u xs empty f s (held_first x y)))
element_parts G p g n c u as' xs f (input_holds_nothing {v = t} s x y) = or_second (or_second (content_at G g c u xs (an_input t) f s (held_first x y)))
element_parts G p g n c u as' xs f (button_holds_nothing s x y) = or_second (or_second (content_at G g c u xs a_button f s (held_first x y)))
element_parts G p g n c u as' xs f (no_words s x y h) = or_second (or_second (content_at G g c u xs of_words f s (or_first (other_word x y h))))
element_parts G p g n c u as' xs f (large_words s x y h) = or_second (or_second (content_at G g c u xs of_words f s (or_first (large_word x y h))))
element_parts G p g n c u as' xs f (in_nodes {w = v} o s m a y) = or_second (or_second (content_at G g c u xs (holding v) f s (is_within o m a y)))
element_parts G p g n c u as' xs f (in_title o s a y) = or_second (or_second (content_at G g c u xs of_words f s (or_second (is_in_title o a y))))
element_parts G p g n c u as' xs f (in_form_nodes s y) = or_second (or_second (content_at G g c u xs a_form f s y))
element_parts G p g n c u as' xs f (no_action s h) =
    or_first (or_second (or_second (subst (λ z. ActionFault p as' z (link_not_call p)) (sym s) (acts_not h))))

-- and back
never : {X : Type 0} {f : Fault} → Never f → X
never x = elim x [ ]

elsewhere_back : {G : Sc} {p : Place} {g : TagName} {n : Option (Place × Cn)} {c u : Cn} {as' : Ats} {xs : Xs} {f : Fault} → StandsEitherWay (sort_of g) → Elsewhere G p (stands g) c f → ElementFault G p (tagged g n c u as' xs) f
elsewhere_back h (is_elsewhere none w) = stands_elsewhere h none w

stands_back : (G : Sc) (p : Place) (g : TagName) (n : Option (Place × Cn)) (c u : Cn) (as' : Ats) (xs : Xs) (f : Fault) (s : Sort) → sort_of g ≡ s → StandsFault G p (stands g) c u s f → ElementFault G p (tagged g n c u as' xs) f
stands_back G p g n c u as' xs f (holding v) h x = elsewhere_back (either_way h tt) x
stands_back G p g n c u as' xs f of_words h x = elsewhere_back (either_way h tt) x
stands_back G p g n c u as' xs f empty h x = elsewhere_back (either_way h tt) x
stands_back G p g n c u as' xs f a_form h (or_first x) = form_in_form h x
stands_back G p g n c u as' xs f a_form h (or_second x) = form_filled_before h x
stands_back G p g n c u as' xs f (an_input t) h x = input_outside h x
stands_back G p g n c u as' xs f a_button h x = button_outside h x

rows_back : (G : Sc) (p : Place) (g : TagName) (n : Option (Place × Cn)) (c u : Cn) (as' : Ats) (xs : Xs) (f : Fault) → RowFault G p c u f → ElementFault G p (tagged g n c u as' xs) f
rows_back G p g n c u as' xs f (or_first x) = context_kind x
rows_back G p g n c u as' xs f (or_second x) = uses_kind x

other_back : {G : Sc} {p q : Place} {g : TagName} {m c u : Cn} {as' : Ats} {xs : Xs} {f : Fault} → ((t : Cn) → sort_of g ≡ an_input t → ⊥) → OtherName G q m f → ElementFault G p (tagged g (Some (q, m)) c u as' xs) f
other_back h (other_is k e) = name_on_other h k e
other_back h (other_large k e) = large_on_other h k e

named_back : (G : Sc) (p : Place) (g : TagName) (n : Option (Place × Cn)) (c u : Cn) (as' : Ats) (xs : Xs) (f : Fault) → ((t : Cn) → sort_of g ≡ an_input t → ⊥) → NameFault G p false n f → ElementFault G p (tagged g n c u as' xs) f
named_back G p g None c u as' xs f h x = never x
named_back G p g (Some (q, m)) c u as' xs f h (or_first x) = name_kind_of x
named_back G p g (Some (q, m)) c u as' xs f h (or_second x) = other_back h x

input_back : (G : Sc) (p : Place) (g : TagName) (n : Option (Place × Cn)) (t c u : Cn) (as' : Ats) (xs : Xs) (f : Fault) → sort_of g ≡ an_input t → NameFault G p true n f → ElementFault G p (tagged g n c u as' xs) f
input_back G p g None t c u as' xs f h just = no_name h
input_back G p g (Some (q, m)) t c u as' xs f h x = name_kind_of x

name_back : (G : Sc) (p : Place) (g : TagName) (n : Option (Place × Cn)) (c u : Cn) (as' : Ats) (xs : Xs) (f : Fault) (s : Sort) → sort_of g ≡ s → NameFault G p (is_input s) n f → ElementFault G p (tagged g n c u as' xs) f
name_back G p g n c u as' xs f (holding v) h x = named_back G p g n c u as' xs f (no_input h tt) x
name_back G p g n c u as' xs f of_words h x = named_back G p g n c u as' xs f (no_input h tt) x
name_back G p g n c u as' xs f empty h x = named_back G p g n c u as' xs f (no_input h tt) x
name_back G p g n c u as' xs f a_form h x = named_back G p g n c u as' xs f (no_input h tt) x
name_back G p g n c u as' xs f (an_input t) h x = input_back G p g n t c u as' xs f h x
name_back G p g n c u as' xs f a_button h x = named_back G p g n c u as' xs f (no_input h tt) x

unacted : {G : Sc} {p : Place} {g : TagName} {n : Option (Place × Cn)} {c u : Cn} {as' : Ats} {xs : Xs} {f : Fault} → sort_of g ≡ a_button → NoAction p as' f → ElementFault G p (tagged g n c u as' xs) f
unacted h (acts_not x) = no_action h x

action_back : (G : Sc) (p : Place) (g : TagName) (n : Option (Place × Cn)) (c u : Cn) (as' : Ats) (xs : Xs) (f : Fault) (s : Sort) → sort_of g ≡ s → ActionFault p as' s f → ElementFault G p (tagged g n c u as' xs) f
action_back G p g n c u as' xs f (holding v) h x = never x
action_back G p g n c u as' xs f of_words h x = never x
action_back G p g n c u as' xs f empty h x = never x
action_back G p g n c u as' xs f a_form h x = never x
action_back G p g n c u as' xs f (an_input t) h x = never x
action_back G p g n c u as' xs f a_button h x = unacted h x

within_back : {G : Sc} {p : Place} {g : TagName} {n : Option (Place × Cn)} {v : Where} {c u : Cn} {as' : Ats} {xs : Xs} {f : Fault} → sort_of g ≡ holding v → Within G (stands g) v c u xs f → ElementFault G p (tagged g n c u as' xs) f
within_back h (is_within o m a y) = in_nodes o h m a y

words_back : {G : Sc} {p : Place} {g : TagName} {n : Option (Place × Cn)} {c u : Cn} {as' : Ats} {xs : Xs} {f : Fault} → sort_of g ≡ of_words → NoWords G xs f → ElementFault G p (tagged g n c u as' xs) f
words_back h (other_word x y e) = no_words h x y e
words_back h (large_word x y e) = large_words h x y e

title_back : {G : Sc} {p : Place} {g : TagName} {n : Option (Place × Cn)} {c u : Cn} {as' : Ats} {xs : Xs} {f : Fault} → sort_of g ≡ of_words → InTitle G (stands g) c u xs f → ElementFault G p (tagged g n c u as' xs) f
title_back h (is_in_title o a y) = in_title o h a y

empty_back : {G : Sc} {p : Place} {g : TagName} {n : Option (Place × Cn)} {c u : Cn} {as' : Ats} {xs : Xs} {f : Fault} → sort_of g ≡ empty → Held G xs f → ElementFault G p (tagged g n c u as' xs) f
empty_back h (held_first x y) = holds_nothing h x y

input_held : {G : Sc} {p : Place} {g : TagName} {n : Option (Place × Cn)} {t c u : Cn} {as' : Ats} {xs : Xs} {f : Fault} → sort_of g ≡ an_input t → Held G xs f → ElementFault G p (tagged g n c u as' xs) f
input_held h (held_first x y) = input_holds_nothing h x y

button_held : {G : Sc} {p : Place} {g : TagName} {n : Option (Place × Cn)} {c u : Cn} {as' : Ats} {xs : Xs} {f : Fault} → sort_of g ≡ a_button → Held G xs f → ElementFault G p (tagged g n c u as' xs) f
button_held h (held_first x y) = button_holds_nothing h x y

content_back : (G : Sc) (p : Place) (g : TagName) (n : Option (Place × Cn)) (c u : Cn) (as' : Ats) (xs : Xs) (f : Fault) (s : Sort) → sort_of g ≡ s → ContentFault G (stands g) c u xs s f → ElementFault G p (tagged g n c u as' xs) f
content_back G p g n c u as' xs f (holding v) h x = within_back h x
content_back G p g n c u as' xs f of_words h (or_first x) = words_back h x
content_back G p g n c u as' xs f of_words h (or_second x) = title_back h x
content_back G p g n c u as' xs f empty h x = empty_back h x
content_back G p g n c u as' xs f a_form h x = in_form_nodes h x
content_back G p g n c u as' xs f (an_input t) h x = input_held h x
content_back G p g n c u as' xs f a_button h x = button_held h x

parts_element : (G : Sc) (p : Place) (g : TagName) (n : Option (Place × Cn)) (c u : Cn) (as' : Ats) (xs : Xs) (f : Fault) → Parts G p g n c u as' xs f → ElementFault G p (tagged g n c u as' xs) f
parts_element G p g n c u as' xs f (or_first (or_first (or_first x))) = stands_back G p g n c u as' xs f (sort_of g) refl x
parts_element G p g n c u as' xs f (or_first (or_first (or_second x))) = rows_back G p g n c u as' xs f x
parts_element G p g n c u as' xs f (or_first (or_second (or_first x))) = name_back G p g n c u as' xs f (sort_of g) refl x
parts_element G p g n c u as' xs f (or_first (or_second (or_second x))) = action_back G p g n c u as' xs f (sort_of g) refl x
parts_element G p g n c u as' xs f (or_second (or_first (or_first x))) = in_attributes x
parts_element G p g n c u as' xs f (or_second (or_first (or_second x))) = same_attribute x
parts_element G p g n c u as' xs f (or_second (or_second x)) = content_back G p g n c u as' xs f (sort_of g) refl x

-- what is told of the parts
pub parts_pick : (bs : List Bool) (G : Sc) (p : Place) (g : TagName) (n : Option (Place × Cn)) (c u : Cn) (as' : Ats) (xs : Xs) (js ks : List Jd) → LinksMarked bs G (tagged g n c u as' xs) → AttributesTold G as' js → NodesTold G xs ks →
    Picks (Parts G p g n c u as' xs) (element_found bs G p (tagged g n c u as' xs) js ks).told
parts_pick bs G p g n c u as' xs js ks m x y =
    let e : El = tagged g n c u as' xs in
    let i : Po = itself G p e in
    let a : At = attributes_found bs G g u (attribute_list as') js in
    let d : Nd = content_found G e i.around ks in
    picks_two (Itself G p g n c u as') (Or (AttributesFault G u g as') (ContentFault G (stands g) c u xs (sort_of g))) i.told (first a.own d.own)
    (picks_two (Or (StandsFault G p (stands g) c u (sort_of g)) (RowFault G p c u)) (Or (NameFault G p (is_input (sort_of g)) n) (ActionFault p as' (sort_of g)))
    (first (element_stands G p e).told (element_rows G p e)) (first (element_name G p e) (action_told p e))
    (picks_two (StandsFault G p (stands g) c u (sort_of g)) (RowFault G p c u) (element_stands G p e).told (element_rows G p e)
    (stands_pick G p (stands g) c u (sort_of g)) (rows_pick G p c u))
    (picks_two (NameFault G p (is_input (sort_of g)) n) (ActionFault p as' (sort_of g)) (element_name G p e) (action_told p e)
    (name_pick G p (is_input (sort_of g)) n) (action_pick p as' (sort_of g))))
    (picks_two (AttributesFault G u g as') (ContentFault G (stands g) c u xs (sort_of g)) a.own d.own
    (attributes_pick bs G g u as' js m x)
    (content_pick G p n (stands g) c u xs ks (sort_of g) (words_stand g) y))

-- and of the element
pub element_pick : (bs : List Bool) (G : Sc) (p : Place) (g : TagName) (n : Option (Place × Cn)) (c u : Cn) (as' : Ats) (xs : Xs) (js ks : List Jd) → LinksMarked bs G (tagged g n c u as' xs) → AttributesTold G as' js → NodesTold G xs ks →
    Picks (ElementFault G p (tagged g n c u as' xs)) (element_found bs G p (tagged g n c u as' xs) js ks).told
element_pick bs G p g n c u as' xs js ks m x y =
    picks_as (Parts G p g n c u as' xs) (ElementFault G p (tagged g n c u as' xs)) (element_found bs G p (tagged g n c u as' xs) js ks).told
    (parts_element G p g n c u as' xs) (element_parts G p g n c u as' xs) (parts_pick bs G p g n c u as' xs js ks m x y)
