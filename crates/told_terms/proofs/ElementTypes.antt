-- The type of an element: what the rule for its sort asks, part by part.
use Rattle.std.proofs.Common.{◌≡◌, Bool, true, false, List, Option, Some, None, refl, ap, sym, ◌∙◌, subst}
use Rattle.con_terms.specs.Trees.{types, units, row_of, Cn}
use Rattle.con_terms.specs.declared.place.Place.{Place}
use Rattle.xml_trees.specs.declared.source_name.TagName.{TagName}
use Rattle.core_terms.specs.Trees.{node, element, El, tagged, Ats, Xs, no_nodes}
use Rattle.core_terms.specs.Types.{no_types, one_field, xml_of}
use Rattle.core_terms.specs.Lists.{attribute_list}
use Rattle.core_terms.specs.Markup.{Where, Sort, holding, of_words, empty, a_form, an_input, a_button, stands, sort_of}
use Rattle.core_typing.specs.Scopes.{Sc}
use Rattle.core_typing.specs.Asks.{no_cover}
use Rattle.core_typing.specs.Typed.{NodesAreWords}
use Rattle.core_typing.specs.Judged.{HasKind}
use Rattle.core_typing.specs.Found.{Found, element_has, ElementFound, holding_found, words_found, empty_found, form_found, input_found, button_found, AttributesFound}
use Rattle.core_typing.specs.Faults.{Fault}
use Rattle.told_faults.specs.Computed.{Jd, first}
use Rattle.told_faults.specs.Told.{TypeIs, Picks, or_first, or_second, Holds}
use Rattle.markup_rules.specs.Nodes.{Nd}
use Rattle.markup_rules.specs.Attributes.{At, attributes_found}
use Rattle.markup_rules.specs.Standing.{Po, is_input, field_row}
use Rattle.markup_rules.specs.Elements.{LinksMarked, action_told, element_stands, element_rows, element_name, itself, content_found, if_found, element_found}
use Rattle.markup_rules.proofs.Basics.{some_is, first_parts}
use Rattle.markup_rules.proofs.AttributesAre.{attributes_are_found}
use Rattle.told_terms.proofs.Wanted.{AttributesTold, NodesTold}
use Rattle.told_terms.proofs.Attributes.{AttributesFault, attribute_out, twice_out, found_told, attributes_given}
use Rattle.told_terms.proofs.Standing.{StandsAs, stands_out, stands_is, rows_are, NamedAs, name_out, name_is, ActsAs, action_out, action_is}
use Rattle.told_terms.proofs.Tests.{true_false}
use Rattle.told_terms.proofs.Literals.{rows_out}
use Rattle.told_terms.proofs.ElementContent.{HoldsAt, holds_at, TitleAt, title_at, ContentAs, words_stand, content_hold, content_out}
use Rattle.told_terms.proofs.ElementFaults.{Parts, parts_pick}

-- what an element is asked, but for what it holds
pub record Asked (G : Sc) (g : TagName) (n : Option (Place × Cn)) (c u : Cn) (as' : Ats) : Type 0 where
  pub context : HasKind G c (row_of units)
  pub uses : HasKind G u (row_of types)
  pub attributes : AttributesFound no_cover G u g as'
  pub standing : StandsAs (stands g) c u (sort_of g)
  pub name : NamedAs G (is_input (sort_of g)) n
  pub action : ActsAs as' (sort_of g)

-- and that
pub record Held (G : Sc) (g : TagName) (n : Option (Place × Cn)) (c u : Cn) (as' : Ats) (xs : Xs) : Type 0 where
  pub asked : Asked G g n c u as'
  pub row : Cn
  pub holds : ContentAs G n (stands g) c u xs (sort_of g) row

asked_at : (G : Sc) (g : TagName) (n : Option (Place × Cn)) (c u : Cn) (as' : Ats) (s : Sort) → sort_of g ≡ s → HasKind G c (row_of units) → HasKind G u (row_of types) → AttributesFound no_cover G u g as' →
    StandsAs (stands g) c u s → NamedAs G (is_input s) n → ActsAs as' s → Asked G g n c u as'
asked_at G g n c u as' s h k l a st na ac = record {
  context = k;
  uses = l;
  attributes = a;
  standing = subst (λ z. StandsAs (stands g) c u z) (sym h) st;
  name = subst (λ z. NamedAs G (is_input z) n) (sym h) na;
  action = subst (λ z. ActsAs as' z) (sym h) ac;
}

held_at : (G : Sc) (g : TagName) (n : Option (Place × Cn)) (c u b : Cn) (as' : Ats) (xs : Xs) (s : Sort) → sort_of g ≡ s → Asked G g n c u as' → ContentAs G n (stands g) c u xs s b → Held G g n c u as' xs
held_at G g n c u b as' xs s h a x = record { asked = a; row = b; holds = subst (λ z. ContentAs G n (stands g) c u xs z b) (sym h) x }

held : {G : Sc} {g : TagName} {n : Option (Place × Cn)} {c u t : Cn} {as' : Ats} {xs : Xs} → ElementFound no_cover G (tagged g n c u as' xs) t → Held G g n c u as' xs
held {G} (holding_found {g = g} {w = w} o {c = c} {u = u} {b = b} {as' = as'} {xs = xs} s m a k l x y) =
    held_at G g None c u b as' xs (holding w) s (asked_at G g None c u as' (holding w) s k l x (o, a) refl tt) (holds_at o m a y)
held {G} (words_found {g = g} o {c = c} {u = u} {b = b} {as' = as'} {xs = xs} s a k l x w y) =
    held_at G g None c u b as' xs of_words s (asked_at G g None c u as' of_words s k l x (o, a) refl tt) (w, title_at o a y)
held {G} (empty_found {g = g} o {c = c} {u = u} {as' = as'} s a k l x) =
    held_at G g None c u no_types as' no_nodes empty s (asked_at G g None c u as' empty s k l x (o, a) refl tt) (refl, refl)
held {G} (form_found {g = g} {c = c} {u = u} {b = b} {as' = as'} {xs = xs} s a d k l x y) =
    held_at G g None c u no_types as' xs a_form s (asked_at G g None c u as' a_form s k l x (a, d) refl tt) (record { inner = b; found = y; none = refl })
held {G} (input_found {g = g} {at = q} {t = t} {n = m} {c = c} {u = u} {as' = as'} s a k l i x) =
    held_at G g (Some (q, m)) c u (one_field m t) as' no_nodes (an_input t) s
    (asked_at G g (Some (q, m)) c u as' (an_input t) s k l x a (record { place = q; name = m; is = refl; kind = i }) tt) (refl, refl)
held {G} (button_found {g = g} {c = c} {u = u} {as' = as'} s a k l x h) =
    held_at G g None c u no_types as' no_nodes a_button s (asked_at G g None c u as' a_button s k l x a refl h) (refl, refl)

-- nothing that is told of an element's parts holds then
attributes_out : {G : Sc} {u : Cn} {g : TagName} {as' : Ats} {f : Fault} → AttributesFound no_cover G u g as' → AttributesFault G u g as' f → ⊥
attributes_out x (or_first y) = attribute_out y x
attributes_out x (or_second y) = twice_out y x

parts_out : (G : Sc) (p : Place) (g : TagName) (n : Option (Place × Cn)) (c u : Cn) (as' : Ats) (xs : Xs) (f : Fault) → Held G g n c u as' xs → Parts G p g n c u as' xs f → ⊥
parts_out G p g n c u as' xs f h (or_first (or_first (or_first x))) = stands_out G p (stands g) c u (sort_of g) f h.asked.standing x
parts_out G p g n c u as' xs f h (or_first (or_first (or_second x))) = rows_out G p c u f x h.asked.context h.asked.uses
parts_out G p g n c u as' xs f h (or_first (or_second (or_first x))) = name_out G p (is_input (sort_of g)) n f h.asked.name x
parts_out G p g n c u as' xs f h (or_first (or_second (or_second x))) = action_out p as' (sort_of g) f h.asked.action x
parts_out G p g n c u as' xs f h (or_second (or_first x)) = attributes_out h.asked.attributes x
parts_out G p g n c u as' xs f h (or_second (or_second x)) = content_out G n (stands g) c u h.row xs (sort_of g) f (words_stand g) h.holds x

-- the rule for a sort
unnamed : (G : Sc) (g : TagName) (n : Option (Place × Cn)) (c u t : Cn) (as' : Ats) (xs : Xs) → n ≡ None → ElementFound no_cover G (tagged g None c u as' xs) t → ElementFound no_cover G (tagged g n c u as' xs) t
unnamed G g n c u t as' xs h x = subst (λ z. ElementFound no_cover G (tagged g z c u as' xs) t) (sym h) x

emptied : (G : Sc) (g : TagName) (n : Option (Place × Cn)) (c u b d : Cn) (as' : Ats) (xs : Xs) → xs ≡ no_nodes → Some d ≡ Some b → ElementFound no_cover G (tagged g n c u as' no_nodes) (xml_of c u d) → ElementFound no_cover G (tagged g n c u as' xs) (xml_of c u b)
emptied G g n c u b d as' xs h k x =
    subst (λ z. ElementFound no_cover G (tagged g n c u as' z) (xml_of c u b)) (sym h)
    (subst (λ z. ElementFound no_cover G (tagged g n c u as' no_nodes) (xml_of c u z)) (some_is k) x)

found_holding : (G : Sc) (g : TagName) (v : Where) (c u b : Cn) (as' : Ats) (xs : Xs) → sort_of g ≡ holding v → HasKind G c (row_of units) → HasKind G u (row_of types) → AttributesFound no_cover G u g as' → HoldsAt G (stands g) v c u xs b →
    ElementFound no_cover G (tagged g None c u as' xs) (xml_of c u b)
found_holding G g v c u b as' xs s k l x (holds_at o m a y) = holding_found o s m a k l x y

found_words : (G : Sc) (g : TagName) (c u b : Cn) (as' : Ats) (xs : Xs) → sort_of g ≡ of_words → HasKind G c (row_of units) → HasKind G u (row_of types) → AttributesFound no_cover G u g as' → NodesAreWords xs → TitleAt G (stands g) c u xs b →
    ElementFound no_cover G (tagged g None c u as' xs) (xml_of c u b)
found_words G g c u b as' xs s k l x w (title_at o a y) = words_found o s a k l x w y

by_sort : (G : Sc) (g : TagName) (n : Option (Place × Cn)) (c u b : Cn) (as' : Ats) (xs : Xs) (s : Sort) → sort_of g ≡ s → HasKind G c (row_of units) → HasKind G u (row_of types) → AttributesFound no_cover G u g as' →
    StandsAs (stands g) c u s → NamedAs G (is_input s) n → ActsAs as' s → ContentAs G n (stands g) c u xs s b → ElementFound no_cover G (tagged g n c u as' xs) (xml_of c u b)
by_sort G g n c u b as' xs (holding v) s k l x st na ac y = unnamed G g n c u (xml_of c u b) as' xs na (found_holding G g v c u b as' xs s k l x y)
by_sort G g n c u b as' xs of_words s k l x st na ac y = unnamed G g n c u (xml_of c u b) as' xs na (found_words G g c u b as' xs s k l x y.0 y.1)
by_sort G g n c u b as' xs empty s k l x st na ac y =
    unnamed G g n c u (xml_of c u b) as' xs na (emptied G g None c u b no_types as' xs y.0 y.1 (empty_found st.0 s st.1 k l x))
by_sort G g n c u b as' xs a_form s k l x st na ac y =
    unnamed G g n c u (xml_of c u b) as' xs na
    (subst (λ z. ElementFound no_cover G (tagged g None c u as' xs) (xml_of c u z)) (some_is y.none) (form_found s st.0 st.1 k l x y.found))
by_sort G g n c u b as' xs (an_input t) s k l x st na ac y =
    subst (λ z. ElementFound no_cover G (tagged g z c u as' xs) (xml_of c u b)) (sym na.is)
    (emptied G g (Some (na.place, na.name)) c u b (one_field na.name t) as' xs y.0 (ap (λ (z : Option (Place × Cn)). field_row z t) (sym na.is) ∙ y.1)
    (input_found s st k l na.kind x))
by_sort G g n c u b as' xs a_button s k l x st na ac y =
    unnamed G g n c u (xml_of c u b) as' xs na (emptied G g None c u b no_types as' xs y.0 y.1 (button_found s st k l x ac))

-- where nothing is told
asked : (bs : List Bool) (G : Sc) (p : Place) (g : TagName) (n : Option (Place × Cn)) (c u : Cn) (as' : Ats) (xs : Xs) (js ks : List Jd) → LinksMarked bs G (tagged g n c u as' xs) → AttributesTold G as' js →
    (attributes_found bs G g u (attribute_list as') js).found ≡ true → (element_found bs G p (tagged g n c u as' xs) js ks).told ≡ None → Asked G g n c u as'
asked bs G p g n c u as' xs js ks m x f none =
    let e : El = tagged g n c u as' xs in
    let i : Po = itself G p e in
    let a : At = attributes_found bs G g u (attribute_list as') js in
    let d : Nd = content_found G e i.around ks in
    let own = first_parts i.told (first a.own d.own) none in
    let of_both = first_parts a.own d.own own.1 in
    let selves = first_parts (first (element_stands G p e).told (element_rows G p e)) (first (element_name G p e) (action_told p e)) own.0 in
    let standing = first_parts (element_stands G p e).told (element_rows G p e) selves.0 in
    let names = first_parts (element_name G p e) (action_told p e) selves.1 in
    let rows = rows_are G p c u standing.1 in
    record {
      context = rows.0;
      uses = rows.1;
      attributes = attributes_are_found no_cover bs G u g as' js m (attributes_given G as' js x) f of_both.0;
      standing = stands_is G p (stands g) c u (sort_of g) standing.0;
      name = name_is G p (is_input (sort_of g)) n names.0;
      action = action_is p as' (sort_of g) names.1;
    }

inner : {G : Sc} {p : Place} {a : Bool} {m : El} {t : Cn} → Found G (node p a (element m)) t → ElementFound no_cover G m t
inner (element_has x) = x

type_by : (G : Sc) (p : Place) (a : Bool) (g : TagName) (n : Option (Place × Cn)) (c u : Cn) (as' : Ats) (xs : Xs) (b : Bool) (own : Option Fault) (row : Option Cn) → (AttributesFound no_cover G u g as' → b ≡ true) → Picks (Parts G p g n c u as' xs) own →
    Holds (ContentAs G n (stands g) c u xs (sort_of g)) row → (b ≡ true → own ≡ None → Asked G g n c u as') → TypeIs G (node p a (element (tagged g n c u as' xs))) (if_found c u b own row)
type_by G p a g n c u as' xs false own row found picks h k = λ t x. true_false (found (held (inner x)).asked.attributes) refl
type_by G p a g n c u as' xs true (Some f) row found picks h k = λ t x. parts_out G p g n c u as' xs f (held (inner x)) picks.0
type_by G p a g n c u as' xs true None None found picks h k = λ t x. let y = held (inner x) in h y.row y.holds
type_by G p a g n c u as' xs true None (Some d) found picks h k =
    let y = k refl refl in
    element_has (by_sort G g n c u d as' xs (sort_of g) refl y.context y.uses y.attributes y.standing y.name y.action h)

-- the type of an element
pub element_type : (bs : List Bool) (G : Sc) (p : Place) (a : Bool) (g : TagName) (n : Option (Place × Cn)) (c u : Cn) (as' : Ats) (xs : Xs) (js ks : List Jd) → LinksMarked bs G (tagged g n c u as' xs) → AttributesTold G as' js → NodesTold G xs ks →
    TypeIs G (node p a (element (tagged g n c u as' xs))) (element_found bs G p (tagged g n c u as' xs) js ks).type
element_type bs G p a g n c u as' xs js ks m x y =
    let e : El = tagged g n c u as' xs in
    type_by G p a g n c u as' xs (attributes_found bs G g u (attribute_list as') js).found (element_found bs G p e js ks).told (content_found G e (itself G p e).around ks).row
    (λ z. found_told bs G g u as' js x z)
    (parts_pick bs G p g n c u as' xs js ks m x y)
    (content_hold G p n (stands g) c u xs ks (sort_of g) (words_stand g) y)
    (λ f o. asked bs G p g n c u as' xs js ks m x f o)
