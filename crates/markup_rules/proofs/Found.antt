-- Elements and literals for which a type and no fault is computed are found.
use Rattle.std.proofs.Common.{◌≡◌, Bool, true, false, List, Option, Some, None, refl, ap, sym, ◌∙◌, subst}
use Rattle.con_terms.specs.Trees.{types, units, row_of, Cn}
use Rattle.con_terms.specs.declared.place.Place.{Place}
use Rattle.kind_rules.specs.Kinding.{judged_at}
use Rattle.xml_trees.specs.declared.source_name.TagName.{TagName}
use Rattle.xml_trees.specs.declared.source_name.AttrName.TheVariants as attr
use Rattle.core_terms.specs.Trees.{node, literal, El, tagged, Ats, Xs, no_nodes}
use Rattle.core_terms.specs.Types.{no_types, one_field, xml_of}
use Rattle.core_terms.specs.Lists.{attribute_list, node_list}
use Rattle.core_terms.specs.Markup.{Where, in_body, context_row, Sort, holding, of_words, empty, a_form, an_input, a_button, stands, sort_of}
use Rattle.core_typing.specs.Scopes.{Sc}
use Rattle.core_typing.specs.Cover.{Covers}
use Rattle.core_typing.specs.Asks.{CoverAsked, no_cover}
use Rattle.core_typing.specs.Found.{FoundBy, literal_has, ElementFound, holding_found, words_found, empty_found, form_found, input_found, button_found, AttributesFound}
use Rattle.core_typing.specs.Judged.{HasKind}
use Rattle.core_typing.specs.Faults.{Fault}
use Rattle.told_faults.specs.Computed.{Jd, first, flawed, wants}
use Rattle.markup_rules.specs.Nodes.{Nd, told_of, nodes_found}
use Rattle.markup_rules.specs.Attributes.{At, stands_among, attributes_found}
use Rattle.markup_rules.specs.Standing.{Ar, within_form, no_form, elsewhere, Po, around_of, context_told, stands_by, rows_told, name_told, is_input, field_row}
use Rattle.markup_rules.specs.Content.{words_in, within, nodes_at, content_by}
use Rattle.markup_rules.specs.Elements.{attributes_of, nodes_of, unless_action, action_by, action_told, element_stands, element_rows, element_name, itself, content_found, row_type, silent_type, if_found, element_found, of_element, LinksMarked, literal_nodes, unless_flawed, literal_found}
use Rattle.markup_rules.specs.Laws.{Founds, attribute_terms, node_terms, ElementsAreFound, LiteralsAreFound, MarkupIsFound}
use Rattle.markup_rules.proofs.Basics.{some_none, none_some, some_is, first_parts, alike, kinded, Given, given}
use Rattle.markup_rules.proofs.NodesAre.{nodes_are_found}
use Rattle.markup_rules.proofs.AttributesAre.{has_attribute, attributes_are_found}
use Rattle.markup_rules.proofs.ContentIs.{words_are, if_all, none_filled, held_none, Around, around_form, around_none, stands_there, no_name, Named, named}

-- what is known of an element before its sort is looked at
record Parts (C : CoverAsked) (G : Sc) (g : TagName) (c u : Cn) (as' : Ats) (xs : Xs) (ks : List Jd) : Type 0 where
  place_row : HasKind G c (row_of units)
  filled_row : HasKind G u (row_of types)
  attributes : AttributesFound C G u g as'
  terms : Given C G (node_terms xs) ks

-- <p ..>
is_holding : (C : CoverAsked) (G : Sc) (g : TagName) (w : Where) (c u b : Cn) (as' : Ats) (xs : Xs) (ks : List Jd) (a : Ar) → Parts C G g c u as' xs ks → sort_of g ≡ holding w → Around (stands g) c a →
    (within G u w a (node_list xs) ks).row ≡ Some b → ElementFound C G (tagged g None c u as' xs) (xml_of c u b)
is_holding C G g w c u b as' xs ks within_form x k (around_form m s) h =
    holding_found true k m s x.place_row x.filled_row x.attributes (nodes_are_found C G (context_row w true) u b xs ks x.terms h)
is_holding C G g w c u b as' xs ks no_form x k (around_none m s) h =
    holding_found false k m s x.place_row x.filled_row x.attributes (nodes_are_found C G (context_row w false) u b xs ks x.terms h)
is_holding C G g w c u b as' xs ks elsewhere x k a h = elim a [ ]

-- <title>
is_title : (C : CoverAsked) (G : Sc) (g : TagName) (c u b : Cn) (as' : Ats) (xs : Xs) (ks : List Jd) (a : Ar) → Parts C G g c u as' xs ks → sort_of g ≡ of_words → Around (stands g) c a →
    (words_in G (node_list xs) ks).are_all ≡ true → (within G u (stands g) a (node_list xs) ks).row ≡ Some b → ElementFound C G (tagged g None c u as' xs) (xml_of c u b)
is_title C G g c u b as' xs ks within_form x k (around_form m s) w h =
    words_found true k s x.place_row x.filled_row x.attributes (words_are G xs ks w) (nodes_are_found C G (context_row (stands g) true) u b xs ks x.terms h)
is_title C G g c u b as' xs ks no_form x k (around_none m s) w h =
    words_found false k s x.place_row x.filled_row x.attributes (words_are G xs ks w) (nodes_are_found C G (context_row (stands g) false) u b xs ks x.terms h)
is_title C G g c u b as' xs ks elsewhere x k a w h = elim a [ ]

-- <br/>
is_empty : (C : CoverAsked) (G : Sc) (g : TagName) (c u b : Cn) (as' : Ats) (xs : Xs) (ks : List Jd) (a : Ar) → Parts C G g c u as' xs ks → sort_of g ≡ empty → Around (stands g) c a →
    xs ≡ no_nodes → no_types ≡ b → ElementFound C G (tagged g None c u as' xs) (xml_of c u b)
is_empty C G g c u b as' xs ks within_form x k (around_form m s) n e =
    subst (λ z. ElementFound C G (tagged g None c u as' z) (xml_of c u b)) (sym n)
    (subst (λ z. ElementFound C G (tagged g None c u as' no_nodes) (xml_of c u z)) e
    (empty_found true k s x.place_row x.filled_row x.attributes))
is_empty C G g c u b as' xs ks no_form x k (around_none m s) n e =
    subst (λ z. ElementFound C G (tagged g None c u as' z) (xml_of c u b)) (sym n)
    (subst (λ z. ElementFound C G (tagged g None c u as' no_nodes) (xml_of c u z)) e
    (empty_found false k s x.place_row x.filled_row x.attributes))
is_empty C G g c u b as' xs ks elsewhere x k a n e = elim a [ ]

acts : (p : Place) (b : Bool) → unless_action p b ≡ None → b ≡ true
acts p true h = refl
acts p false h = absurd (some_none h)

row_is : (n : Option (Place × Cn)) (q : Place) (m t b : Cn) → n ≡ Some (q, m) → field_row n t ≡ Some b → one_field m t ≡ b
row_is n q m t b e h = some_is (ap (λ (z : Option (Place × Cn)). field_row z t) (sym e) ∙ h)

-- an element by its sort
by_sort : (C : CoverAsked) (G : Sc) (p : Place) (g : TagName) (n : Option (Place × Cn)) (c u b : Cn) (as' : Ats) (xs : Xs) (ks : List Jd) (s : Sort) → Parts C G g c u as' xs ks → sort_of g ≡ s →
    (stands_by G p c u (stands g) s).told ≡ None → name_told G p (is_input s) n ≡ None → action_by p (attribute_list as') s ≡ None →
    (content_by G n u (stands g) (stands_by G p c u (stands g) s).around (node_list xs) ks s).row ≡ Some b → ElementFound C G (tagged g n c u as' xs) (xml_of c u b)
by_sort C G p g n c u b as' xs ks (holding w) x k st na ac h =
    subst (λ z. ElementFound C G (tagged g z c u as' xs) (xml_of c u b)) (sym (no_name G p n na))
    (is_holding C G g w c u b as' xs ks (around_of (stands g) c) x k (stands_there G p (stands g) c st) h)
by_sort C G p g n c u b as' xs ks of_words x k st na ac h =
    let y = if_all (words_in G (node_list xs) ks).are_all (within G u (stands g) (around_of (stands g) c) (node_list xs) ks).row b h in
    subst (λ z. ElementFound C G (tagged g z c u as' xs) (xml_of c u b)) (sym (no_name G p n na))
    (is_title C G g c u b as' xs ks (around_of (stands g) c) x k (stands_there G p (stands g) c st) y.0 y.1)
by_sort C G p g n c u b as' xs ks empty x k st na ac h =
    let y = held_none G xs ks (Some no_types) b h in
    subst (λ z. ElementFound C G (tagged g z c u as' xs) (xml_of c u b)) (sym (no_name G p n na))
    (is_empty C G g c u b as' xs ks (around_of (stands g) c) x k (stands_there G p (stands g) c st) y.0 (some_is y.1))
by_sort C G p g n c u b as' xs ks a_form x k st na ac h =
    let y = first_parts (context_told G p in_body false c) (wants G p no_types u) st in
    let z = none_filled (nodes_at G no_types in_body true (node_list xs) ks).row b h in
    subst (λ w. ElementFound C G (tagged g w c u as' xs) (xml_of c u b)) (sym (no_name G p n na))
    (subst (λ w. ElementFound C G (tagged g None c u as' xs) (xml_of c u w)) z.1
    (form_found k (alike G p (context_row in_body false) c y.0) (alike G p no_types u y.1) x.place_row x.filled_row x.attributes
    (nodes_are_found C G (context_row in_body true) no_types z.0 xs ks x.terms z.2)))
by_sort C G p g n c u b as' xs ks (an_input t) x k st na ac h =
    let y = held_none G xs ks (field_row n t) b h in
    let z : Named G n = named G p n na in
    subst (λ w. ElementFound C G (tagged g w c u as' xs) (xml_of c u b)) (sym z.is)
    (subst (λ w. ElementFound C G (tagged g (Some (z.place, z.name)) c u as' w) (xml_of c u b)) (sym y.0)
    (subst (λ w. ElementFound C G (tagged g (Some (z.place, z.name)) c u as' no_nodes) (xml_of c u w)) (row_is n z.place z.name t b z.is y.1)
    (input_found k (alike G p (context_row in_body true) c st) x.place_row x.filled_row z.kind x.attributes)))
by_sort C G p g n c u b as' xs ks a_button x k st na ac h =
    let y = held_none G xs ks (Some no_types) b h in
    subst (λ z. ElementFound C G (tagged g z c u as' xs) (xml_of c u b)) (sym (no_name G p n na))
    (subst (λ z. ElementFound C G (tagged g None c u as' z) (xml_of c u b)) (sym y.0)
    (subst (λ z. ElementFound C G (tagged g None c u as' no_nodes) (xml_of c u z)) (some_is y.1)
    (button_found k (alike G p (context_row in_body true) c st) x.place_row x.filled_row x.attributes
    (has_attribute attr.Action as' (acts p (stands_among attr.Action (attribute_list as')) ac)))))

-- the rows of an element and of a literal
pub rows_are : (G : Sc) (p : Place) (c u : Cn) → rows_told G p c u ≡ None → HasKind G c (row_of units) × HasKind G u (row_of types)
rows_are G p c u h =
    let x = first_parts (flawed G p (judged_at G.kinds c (row_of units))) (flawed G p (judged_at G.kinds u (row_of types))) h in
    (kinded G p c (row_of units) x.0, kinded G p u (row_of types) x.1)

record HasRow (c u : Cn) (o : Option Cn) (t : Cn) : Type 0 where
  row : Cn
  is : o ≡ Some row
  type : xml_of c u row ≡ t

by_row : (c u t : Cn) (o : Option Cn) → row_type c u o ≡ Some t → HasRow c u o t
by_row c u t None h = absurd (none_some h)
by_row c u t (Some b) h = record { row = b; is = refl; type = some_is h }

by_silent : (c u t : Cn) (o : Option Cn) (own : Option Fault) → silent_type c u o own ≡ Some t → HasRow c u o t
by_silent c u t o (Some f) h = absurd (none_some h)
by_silent c u t o None h = by_row c u t o h

by_found : (c u t : Cn) (o : Option Cn) (own : Option Fault) (b : Bool) → if_found c u b own o ≡ Some t → (b ≡ true) × HasRow c u o t
by_found c u t o own true h = (refl, by_silent c u t o own h)
by_found c u t o own false h = absurd (none_some h)

-- an element
of_parts : (C : CoverAsked) (bs : List Bool) (G : Sc) (p : Place) (g : TagName) (n : Option (Place × Cn)) (c u t : Cn) (as' : Ats) (xs : Xs) (js ks : List Jd) → LinksMarked bs G (tagged g n c u as' xs) →
    Given C G (attribute_terms as') js → Given C G (node_terms xs) ks → (element_found bs G p (tagged g n c u as' xs) js ks).told ≡ None → (element_found bs G p (tagged g n c u as' xs) js ks).type ≡ Some t →
    ElementFound C G (tagged g n c u as' xs) t
of_parts C bs G p g n c u t as' xs js ks m x y none some =
    let e : El = tagged g n c u as' xs in
    let i : Po = itself G p e in
    let a : At = attributes_found bs G g u (attribute_list as') js in
    let d : Nd = content_found G e i.around ks in
    let own = first_parts i.told (first a.own d.own) none in
    let of_both = first_parts a.own d.own own.1 in
    let selves = first_parts (first (element_stands G p e).told (element_rows G p e)) (first (element_name G p e) (action_told p e)) own.0 in
    let standing = first_parts (element_stands G p e).told (element_rows G p e) selves.0 in
    let names = first_parts (element_name G p e) (action_told p e) selves.1 in
    let rows = rows_are G p c u standing.1 in
    let f = by_found c u t d.row (first i.told (first a.own d.own)) a.found some in
    let whole : Parts C G g c u as' xs ks =
    record { place_row = rows.0; filled_row = rows.1; attributes = attributes_are_found C bs G u g as' js m x f.0 of_both.0; terms = y } in
    subst (λ z. ElementFound C G e z) f.1.type
    (by_sort C G p g n c u f.1.row as' xs ks (sort_of g) whole refl standing.0 names.0 names.1 f.1.is)

of_terms : (C : CoverAsked) (bs : List Bool) (G : Sc) (p : Place) (m : El) (js ks : List Jd) (t : Cn) → Founds C G (attribute_terms (attributes_of m)) js → Founds C G (node_terms (nodes_of m)) ks → LinksMarked bs G m →
    (of_element bs G p m js ks).type ≡ Some t → (of_element bs G p m js ks).told ≡ None → ElementFound C G m t
of_terms C bs G p (tagged g n c u as' xs) js ks t x y m h none =
    let both = first_parts (first (told_of js) (told_of ks)) (element_found bs G p (tagged g n c u as' xs) js ks).told none in
    let terms = first_parts (told_of js) (told_of ks) both.0 in
    of_parts C bs G p g n c u t as' xs js ks m (given C G (attribute_terms as') js None x terms.0) (given C G (node_terms xs) ks None y terms.1) both.1 h

pub elements_are_found : (C : CoverAsked) → ElementsAreFound C
elements_are_found C G p m js ks j t x y e h none =
    of_terms C e.marks G p m js ks t x y e.marked (ap (λ (z : Jd). z.type) (sym e.is) ∙ h) (ap (λ (z : Jd). z.told) (sym e.is) ∙ none)

-- a literal
by_flaw : (G : Sc) (p : Place) (c u t : Cn) (k : Option Fault) (j : Jd) → (unless_flawed k j).type ≡ Some t → (k ≡ None) × (j.type ≡ Some t)
by_flaw G p c u t (Some f) j h = absurd (none_some h)
by_flaw G p c u t None j h = (refl, h)

pub literals_are_found : (C : CoverAsked) → LiteralsAreFound C
literals_are_found C G p a c u xs ks t x h none =
    let both = first_parts (told_of ks) (literal_found G p c u (xs) ks).told none in
    let k = by_flaw G p c u t (rows_told G p c u) (literal_nodes G c u (node_list xs) ks) h in
    let rows = rows_are G p c u k.0 in
    let r : HasRow c u (nodes_found G c u (node_list xs) ks).row t = by_row c u t (nodes_found G c u (node_list xs) ks).row k.1 in
    subst (λ z. FoundBy C G (node p a (literal c u xs)) z) r.type
    (literal_has rows.0 rows.1 (nodes_are_found C G c u r.row xs ks (given C G (node_terms xs) ks None x both.0) r.is))

pub markup_is_found : MarkupIsFound
markup_is_found = (elements_are_found no_cover, elements_are_found Covers, literals_are_found no_cover, literals_are_found Covers)
