-- Attributes of which nothing is told are found.
use Rattle.std.proofs.Common.{◌≡◌, Bool, true, false, ◌||◌, List, [], ◌∷◌, ◌++◌, Option, Some, None, refl, ap, subst}
use Rattle.std.proofs.lemmas.Bool.{or_left as link_first}
use Rattle.con_terms.specs.Trees.{Cn}
use Rattle.con_terms.specs.declared.place.Place.{Place}
use Rattle.xml_trees.specs.declared.source_name.TagName.{TagName}
use Rattle.xml_trees.specs.declared.source_name.AttrName.{AttrName}
use Rattle.xml_trees.specs.declared.source_name.AttrName.TheVariants as attr
use Rattle.core_terms.specs.Trees.{Ex, Ats, no_attributes, attribute}
use Rattle.core_terms.specs.Lists.{attribute_list}
use Rattle.core_terms.specs.Markup.{attribute_type}
use Rattle.core_terms.specs.View.{AttributeTree}
use Rattle.core_typing.specs.Scopes.{Sc}
use Rattle.core_typing.specs.Own.{place_of}
use Rattle.core_typing.specs.Asks.{CoverAsked}
use Rattle.core_typing.specs.Found.{FoundBy, AttributesFound, no_attribute_found, attribute_found}
use Rattle.core_typing.specs.Typed.{IsLinked, HasAttribute, first as first_one, later}
use Rattle.core_typing.specs.Compared.{Alike}
use Rattle.told_faults.specs.Computed.{Jd, first}
use Rattle.carried_types.specs.Carriers.{AreCarriers}
use Rattle.markup_rules.specs.Attributes.{same_name, stands_among, link_told, link_of, other_told, typed_told, told_at, attribute_told, twice_told, second_told, At, has_type, with_attribute, attributes_from, attributes_found, no_attribute_yet, is_link, has_link}
use Rattle.markup_rules.specs.Laws.{attribute_terms}
use Rattle.markup_rules.proofs.Basics.{some_none, false_true, and_left, and_right, or_right, first_parts, alike, Given}
use Rattle.markup_rules.proofs.LinksAre.{link_is}

-- names
pub same_self : (n : AttrName) → same_name n n ≡ true
same_self attr.Title = refl
same_self attr.Link = refl
same_self attr.Href = refl
same_self attr.Src = refl
same_self attr.Alt = refl
same_self attr.Border = refl
same_self attr.Value = refl
same_self attr.Size = refl
same_self attr.Action = refl

same_is : (m n : AttrName) → same_name m n ≡ true → m ≡ n
same_is attr.Title attr.Title h = refl
same_is attr.Link attr.Link h = refl
same_is attr.Href attr.Href h = refl
same_is attr.Src attr.Src h = refl
same_is attr.Alt attr.Alt h = refl
same_is attr.Border attr.Border h = refl
same_is attr.Value attr.Value h = refl
same_is attr.Size attr.Size h = refl
same_is attr.Action attr.Action h = refl
same_is _ _ h = absurd (false_true h)

by_name : (p : Place) (m n : AttrName) (e : Ex) (as' : Ats) (b : Bool) → same_name m n ≡ b → (b || stands_among n (attribute_list as')) ≡ true → (stands_among n (attribute_list as') ≡ true → HasAttribute as' n) → HasAttribute (attribute p m e as') n
by_name p m n e as' true k h x = subst (λ z. HasAttribute (attribute p m e as') z) (same_is m n k) first_one
by_name p m n e as' false k h x = later (x h)

pub has_attribute : (n : AttrName) (as' : Ats) → stands_among n (attribute_list as') ≡ true → HasAttribute as' n
has_attribute n no_attributes h = absurd (false_true h)
has_attribute n (attribute p m e as') h = by_name p m n e as' (same_name m n) refl h (has_attribute n as')

-- the last of some stands among them, and one of the first some among more
pub stands_last : (past : List AttributeTree) (p : Place) (n : AttrName) (e : Ex) → stands_among n (past ++ (p, n, e) ∷ []) ≡ true
stands_last [] p n e = ap (λ b. b || false) (same_self n)
stands_last (a ∷ past) p n e = or_right (same_name a.1 n) (stands_among n (past ++ (p, n, e) ∷ [])) (stands_last past p n e)

or_more : (b c d : Bool) → (b || c) ≡ true → (c ≡ true → d ≡ true) → (b || d) ≡ true
or_more true c d h x = refl
or_more false c d h x = x h

pub stands_more : (n : AttrName) (past more : List AttributeTree) → stands_among n past ≡ true → stands_among n (past ++ more) ≡ true
stands_more n [] more h = absurd (false_true h)
stands_more n (a ∷ past) more h = or_more (same_name a.1 n) (stands_among n past) (stands_among n (past ++ more)) h (stands_more n past more)

-- what is told of some is told of those before them
before_silent : (bs : List Bool) (G : Sc) (g : TagName) (u : Cn) (past : List AttributeTree) (r : At) (xs : List AttributeTree) (js : List Jd) → (attributes_from bs G g u past r xs js).own ≡ None → r.own ≡ None
before_silent bs G g u past r [] js h = h
before_silent bs G g u past r (a ∷ xs) [] h = h
before_silent bs G g u past r (a ∷ xs) (j ∷ js) h =
    let n = before_silent bs G g u (past ++ a ∷ []) (with_attribute bs G g u past a j.type r) xs js h in
    (first_parts r.own (attribute_told bs G g u a j.type) (first_parts (first r.own (attribute_told bs G g u a j.type)) (second_told past a) n).0).0

before_found : (bs : List Bool) (G : Sc) (g : TagName) (u : Cn) (past : List AttributeTree) (r : At) (xs : List AttributeTree) (js : List Jd) → (attributes_from bs G g u past r xs js).found ≡ true → r.found ≡ true
before_found bs G g u past r [] js h = h
before_found bs G g u past r (a ∷ xs) [] h = absurd (false_true h)
before_found bs G g u past r (a ∷ xs) (j ∷ js) h =
    and_left r.found (has_type j.type) (before_found bs G g u (past ++ a ∷ []) (with_attribute bs G g u past a j.type r) xs js h)

-- none has the name of one that stands before it
twice_silent : (a : AttributeTree) (b : Bool) → twice_told a b ≡ None → b ≡ true → ⊥
twice_silent a true h k = some_none h
twice_silent a false h k = false_true k

not_again : (bs : List Bool) (G : Sc) (g : TagName) (u : Cn) (n : AttrName) (past : List AttributeTree) (r : At) (as' : Ats) (js : List Jd) → stands_among n past ≡ true → (attributes_from bs G g u past r (attribute_list as') js).own ≡ None →
    (attributes_from bs G g u past r (attribute_list as') js).found ≡ true → HasAttribute as' n → ⊥
not_again bs G g u n past r no_attributes js k h f x = elim x [ ]
not_again bs G g u n past r (attribute p m e as') [] k h f x = false_true f
not_again bs G g u n past r (attribute p m e as') (j ∷ js) k h f first_one =
    let after = before_silent bs G g u (past ++ (p, m, e) ∷ []) (with_attribute bs G g u past (p, m, e) j.type r) (attribute_list as') js h in
    twice_silent (p, m, e) (stands_among m past) (first_parts (first r.own (attribute_told bs G g u (p, m, e) j.type)) (second_told past (p, m, e)) after).1 k
not_again bs G g u n past r (attribute p m e as') (j ∷ js) k h f (later x) =
    not_again bs G g u n (past ++ (p, m, e) ∷ []) (with_attribute bs G g u past (p, m, e) j.type r) as' js (stands_more n past ((p, m, e) ∷ []) k) h f x

-- one attribute
record IsOne (C : CoverAsked) (G : Sc) (u : Cn) (g : TagName) (n : AttrName) (e : Ex) : Type 0 where
  type : Cn
  has : attribute_type u g n ≡ Some type
  given : Cn
  found : FoundBy C G e given
  same : Alike type given
  linked : IsLinked G n e

by_given : (C : CoverAsked) (bs : List Bool) (G : Sc) (u t : Cn) (g : TagName) (p : Place) (n : AttrName) (e : Ex) (o : Option Cn) → (is_link n ≡ true → AreCarriers G.datatypes bs) → attribute_type u g n ≡ Some t →
    ((v : Cn) → o ≡ Some v → FoundBy C G e v) → has_type o ≡ true → typed_told bs G (p, n, e) o t ≡ None → IsOne C G u g n e
by_given C bs G u t g p n e None m k x h y = absurd (false_true h)
by_given C bs G u t g p n e (Some v) m k x h y =
    let parts = first_parts (other_told G (p, n, e) (Some v) t) (link_told p (link_of bs G n t e (Some v))) y in
    let a : Alike t v = alike G (place_of e) t v parts.0 in
    record { type = t; has = k; given = v; found = x v refl; same = a; linked = link_is G bs p n t v e m a parts.1 }

by_type : (C : CoverAsked) (bs : List Bool) (G : Sc) (u : Cn) (g : TagName) (p : Place) (n : AttrName) (e : Ex) (j : Option Cn) (o : Option Cn) → (is_link n ≡ true → AreCarriers G.datatypes bs) → attribute_type u g n ≡ o →
    ((v : Cn) → j ≡ Some v → FoundBy C G e v) → has_type j ≡ true → told_at bs G (p, n, e) j o ≡ None → IsOne C G u g n e
by_type C bs G u g p n e j None m k x h y = absurd (some_none y)
by_type C bs G u g p n e j (Some t) m k x h y = by_given C bs G u t g p n e j m k x h y

pub attributes_are : (C : CoverAsked) (bs : List Bool) (G : Sc) (u : Cn) (g : TagName) (past : List AttributeTree) (r : At) (as' : Ats) (js : List Jd) → (has_link (attribute_list as') ≡ true → AreCarriers G.datatypes bs) → Given C G (attribute_terms as') js →
    (attributes_from bs G g u past r (attribute_list as') js).found ≡ true → (attributes_from bs G g u past r (attribute_list as') js).own ≡ None → AttributesFound C G u g as'
attributes_are C bs G u g past r no_attributes js m x f h = no_attribute_found
attributes_are C bs G u g past r (attribute p n e as') [] m x f h = absurd x
attributes_are C bs G u g past r (attribute p n e as') (j ∷ js) m x f h =
    let a : AttributeTree = (p, n, e) in
    let now : At = with_attribute bs G g u past a j.type r in
    let silent = before_silent bs G g u (past ++ a ∷ []) now (attribute_list as') js h in
    let typed = before_found bs G g u (past ++ a ∷ []) now (attribute_list as') js f in
    let told : attribute_told bs G g u a j.type ≡ None =
    (first_parts r.own (attribute_told bs G g u a j.type) (first_parts (first r.own (attribute_told bs G g u a j.type)) (second_told past a) silent).0).1 in
    let o : IsOne C G u g n e =
    by_type C bs G u g p n e j.type (attribute_type u g n) (λ k. m (link_first (is_link n) (has_link (attribute_list as')) k)) refl x.0 (and_right r.found (has_type j.type) typed) told in
    attribute_found o.has o.found o.same o.linked
    (not_again bs G g u n (past ++ a ∷ []) now as' js (stands_last past p n e) h f)
    (attributes_are C bs G u g (past ++ a ∷ []) now as' js (λ k. m (or_right (is_link n) (has_link (attribute_list as')) k)) x.1 f h)

pub attributes_are_found : (C : CoverAsked) (bs : List Bool) (G : Sc) (u : Cn) (g : TagName) (as' : Ats) (js : List Jd) → (has_link (attribute_list as') ≡ true → AreCarriers G.datatypes bs) → Given C G (attribute_terms as') js →
    (attributes_found bs G g u (attribute_list as') js).found ≡ true → (attributes_found bs G g u (attribute_list as') js).own ≡ None → AttributesFound C G u g as'
attributes_are_found C bs G u g as' js m x f h = attributes_are C bs G u g [] no_attribute_yet as' js m x f h
