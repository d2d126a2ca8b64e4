-- The attributes of an element, as it is computed, one after another.
use Rattle.std.specs.Prelude.{Bool, true, false, ◌&&◌, ◌||◌, List, [], ◌∷◌, ◌++◌, Option, Some, None}
use Rattle.con_terms.specs.Trees.{Cn}
use Rattle.con_terms.specs.declared.place.Place.{Place}
use Rattle.xml_trees.specs.declared.source_name.TagName.{TagName}
use Rattle.xml_trees.specs.declared.source_name.AttrName.{AttrName}
use Rattle.xml_trees.specs.declared.source_name.AttrName.TheVariants as attr
use Rattle.core_terms.specs.Trees.{Ex}
use Rattle.core_terms.specs.Markup.{attribute_type}
use Rattle.core_terms.specs.View.{AttributeTree}
use Rattle.core_typing.specs.Scopes.{Sc}
use Rattle.core_typing.specs.Own.{place_of}
use Rattle.core_typing.specs.Faults.{Fault, unbound, an_attribute, redeclared, twice_attribute, link_not_call, not_serialisable}
use Rattle.told_faults.specs.Computed.{Jd, first, wants}
use Rattle.markup_rules.specs.Links.{Lk, nothing_broken, no_call, no_travel, link_fault}

-- two names are one
abbrev pub same_name : AttrName → AttrName → Bool
same_name attr.Title attr.Title = true
same_name attr.Link attr.Link = true
same_name attr.Href attr.Href = true
same_name attr.Src attr.Src = true
same_name attr.Alt attr.Alt = true
same_name attr.Border attr.Border = true
same_name attr.Value attr.Value = true
same_name attr.Size attr.Size = true
same_name attr.Action attr.Action = true
same_name _ _ = false

-- an attribute of this name is among them
abbrev pub stands_among : AttrName → List AttributeTree → Bool
stands_among n [] = false
stands_among n (a ∷ as') = same_name a.1 n || stands_among n as'

-- what a link or an action tells at its attribute
abbrev pub link_told : Place → Lk → Option Fault
link_told p nothing_broken = None
link_told p no_call = Some (link_not_call p)
link_told p no_travel = Some (not_serialisable p)

abbrev pub link_of : List Bool → Sc → AttrName → Cn → Ex → Option Cn → Lk
link_of bs G attr.Link t e o = link_fault G.tops G.datatypes bs false t e o
link_of bs G attr.Action t e o = link_fault G.tops G.datatypes bs true t e o
link_of bs G _ t e o = nothing_broken

-- an attribute that the tag has with this type
abbrev pub other_told : Sc → AttributeTree → Option Cn → Cn → Option Fault
other_told G a None t = None
other_told G a (Some v) t = wants G (place_of a.2) t v

abbrev pub typed_told : List Bool → Sc → AttributeTree → Option Cn → Cn → Option Fault
typed_told bs G a o t = first (other_told G a o t) (link_told a.0 (link_of bs G a.1 t a.2 o))

abbrev pub told_at : List Bool → Sc → AttributeTree → Option Cn → Option Cn → Option Fault
told_at bs G a o None = Some (unbound a.0 (an_attribute a.1))
told_at bs G a o (Some t) = typed_told bs G a o t

abbrev pub attribute_told : List Bool → Sc → TagName → Cn → AttributeTree → Option Cn → Option Fault
attribute_told bs G g u a o = told_at bs G a o (attribute_type u g a.1)

-- a second one of its name
abbrev pub twice_told : AttributeTree → Bool → Option Fault
twice_told a true = Some (redeclared a.0 (twice_attribute a.1))
twice_told a false = None

abbrev pub second_told : List AttributeTree → AttributeTree → Option Fault
second_told past a = twice_told a (stands_among a.1 past)

-- whether all so far are found, and what is told of them
pub record At : Type 0 where
  pub found : Bool
  pub own : Option Fault

abbrev pub no_attribute_yet : At
no_attribute_yet = record { found = true; own = None }

abbrev pub has_type : Option Cn → Bool
has_type None = false
has_type (Some t) = true

abbrev pub with_told : List Bool → Sc → TagName → Cn → Option Fault → AttributeTree → Option Cn → At → At
with_told bs G g u second a o r = record {
  found = r.found && has_type o;
  own = first (first r.own (attribute_told bs G g u a o)) second;
}

abbrev pub with_attribute : List Bool → Sc → TagName → Cn → List AttributeTree → AttributeTree → Option Cn → At → At
with_attribute bs G g u past a o r = with_told bs G g u (second_told past a) a o r

-- with those that stand before them
abbrev pub attributes_from : List Bool → Sc → TagName → Cn → List AttributeTree → At → List AttributeTree → List Jd
    → At
attributes_from bs G g u past r [] js = r
attributes_from bs G g u past r (a ∷ as') [] = record { found = false; own = r.own }
attributes_from bs G g u past r (a ∷ as') (j ∷ js) =
    attributes_from bs G g u (past ++ a ∷ []) (with_attribute bs G g u past a j.type r) as' js

abbrev pub attributes_found : List Bool → Sc → TagName → Cn → List AttributeTree → List Jd → At
attributes_found bs G g u as' js = attributes_from bs G g u [] no_attribute_yet as' js

-- one of them is a link or an action
abbrev pub is_link : AttrName → Bool
is_link attr.Link = true
is_link attr.Action = true
is_link _ = false

abbrev pub has_link : List AttributeTree → Bool
has_link [] = false
has_link (a ∷ as') = is_link a.1 || has_link as'
