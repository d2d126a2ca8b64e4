-- What is found for elements and for literals of pages, as it is computed from what is found for the terms in them.
use Rattle.std.specs.Prelude.{◌≡◌, Bool, true, false, List, Option, Some, None}
use Rattle.con_terms.specs.Trees.{Cn}
use Rattle.con_terms.specs.declared.place.Place.{Place}
use Rattle.xml_trees.specs.declared.source_name.TagName.{TagName}
use Rattle.xml_trees.specs.declared.source_name.AttrName.TheVariants as attr
use Rattle.core_terms.specs.Trees.{El, tagged, Ats, Xs}
use Rattle.core_terms.specs.Types.{xml_of}
use Rattle.core_terms.specs.Lists.{attribute_list, node_list}
use Rattle.core_terms.specs.Markup.{Sort, holding, of_words, empty, a_form, an_input, a_button, stands, sort_of}
use Rattle.core_terms.specs.View.{AttributeTree, NodeTree}
use Rattle.core_typing.specs.Scopes.{Sc}
use Rattle.core_typing.specs.Faults.{Fault, link_not_call}
use Rattle.told_faults.specs.Computed.{Jd, first}
use Rattle.carried_types.specs.Carriers.{AreCarriers}
use Rattle.markup_rules.specs.Nodes.{Nd, told_of, nodes_found}
use Rattle.markup_rules.specs.Attributes.{At, stands_among, attributes_found, has_link}
use Rattle.markup_rules.specs.Standing.{Ar, Po, stands_by, rows_told, name_told, is_input}
use Rattle.markup_rules.specs.Content.{content_by}

-- the parts of an element
abbrev pub tag_of : El → TagName
tag_of (tagged g n c u as' xs) = g

abbrev pub field_of : El → Option (Place × Cn)
field_of (tagged g n c u as' xs) = n

abbrev pub context_of : El → Cn
context_of (tagged g n c u as' xs) = c

abbrev pub uses_of : El → Cn
uses_of (tagged g n c u as' xs) = u

abbrev pub attributes_of : El → Ats
attributes_of (tagged g n c u as' xs) = as'

abbrev pub nodes_of : El → Xs
nodes_of (tagged g n c u as' xs) = xs

-- where an element has links, the marks are those of what links carry
abbrev pub links_of : El → Bool
links_of m = has_link (attribute_list (attributes_of m))

abbrev pub LinksMarked : List Bool → Sc → El → Type 0
LinksMarked bs G m = links_of m ≡ true → AreCarriers G.datatypes bs

-- a button without an action
abbrev pub unless_action : Place → Bool → Option Fault
unless_action p true = None
unless_action p false = Some (link_not_call p)

abbrev pub action_by : Place → List AttributeTree → Sort → Option Fault
action_by p as' a_button = unless_action p (stands_among attr.Action as')
action_by p as' (holding w) = None
action_by p as' of_words = None
action_by p as' empty = None
action_by p as' a_form = None
action_by p as' (an_input t) = None

abbrev pub action_told : Place → El → Option Fault
action_told p m = action_by p (attribute_list (attributes_of m)) (sort_of (tag_of m))

-- where it stands
abbrev pub element_stands : Sc → Place → El → Po
element_stands G p m = stands_by G p (context_of m) (uses_of m) (stands (tag_of m)) (sort_of (tag_of m))

abbrev pub element_rows : Sc → Place → El → Option Fault
element_rows G p m = rows_told G p (context_of m) (uses_of m)

abbrev pub element_name : Sc → Place → El → Option Fault
element_name G p m = name_told G p (is_input (sort_of (tag_of m))) (field_of m)

-- what it tells of itself
abbrev pub itself : Sc → Place → El → Po
itself G p m = record {
  around = (element_stands G p m).around;
  told = first (first (element_stands G p m).told (element_rows G p m)) (first (element_name G p m) (action_told p m));
}

-- what it holds
abbrev pub content_found : Sc → El → Ar → List Jd → Nd
content_found G m a ks =
    content_by G (field_of m) (uses_of m) (stands (tag_of m)) a (node_list (nodes_of m)) ks (sort_of (tag_of m))

-- the type of an element that fills these fields, where nothing of its own is at fault and its attributes are found
abbrev pub row_type : Cn → Cn → Option Cn → Option Cn
row_type c u None = None
row_type c u (Some b) = Some (xml_of c u b)

abbrev pub silent_type : Cn → Cn → Option Cn → Option Fault → Option Cn
silent_type c u row (Some f) = None
silent_type c u row None = row_type c u row

abbrev pub if_found : Cn → Cn → Bool → Option Fault → Option Cn → Option Cn
if_found c u false own row = None
if_found c u true own row = silent_type c u row own

abbrev pub with_parts : El → Option Fault → At → Nd → Jd
with_parts m told a n = record {
  type = if_found (context_of m) (uses_of m) a.found (first told (first a.own n.own)) n.row;
  told = first told (first a.own n.own);
}

abbrev pub element_found : List Bool → Sc → Place → El → List Jd → List Jd → Jd
element_found bs G p m js ks =
    with_parts m (itself G p m).told
    (attributes_found bs G (tag_of m) (uses_of m) (attribute_list (attributes_of m)) js)
    (content_found G m (itself G p m).around ks)

-- with what its terms tell
abbrev pub with_terms : Option Fault → Jd → Jd
with_terms told j = record { type = j.type; told = first told j.told }

-- <tag ..>..</tag>, from what is found for its attributes and for its nodes, at these marks
abbrev pub of_element : List Bool → Sc → Place → El → List Jd → List Jd → Jd
of_element bs G p m js ks = with_terms (first (told_of js) (told_of ks)) (element_found bs G p m js ks)

-- with marks that its links ask for
pub record ElementJudged (G : Sc) (p : Place) (m : El) (js ks : List Jd) (j : Jd) : Type 0 where
  pub marks : List Bool
  pub marked : LinksMarked marks G m
  pub is : j ≡ of_element marks G p m js ks

-- <xml>..</xml>, from what is found for its nodes
abbrev pub of_nodes : Cn → Cn → Nd → Jd
of_nodes c u n = record { type = row_type c u n.row; told = n.own }

abbrev pub literal_nodes : Sc → Cn → Cn → List NodeTree → List Jd → Jd
literal_nodes G c u xs ks = of_nodes c u (nodes_found G c u xs ks)

abbrev pub unless_flawed : Option Fault → Jd → Jd
unless_flawed (Some f) j = record { type = None; told = Some f }
unless_flawed None j = j

abbrev pub literal_found : Sc → Place → Cn → Cn → Xs → List Jd → Jd
literal_found G p c u xs ks = unless_flawed (rows_told G p c u) (literal_nodes G c u (node_list xs) ks)

abbrev pub of_literal : Sc → Place → Cn → Cn → Xs → List Jd → Jd
of_literal G p c u xs ks = with_terms (told_of ks) (literal_found G p c u xs ks)
