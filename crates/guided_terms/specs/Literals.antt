-- XML literals and the nodes in them: where each stands, the fields filled before it, and those that it fills.
-- The tags' table.
use Rattle.std.specs.Prelude.{◌≡◌, ℕ, zero, suc, Bool, true, false, Option, Some, None}
use Rattle.con_terms.specs.Trees.{names, Cn, cat}
use Rattle.con_terms.specs.declared.place.Place.{Place}
use Rattle.core_terms.specs.declared.exp.ConOrigin.TheVariants.{Inserted}
use Rattle.core_terms.specs.declared.exp.Sigil.TheVariants.{Plain}
use Rattle.core_terms.specs.declared.basis.BasisName.TheVariants.{Cdata}
use Rattle.core_terms.specs.Markup.{Where, in_body, context_row, Sort, holding, of_words, a_form, an_input, stands, sort_of, attribute_type}
use Rattle.core_terms.specs.Trees.{Ex, node, basis, text, call, element, literal, with_term, with_con, tagged, Ats, Xs}
use Rattle.core_terms.specs.Trees as core
use Rattle.core_terms.specs.Types.{no_types, one_field, xml_of}
use Rattle.plain_tree.specs.Trees.{ConTree}
use Rattle.source_names.specs.Scopes.{Words}
use Rattle.xml_trees.specs.declared.source_name.TagName.{TagName}
use Rattle.xml_trees.specs.declared.source_name.AttrName.{AttrName}
use Rattle.xml_trees.specs.SourceNames.{tag_text, attribute_text}
use Rattle.guided_terms.specs.Contexts.{Ground}
use Rattle.guided_terms.specs.Forms.{fills_of, has_form_around}
use Rattle.guided_terms.specs.Heres.{Here, IsCon}
use Rattle.guided_terms.specs.Wanted.{Want, nothing_ever, whole, spliced_in, Judge}

-- what is judged of nodes beside one another, from a ground on: these nodes, and what they fill. The number tells which
-- spliced tree was judged before, without a ground
abbrev pub NodesJudge : Type 1
NodesJudge = Here → Option ℕ → Ground → Xs → Cn → Type 0

-- of attributes of a tag, with the fields filled before it
abbrev pub AttributesJudge : Type 1
AttributesJudge = Here → Cn → TagName → Ats → Type 0

-- of one node: a term, and what it fills
abbrev pub NodeJudge : Type 1
NodeJudge = Here → Option ℕ → Ground → Ex → Cn → Type 0

-- the number of the next node
abbrev pub one_less : Option ℕ → Option ℕ
one_less (Some (suc i)) = Some i
one_less _ = None

-- a ground behind a node that fills these
abbrev pub behind : Ground → Cn → Ground
behind g b = record { context = g.context; uses = cat g.uses b }

-- text, which is cdata of it, in the context of its place and with the fields filled before it
pub data RunGuided (g : Ground) (w : Words) : Ex → Cn → Type 0 where
  some_text : {p q r s l : Place}
      → RunGuided g w (node p false (call (node q false (basis Cdata)) Plain
      (with_con r Inserted g.context (with_con s Inserted g.uses
      (with_term (node l false (text w)) core.no_items))))) no_types

-- {[e]}, which is txt of e, and fills nothing
pub data ValueGuided (e : Judge) (h : Here) (g : Ground) : Ex → Cn → Type 0 where
  a_value : {x : Ex} (t : Cn)
      (guided : e h (whole (xml_of g.context g.uses no_types)) x t)
      → ValueGuided e h g x (fills_of t)

-- {e}, a tree, which wants the context and the fields filled before it, unless it told the context; what it fills is
-- its own
abbrev pub tree_want : Option ℕ → Ground → Want
tree_want (Some zero) g = nothing_ever
tree_want _ g = spliced_in g.context g.uses

pub data TreeGuided (e : Judge) (h : Here) (told : Option ℕ) (g : Ground) : Ex → Cn → Type 0 where
  a_tree : {x : Ex} (t : Cn)
      (guided : e h (tree_want told g) x t)
      → TreeGuided e h told g x (fills_of t)

-- where the content of a tag stands: a form begins anew
abbrev pub content_of : Where → Sort → Ground → Ground
content_of here (holding w) g = record { context = context_row w (has_form_around g.context); uses = g.uses }
content_of here of_words g = record { context = context_row here false; uses = g.uses }
content_of here a_form g = record { context = context_row in_body true; uses = no_types }
content_of here _ g = g

abbrev pub content_ground : TagName → Ground → Ground
content_ground tag g = content_of (stands tag) (sort_of tag) g

-- what an element fills: its own field, or what its content fills; a form fills nothing
abbrev pub own_field : Option (Place × Cn) → Cn → Cn
own_field None t = no_types
own_field (Some n) t = one_field n.1 t

abbrev pub filled_by : Sort → Option (Place × Cn) → Cn → Cn
filled_by (holding w) n b = b
filled_by of_words n b = b
filled_by (an_input t) n b = own_field n t
filled_by _ n b = no_types

-- the field that an input fills; an input has one
abbrev pub needs_field : Sort → Bool
needs_field (an_input t) = true
needs_field _ = false

pub data FieldGuided (h : Here) (tag : TagName) : Option ConTree → Option (Place × Cn) → Type 0 where
  -- <tag>
  no_field : (not_needed : needs_field (sort_of tag) ≡ false)
      → FieldGuided h tag None None
  -- <tag{c}>
  a_field : {c : ConTree} {p : Place} {n : Cn}
      (name : IsCon h c names n)
      → FieldGuided h tag (Some c) (Some (p, n))

-- <tag{c} a=e ..> .. </tag>
pub data ElementGuided (attributes : AttributesJudge) (content : NodesJudge) (h : Here) (g : Ground) (w : Words)
    (c : Option ConTree) : Ex → Cn → Type 0 where
  an_element : {tag : TagName} {n : Option (Place × Cn)} {as' : Ats} {xs : Xs} (b : Cn) {p : Place}
      (name : tag_text tag ≡ w)
      (field : FieldGuided h tag c n)
      (its_attributes : attributes h g.uses tag as')
      (its_content : content h None (content_ground tag g) xs b)
      → ElementGuided attributes content h g w c (node p false (element (tagged tag n g.context g.uses as' xs)))
      (filled_by (sort_of tag) n b)

-- wanted of the value of an attribute: the type that the tag's attribute has
abbrev pub attribute_want : Option Cn → Want
attribute_want None = nothing_ever
attribute_want (Some t) = whole t

-- a={e}
pub record AttributeGuided (e : Judge) (h : Here) (uses : Cn) (tag : TagName) (w : Words) (a : AttrName) (x : Ex) :
    Type 0 where
  pub name : attribute_text a ≡ w
  pub type : Cn
  pub value : e h (attribute_want (attribute_type uses tag a)) x type

-- nodes beside one another. What a node fills is filled before those behind it
pub data BesideGuided (first : NodeJudge) (others : NodesJudge) (h : Here) (told : Option ℕ) (g : Ground) :
    Xs → Cn → Type 0 where
  -- x, the last one
  the_last : {b : Cn} {x : Ex}
      (node : first h told g x b)
      (none_behind : others h (one_less told) (behind g b) core.no_nodes no_types)
      → BesideGuided first others h told g (core.a_node b x core.no_nodes) b
  -- x y ..
  one_more : {b d m : Cn} {x y : Ex} {xs : Xs}
      (node : first h told g x b)
      (behind_it : others h (one_less told) (behind g b) (core.a_node m y xs) d)
      → BesideGuided first others h told g (core.a_node b x (core.a_node m y xs)) (cat b d)

-- <xml> .. </xml>
pub data LiteralGuided (ground : Here → Want → Ground → Option ℕ → Type 0) (content : NodesJudge) (h : Here)
    (w : Want) : Ex → Cn → Type 0 where
  a_literal : (g : Ground) (told : Option ℕ) {xs : Xs} {b : Cn} {p : Place}
      (stands : ground h w g told)
      (nodes : content h told g xs b)
      → LiteralGuided ground content h w (node p false (literal g.context g.uses xs)) (xml_of g.context g.uses b)
