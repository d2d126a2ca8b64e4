-- The tags: where each stands, what it holds, which attributes it has and which field it fills.
-- HTML's content rules, cut down to this project's subset.
use Rattle.std.specs.Prelude.{Bool, true, false, [], ◌∷◌, Option, Some, None}
use Rattle.con_terms.specs.Trees.{Cn, arrow, record_of}
use Rattle.xml_trees.specs.declared.source_name.TagName.{TagName}
use Rattle.xml_trees.specs.declared.source_name.TagName.TheVariants.{Head, Body, Title, P, Div, Span, B, I, Em, Strong, H1, H2, H3, H4, Ul, Ol, Li, Code, Blockquote, Br, Hr, A, Img, Table, Tr, Th, Td, Form, Textbox, Password, Hidden, Checkbox, Submit}
use Rattle.xml_trees.specs.declared.source_name.AttrName.{AttrName}
use Rattle.xml_trees.specs.declared.source_name.AttrName.TheVariants as attr
use Rattle.core_terms.specs.Names.{html_context, body_context, head_context, table_context, tr_context, form_context}
use Rattle.core_terms.specs.Types.{int_type, string_type, url_type, bool_type, transaction_of, page_type, unit_row}

-- where a node stands
pub data Where : Type 0 where
  in_html : Where
  in_head : Where
  in_body : Where
  in_table : Where
  in_tr : Where

-- the context of a place, where the flag tells that a form is around it
abbrev pub context_row : Where → Bool → Cn
context_row in_html o = unit_row (html_context ∷ [])
context_row in_head o = unit_row (head_context ∷ [])
context_row in_body false = unit_row (body_context ∷ [])
context_row in_body true = unit_row (body_context ∷ form_context ∷ [])
context_row in_table false = unit_row (table_context ∷ [])
context_row in_table true = unit_row (table_context ∷ form_context ∷ [])
context_row in_tr false = unit_row (tr_context ∷ [])
context_row in_tr true = unit_row (tr_context ∷ form_context ∷ [])

-- a form may be around nodes of this place: html and head have none
abbrev pub MayBeInForm : Where → Bool → Type 0
MayBeInForm in_html true = ⊥
MayBeInForm in_head true = ⊥
MayBeInForm _ _ = Unit {0}

-- what a tag is, by what it holds
pub data Sort : Type 0 where
  -- nodes of a place, with a form around them exactly where one is around the tag
  holding : Where → Sort
  -- texts alone
  of_words : Sort
  -- nothing
  empty : Sort
  -- a form, which stands and holds in a body
  a_form : Sort
  -- an input of a form, whose field has this type
  an_input : Cn → Sort
  -- the button that sends a form
  a_button : Sort

-- where a tag stands; forms, inputs and buttons stand in a body
abbrev pub stands : TagName → Where
stands Head = in_html
stands Body = in_html
stands Title = in_head
stands Tr = in_table
stands Th = in_tr
stands Td = in_tr
stands _ = in_body

abbrev pub sort_of : TagName → Sort
sort_of Head = holding in_head
sort_of Title = of_words
sort_of Br = empty
sort_of Hr = empty
sort_of Img = empty
sort_of Table = holding in_table
sort_of Tr = holding in_tr
sort_of Form = a_form
sort_of Textbox = an_input string_type
sort_of Password = an_input string_type
sort_of Hidden = an_input string_type
sort_of Checkbox = an_input bool_type
sort_of Submit = a_button
sort_of _ = holding in_body

-- the type of an attribute of a tag, where the tag has it; a button's action takes the fields filled before it
abbrev pub attribute_type : Cn → TagName → AttrName → Option Cn
attribute_type uses P attr.Title = Some string_type
attribute_type uses Div attr.Title = Some string_type
attribute_type uses Span attr.Title = Some string_type
attribute_type uses B attr.Title = Some string_type
attribute_type uses I attr.Title = Some string_type
attribute_type uses Em attr.Title = Some string_type
attribute_type uses Strong attr.Title = Some string_type
attribute_type uses H1 attr.Title = Some string_type
attribute_type uses H2 attr.Title = Some string_type
attribute_type uses H3 attr.Title = Some string_type
attribute_type uses H4 attr.Title = Some string_type
attribute_type uses Ul attr.Title = Some string_type
attribute_type uses Ol attr.Title = Some string_type
attribute_type uses Li attr.Title = Some string_type
attribute_type uses Code attr.Title = Some string_type
attribute_type uses Blockquote attr.Title = Some string_type
attribute_type uses Th attr.Title = Some string_type
attribute_type uses Td attr.Title = Some string_type
attribute_type uses A attr.Link = Some (transaction_of page_type)
attribute_type uses A attr.Href = Some url_type
attribute_type uses A attr.Title = Some string_type
attribute_type uses Img attr.Src = Some url_type
attribute_type uses Img attr.Alt = Some string_type
attribute_type uses Table attr.Border = Some int_type
attribute_type uses Textbox attr.Value = Some string_type
attribute_type uses Textbox attr.Size = Some int_type
attribute_type uses Password attr.Value = Some string_type
attribute_type uses Hidden attr.Value = Some string_type
attribute_type uses Submit attr.Action = Some (arrow (record_of uses) (transaction_of page_type))
attribute_type uses Submit attr.Value = Some string_type
attribute_type uses _ _ = None
