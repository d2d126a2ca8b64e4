-- The names that sources give to tags and attributes, and the tags and attributes of a page that they stand for.
use Rattle.std.specs.Prelude.{ℕ, ℤ, List, [], ◌∷◌, Option, Some, None, codes, if◌then◌else◌}
use Rattle.std.specs.Str.{bytes_eq}
use Rattle.xml_trees.specs.declared.tag.Tag.{Tag}
use Rattle.xml_trees.specs.declared.tag.Tag.TheVariants as page
use Rattle.xml_trees.specs.declared.attrs.Attr.{Attr}
use Rattle.xml_trees.specs.declared.attrs.Attr.TheVariants as given
use Rattle.xml_trees.specs.declared.source_name.TagName.{TagName}
use Rattle.xml_trees.specs.declared.source_name.TagName.TheVariants.{Head, Body, Title, P, Div, Span, B, I, Em, Strong, H1, H2, H3, H4, Ul, Ol, Li, Code, Blockquote, Br, Hr, A, Img, Table, Tr, Th, Td, Form, Textbox, Password, Hidden, Checkbox, Submit}
use Rattle.xml_trees.specs.declared.source_name.AttrName.{AttrName}
use Rattle.xml_trees.specs.declared.source_name.AttrName.TheVariants as attr
use Rattle.xml_trees.specs.Names.{name_bytes}
use Rattle.xml_trees.specs.Tags.{name_of}

-- the tag of a page that a name in a source stands for, where an input fills the field of this name
abbrev pub page_tag : TagName → List ℕ → Tag
page_tag Head field = page.Head
page_tag Body field = page.Body
page_tag Title field = page.Title
page_tag P field = page.P
page_tag Div field = page.Div
page_tag Span field = page.Span
page_tag B field = page.B
page_tag I field = page.I
page_tag Em field = page.Em
page_tag Strong field = page.Strong
page_tag H1 field = page.H1
page_tag H2 field = page.H2
page_tag H3 field = page.H3
page_tag H4 field = page.H4
page_tag Ul field = page.Ul
page_tag Ol field = page.Ol
page_tag Li field = page.Li
page_tag Code field = page.Code
page_tag Blockquote field = page.Blockquote
page_tag Br field = page.Br
page_tag Hr field = page.Hr
page_tag A field = page.A
page_tag Img field = page.Img
page_tag Table field = page.Table
page_tag Tr field = page.Tr
page_tag Th field = page.Th
page_tag Td field = page.Td
page_tag Form field = page.Form
page_tag Textbox field = page.Textbox field
page_tag Password field = page.Password field
page_tag Hidden field = page.Hidden field
page_tag Checkbox field = page.Checkbox field
page_tag Submit field = page.Submit

-- the letters of a tag's name: each kind of input has its own, and any other tag the name that it is written with
abbrev pub tag_text : TagName → List ℕ
tag_text Textbox = codes "textbox"
tag_text Password = codes "password"
tag_text Hidden = codes "hidden"
tag_text Checkbox = codes "checkbox"
tag_text Submit = codes "submit"
tag_text tag = name_bytes (name_of (page_tag tag []))

-- all tags
abbrev pub all_tags : List TagName
all_tags =
    Head ∷ Body ∷ Title ∷ P ∷ Div ∷ Span ∷ B ∷ I ∷ Em ∷ Strong ∷ H1 ∷ H2 ∷ H3 ∷ H4 ∷ Ul ∷ Ol ∷ Li ∷ Code ∷
    Blockquote ∷ Br ∷ Hr ∷ A ∷ Img ∷ Table ∷ Tr ∷ Th ∷ Td ∷ Form ∷ Textbox ∷ Password ∷ Hidden ∷ Checkbox ∷
    Submit ∷ []

-- the first of these tags with these letters
abbrev pub first_named : List TagName → List ℕ → Option TagName
first_named [] text = None
first_named (tag ∷ tags) text = if bytes_eq text (tag_text tag) then Some tag else first_named tags text

-- the tag with these letters
abbrev pub tag_named : List ℕ → Option TagName
tag_named text = first_named all_tags text

-- the tag of a page for a name, where it takes text and its like, or is `br` or `hr`
abbrev pub simple_tag : TagName → Option Tag
simple_tag P = Some page.P
simple_tag Div = Some page.Div
simple_tag Span = Some page.Span
simple_tag B = Some page.B
simple_tag I = Some page.I
simple_tag Em = Some page.Em
simple_tag Strong = Some page.Strong
simple_tag H1 = Some page.H1
simple_tag H2 = Some page.H2
simple_tag H3 = Some page.H3
simple_tag H4 = Some page.H4
simple_tag Ul = Some page.Ul
simple_tag Ol = Some page.Ol
simple_tag Li = Some page.Li
simple_tag Code = Some page.Code
simple_tag Blockquote = Some page.Blockquote
simple_tag Br = Some page.Br
simple_tag Hr = Some page.Hr
simple_tag _ = None

-- the letters of an attribute's name
abbrev pub attribute_text : AttrName → List ℕ
attribute_text attr.Title = codes "title"
attribute_text attr.Link = codes "link"
attribute_text attr.Href = codes "href"
attribute_text attr.Src = codes "src"
attribute_text attr.Alt = codes "alt"
attribute_text attr.Border = codes "border"
attribute_text attr.Value = codes "value"
attribute_text attr.Size = codes "size"
attribute_text attr.Action = codes "action"

-- the name that sources give to an attribute of a page
abbrev pub attribute_name : Attr → AttrName
attribute_name (given.Title text) = attr.Title
attribute_name (given.Link text) = attr.Link
attribute_name (given.Href text) = attr.Href
attribute_name (given.Src text) = attr.Src
attribute_name (given.Alt text) = attr.Alt
attribute_name (given.Border number) = attr.Border
attribute_name (given.Value text) = attr.Value
attribute_name (given.Size number) = attr.Size
attribute_name (given.Action text) = attr.Action

-- the attribute of a page with a text for its value; none where its value is a number
abbrev pub text_attribute : AttrName → List ℕ → Option Attr
text_attribute attr.Border text = None
text_attribute attr.Size text = None
text_attribute attr.Title text = Some (given.Title text)
text_attribute attr.Link text = Some (given.Link text)
text_attribute attr.Href text = Some (given.Href text)
text_attribute attr.Src text = Some (given.Src text)
text_attribute attr.Alt text = Some (given.Alt text)
text_attribute attr.Value text = Some (given.Value text)
text_attribute attr.Action text = Some (given.Action text)

-- the attribute of a page with a number for its value; none where its value is a text
abbrev pub number_attribute : AttrName → ℤ → Option Attr
number_attribute attr.Border number = Some (given.Border number)
number_attribute attr.Size number = Some (given.Size number)
number_attribute _ number = None
