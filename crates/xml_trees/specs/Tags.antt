-- The tags of a page, and the names that they are written with.
use Rattle.std.specs.Prelude.{Bool, true, false}
use Rattle.xml_trees.specs.declared.name.Name.{Name}
use Rattle.xml_trees.specs.declared.name.Name.TheVariants as name
use Rattle.xml_trees.specs.declared.tag.Tag.{Tag}
use Rattle.xml_trees.specs.declared.tag.Tag.TheVariants.{Head, Body, Title, P, Div, Span, B, I, Em, Strong, H1, H2, H3, H4, Ul, Ol, Li, Code, Blockquote, Br, Hr, A, Img, Table, Tr, Th, Td, Form, Textbox, Password, Hidden, Checkbox, Submit}

-- the name that a tag is written with: every kind of input is an `input`
abbrev pub name_of : Tag → Name
name_of Head = name.Head
name_of Body = name.Body
name_of Title = name.Title
name_of P = name.P
name_of Div = name.Div
name_of Span = name.Span
name_of B = name.B
name_of I = name.I
name_of Em = name.Em
name_of Strong = name.Strong
name_of H1 = name.H1
name_of H2 = name.H2
name_of H3 = name.H3
name_of H4 = name.H4
name_of Ul = name.Ul
name_of Ol = name.Ol
name_of Li = name.Li
name_of Code = name.Code
name_of Blockquote = name.Blockquote
name_of Br = name.Br
name_of Hr = name.Hr
name_of A = name.A
name_of Img = name.Img
name_of Table = name.Table
name_of Tr = name.Tr
name_of Th = name.Th
name_of Td = name.Td
name_of Form = name.Form
name_of (Textbox field) = name.Input
name_of (Password field) = name.Input
name_of (Hidden field) = name.Input
name_of (Checkbox field) = name.Input
name_of Submit = name.Input

-- the tags that take text and one another, `br` and `hr`
abbrev pub is_simple : Tag → Bool
is_simple P = true
is_simple Div = true
is_simple Span = true
is_simple B = true
is_simple I = true
is_simple Em = true
is_simple Strong = true
is_simple H1 = true
is_simple H2 = true
is_simple H3 = true
is_simple H4 = true
is_simple Ul = true
is_simple Ol = true
is_simple Li = true
is_simple Code = true
is_simple Blockquote = true
is_simple Br = true
is_simple Hr = true
is_simple _ = false
