-- The names that tags are written with.
use Rattle.std.specs.Prelude.{ℕ, List, Bool, true, false, codes}
use Rattle.xml_trees.specs.declared.name.Name.{Name}
use Rattle.xml_trees.specs.declared.name.Name.TheVariants.{Head, Body, Title, P, Div, Span, B, I, Em, Strong, H1, H2, H3, H4, Ul, Ol, Li, Code, Blockquote, Br, Hr, A, Img, Table, Tr, Th, Td, Form, Input}

-- the letters of a name
abbrev pub name_bytes : Name → List ℕ
name_bytes Head = codes "head"
name_bytes Body = codes "body"
name_bytes Title = codes "title"
name_bytes P = codes "p"
name_bytes Div = codes "div"
name_bytes Span = codes "span"
name_bytes B = codes "b"
name_bytes I = codes "i"
name_bytes Em = codes "em"
name_bytes Strong = codes "strong"
name_bytes H1 = codes "h1"
name_bytes H2 = codes "h2"
name_bytes H3 = codes "h3"
name_bytes H4 = codes "h4"
name_bytes Ul = codes "ul"
name_bytes Ol = codes "ol"
name_bytes Li = codes "li"
name_bytes Code = codes "code"
name_bytes Blockquote = codes "blockquote"
name_bytes Br = codes "br"
name_bytes Hr = codes "hr"
name_bytes A = codes "a"
name_bytes Img = codes "img"
name_bytes Table = codes "table"
name_bytes Tr = codes "tr"
name_bytes Th = codes "th"
name_bytes Td = codes "td"
name_bytes Form = codes "form"
name_bytes Input = codes "input"

-- the names of tags with neither content nor a closing tag
abbrev pub is_void_name : Name → Bool
is_void_name Br = true
is_void_name Hr = true
is_void_name Img = true
is_void_name Input = true
is_void_name _ = false
