-- The names of tags and attributes are names.
use Rattle.std.proofs.Common.{◌≡◌, List, [], ◌∷◌, ◌++◌, refl}
use Rattle.std.specs.Prelude.{map}
use Rattle.xml_trees.specs.declared.name.Name.{Name}
use Rattle.xml_trees.specs.declared.name.Name.TheVariants.{Head, Body, Title, P, Div, Span, B, I, Em, Strong, H1, H2, H3, H4, Ul, Ol, Li, Code, Blockquote, Br, Hr, A, Img, Table, Tr, Th, Td, Form, Input}
use Rattle.xml_trees.specs.declared.tag.Tag.{Tag}
use Rattle.xml_trees.specs.declared.tag.Tag.TheVariants as tag
use Rattle.xml_trees.specs.declared.attrs.Attr.{Attr}
use Rattle.xml_trees.specs.declared.attrs.Attr.TheVariants as attr
use Rattle.xml_trees.specs.Names.{name_bytes, is_void_name}
use Rattle.xml_trees.specs.Markup.{Attribute, IsName, is_void, AreNamed}
use Rattle.xml_trees.specs.Written.{attribute_of, own_attributes, written_attributes}

pub is_name : (n : Name) → IsName (name_bytes n)
is_name Head = (refl, refl)
is_name Body = (refl, refl)
is_name Title = (refl, refl)
is_name P = (refl, refl)
is_name Div = (refl, refl)
is_name Span = (refl, refl)
is_name B = (refl, refl)
is_name I = (refl, refl)
is_name Em = (refl, refl)
is_name Strong = (refl, refl)
is_name H1 = (refl, refl)
is_name H2 = (refl, refl)
is_name H3 = (refl, refl)
is_name H4 = (refl, refl)
is_name Ul = (refl, refl)
is_name Ol = (refl, refl)
is_name Li = (refl, refl)
is_name Code = (refl, refl)
is_name Blockquote = (refl, refl)
is_name Br = (refl, refl)
is_name Hr = (refl, refl)
is_name A = (refl, refl)
is_name Img = (refl, refl)
is_name Table = (refl, refl)
is_name Tr = (refl, refl)
is_name Th = (refl, refl)
is_name Td = (refl, refl)
is_name Form = (refl, refl)
is_name Input = (refl, refl)

-- the bytes of a name tell whether it is that of a void tag
pub void_name : (n : Name) → is_void (name_bytes n) ≡ is_void_name n
void_name Head = refl
void_name Body = refl
void_name Title = refl
void_name P = refl
void_name Div = refl
void_name Span = refl
void_name B = refl
void_name I = refl
void_name Em = refl
void_name Strong = refl
void_name H1 = refl
void_name H2 = refl
void_name H3 = refl
void_name H4 = refl
void_name Ul = refl
void_name Ol = refl
void_name Li = refl
void_name Code = refl
void_name Blockquote = refl
void_name Br = refl
void_name Hr = refl
void_name A = refl
void_name Img = refl
void_name Table = refl
void_name Tr = refl
void_name Th = refl
void_name Td = refl
void_name Form = refl
void_name Input = refl

attribute_named : (a : Attr) → IsName (attribute_of a).name
attribute_named (attr.Title text) = (refl, refl)
attribute_named (attr.Link text) = (refl, refl)
attribute_named (attr.Href text) = (refl, refl)
attribute_named (attr.Src text) = (refl, refl)
attribute_named (attr.Alt text) = (refl, refl)
attribute_named (attr.Border number) = (refl, refl)
attribute_named (attr.Value text) = (refl, refl)
attribute_named (attr.Size number) = (refl, refl)
attribute_named (attr.Action text) = (refl, refl)

given_named : (attrs : List Attr) → AreNamed (map attribute_of attrs)
given_named [] = tt
given_named (a ∷ more) = (attribute_named a, given_named more)

-- attributes with names before others with names
named_append : (own more : List Attribute) → AreNamed own → AreNamed more → AreNamed (own ++ more)
named_append [] more p q = q
named_append (a ∷ own) more p q = (p.0, named_append own more p.1 q)

own_named : (t : Tag) → AreNamed (own_attributes t)
own_named tag.Head = tt
own_named tag.Body = tt
own_named tag.Title = tt
own_named tag.P = tt
own_named tag.Div = tt
own_named tag.Span = tt
own_named tag.B = tt
own_named tag.I = tt
own_named tag.Em = tt
own_named tag.Strong = tt
own_named tag.H1 = tt
own_named tag.H2 = tt
own_named tag.H3 = tt
own_named tag.H4 = tt
own_named tag.Ul = tt
own_named tag.Ol = tt
own_named tag.Li = tt
own_named tag.Code = tt
own_named tag.Blockquote = tt
own_named tag.Br = tt
own_named tag.Hr = tt
own_named tag.A = tt
own_named tag.Img = tt
own_named tag.Table = tt
own_named tag.Tr = tt
own_named tag.Th = tt
own_named tag.Td = tt
own_named tag.Form = ((refl, refl), tt)
own_named (tag.Textbox field) = ((refl, refl), ((refl, refl), tt))
own_named (tag.Password field) = ((refl, refl), ((refl, refl), tt))
own_named (tag.Hidden field) = ((refl, refl), ((refl, refl), tt))
own_named (tag.Checkbox field) = ((refl, refl), ((refl, refl), tt))
own_named tag.Submit = ((refl, refl), tt)

pub all_named : (t : Tag) (attrs : List Attr) → AreNamed (written_attributes t attrs)
all_named t attrs = named_append (own_attributes t) (map attribute_of attrs) (own_named t) (given_named attrs)
