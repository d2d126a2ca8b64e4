-- How trees are written: the tags and attributes that stand for them, with texts joined, and empty ones and what void
-- tags hold left out.
use Rattle.std.specs.Prelude.{ℕ, List, [], ◌∷◌, ◌++◌, codes, map, if◌then◌else◌}
use Rattle.std.specs.Fmt.{signed_decimal}
use Rattle.xml_trees.specs.declared.tag.Tag.{Tag}
use Rattle.xml_trees.specs.declared.tag.Tag.TheVariants.{Form, Textbox, Password, Hidden, Checkbox, Submit}
use Rattle.xml_trees.specs.declared.attrs.Attr.{Attr}
use Rattle.xml_trees.specs.declared.attrs.Attr.TheVariants.{Title, Link, Href, Src, Alt, Border, Value, Size, Action}
use Rattle.xml_trees.specs.Names.{name_bytes, is_void_name}
use Rattle.xml_trees.specs.Tags.{name_of}
use Rattle.xml_trees.specs.Trees.{Trees, Nothing, Words, Element}
use Rattle.xml_trees.specs.Markup.{Attribute, Markup, Empty, Characters, Tagged}

-- an attribute of this name and text
abbrev pub named : List ℕ → List ℕ → Attribute
named name text = record { name = name; text = text }

-- an attribute as it is written: a number in decimal, a link and an action as the address that they hold
abbrev pub attribute_of : Attr → Attribute
attribute_of (Title text) = named (codes "title") text
attribute_of (Link text) = named (codes "href") text
attribute_of (Href text) = named (codes "href") text
attribute_of (Src text) = named (codes "src") text
attribute_of (Alt text) = named (codes "alt") text
attribute_of (Border number) = named (codes "border") (signed_decimal number)
attribute_of (Value text) = named (codes "value") text
attribute_of (Size number) = named (codes "size") (signed_decimal number)
attribute_of (Action text) = named (codes "formaction") text

-- the attributes that a tag itself is written with, before those that it is given
abbrev pub own_attributes : Tag → List Attribute
own_attributes Form = named (codes "method") (codes "post") ∷ []
own_attributes (Textbox field) = named (codes "type") (codes "text") ∷ named (codes "name") field ∷ []
own_attributes (Password field) = named (codes "type") (codes "password") ∷ named (codes "name") field ∷ []
own_attributes (Hidden field) = named (codes "type") (codes "hidden") ∷ named (codes "name") field ∷ []
own_attributes (Checkbox field) = named (codes "type") (codes "checkbox") ∷ named (codes "name") field ∷ []
own_attributes Submit = named (codes "type") (codes "submit") ∷ []
own_attributes _ = []

-- all attributes that a tag is written with
abbrev pub written_attributes : Tag → List Attr → List Attribute
written_attributes tag attrs = own_attributes tag ++ map attribute_of attrs

-- trees with a text before them
abbrev pub with_text : List ℕ → Markup → Markup
with_text [] rest = rest
with_text (c ∷ cs) Empty = Characters (c ∷ cs) Empty
with_text (c ∷ cs) (Characters text rest) = Characters (c ∷ (cs ++ text)) rest
with_text (c ∷ cs) (Tagged name attributes inside rest) = Characters (c ∷ cs) (Tagged name attributes inside rest)

-- trees as they are written
abbrev pub written : Trees → Markup
written Nothing = Empty
written (Words text rest) = with_text text (written rest)
written (Element tag attrs inside rest) =
    Tagged (name_bytes (name_of tag)) (written_attributes tag attrs)
    (if is_void_name (name_of tag) then Empty else written inside) (written rest)
