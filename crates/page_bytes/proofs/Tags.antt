-- The bytes of a tag are those of its front, of the attributes that it is given, and of its end.
use Rattle.std.proofs.Common.{◌≡◌, ℕ, List, [], ◌∷◌, ◌++◌, refl, sym, ap, ◌∙◌, append_assoc, map}
use Rattle.std.specs.Prelude.{codes}
use Rattle.std.specs.List.{flat_map}
use Rattle.std.proofs.lemmas.Grind.{flat_map-append}
use Rattle.xml_trees.specs.declared.tag.Tag.{Tag}
use Rattle.xml_trees.specs.declared.attrs.Attr.{Attr}
use Rattle.xml_trees.specs.Names.{name_bytes}
use Rattle.xml_trees.specs.Tags.{name_of}
use Rattle.xml_trees.specs.Written.{attribute_of, own_attributes}
use Rattle.xml_trees.specs.PieceText.{attribute_bytes, begin_bytes}

given_bytes : (attrs : List Attr) → flat_map attribute_bytes (map attribute_of attrs) ≡ flat_map (λ attr. attribute_bytes (attribute_of attr)) attrs
given_bytes [] = refl
given_bytes (a ∷ attrs) = ap (λ (l : List ℕ). attribute_bytes (attribute_of a) ++ l) (given_bytes attrs)

pub tag_is : (tag : Tag) (attrs : List Attr) (front : List ℕ) → front ≡ codes "<" ++ (name_bytes (name_of tag) ++ flat_map attribute_bytes (own_attributes tag))
    → front ++ (flat_map (λ attr. attribute_bytes (attribute_of attr)) attrs ++ codes ">") ≡ begin_bytes tag attrs
tag_is tag attrs front e =
    let name = name_bytes (name_of tag) in
    let own = flat_map attribute_bytes (own_attributes tag) in
    let given = flat_map (λ attr. attribute_bytes (attribute_of attr)) attrs in
    ap (λ (l : List ℕ). l ++ (given ++ codes ">")) e
    ∙ ap (λ (l : List ℕ). 60 ∷ l) (append_assoc name own (given ++ codes ">")
    ∙ ap (λ (l : List ℕ). name ++ l) (sym (append_assoc own given (codes ">"))
    ∙ ap (λ (l : List ℕ). l ++ codes ">") (ap (λ (l : List ℕ). own ++ l) (sym (given_bytes attrs)) ∙ sym (flat_map-append attribute_bytes (own_attributes tag) (map attribute_of attrs)))))
