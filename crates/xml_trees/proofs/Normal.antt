-- What is written is normal, and its text is that of the trees.
use Rattle.std.proofs.Common.{◌≡◌, inl, inr, ℕ, Bool, true, false, List, [], ◌∷◌, ◌++◌, refl, sym, ap, ◌∙◌, append_assoc, append-nil}
use Rattle.std.specs.Prelude.{if◌then◌else◌}
use Rattle.std.specs.List.{flat_map}
use Rattle.std.proofs.lemmas.Bool.{cases_Bool}
use Rattle.xml_trees.specs.declared.tag.Tag.{Tag}
use Rattle.xml_trees.specs.declared.attrs.Attr.{Attr}
use Rattle.xml_trees.specs.Names.{name_bytes, is_void_name}
use Rattle.xml_trees.specs.Tags.{name_of}
use Rattle.xml_trees.specs.Trees.{Trees, Nothing, Words, Element}
use Rattle.xml_trees.specs.Markup.{Attribute, Markup, Empty, Characters, Tagged, is_void, IsNormal}
use Rattle.xml_trees.specs.Written.{with_text, written, written_attributes}
use Rattle.xml_trees.specs.Grammar.{WrittenIsNormal}
use Rattle.xml_trees.specs.PieceText.{escape, quote, attribute_bytes, begin_bytes, end_bytes}
use Rattle.xml_trees.proofs.Named.{is_name, void_name, all_named}
use Rattle.xml_trees.proofs.Spelling.{attributes_then, markup_then}

text_normal : (text : List ℕ) (t : Markup) → IsNormal t → IsNormal (with_text text t)
text_normal [] t p = p
text_normal (c ∷ cs) Empty p = (λ e. cc, tt, tt)
text_normal (c ∷ cs) (Characters text rest) p = (λ e. cc, p.1, p.2)
text_normal (c ∷ cs) (Tagged name attributes inside rest) p = (λ e. cc, tt, p)

pub is_normal : WrittenIsNormal
is_normal Nothing = tt
is_normal (Words text rest) = text_normal text (written rest) (is_normal rest)
is_normal (Element tag attrs inside rest) =
    let held = is_normal inside in
    let after = is_normal rest in
    let same = void_name (name_of tag) in
    elim (cases_Bool (is_void_name (name_of tag))) [
      | inl v ↦ rw v (is_name (name_of tag), all_named tag attrs, tt, after, λ e. refl)
      | inr v ↦ rw v (is_name (name_of tag), all_named tag attrs, held, after, λ e. absurd (contradiction (is_void (name_bytes (name_of tag))) e (same ∙ v)))
    ]
  where
    contradiction : (b : Bool) → b ≡ true → b ≡ false → ⊥
    contradiction b p q = cc

-- the bytes of trees

-- an element's bytes around those of what it holds
abbrev pub element_bytes : Tag → List Attr → List ℕ → List ℕ
element_bytes tag attrs inside = begin_bytes tag attrs ++ (if is_void_name (name_of tag) then [] else inside ++ end_bytes (name_of tag))

abbrev pub trees_bytes : Trees → List ℕ
trees_bytes Nothing = []
trees_bytes (Words text rest) = flat_map escape text ++ trees_bytes rest
trees_bytes (Element tag attrs inside rest) = element_bytes tag attrs (trees_bytes inside) ++ trees_bytes rest

flat_map-append : (f : ℕ → List ℕ) (xs ys zs : List ℕ) → flat_map f (xs ++ ys) ++ zs ≡ flat_map f xs ++ (flat_map f ys ++ zs)
flat_map-append f [] ys zs = refl
flat_map-append f (x ∷ xs) ys zs =
    append_assoc (f x) (flat_map f (xs ++ ys)) zs ∙ ap (λ (l : List ℕ). f x ++ l) (flat_map-append f xs ys zs) ∙ sym (append_assoc (f x) (flat_map f xs) (flat_map f ys ++ zs))

text_kept : (text : List ℕ) (t : Markup) (after : List ℕ) → markup_then (with_text text t) after ≡ flat_map escape text ++ markup_then t after
text_kept [] t after = refl
text_kept (c ∷ cs) Empty after = refl
text_kept (c ∷ cs) (Characters text rest) after = flat_map-append escape (c ∷ cs) text (markup_then rest after)
text_kept (c ∷ cs) (Tagged name attributes inside rest) after = refl

attribute_text : (a : Attribute) (after : List ℕ) → attribute_bytes a ++ after ≡ 32 ∷ (a.name ++ (61 ∷ (34 ∷ (flat_map quote a.text ++ (34 ∷ after)))))
attribute_text a after =
    ap (λ (l : List ℕ). 32 ∷ l) (append_assoc a.name (61 ∷ (34 ∷ (flat_map quote a.text ++ (34 ∷ [])))) after
    ∙ ap (λ (l : List ℕ). a.name ++ (61 ∷ (34 ∷ l))) (append_assoc (flat_map quote a.text) (34 ∷ []) after))

attributes_text : (attributes : List Attribute) (after : List ℕ) → flat_map attribute_bytes attributes ++ after ≡ attributes_then attributes after
attributes_text [] after = refl
attributes_text (a ∷ more) after =
    append_assoc (attribute_bytes a) (flat_map attribute_bytes more) after
    ∙ ap (λ (l : List ℕ). attribute_bytes a ++ l) (attributes_text more after)
    ∙ attribute_text a (attributes_then more after)

begin_text : (tag : Tag) (attrs : List Attr) (after : List ℕ) → begin_bytes tag attrs ++ after ≡ 60 ∷ (name_bytes (name_of tag) ++ attributes_then (written_attributes tag attrs) (62 ∷ after))
begin_text tag attrs after =
    let attributes = written_attributes tag attrs in
    let name = name_bytes (name_of tag) in
    ap (λ (l : List ℕ). 60 ∷ l) (append_assoc name (flat_map attribute_bytes attributes ++ (62 ∷ [])) after
    ∙ ap (λ (l : List ℕ). name ++ l) (append_assoc (flat_map attribute_bytes attributes) (62 ∷ []) after ∙ attributes_text attributes (62 ∷ after)))

end_text : (name after : List ℕ) → (60 ∷ (47 ∷ (name ++ (62 ∷ [])))) ++ after ≡ 60 ∷ (47 ∷ (name ++ (62 ∷ after)))
end_text name after = ap (λ (l : List ℕ). 60 ∷ (47 ∷ l)) (append_assoc name (62 ∷ []) after)

-- the text of what is written is that of the trees
pub same_text : (t : Trees) (after : List ℕ) → markup_then (written t) after ≡ trees_bytes t ++ after
same_text Nothing after = refl
same_text (Words text rest) after =
    text_kept text (written rest) after ∙ ap (λ (l : List ℕ). flat_map escape text ++ l) (same_text rest after) ∙ sym (append_assoc (flat_map escape text) (trees_bytes rest) after)
same_text (Element tag attrs inside rest) after =
    let name = name_bytes (name_of tag) in
    let more = same_text rest after in
    let same = void_name (name_of tag) in
    elim (cases_Bool (is_void_name (name_of tag))) [
      | inl v ↦ rw (v, same ∙ v, more) (sym (void_case name (trees_bytes rest)))
      | inr v ↦ rw (v, same ∙ v, more, same_text inside (60 ∷ (47 ∷ (name ++ (62 ∷ (trees_bytes rest ++ after)))))) (sym (closed_case name (trees_bytes inside) (trees_bytes rest)))
    ]
  where
    void_case : (name behind : List ℕ) → ((begin_bytes tag attrs ++ []) ++ behind) ++ after ≡ 60 ∷ (name_bytes (name_of tag) ++ attributes_then (written_attributes tag attrs) (62 ∷ (behind ++ after)))
    void_case name behind =
        ap (λ (l : List ℕ). (l ++ behind) ++ after) (append-nil (begin_bytes tag attrs))
        ∙ append_assoc (begin_bytes tag attrs) behind after ∙ begin_text tag attrs (behind ++ after)

    closed_case : (name held behind : List ℕ) → ((begin_bytes tag attrs ++ (held ++ end_bytes (name_of tag))) ++ behind) ++ after
        ≡ 60 ∷ (name_bytes (name_of tag) ++ attributes_then (written_attributes tag attrs) (62 ∷ (held ++ (60 ∷ (47 ∷ (name_bytes (name_of tag) ++ (62 ∷ (behind ++ after))))))))
    closed_case name held behind =
        append_assoc (begin_bytes tag attrs ++ (held ++ end_bytes (name_of tag))) behind after
        ∙ append_assoc (begin_bytes tag attrs) (held ++ end_bytes (name_of tag)) (behind ++ after)
        ∙ begin_text tag attrs ((held ++ end_bytes (name_of tag)) ++ (behind ++ after))
        ∙ ap (λ (l : List ℕ). 60 ∷ (name_bytes (name_of tag) ++ attributes_then (written_attributes tag attrs) (62 ∷ l)))
        (append_assoc held (end_bytes (name_of tag)) (behind ++ after) ∙ ap (λ (l : List ℕ). held ++ l) (end_text (name_bytes (name_of tag)) (behind ++ after)))
