-- One more field of a pattern, and one more name (for `under_fields`, `inside_names`).
use Rattle.std.proofs.Common.{◌≡◌, ℕ, ◌+◌, ◌<◌, List, length, map, drop, get_or, ap, sym, ◌∙◌, subst}
use Rattle.core_terms.specs.Lists.{local_tree, pat_field_tree}
use Rattle.core_terms.specs.View.{locals_from, named_from, named_tree, pat_fields_from}
use Rattle.core_terms.specs.declared.exp.Local.{Local}
use Rattle.core_terms.specs.declared.exp.Named.{Named}
use Rattle.core_terms.specs.declared.pat.PatField.{PatField}
use Rattle.guided_terms.specs.Heres.{Here}
use Rattle.inserted_terms.specs.Inside.{inside, inside_binder, inside_fields, inside_locals, inside_names}
use Rattle.inserted_terms.specs.Chosen.{LocalsChosen}
use Rattle.inserted_terms.specs.Parts.{LocalChosen, inside_local}
use Rattle.inserted_terms.proofs.Modules.{from_place}
use Rattle.inserted_terms.proofs.Parts.{inside_more, locals_more}

pub fields_more : (whole h g : Here) (fs : List PatField) (i : ℕ) (f : PatField) → i < length fs → f ≡ get_or fs i f
    → whole ≡ inside_fields (pat_fields_from (map pat_field_tree (drop i fs))) h
    → g ≡ inside (pat_field_tree f).2 h
    → whole ≡ inside_fields (pat_fields_from (map pat_field_tree (drop (i + 1) fs))) g
fields_more whole h g fs i f l e w s =
    w ∙ ap (λ xs. inside_fields (pat_fields_from (map pat_field_tree xs)) h) (from_place fs i f l e)
    ∙ ap (inside_fields (pat_fields_from (map pat_field_tree (drop (i + 1) fs)))) (sym s)

pub names_more : (whole h g : Here) (ns : List Named) (i : ℕ) (n : Named) → i < length ns → n ≡ get_or ns i n
    → whole ≡ inside_names (named_from (map named_tree (drop i ns))) h
    → g ≡ inside_binder (named_tree n).1 (named_tree n).3 h
    → whole ≡ inside_names (named_from (map named_tree (drop (i + 1) ns))) g
names_more whole h g ns i n l e w s =
    w ∙ ap (λ xs. inside_names (named_from (map named_tree xs)) h) (from_place ns i n l e)
    ∙ ap (inside_names (named_from (map named_tree (drop (i + 1) ns)))) (sym s)

-- one more declaration of a let
pub chosen_more : (h g : Here) (ls : List Local) (i : ℕ) (l : Local) → i < length ls → l ≡ get_or ls i l
    → LocalChosen h (local_tree l) → g ≡ inside_local (local_tree l) h
    → LocalsChosen g (locals_from (map local_tree (drop (i + 1) ls)))
    → LocalsChosen h (locals_from (map local_tree (drop i ls)))
chosen_more h g ls i l a e c s more =
    let rest = locals_from (map local_tree (drop (i + 1) ls)) in
    subst (λ xs. LocalsChosen h (locals_from (map local_tree xs))) (sym (from_place ls i l a e))
    (locals_more h (local_tree l) rest c (subst (λ z. LocalsChosen z rest) s more))

pub scope_more : (whole h g : Here) (ls : List Local) (i : ℕ) (l : Local) → i < length ls → l ≡ get_or ls i l
    → whole ≡ inside_locals (locals_from (map local_tree (drop i ls))) h
    → g ≡ inside_local (local_tree l) h
    → whole ≡ inside_locals (locals_from (map local_tree (drop (i + 1) ls))) g
scope_more whole h g ls i l a e w s =
    w ∙ ap (λ xs. inside_locals (locals_from (map local_tree xs)) h) (from_place ls i l a e)
    ∙ inside_more h (local_tree l) (locals_from (map local_tree (drop (i + 1) ls)))
    ∙ ap (inside_locals (locals_from (map local_tree (drop (i + 1) ls)))) (sym s)
