-- The field of a shape with a name, field by field.
use Rattle.std.proofs.Common.{◌≡◌, ℕ, ◌+◌, ◌<◌, ◌≤◌, true, false, List, ◌∷◌, map, drop, get_or, length, if◌then◌else◌, ap, sym, ◌∙◌, drop_of_length-le}
use Rattle.std.proofs.lemmas.List.{drop_more}
use Rattle.con_terms.specs.Trees.{Cn}
use Rattle.con_terms.specs.View.{con_tree}
use Rattle.row_normal.specs.SameTree.{cn_eq}
use Rattle.core_typing.specs.Cover.{Shp, Shf, leaf, shape_at}
use Rattle.type_faults.specs.View.{shape_tree, shape_field_tree, shapes_tree, shapes_from, shape_step, shape_field_step, shape_fields_step}
use Rattle.type_faults.specs.declared.fault.ShapeField.{ShapeField, out-ShapeField}
use Rattle.type_faults.specs.declared.fault.ShapeFields.{ShapeFields, out-ShapeFields}
use Rattle.type_faults.specs.declared.fault.Shape.TheFolds.{fold_out-ShapeField, fold_out-ShapeFields}

pub shapes_tree_is : (fs : ShapeFields) → shapes_tree fs ≡ shapes_from (map shape_field_tree (out-ShapeFields fs).items.items)
shapes_tree_is fs = fold_out-ShapeFields Shp (Cn × Shp) Shf shape_step shape_field_step shape_fields_step fs

shape_field_is : (f : ShapeField) → shape_field_tree f ≡ (con_tree (out-ShapeField f).name, shape_tree (out-ShapeField f).shape)
shape_field_is f = fold_out-ShapeField Shp (Cn × Shp) Shf shape_step shape_field_step shape_fields_step f

-- the first of the fields, or one behind it
one_field : (fs : List ShapeField) (i : ℕ) (f : ShapeField) (x : Cn) → i < length fs → f ≡ get_or fs i f
    → shape_at (shapes_from (map shape_field_tree (drop i fs))) x
    ≡ (if cn_eq (con_tree (out-ShapeField f).name) x then shape_tree (out-ShapeField f).shape else shape_at (shapes_from (map shape_field_tree (drop (i + 1) fs))) x)
one_field fs i f x h is =
    ap (λ gs. shape_at (shapes_from (map shape_field_tree gs)) x) (drop_more fs i f h)
    ∙ ap (λ g. shape_at (shapes_from (shape_field_tree g ∷ map shape_field_tree (drop (i + 1) fs))) x) (sym is)
    ∙ ap (λ (t : Cn × Shp). if cn_eq t.0 x then t.1 else shape_at (shapes_from (map shape_field_tree (drop (i + 1) fs))) x) (shape_field_is f)

pub field_here : (fs : List ShapeField) (i : ℕ) (f : ShapeField) (x : Cn) (s : Shp) → i < length fs → f ≡ get_or fs i f → cn_eq (con_tree (out-ShapeField f).name) x ≡ true
    → shape_at (shapes_from (map shape_field_tree (drop i fs))) x ≡ s → shape_tree (out-ShapeField f).shape ≡ s
field_here fs i f x s h is e before =
    ap (λ b. if b then shape_tree (out-ShapeField f).shape else shape_at (shapes_from (map shape_field_tree (drop (i + 1) fs))) x) (sym e) ∙ sym (one_field fs i f x h is) ∙ before

pub field_later : (fs : List ShapeField) (i : ℕ) (f : ShapeField) (x : Cn) (s : Shp) → i < length fs → f ≡ get_or fs i f → cn_eq (con_tree (out-ShapeField f).name) x ≡ false
    → shape_at (shapes_from (map shape_field_tree (drop i fs))) x ≡ s → shape_at (shapes_from (map shape_field_tree (drop (i + 1) fs))) x ≡ s
field_later fs i f x s h is e before =
    ap (λ b. if b then shape_tree (out-ShapeField f).shape else shape_at (shapes_from (map shape_field_tree (drop (i + 1) fs))) x) (sym e) ∙ sym (one_field fs i f x h is) ∙ before

pub field_nowhere : (fs : List ShapeField) (i : ℕ) (x : Cn) (s : Shp) → length fs ≤ i → shape_at (shapes_from (map shape_field_tree (drop i fs))) x ≡ s → leaf ≡ s
field_nowhere fs i x s h before = ap (λ gs. shape_at (shapes_from (map shape_field_tree gs)) x) (sym (drop_of_length-le fs h)) ∙ before
