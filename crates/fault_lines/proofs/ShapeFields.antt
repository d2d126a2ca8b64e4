-- The fields of a shape, put behind a text one by one.
use Rattle.std.proofs.Common.{◌≡◌, ℕ, suc, ◌+◌, ◌<◌, Bool, true, false, not, List, ◌∷◌, codes, length, map, get_or, drop, ap, sym, ◌∙◌, arith, drop-cons}
use Rattle.shown_types.specs.Names.{Known}
use Rattle.shown_types.specs.Words.{put_wanted}
use Rattle.type_faults.specs.View.{shape_field_tree, shapes_from}
use Rattle.type_faults.specs.declared.fault.ShapeField.{ShapeField}
use Rattle.fault_lines.specs.Shapes.{put_shape, put_shape_field, put_shape_fields}

opened : (xs : List ShapeField) (i : ℕ) (x : ShapeField) → x ≡ get_or xs i x → i < length xs → drop i xs ≡ x ∷ drop (i + 1) xs
opened xs i x e h = drop-cons xs i x h ∙ ap (λ (y : ShapeField). y ∷ drop (suc i) xs) (sym e) ∙ ap (λ (n : ℕ). x ∷ drop n xs) (let p : suc i ≡ i + 1 = omega arith in p)

-- what the fields from a place on come to is what those behind it come to, once the one at the place is put
pub next_field : (g : Known) (called : List (List ℕ)) (first : Bool) (xs : List ShapeField) (i : ℕ) (x : ShapeField) (whole line after : List ℕ)
    → whole ≡ put_shape_fields g called first (shapes_from (map shape_field_tree (drop i xs))) line
    → x ≡ get_or xs i x → i < length xs
    → after ≡ put_shape_field g called (shape_field_tree x).0 (put_shape g called true (shape_field_tree x).1) (put_wanted (not first) (codes ",") line)
    → whole ≡ put_shape_fields g called false (shapes_from (map shape_field_tree (drop (i + 1) xs))) after
next_field g called first xs i x whole line after e at within h =
    e ∙ ap (λ (ys : List ShapeField). put_shape_fields g called first (shapes_from (map shape_field_tree ys)) line) (opened xs i x at within)
    ∙ ap (λ (t : List ℕ). put_shape_fields g called false (shapes_from (map shape_field_tree (drop (i + 1) xs))) t) (sym h)
