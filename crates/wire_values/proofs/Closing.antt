-- Shapes with their arguments, one level at a time.
use Rattle.std.proofs.Common.{◌≡◌, ℕ, ◌<◌, List, [], ◌∷◌, map, length, get_or, Some, None, Option, option_map, slice_get, refl, ap, sym, ◌∙◌}
use Rattle.std.proofs.lemmas.Option.{slice_get-map, slice_get_read}
use Rattle.table_rows.specs.Shapes.{Sh, an_int, a_text, a_unit, a_truth, a_record, a_data, parameter, Shs, Pts, shape_list, at_arguments, all_at_arguments, parts_at_arguments}
use Rattle.table_rows.specs.View.{shapes_from, shape_step, arguments_step, part_step, parts_step, shape_tree, arguments_tree, parts_tree}
use Rattle.table_rows.specs.declared.shape.Shape.{Shape}
use Rattle.table_rows.specs.declared.shape.Arguments.{Arguments}
use Rattle.table_rows.specs.declared.shape.Parts.{Parts}
use Rattle.table_rows.specs.declared.shape.Shape.TheOpen.{Shape-F}
use Rattle.table_rows.specs.declared.shape.Shape.TheViews as made
use Rattle.table_rows.specs.declared.shape.Shape.TheVariants as variant
use Rattle.table_rows.specs.declared.shape.Shape.TheFolds.{fold-roll-Shape}
use Rattle.wire_values.specs.Scoped.{closed_step, closed_tree, scope_shapes, shape_in}
use Rattle.wire_values.specs.declared.scoped.Closed.{Closed}
use Rattle.wire_values.specs.declared.scoped.Closed.TheOpen.{Closed-F}
use Rattle.wire_values.specs.declared.scoped.Closed.TheViews.{out-Closed, roll-Closed}
use Rattle.wire_values.specs.declared.scoped.Closed.TheFolds.{fold_out-Closed, fold-roll-Closed}

pub closed_is : (c : Closed) → closed_tree c ≡ shape_in (out-Closed c).shape.now (out-Closed c).scope.now
closed_is c = fold_out-Closed Sh closed_step c

-- a shape that is named with its scope
pub closed_made : (r : Closed-F Closed) → closed_tree (roll-Closed r) ≡ shape_in r.shape.now r.scope.now
closed_made r = fold-roll-Closed Sh closed_step r

parameter_tree : (i : ℕ) → shape_tree (variant.Parameter i) ≡ parameter i
parameter_tree i = ap shape_tree (sym (made.rolls-Parameter i)) ∙ fold-roll-Shape Sh Shs (List ℕ × Sh) Pts shape_step arguments_step part_step parts_step (Shape-F.Parameter i)

shapes_listed : (ss : List Sh) → shape_list (shapes_from ss) ≡ ss
shapes_listed [] = refl
shapes_listed (s ∷ ss) = ap (λ us. s ∷ us) (shapes_listed ss)

at_place : (o : Option Sh) (s u : Sh) → o ≡ Some s → (elim o [ Some t ↦ t | None ↦ u ]) ≡ s
at_place o s u e = rw e refl

-- a parameter stands for the argument at its place
pub argument_is : (cs : List Closed) (s : Shape) (i : ℕ) (a : Closed) → s ≡ variant.Parameter i → i < length cs → a ≡ get_or cs i a → shape_in s cs ≡ closed_tree a
argument_is cs s i a e h k =
    ap (λ x. shape_in x cs) e ∙ ap (at_arguments (scope_shapes cs)) (parameter_tree i)
    ∙ at_place (slice_get (shape_list (scope_shapes cs)) i) (closed_tree a) (parameter i)
    (ap (λ ss. slice_get ss i) (shapes_listed (map closed_tree cs)) ∙ slice_get-map closed_tree cs i ∙ ap (option_map closed_tree) (slice_get_read cs (length cs) i a refl h k))

-- shapes as they are taken, form by form
pub int_in : (s : Shape) (cs : List Closed) → s ≡ variant.Int → shape_in s cs ≡ an_int
int_in s cs e = ap (λ x. shape_in x cs) e ∙ ap (at_arguments (scope_shapes cs)) (ap shape_tree (sym made.rolls-Int) ∙ fold-roll-Shape Sh Shs (List ℕ × Sh) Pts shape_step arguments_step part_step parts_step Shape-F.Int)

pub words_in : (s : Shape) (cs : List Closed) → s ≡ variant.Words → shape_in s cs ≡ a_text
words_in s cs e = ap (λ x. shape_in x cs) e ∙ ap (at_arguments (scope_shapes cs)) (ap shape_tree (sym made.rolls-Words) ∙ fold-roll-Shape Sh Shs (List ℕ × Sh) Pts shape_step arguments_step part_step parts_step Shape-F.Words)

pub unit_in : (s : Shape) (cs : List Closed) → s ≡ variant.Unit → shape_in s cs ≡ a_unit
unit_in s cs e = ap (λ x. shape_in x cs) e ∙ ap (at_arguments (scope_shapes cs)) (ap shape_tree (sym made.rolls-Unit) ∙ fold-roll-Shape Sh Shs (List ℕ × Sh) Pts shape_step arguments_step part_step parts_step Shape-F.Unit)

pub truth_in : (s : Shape) (cs : List Closed) → s ≡ variant.Truth → shape_in s cs ≡ a_truth
truth_in s cs e = ap (λ x. shape_in x cs) e ∙ ap (at_arguments (scope_shapes cs)) (ap shape_tree (sym made.rolls-Truth) ∙ fold-roll-Shape Sh Shs (List ℕ × Sh) Pts shape_step arguments_step part_step parts_step Shape-F.Truth)

pub record_in : (s : Shape) (cs : List Closed) (ps : Parts) → s ≡ variant.Rec ps → shape_in s cs ≡ a_record (parts_at_arguments (scope_shapes cs) (parts_tree ps))
record_in s cs ps e = ap (λ x. shape_in x cs) e ∙ ap (at_arguments (scope_shapes cs)) (ap shape_tree (sym (made.rolls-Rec ps)) ∙ fold-roll-Shape Sh Shs (List ℕ × Sh) Pts shape_step arguments_step part_step parts_step (Shape-F.Rec ps))

pub data_in : (s : Shape) (cs : List Closed) (d : ℕ) (as' : Arguments) → s ≡ variant.Data d as' → shape_in s cs ≡ a_data d (all_at_arguments (scope_shapes cs) (arguments_tree as'))
data_in s cs d as' e = ap (λ x. shape_in x cs) e ∙ ap (at_arguments (scope_shapes cs)) (ap shape_tree (sym (made.rolls-Data d as')) ∙ fold-roll-Shape Sh Shs (List ℕ × Sh) Pts shape_step arguments_step part_step parts_step (Shape-F.Data d as'))
