-- Shapes with their arguments, one level at a time.
use Rattle.std.proofs.Common.{◌≡◌, ℕ, ◌+◌, ◌<◌, ◌≤◌, List, [], ◌∷◌, ◌++◌, map, take, length, get_or, Some, None, Option, option_map, slice_get, refl, ap, sym, ◌∙◌}
use Rattle.std.proofs.lemmas.Option.{slice_get-map, slice_get_read}
use Rattle.std.proofs.lemmas.List.{nil_from_length}
use Rattle.table_rows.specs.Wires.{Wr, rec_of, Wrs, no_wires, wire_list}
use Rattle.table_rows.specs.Shapes.{Sh, an_int, a_text, a_unit, a_truth, a_record, a_data, parameter, Shs, no_shapes, shape, Pts, no_parts, part, shape_list, argument_at, at_arguments, all_at_arguments, parts_at_arguments}
use Rattle.table_rows.specs.View.{wire_tree, wires_tree, wire_step, wires_step, shapes_from, parts_from, shape_step, arguments_step, part_step, parts_step, shape_tree, arguments_tree, parts_tree}
use Rattle.table_rows.specs.declared.wire.Wires.{Wires}
use Rattle.table_rows.specs.declared.wire.Wire.TheOpen.{Wire-F}
use Rattle.table_rows.specs.declared.wire.Wire.TheViews.{Rec, rolls-Rec}
use Rattle.table_rows.specs.declared.wire.Wire.TheFolds.{fold-roll-Wire}
use Rattle.table_rows.specs.declared.shape.Shape.{Shape}
use Rattle.table_rows.specs.declared.shape.Arguments.{Arguments}
use Rattle.table_rows.specs.declared.shape.Part.{Part}
use Rattle.table_rows.specs.declared.shape.Parts.{Parts}
use Rattle.table_rows.specs.declared.shape.Shape.TheOpen.{Shape-F}
use Rattle.table_rows.specs.declared.shape.Shape.TheViews.{out-Arguments, out-Part, out-Parts, rolls-Parameter}
use Rattle.table_rows.specs.declared.shape.Shape.TheViews as made
use Rattle.table_rows.specs.declared.shape.Shape.TheVariants.{Int, Words, Truth, Parameter}
use Rattle.table_rows.specs.declared.shape.Shape.TheVariants as variant
use Rattle.table_rows.specs.declared.shape.Shape.TheFolds.{fold_out-Arguments, fold_out-Part, fold_out-Parts, fold-roll-Shape}
use Rattle.link_router.specs.Amid.{in_front}
use Rattle.link_router.proofs.Onward.{in_front_all}
use Rattle.link_router.proofs.Listed.{beyond}
use Rattle.link_router.specs.Scoped.{closed_step, closed_tree, scope_shapes, shape_in, part_tree, parts_in}
use Rattle.link_router.specs.declared.scoped.Closed.{Closed}
use Rattle.link_router.specs.declared.scoped.Closed.TheOpen.{Closed-F}
use Rattle.link_router.specs.declared.scoped.Closed.TheViews.{out-Closed, roll-Closed}
use Rattle.link_router.specs.declared.scoped.Closed.TheFolds.{fold_out-Closed, fold-roll-Closed}

pub closed_is : (c : Closed) → closed_tree c ≡ shape_in (out-Closed c).shape.now (out-Closed c).scope.now
closed_is c = fold_out-Closed Sh closed_step c

parameter_tree : (i : ℕ) → shape_tree (Parameter i) ≡ parameter i
parameter_tree i = ap shape_tree (sym (rolls-Parameter i)) ∙ fold-roll-Shape Sh Shs (List ℕ × Sh) Pts shape_step arguments_step part_step parts_step (Shape-F.Parameter i)

shapes_listed : (ss : List Sh) → shape_list (shapes_from ss) ≡ ss
shapes_listed [] = refl
shapes_listed (s ∷ ss) = ap (λ us. s ∷ us) (shapes_listed ss)

at_place : (o : Option Sh) (s u : Sh) → o ≡ Some s → (elim o [ Some t ↦ t | None ↦ u ]) ≡ s
at_place o s u e = rw e refl

at_no_place : (o : Option Sh) (u : Sh) → o ≡ None → (elim o [ Some t ↦ t | None ↦ u ]) ≡ u
at_no_place o u e = rw e refl

-- a parameter stands for the argument at its place
pub argument_is : (cs : List Closed) (s : Shape) (i : ℕ) (a : Closed) → s ≡ Parameter i → i < length cs → a ≡ get_or cs i a → shape_in s cs ≡ closed_tree a
argument_is cs s i a e h k =
    ap (λ x. shape_in x cs) e ∙ ap (at_arguments (scope_shapes cs)) (parameter_tree i)
    ∙ at_place (slice_get (shape_list (scope_shapes cs)) i) (closed_tree a) (parameter i)
    (ap (λ ss. slice_get ss i) (shapes_listed (map closed_tree cs)) ∙ slice_get-map closed_tree cs i ∙ ap (option_map closed_tree) (slice_get_read cs (length cs) i a refl h k))

pub arguments_are : (as' : Arguments) → arguments_tree as' ≡ shapes_from (map shape_tree (out-Arguments as').items.items)
arguments_are as' = fold_out-Arguments Sh Shs (List ℕ × Sh) Pts shape_step arguments_step part_step parts_step as'

pub parts_are : (ps : Parts) → parts_tree ps ≡ parts_from (map part_tree (out-Parts ps).items.items)
parts_are ps = fold_out-Parts Sh Shs (List ℕ × Sh) Pts shape_step arguments_step part_step parts_step ps

pub part_is : (p : Part) → part_tree p ≡ ((out-Part p).name, shape_tree (out-Part p).shape)
part_is p = fold_out-Part Sh Shs (List ℕ × Sh) Pts shape_step arguments_step part_step parts_step p

-- arguments at arguments, one by one
pub all_arguments : (ss : Shs) (us : List Sh) → all_at_arguments ss (shapes_from us) ≡ shapes_from (map (at_arguments ss) us)
all_arguments ss [] = refl
all_arguments ss (u ∷ us) = ap (λ vs. shape (at_arguments ss u) vs) (all_arguments ss us)

-- nothing stands for no parameters
mutual
  pub at_nothing : (s : Sh) → at_arguments no_shapes s ≡ s
  at_nothing an_int = refl
  at_nothing a_text = refl
  at_nothing a_unit = refl
  at_nothing a_truth = refl
  at_nothing (a_record ps) = ap a_record (parts_at_nothing ps)
  at_nothing (a_data d us) = ap (a_data d) (all_at_nothing us)
  at_nothing (parameter i) = refl

  all_at_nothing : (us : Shs) → all_at_arguments no_shapes us ≡ us
  all_at_nothing no_shapes = refl
  all_at_nothing (shape u us) = ap (λ s. shape s (all_at_arguments no_shapes us)) (at_nothing u) ∙ ap (shape u) (all_at_nothing us)

  parts_at_nothing : (ps : Pts) → parts_at_arguments no_shapes ps ≡ ps
  parts_at_nothing no_parts = refl
  parts_at_nothing (part n u ps) = ap (λ s. part n s (parts_at_arguments no_shapes ps)) (at_nothing u) ∙ ap (part n u) (parts_at_nothing ps)

-- a shape that is named with its scope
pub closed_made : (r : Closed-F Closed) → closed_tree (roll-Closed r) ≡ shape_in r.shape.now r.scope.now
closed_made r = fold-roll-Closed Sh closed_step r

-- the first field, and the others
pub parts_first : (ps : Parts) (x : Part) (others : List Part) → (out-Parts ps).items.items ≡ x ∷ others → parts_tree ps ≡ part (out-Part x).name (shape_tree (out-Part x).shape) (parts_from (map part_tree others))
parts_first ps x others e = parts_are ps ∙ ap (λ xs. parts_from (map part_tree xs)) e ∙ ap (λ (p : List ℕ × Sh). part p.0 p.1 (parts_from (map part_tree others))) (part_is x)

pub listed_first : (parts : List Part) (x : Part) (others : List Part) → parts ≡ x ∷ others → parts_from (map part_tree parts) ≡ part (out-Part x).name (shape_tree (out-Part x).shape) (parts_from (map part_tree others))
listed_first parts x others e = ap (λ xs. parts_from (map part_tree xs)) e ∙ ap (λ (p : List ℕ × Sh). part p.0 p.1 (parts_from (map part_tree others))) (part_is x)

pub parts_nothing : (ps : Parts) → length (out-Parts ps).items.items ≡ 0 → parts_tree ps ≡ no_parts
parts_nothing ps e = parts_are ps ∙ ap (λ xs. parts_from (map part_tree xs)) (nil_from_length (out-Parts ps).items.items e)

pub listed_nothing : (parts : List Part) → length parts ≡ 0 → parts_from (map part_tree parts) ≡ no_parts
listed_nothing parts e = ap (λ xs. parts_from (map part_tree xs)) (nil_from_length parts e)

-- values that are made
pub record_tree : (ws : Wires) → wire_tree (Rec ws) ≡ rec_of (wires_tree ws)
record_tree ws = ap wire_tree (sym (rolls-Rec ws)) ∙ fold-roll-Wire Wr Wrs wire_step wires_step (Wire-F.Rec ws)

pub empty_record : (ws : Wires) → wire_list (wires_tree ws) ≡ [] → wire_tree (Rec ws) ≡ rec_of no_wires
empty_record ws e = record_tree ws ∙ ap rec_of (sym (in_front_all (wires_tree ws)) ∙ ap (λ l. in_front l no_wires) e)

-- shapes as they are taken, form by form
pub int_in : (s : Shape) (cs : List Closed) → s ≡ Int → shape_in s cs ≡ an_int
int_in s cs e = ap (λ x. shape_in x cs) e ∙ ap (at_arguments (scope_shapes cs)) (ap shape_tree (sym made.rolls-Int) ∙ fold-roll-Shape Sh Shs (List ℕ × Sh) Pts shape_step arguments_step part_step parts_step Shape-F.Int)

pub words_in : (s : Shape) (cs : List Closed) → s ≡ Words → shape_in s cs ≡ a_text
words_in s cs e = ap (λ x. shape_in x cs) e ∙ ap (at_arguments (scope_shapes cs)) (ap shape_tree (sym made.rolls-Words) ∙ fold-roll-Shape Sh Shs (List ℕ × Sh) Pts shape_step arguments_step part_step parts_step Shape-F.Words)

pub unit_in : (s : Shape) (cs : List Closed) → s ≡ variant.Unit → shape_in s cs ≡ a_unit
unit_in s cs e = ap (λ x. shape_in x cs) e ∙ ap (at_arguments (scope_shapes cs)) (ap shape_tree (sym made.rolls-Unit) ∙ fold-roll-Shape Sh Shs (List ℕ × Sh) Pts shape_step arguments_step part_step parts_step Shape-F.Unit)

pub truth_in : (s : Shape) (cs : List Closed) → s ≡ Truth → shape_in s cs ≡ a_truth
truth_in s cs e = ap (λ x. shape_in x cs) e ∙ ap (at_arguments (scope_shapes cs)) (ap shape_tree (sym made.rolls-Truth) ∙ fold-roll-Shape Sh Shs (List ℕ × Sh) Pts shape_step arguments_step part_step parts_step Shape-F.Truth)

pub record_in : (s : Shape) (cs : List Closed) (ps : Parts) → s ≡ variant.Rec ps → shape_in s cs ≡ a_record (parts_at_arguments (scope_shapes cs) (parts_tree ps))
record_in s cs ps e = ap (λ x. shape_in x cs) e ∙ ap (at_arguments (scope_shapes cs)) (ap shape_tree (sym (made.rolls-Rec ps)) ∙ fold-roll-Shape Sh Shs (List ℕ × Sh) Pts shape_step arguments_step part_step parts_step (Shape-F.Rec ps))

pub data_in : (s : Shape) (cs : List Closed) (d : ℕ) (as' : Arguments) → s ≡ variant.Data d as' → shape_in s cs ≡ a_data d (all_at_arguments (scope_shapes cs) (arguments_tree as'))
data_in s cs d as' e = ap (λ x. shape_in x cs) e ∙ ap (at_arguments (scope_shapes cs)) (ap shape_tree (sym (made.rolls-Data d as')) ∙ fold-roll-Shape Sh Shs (List ℕ × Sh) Pts shape_step arguments_step part_step parts_step (Shape-F.Data d as'))

pub parameter_in : (s : Shape) (cs : List Closed) (i : ℕ) → s ≡ Parameter i → length cs ≤ i → shape_in s cs ≡ parameter i
parameter_in s cs i e h =
    ap (λ x. shape_in x cs) e ∙ ap (at_arguments (scope_shapes cs)) (parameter_tree i)
    ∙ at_no_place (slice_get (shape_list (scope_shapes cs)) i) (parameter i) (ap (λ ss. slice_get ss i) (shapes_listed (map closed_tree cs)) ∙ beyond closed_tree cs i h)
