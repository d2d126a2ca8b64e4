-- Shapes and cells that are put before others, one after another.
use Rattle.std.proofs.Common.{◌≡◌, List, [], ◌∷◌, ◌++◌, map, Option, Some, Global, refl, ap, sym, ◌∙◌}
use Rattle.std.proofs.lemmas.List.{map-append}
use Rattle.std.specs.declared.rc.Rc.{Rc}
use Rattle.core_typing.specs.Cover.{Shp}
use Rattle.type_faults.specs.View.{shape_tree}
use Rattle.type_faults.specs.declared.fault.Shape.{Shape}
use Rattle.match_cover.specs.Rows.{Cell, Row, before_cell, before_cells}
use Rattle.match_cover.specs.Misses.{Out, covered, missed, then_shape, prepended}
use Rattle.match_cover.specs.View.{cell_at}
use Rattle.match_cover.specs.declared.rows.Cell as held

pub prepended_end : (ss : List Shp) (s : Shp) (o : Out) → prepended (ss ++ s ∷ []) o ≡ prepended ss (then_shape s o)
prepended_end [] s o = refl
prepended_end (r ∷ ss) s o = ap (then_shape r) (prepended_end ss s o)

pub prepended_covered : (ss : List Shp) → prepended ss covered ≡ covered
prepended_covered [] = refl
prepended_covered (s ∷ ss) = ap (then_shape s) (prepended_covered ss)

pub cells_end : (cs : List Cell) (c : Cell) (o : Option Row) → before_cells (cs ++ c ∷ []) o ≡ before_cells cs (before_cell c o)
cells_end [] c o = refl
cells_end (b ∷ cs) c o = ap (before_cell b) (cells_end cs c o)

-- the last of what waits is put before what there is
pub cells_on : (waiting less : List (Rc held.Cell Global)) (c : Rc held.Cell Global) (r next : Row) (o : Option Row)
    → waiting ≡ less ++ c ∷ [] → next ≡ cell_at c ∷ r
    → before_cells (map cell_at waiting) (Some r) ≡ o
    → before_cells (map cell_at less) (Some next) ≡ o
cells_on waiting less c r next o e is before =
    ap (λ x. before_cells (map cell_at less) (Some x)) is
    ∙ sym (cells_end (map cell_at less) (cell_at c) (Some r))
    ∙ ap (λ cs. before_cells cs (Some r)) (sym (map-append cell_at less (c ∷ [])))
    ∙ ap (λ cs. before_cells (map cell_at cs) (Some r)) (sym e)
    ∙ before

pub shapes_on : (waiting less : List Shape) (s : Shape) (ss next : List Shp) (o : Out)
    → waiting ≡ less ++ s ∷ [] → next ≡ shape_tree s ∷ ss
    → prepended (map shape_tree waiting) (missed ss) ≡ o
    → prepended (map shape_tree less) (missed next) ≡ o
shapes_on waiting less s ss next o e is before =
    ap (λ x. prepended (map shape_tree less) (missed x)) is
    ∙ sym (prepended_end (map shape_tree less) (shape_tree s) (missed ss))
    ∙ ap (λ cs. prepended cs (missed ss)) (sym (map-append shape_tree less (s ∷ [])))
    ∙ ap (λ cs. prepended (map shape_tree cs) (missed ss)) (sym e)
    ∙ before

-- the same of a shape that is pushed behind others
pub pushed_on : (shapes more : List Shape) (s : Shape) (o p : Out)
    → more ≡ shapes ++ s ∷ []
    → prepended (map shape_tree shapes) (then_shape (shape_tree s) o) ≡ p
    → prepended (map shape_tree more) o ≡ p
pushed_on shapes more s o p e before =
    ap (λ cs. prepended (map shape_tree cs) o) e
    ∙ ap (λ cs. prepended cs o) (map-append shape_tree shapes (s ∷ []))
    ∙ prepended_end (map shape_tree shapes) (shape_tree s) o
    ∙ before
