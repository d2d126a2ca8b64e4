-- The fields of a record as columns of a row, one after another.
use Rattle.std.proofs.Common.{◌≡◌, ℕ, ◌+◌, ◌<◌, ◌≤◌, true, false, List, [], ◌∷◌, ◌++◌, map, drop, get_or, length, Option, Some, None, Global, if◌then◌else◌, refl, ap, sym, ◌∙◌, drop_of_length-le}
use Rattle.std.proofs.lemmas.List.{drop_more, map-append}
use Rattle.std.specs.declared.rc.Rc.{Rc}
use Rattle.con_terms.specs.View.{con_tree}
use Rattle.match_cover.specs.Tests.{Tfs, tests_named, tests_not_named, pass_leaves}
use Rattle.match_cover.specs.Rows.{Row, before_cell, before_cells, columns_of}
use Rattle.match_cover.specs.Rows as rows
use Rattle.match_cover.specs.View.{cell_at, part_view}
use Rattle.match_cover.specs.declared.rows.Cell.{Cell}
use Rattle.match_cover.specs.declared.seen.Part.{Part}
use Rattle.match_cover.proofs.Fronts.{cells_end}

cells_none : (cs : List rows.Cell) → before_cells cs None ≡ None
cells_none [] = refl
cells_none (c ∷ cs) = ap (before_cell c) (cells_none cs)

one_column : (fs : List Part) (i : ℕ) (f : Part) (ts : Tfs) (r : Row) → i < length fs → f ≡ get_or fs i f
    → columns_of (map part_view (drop i fs)) ts r ≡ before_cell (tests_named (con_tree f.name) ts) (columns_of (map part_view (drop (i + 1) fs)) (tests_not_named (con_tree f.name) ts) r)
one_column fs i f ts r h is =
    ap (λ gs. columns_of (map part_view gs) ts r) (drop_more fs i f h)
    ∙ ap (λ g. columns_of (part_view g ∷ map part_view (drop (i + 1) fs)) ts r) (sym is)

pub columns_on : (cells more : List (Rc Cell Global)) (c : Rc Cell Global) (fs : List Part) (i : ℕ) (f : Part) (ts us : Tfs) (r : Row) (o : Option Row)
    → i < length fs → f ≡ get_or fs i f → more ≡ cells ++ c ∷ []
    → cell_at c ≡ tests_named (con_tree f.name) ts
    → us ≡ tests_not_named (con_tree f.name) ts
    → before_cells (map cell_at cells) (columns_of (map part_view (drop i fs)) ts r) ≡ o
    → before_cells (map cell_at more) (columns_of (map part_view (drop (i + 1) fs)) us r) ≡ o
columns_on cells more c fs i f ts us r o h is e one rest before =
    ap (λ cs. before_cells (map cell_at cs) (columns_of (map part_view (drop (i + 1) fs)) us r)) e
    ∙ ap (λ cs. before_cells cs (columns_of (map part_view (drop (i + 1) fs)) us r)) (map-append cell_at cells (c ∷ []))
    ∙ cells_end (map cell_at cells) (cell_at c) (columns_of (map part_view (drop (i + 1) fs)) us r)
    ∙ ap (λ x. before_cells (map cell_at cells) (before_cell x (columns_of (map part_view (drop (i + 1) fs)) us r))) one
    ∙ ap (λ xs. before_cells (map cell_at cells) (before_cell (tests_named (con_tree f.name) ts) (columns_of (map part_view (drop (i + 1) fs)) xs r))) rest
    ∙ ap (before_cells (map cell_at cells)) (sym (one_column fs i f ts r h is))
    ∙ before

no_column : (fs : List Part) (i : ℕ) (ts : Tfs) (r : Row) → length fs ≤ i → columns_of (map part_view (drop i fs)) ts r ≡ (if pass_leaves ts then Some r else None)
no_column fs i ts r h = ap (λ gs. columns_of (map part_view gs) ts r) (drop_of_length-le fs h)

pub none_of : (cells : List (Rc Cell Global)) (fs : List Part) (i : ℕ) (ts : Tfs) (r : Row) (o : Option Row) → length fs ≤ i → pass_leaves ts ≡ false
    → before_cells (map cell_at cells) (columns_of (map part_view (drop i fs)) ts r) ≡ o
    → None ≡ o
none_of cells fs i ts r o h e before =
    sym (cells_none (map cell_at cells))
    ∙ ap (λ b. before_cells (map cell_at cells) (if b then Some r else None)) (sym e)
    ∙ ap (before_cells (map cell_at cells)) (sym (no_column fs i ts r h))
    ∙ before

pub some_of : (cells : List (Rc Cell Global)) (fs : List Part) (i : ℕ) (ts : Tfs) (r : Row) (o p : Option Row) → length fs ≤ i → pass_leaves ts ≡ true
    → p ≡ before_cells (map cell_at cells) (Some r)
    → before_cells (map cell_at cells) (columns_of (map part_view (drop i fs)) ts r) ≡ o
    → p ≡ o
some_of cells fs i ts r o p h e now before =
    now
    ∙ ap (λ b. before_cells (map cell_at cells) (if b then Some r else None)) (sym e)
    ∙ ap (before_cells (map cell_at cells)) (sym (no_column fs i ts r h))
    ∙ before
