use Rattle.std.proofs.Common.{◌≡◌, ◌+◌, ◌-◌, IfOk, subst, arith, ap, sym, ◌∙◌, map, drop, suc, ◌∷◌}
use Rattle.con_terms.specs.Trees.{con_list}
use Rattle.con_terms.specs.View.{con_tree, cons_tree}
use Rattle.core_terms.specs.View.{constructor_view, datatype_view, maybe_con}
use Rattle.core_typing.specs.Cover.{holding_shape}
use Rattle.core_typing.specs.Seen as types
use Rattle.type_faults.specs.View.{shape_tree}
use Rattle.match_cover.specs.Rows.{inside}
use Rattle.match_cover.specs.Misses.{Out, first_shape, built_cases, by_seen, literals, literal_count, misses, or_else, wrapped}
use Rattle.match_cover.specs.View.{columns_view, first_view, out_view, rows_view, seen_view, tried_view}
use Rattle.match_cover.proofs.Turns.{bare_case, cases_at, held_free, held_more, literals_at, split_on}
use Rattle.match_cover.proofs.miss.+misses.Goals as goal

pub split-returns-in_ok-told-in-Some : goal.split-returns-in_ok-told-in-Some
split-returns-in_ok-told-in-Some t c =
    subst (λ (w : Out). IfOk c.by_seen.result (λ o. out_view o ≡ w))
    (split_on (map datatype_view c.args.datatypes.now.items) (misses (map datatype_view c.args.datatypes.now.items) c.args.room) c.args.depth (c.args.depth - 1) (con_tree c.args.t.now) (con_tree c.in-Some.n) (seen_view c.in_ok-told-in-Some.told) (columns_view c.args.rest.now.value) (rows_view c.args.rows.now)
    (omega arith) (sym (ap maybe_con c.in-Some.is) ∙ c.in_ok-normal_of.ensures) c.in_ok-told-in-Some.ensures)
    c.by_seen.ensures

pub by_seen-returns-in-Data : goal.by_seen-returns-in-Data
by_seen-returns-in-Data t c =
    subst (λ (w : types.Seen). IfOk c.by_constructors.result (λ o. out_view o ≡ by_seen (map datatype_view c.args.datatypes.now.items) (misses (map datatype_view c.args.datatypes.now.items) c.args.room) c.args.depth (columns_view c.args.rest.now.value) (rows_view c.args.rows.now) w)) (ap seen_view (sym c.in-Data.is)) c.by_constructors.ensures

pub by_constructors-returns-in-All : goal.by_constructors-returns-in-All
by_constructors-returns-in-All t c =
    ap (λ x. tried_view x (built_cases (map datatype_view c.args.datatypes.now.items) (misses (map datatype_view c.args.datatypes.now.items) c.args.room) c.args.depth c.args.d.now.symbol.number (con_list (cons_tree c.args.args.now)) (columns_view c.args.rest.now.value) (rows_view c.args.rows.now) (map constructor_view (drop (c.loop-j.j + 1) c.args.d.now.constructors.items.items)) (c.loop-j.j + 1))) (sym c.in-All.is)
    ∙ cases_at (λ ds i. built_cases (map datatype_view c.args.datatypes.now.items) (misses (map datatype_view c.args.datatypes.now.items) c.args.room) c.args.depth c.args.d.now.symbol.number (con_list (cons_tree c.args.args.now)) (columns_view c.args.rest.now.value) (rows_view c.args.rows.now) ds i) c.args.d.now.constructors.items.items c.loop-j.j c.in_ok-place.place c.index-c.result.now (tried_view c.in_ok-told.told) _
    (omega (arith, c.args.d.now.constructors.items.ok.0)) c.index-c.ensures c.in_ok-place.ensures c.in_ok-told.ensures c.loop-j.invariant

pub by_constructors-returns-in-Missed : goal.by_constructors-returns-in-Missed
by_constructors-returns-in-Missed t c =
    ap (λ x. tried_view x (built_cases (map datatype_view c.args.datatypes.now.items) (misses (map datatype_view c.args.datatypes.now.items) c.args.room) c.args.depth c.args.d.now.symbol.number (con_list (cons_tree c.args.args.now)) (columns_view c.args.rest.now.value) (rows_view c.args.rows.now) (map constructor_view (drop (c.loop-j.j + 1) c.args.d.now.constructors.items.items)) (c.loop-j.j + 1))) (sym c.in-Missed.is)
    ∙ cases_at (λ ds i. built_cases (map datatype_view c.args.datatypes.now.items) (misses (map datatype_view c.args.datatypes.now.items) c.args.room) c.args.depth c.args.d.now.symbol.number (con_list (cons_tree c.args.args.now)) (columns_view c.args.rest.now.value) (rows_view c.args.rows.now) ds i) c.args.d.now.constructors.items.items c.loop-j.j c.in_ok-place.place c.index-c.result.now (tried_view c.in_ok-told.told) _
    (omega (arith, c.args.d.now.constructors.items.ok.0)) c.index-c.ensures c.in_ok-place.ensures c.in_ok-told.ensures c.loop-j.invariant

pub by_constructors-loop-j-preserved : goal.by_constructors-loop-j-preserved
by_constructors-loop-j-preserved t c =
    ap (λ x. tried_view x (built_cases (map datatype_view c.args.datatypes.now.items) (misses (map datatype_view c.args.datatypes.now.items) c.args.room) c.args.depth c.args.d.now.symbol.number (con_list (cons_tree c.args.args.now)) (columns_view c.args.rest.now.value) (rows_view c.args.rows.now) (map constructor_view (drop (c.loop-j.j + 1) c.args.d.now.constructors.items.items)) (c.loop-j.j + 1))) (sym c.in-More.is)
    ∙ cases_at (λ ds i. built_cases (map datatype_view c.args.datatypes.now.items) (misses (map datatype_view c.args.datatypes.now.items) c.args.room) c.args.depth c.args.d.now.symbol.number (con_list (cons_tree c.args.args.now)) (columns_view c.args.rest.now.value) (rows_view c.args.rows.now) ds i) c.args.d.now.constructors.items.items c.loop-j.j c.in_ok-place.place c.index-c.result.now (tried_view c.in_ok-told.told) _
    (omega (arith, c.args.d.now.constructors.items.ok.0)) c.index-c.ensures c.in_ok-place.ensures c.in_ok-told.ensures c.loop-j.invariant

pub by_literals-returns-in-All : goal.by_literals-returns-in-All
by_literals-returns-in-All t c =
    ap (λ x. tried_view x (literals (misses (map datatype_view c.args.datatypes.now.items) c.args.room (columns_view c.args.rest.now.value)) c.args.words (rows_view c.args.rows.now) (literal_count - (c.loop-z.z + 1)) (c.loop-z.z + 1))) (sym c.in-All.is)
    ∙ literals_at (misses (map datatype_view c.args.datatypes.now.items) c.args.room (columns_view c.args.rest.now.value)) c.args.words (rows_view c.args.rows.now) c.loop-z.z (shape_tree c.in_ok-s.s) (tried_view c.in_ok-told.told) _
    (omega arith) c.in_ok-s.ensures c.in_ok-told.ensures c.loop-z.invariant

pub by_literals-returns-in-Missed : goal.by_literals-returns-in-Missed
by_literals-returns-in-Missed t c =
    ap (λ x. tried_view x (literals (misses (map datatype_view c.args.datatypes.now.items) c.args.room (columns_view c.args.rest.now.value)) c.args.words (rows_view c.args.rows.now) (literal_count - (c.loop-z.z + 1)) (c.loop-z.z + 1))) (sym c.in-Missed.is)
    ∙ literals_at (misses (map datatype_view c.args.datatypes.now.items) c.args.room (columns_view c.args.rest.now.value)) c.args.words (rows_view c.args.rows.now) c.loop-z.z (shape_tree c.in_ok-s.s) (tried_view c.in_ok-told.told) _
    (omega arith) c.in_ok-s.ensures c.in_ok-told.ensures c.loop-z.invariant

pub by_literals-loop-z-preserved : goal.by_literals-loop-z-preserved
by_literals-loop-z-preserved t c =
    ap (λ x. tried_view x (literals (misses (map datatype_view c.args.datatypes.now.items) c.args.room (columns_view c.args.rest.now.value)) c.args.words (rows_view c.args.rows.now) (literal_count - (c.loop-z.z + 1)) (c.loop-z.z + 1))) (sym c.in-More.is)
    ∙ literals_at (misses (map datatype_view c.args.datatypes.now.items) c.args.room (columns_view c.args.rest.now.value)) c.args.words (rows_view c.args.rows.now) c.loop-z.z (shape_tree c.in_ok-s.s) (tried_view c.in_ok-told.told) _
    (omega arith) c.in_ok-s.ensures c.in_ok-told.ensures c.loop-z.invariant

pub at_constructor-returns-in_ok-told-in-None : goal.at_constructor-returns-in_ok-told-in-None
at_constructor-returns-in_ok-told-in-None t c =
    λ cs. c.in_ok-told-in-None.ensures (built_cases (map datatype_view c.args.datatypes.now.items) (misses (map datatype_view c.args.datatypes.now.items) c.args.room) c.args.depth c.args.d.number (con_list (cons_tree c.args.args.now)) (columns_view c.args.rest.now.value) (rows_view c.args.rows.now) cs (suc c.args.j))
    ∙ bare_case (map datatype_view c.args.datatypes.now.items) (misses (map datatype_view c.args.datatypes.now.items) c.args.room) c.args.depth c.args.d.number (con_list (cons_tree c.args.args.now)) (columns_view c.args.rest.now.value) (rows_view c.args.rows.now) (constructor_view c.args.c.now) cs c.args.j _ c.bare-s.ensures (ap maybe_con c.in-None.is)

pub at_holding-returns-then-heads_are_free : goal.at_holding-returns-then-heads_are_free
at_holding-returns-then-heads_are_free t c =
    λ more. held_free (misses (map datatype_view c.args.datatypes.now.items) c.args.room (columns_view c.args.rest.now.value)) (holding_shape c.args.d.number c.args.j) (first_shape (map datatype_view c.args.datatypes.now.items) c.args.depth (con_tree c.args.t)) (shape_tree c.in-Some.h) (shape_tree c.in_ok-s-in-Some.s) (rows_view c.args.rows.now) (rows_view c.in_ok-with-in-Some.with) more
    (or_else (wrapped c.args.d.number c.args.j (misses (map datatype_view c.args.datatypes.now.items) c.args.room ((c.args.depth, con_tree c.args.t) ∷ columns_view c.args.rest.now.value) (inside c.args.d.number c.args.j (rows_view c.args.rows.now)))) more) _ _
    (sym (ap first_view c.in-Some.is) ∙ c.in_ok-first_shape.ensures) c.in_ok-s-in-Some.ensures c.in_ok-with-in-Some.ensures c.heads_are_free.ensures c.if-heads_are_free.true
    (c.of_all.ensures more ∙ c.in_ok-missed-in-Some.ensures)

pub at_holding-returns-in_ok-told-in-Some : goal.at_holding-returns-in_ok-told-in-Some
at_holding-returns-in_ok-told-in-Some t c =
    λ more. c.in_ok-told-in-Some.ensures more
    ∙ held_more (misses (map datatype_view c.args.datatypes.now.items) c.args.room (columns_view c.args.rest.now.value)) (holding_shape c.args.d.number c.args.j) (first_shape (map datatype_view c.args.datatypes.now.items) c.args.depth (con_tree c.args.t)) (shape_tree c.in-Some.h) (shape_tree c.in_ok-s-in-Some.s) (rows_view c.args.rows.now) (rows_view c.in_ok-with-in-Some.with) more
    (or_else (wrapped c.args.d.number c.args.j (misses (map datatype_view c.args.datatypes.now.items) c.args.room ((c.args.depth, con_tree c.args.t) ∷ columns_view c.args.rest.now.value) (inside c.args.d.number c.args.j (rows_view c.args.rows.now)))) more) _
    (sym (ap first_view c.in-Some.is) ∙ c.in_ok-first_shape.ensures) c.in_ok-s-in-Some.ensures c.in_ok-with-in-Some.ensures c.heads_are_free.ensures c.if-heads_are_free.false
