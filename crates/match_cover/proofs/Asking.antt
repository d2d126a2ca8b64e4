-- What is answered of patterns that are asked of a type.
use Rattle.std.proofs.Common.{◌≡◌, ℕ, max, Bool, true, false, List, [], ◌∷◌, Option, None, Some, ap, sym, subst, ◌∙◌}
use Rattle.con_terms.specs.Trees.{Cn}
use Rattle.core_terms.specs.Trees.{Pt, Dt}
use Rattle.core_typing.specs.Cover.{Shp, ShapeOf, TooLargeIn, one_takes, patterns_depth, levels, Misses, Covers}
use Rattle.match_cover.specs.Rows.{Row}
use Rattle.match_cover.specs.Levels.{large_among}
use Rattle.match_cover.specs.Misses.{Column, Out, covered, missed, no_room, misses}
use Rattle.match_cover.specs.Laws.{rows_of, Asks, Missed, TellsFirst, Answers, Tells}
use Rattle.match_cover.proofs.Answered.{answered}
use Rattle.match_cover.proofs.Large.{levels_tell}

-- the answer, where it is one
told_none : (ds : List Dt) (d : ℕ) (ps : List Pt) (t : Cn) (o : Out) → Answers ds d ps t o → o ≡ covered → (s : Shp) → ShapeOf ds d t s → one_takes ps s ≡ true
told_none ds d ps t o h e = subst (Answers ds d ps t) e h

told_one : (ds : List Dt) (d : ℕ) (ps : List Pt) (t : Cn) (o : Out) (s : Shp) (ss : List Shp) → Answers ds d ps t o → o ≡ missed (s ∷ ss) → (r : Shp) × (s ∷ ss ≡ r ∷ []) × (ShapeOf ds d t r) × (one_takes ps r ≡ false)
told_one ds d ps t o s ss h e = subst (Answers ds d ps t) e h

first_one : {X : Type 0} {x y : X} {xs ys : List X} → x ∷ xs ≡ y ∷ ys → x ≡ y
first_one e = cc

one_missed : (ds : List Dt) (ps : List Pt) (t : Cn) (s : Shp) (ss : List Shp) → (r : Shp) × (s ∷ ss ≡ r ∷ []) × (ShapeOf ds (patterns_depth ps) t r) × (one_takes ps r ≡ false) → Misses ds ps t s
one_missed ds ps t s ss (r, e, p, q) = record { shape = subst (ShapeOf ds (patterns_depth ps) t) (sym (first_one e)) p; missed = ap (one_takes ps) (first_one e) ∙ q }

pub missed_none : (ds : List Dt) (room d : ℕ) (rows : List Row) (ps : List Pt) (t : Cn) → Asks ps rows d → misses ds room ((d, t) ∷ []) rows ≡ covered → Missed ds ps t None
missed_none ds room d rows ps t a e =
    told_none ds (patterns_depth ps) ps t (misses ds room ((patterns_depth ps, t) ∷ []) (rows_of ps)) (answered ds room (patterns_depth ps) ps t)
    (ap (λ n. misses ds room ((n, t) ∷ []) (rows_of ps)) (sym a.1) ∙ ap (misses ds room ((d, t) ∷ [])) (sym a.0) ∙ e)

pub missed_some : (ds : List Dt) (room d : ℕ) (rows : List Row) (ps : List Pt) (t : Cn) (s : Shp) (ss : List Shp) → Asks ps rows d → misses ds room ((d, t) ∷ []) rows ≡ missed (s ∷ ss) → Missed ds ps t (Some s)
missed_some ds room d rows ps t s ss a e =
    one_missed ds ps t s ss
    (told_one ds (patterns_depth ps) ps t (misses ds room ((patterns_depth ps, t) ∷ []) (rows_of ps)) s ss (answered ds room (patterns_depth ps) ps t)
    (ap (λ n. misses ds room ((n, t) ∷ []) (rows_of ps)) (sym a.1) ∙ ap (misses ds room ((d, t) ∷ [])) (sym a.0) ∙ e))

missed_case : (ds : List Dt) (room d : ℕ) (rows : List Row) (ps : List Pt) (t : Cn) (out : Out) (o : Option Shp) → Asks ps rows d → misses ds room ((d, t) ∷ []) rows ≡ out → TellsFirst out o → Missed ds ps t o
missed_case ds room d rows ps t covered None a e h = missed_none ds room d rows ps t a e
missed_case ds room d rows ps t covered (Some r) a e h = absurd h
missed_case ds room d rows ps t (missed []) o a e h = absurd h
missed_case ds room d rows ps t (missed (s ∷ ss)) None a e h = absurd h
missed_case ds room d rows ps t (missed (s ∷ ss)) (Some r) a e h = subst (λ x. Missed ds ps t (Some x)) (sym h) (missed_some ds room d rows ps t s ss a e)
missed_case ds room d rows ps t no_room o a e h = absurd h

pub missed_is : (ds : List Dt) (room d : ℕ) (rows : List Row) (ps : List Pt) (t : Cn) (cols : List Column) (out : Out) (o : Option Shp) → Asks ps rows d → cols ≡ (d, t) ∷ [] → out ≡ misses ds room cols rows
    → TellsFirst out o → Missed ds ps t o
missed_is ds room d rows ps t cols out o a c e h =
    missed_case ds room d rows ps t out o a (ap (λ xs. misses ds room xs rows) (sym c) ∙ sym e) h

-- types that are too large
tells_of : (ds : List Dt) (d : ℕ) (t : Cn) (b : Bool) → large_among ds d (t ∷ []) ≡ b → Tells ds d t b
tells_of ds d t b e = subst (Tells ds d t) e (levels_tell ds d t)

pub is_large : (ds : List Dt) (d : ℕ) (rows : List Row) (ps : List Pt) (t : Cn) → Asks ps rows d → large_among ds (max 1 d) (t ∷ []) ≡ true → TooLargeIn ds (levels ps) t
is_large ds d rows ps t a e = subst (λ n. TooLargeIn ds (max 1 n) t) a.1 (tells_of ds (max 1 d) t true e)

pub is_small : (ds : List Dt) (d : ℕ) (rows : List Row) (ps : List Pt) (t : Cn) → Asks ps rows d → large_among ds (max 1 d) (t ∷ []) ≡ false → TooLargeIn ds (levels ps) t → ⊥
is_small ds d rows ps t a e = subst (λ n. TooLargeIn ds (max 1 n) t → ⊥) a.1 (tells_of ds (max 1 d) t false e)

pub covers_all : (ds : List Dt) (d : ℕ) (rows : List Row) (ps : List Pt) (t : Cn) → Asks ps rows d → large_among ds (max 1 d) (t ∷ []) ≡ false → Missed ds ps t None → Covers ds ps t
covers_all ds d rows ps t a e m = record { small = is_small ds d rows ps t a e; taken = m }
