-- What the computed reason tells.
use Rattle.std.proofs.Common.{◌≡◌, ℕ, max, Bool, true, false, List, [], ◌∷◌, Option, Some, None, refl, ap, sym, subst, ◌∙◌}
use Rattle.con_terms.specs.Trees.{Cn}
use Rattle.core_terms.specs.Trees.{Pt, Dt}
use Rattle.core_typing.specs.Cover.{Shp, Covers, patterns_depth, levels}
use Rattle.match_cover.specs.Rows.{Row}
use Rattle.match_cover.specs.Levels.{large_among}
use Rattle.match_cover.specs.Misses.{Column, Out, covered, missed, no_room, misses}
use Rattle.match_cover.specs.Laws.{rows_of, Asks, TellsFirst}
use Rattle.match_cover.specs.Why.{Why, is_large, is_missed, why_of, why_missed, why_unless, why_not, IsFirst, column_room}
use Rattle.match_cover.proofs.Asking.{missed_none, covers_all}

out_covered : (o : Out) → why_of o ≡ None → o ≡ covered
out_covered covered e = refl
out_covered (missed []) e = cc
out_covered (missed (s ∷ ss)) e = cc
out_covered no_room e = cc

by_large : (ds : List Dt) (ps : List Pt) (t : Cn) (b : Bool) → large_among ds (levels ps) (t ∷ []) ≡ b
    → why_unless b (misses ds column_room ((patterns_depth ps, t) ∷ []) (rows_of ps)) ≡ None → Covers ds ps t
by_large ds ps t true k h = cc
by_large ds ps t false k h =
    covers_all ds (patterns_depth ps) (rows_of ps) ps t (refl, refl) k
    (missed_none ds column_room (patterns_depth ps) (rows_of ps) ps t (refl, refl) (out_covered (misses ds column_room ((patterns_depth ps, t) ∷ []) (rows_of ps)) h))

pub none_covers : (ds : List Dt) (ps : List Pt) (t : Cn) → why_not ds ps t ≡ None → Covers ds ps t
none_covers ds ps t h = by_large ds ps t (large_among ds (levels ps) (t ∷ [])) refl h

-- what the code answers is the computed reason
room_is : 3000 ≡ column_room
unfolding column_room
room_is = refl

out_tells : (out : Out) (o : Option Shp) → TellsFirst out o → why_of out ≡ why_missed o
out_tells covered None h = refl
out_tells covered (Some r) h = absurd h
out_tells (missed []) o h = absurd h
out_tells (missed (s ∷ ss)) None h = absurd h
out_tells (missed (s ∷ ss)) (Some r) h = ap (λ z. Some (is_missed z)) (sym h)
out_tells no_room o h = absurd h

pub first_is_computed : (ds : List Dt) (room d : ℕ) (rows : List Row) (ps : List Pt) (t : Cn) (cols : List Column) (out : Out) (o : Option Shp) → room ≡ 3000 → Asks ps rows d → cols ≡ (d, t) ∷ []
    → out ≡ misses ds room cols rows → TellsFirst out o → IsFirst ds ps t o
first_is_computed ds room d rows ps t cols out o r a c e h =
    ap why_of
    (ap (λ n. misses ds column_room ((n, t) ∷ []) (rows_of ps)) (sym a.1) ∙ ap (misses ds column_room ((d, t) ∷ [])) (sym a.0)
    ∙ ap (λ cs. misses ds column_room cs rows) (sym c) ∙ ap (λ m. misses ds m cols rows) (sym (r ∙ room_is)) ∙ sym e)
    ∙ out_tells out o h

pub large_told : (ds : List Dt) (d : ℕ) (rows : List Row) (ps : List Pt) (t : Cn) → Asks ps rows d → large_among ds (max 1 d) (t ∷ []) ≡ true → why_not ds ps t ≡ Some is_large
large_told ds d rows ps t a e = ap (λ b. why_unless b (misses ds column_room ((patterns_depth ps, t) ∷ []) (rows_of ps))) (subst (λ n. large_among ds (max 1 n) (t ∷ []) ≡ true) a.1 e)

pub first_told : (ds : List Dt) (d : ℕ) (rows : List Row) (ps : List Pt) (t : Cn) (o : Option Shp) → Asks ps rows d → large_among ds (max 1 d) (t ∷ []) ≡ false → IsFirst ds ps t o → why_not ds ps t ≡ why_missed o
first_told ds d rows ps t o a e h =
    ap (λ b. why_unless b (misses ds column_room ((patterns_depth ps, t) ∷ []) (rows_of ps))) (subst (λ n. large_among ds (max 1 n) (t ∷ []) ≡ false) a.1 e) ∙ h
