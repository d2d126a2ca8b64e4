-- The answer for patterns.
use Rattle.std.proofs.Common.{◌≡◌, ℕ, false, List, [], ◌∷◌, refl, sym, ◌∙◌}
use Rattle.con_terms.specs.Trees.{Cn}
use Rattle.core_terms.specs.Trees.{Pt, Dt}
use Rattle.core_typing.specs.Cover.{Shp, ShapeOf, one_takes}
use Rattle.match_cover.specs.Rows.{one_passes}
use Rattle.match_cover.specs.Misses.{Out, covered, missed, no_room, misses}
use Rattle.match_cover.specs.Laws.{rows_of, Answers}
use Rattle.match_cover.proofs.Parts.{patterns_tell}
use Rattle.match_cover.proofs.Right.{Fits, fits_none, fits_more, Right, misses_right}

one_column : (ds : List Dt) (d : ℕ) (ps : List Pt) (t : Cn) (ss : List Shp) → Fits ds ((d, t) ∷ []) ss → one_passes (rows_of ps) ss ≡ false → (s : Shp) × (ss ≡ s ∷ []) × (ShapeOf ds d t s) × (one_takes ps s ≡ false)
one_column ds d ps t ss (fits_more {s = s} p fits_none) e = (s, refl, p, sym (patterns_tell ps s) ∙ e)

answer : (ds : List Dt) (d : ℕ) (ps : List Pt) (t : Cn) (o : Out) → Right ds ((d, t) ∷ []) (rows_of ps) o → Answers ds d ps t o
answer ds d ps t covered h = λ s p. sym (patterns_tell ps s) ∙ h (s ∷ []) (fits_more p fits_none)
answer ds d ps t (missed ss) h = one_column ds d ps t ss h.fits h.passed
answer ds d ps t no_room h = tt

pub answered : (ds : List Dt) (room d : ℕ) (ps : List Pt) (t : Cn) → Answers ds d ps t (misses ds room ((d, t) ∷ []) (rows_of ps))
answered ds room d ps t = answer ds d ps t (misses ds room ((d, t) ∷ []) (rows_of ps)) (misses_right ds room ((d, t) ∷ []) (rows_of ps))
