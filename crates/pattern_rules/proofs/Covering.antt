-- What is told of patterns that don't cover a type.
use Rattle.std.proofs.Common.{◌≡◌, List, Option, Some, None, option_map, refl, sym, subst}
use Rattle.con_terms.specs.Trees.{Cn}
use Rattle.con_terms.specs.declared.place.Place.{Place}
use Rattle.core_terms.specs.Trees.{Pt}
use Rattle.core_typing.specs.Scopes.{Sc}
use Rattle.core_typing.specs.Cover.{Shp, TooLargeIn, levels, Misses, Covers}
use Rattle.core_typing.specs.Faults.{Fault, too_large, inexhaustive}
use Rattle.type_faults.specs.View.{shape_tree}
use Rattle.type_faults.specs.declared.fault.Shape.{Shape}
use Rattle.match_cover.specs.declared.fault.CoverFault.{CoverFault}
use Rattle.match_cover.specs.declared.fault.CoverFault.TheVariants.{TooLarge, Missed}
use Rattle.match_cover.specs.Laws.{Refused}
use Rattle.match_cover.specs.Why.{Why, why_not}
use Rattle.match_cover.proofs.Reasons.{none_covers}
use Rattle.pattern_rules.specs.Matching.{told_why, uncovered, Misfit, large, shape}

pub is_large : (G : Sc) (p : Place) (ps : List Pt) (t : Cn) (e : CoverFault) → e ≡ TooLarge → Refused G.datatypes ps t e → Misfit G p ps t (too_large p)
is_large G p ps t e h r = large (subst (Refused G.datatypes ps t) h r)

both_missed : (G : Sc) (p : Place) (ps : List Pt) (t : Cn) (s : Shp) → (TooLargeIn G.datatypes (levels ps) t → ⊥) × Misses G.datatypes ps t s → Misfit G p ps t (inexhaustive p G.called s)
both_missed G p ps t s h = shape h.0 h.1

pub is_missed : (G : Sc) (p : Place) (ps : List Pt) (t : Cn) (f : Fault) (e : CoverFault) (s : Shape) → f ≡ inexhaustive p G.called (shape_tree s) → e ≡ Missed s → Refused G.datatypes ps t e → Misfit G p ps t f
is_missed G p ps t f e s k h m = subst (Misfit G p ps t) (sym k) (both_missed G p ps t (shape_tree s) (subst (Refused G.datatypes ps t) h m))

silent : (G : Sc) (p : Place) (o : Option Why) → option_map (told_why G p) o ≡ None → o ≡ None
silent G p None e = refl
silent G p (Some w) e = cc

pub covered : (G : Sc) (p : Place) (ps : List Pt) (t : Cn) → uncovered G p ps t ≡ None → Covers G.datatypes ps t
covered G p ps t e = none_covers G.datatypes ps t (silent G p (why_not G.datatypes ps t) e)
