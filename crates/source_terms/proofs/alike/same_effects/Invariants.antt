use Rattle.std.proofs.Common.{◌≡◌, map, drop}
use Rattle.core_terms.specs.Lists.{foreigns_view}
use Rattle.core_terms.specs.View.{foreign_view}
use Rattle.source_terms.specs.Alike.{each, effect_eq}
use Rattle.source_terms.proofs.alike.same_effects.Given as goal

abbrev pub invariant-loop-i : goal.invariant-loop-i
invariant-loop-i l =
    each effect_eq (foreigns_view l.a) (foreigns_view l.b)
    ≡ each effect_eq (map foreign_view (drop l.i l.a.items.items))
    (map foreign_view (drop l.i l.b.items.items))
