use Rattle.std.proofs.Common.{◌≡◌, map, drop}
use Rattle.shown_types.specs.Names.{declared_as}
use Rattle.shown_types.specs.View.{declared_view}
use Rattle.shown_types.proofs.known.datatype.Given as goal

abbrev pub invariant-loop-it : goal.invariant-loop-it
invariant-loop-it l =
    declared_as (map declared_view l.known.types.now) l.symbol.number
    ≡ declared_as (map declared_view (drop l.it-index l.known.types.now)) l.symbol.number
