use Rattle.std.proofs.Common.{◌≡◌, ◌≤◌, length, map, reverse, take}
use Rattle.source_names.specs.Standing.{value_in}
use Rattle.source_names.specs.View.{declared_view, value_view}
use Rattle.unbound_names.proofs.declared.has_value_in.Given as goal

abbrev pub invariant-loop-left : goal.invariant-loop-left
invariant-loop-left l = record {
  within : l.left ≤ length l.known.values.items;
  same : value_in l.name (declared_view l.known).values l.home
      ≡ value_in l.name (reverse (map value_view (take l.left l.known.values.items))) l.home;
}

abbrev pub decreases-loop-left : goal.decreases-loop-left
decreases-loop-left l = l.left
