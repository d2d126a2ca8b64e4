use Rattle.std.proofs.Common.{◌≡◌, ◌≤◌, length, map, reverse, take}
use Rattle.source_names.specs.Standing.{type_in}
use Rattle.source_names.specs.View.{declared_view, type_view}
use Rattle.unbound_names.proofs.declared.has_type_in.Given as goal

abbrev pub invariant-loop-left : goal.invariant-loop-left
invariant-loop-left l = record {
  within : l.left ≤ length l.known.types.items;
  same : type_in l.name (declared_view l.known).types l.home
      ≡ type_in l.name (reverse (map type_view (take l.left l.known.types.items))) l.home;
}

abbrev pub decreases-loop-left : goal.decreases-loop-left
decreases-loop-left l = l.left
