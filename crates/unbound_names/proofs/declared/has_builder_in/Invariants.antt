use Rattle.std.proofs.Common.{◌≡◌, ◌≤◌, length, map, reverse, take}
use Rattle.source_names.specs.Standing.{builder_in}
use Rattle.source_names.specs.View.{declared_view, builder_view}
use Rattle.unbound_names.proofs.declared.has_builder_in.Given as goal

abbrev pub invariant-loop-left : goal.invariant-loop-left
invariant-loop-left l = record {
  within : l.left ≤ length l.known.builders.items;
  same : builder_in l.name (declared_view l.known).builders l.home
      ≡ builder_in l.name (reverse (map builder_view (take l.left l.known.builders.items))) l.home;
}

abbrev pub decreases-loop-left : goal.decreases-loop-left
decreases-loop-left l = l.left
