use Rattle.std.proofs.Common.{◌≡◌, ◌≤◌, length, map, reverse, take}
use Rattle.source_names.specs.Standing.{type_in}
use Rattle.source_names.specs.View.{declared_view, type_view}
use Rattle.source_names.proofs.known.Known.type_in.Given as goal

abbrev pub invariant-loop-left : goal.invariant-loop-left
invariant-loop-left l = record {
  within : l.left ≤ length l.self.types.items;
  same : type_in l.name (declared_view l.self).types l.home
      ≡ type_in l.name (reverse (map type_view (take l.left l.self.types.items))) l.home;
}

abbrev pub decreases-loop-left : goal.decreases-loop-left
decreases-loop-left l = l.left
