use Rattle.std.proofs.Common.{◌≡◌, ◌≤◌, length, map, reverse, take}
use Rattle.con_terms.specs.View.{con_tree}
use Rattle.source_names.specs.View.{declared_view, names_view, value_view}
use Rattle.inserted_terms.specs.Searches.{first_top}
use Rattle.inserted_terms.specs.Values.{type_of_value}
use Rattle.inserted_terms.proofs.instances.look_for_top.Given as goal

abbrev pub invariant-loop-left : goal.invariant-loop-left
invariant-loop-left l = record {
  within : l.left ≤ length l.h.names.known.now.values.items;
  same : first_top (names_view l.h.names.values.value) (declared_view l.h.names.known.now) (map type_of_value l.h.tops.now.values.items)
      (con_tree l.n) (declared_view l.h.names.known.now).values
      ≡ first_top (names_view l.h.names.values.value) (declared_view l.h.names.known.now) (map type_of_value l.h.tops.now.values.items)
      (con_tree l.n) (reverse (map value_view (take l.left l.h.names.known.now.values.items)));
}

abbrev pub decreases-loop-left : goal.decreases-loop-left
decreases-loop-left l = l.left
