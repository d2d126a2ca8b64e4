use Rattle.std.proofs.Common.{◌≡◌, ◌≤◌, length, map, reverse, take}
use Rattle.source_names.specs.Scopes.{capital}
use Rattle.source_names.specs.Standing.{module_named, or_else}
use Rattle.unbound_names.proofs.declared.module_named.Given as goal

abbrev pub invariant-loop-left : goal.invariant-loop-left
invariant-loop-left l = record {
  within : l.left ≤ length l.known.modules.items;
  same : module_named l.name (reverse (map capital (take l.fn.count l.known.modules.items)))
      ≡ or_else (module_named l.name (reverse (map capital (take l.left l.known.modules.items)))) l.found;
}

abbrev pub decreases-loop-left : goal.decreases-loop-left
decreases-loop-left l = l.left
