use Rattle.std.proofs.Common.{◌≡◌, drop}
use Rattle.site_routes.specs.Marking.{mark_numbers}
use Rattle.site_routes.proofs.targets.mark_exports.Given as goal

abbrev pub invariant-loop-e : goal.invariant-loop-e
invariant-loop-e l =
    mark_numbers (drop l.e l.exports.items.items) l.marks.items ≡ mark_numbers l.exports.items.items l.initial.marks.items
