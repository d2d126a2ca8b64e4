use Rattle.std.proofs.Common.{◌≡◌, map, drop}
use Rattle.page_forms.specs.Tags.{first_of}
use Rattle.page_forms.specs.View.{ring_view}
use Rattle.page_forms.proofs.contexts.first_of.Given as goal

abbrev pub invariant-loop-i : goal.invariant-loop-i
invariant-loop-i l =
    first_of (map ring_view l.rings) l.tags.items ≡ first_of (map ring_view (drop l.i l.rings)) l.tags.items
