use Rattle.std.proofs.Common.{◌≡◌, drop}
use Rattle.page_forms.specs.Tags.{all_stand}
use Rattle.page_forms.specs.View.{ring_view}
use Rattle.page_forms.proofs.contexts.fits_all.Given as goal

abbrev pub invariant-loop-i : goal.invariant-loop-i
invariant-loop-i l =
    all_stand (ring_view l.ring) l.tags.items ≡ all_stand (ring_view l.ring) (drop l.i l.tags.items)
