use Rattle.std.proofs.Common.{◌+◌}
use Rattle.open_terms.proofs.open_places.+open_place.Given as goal

abbrev pub decreases-open_place : goal.decreases-open_place
decreases-open_place l = l.room

abbrev pub decreases-open_call : goal.decreases-open_call
decreases-open_call l = l.room
