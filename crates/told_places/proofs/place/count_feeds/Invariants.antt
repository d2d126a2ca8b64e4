use Rattle.std.proofs.Common.{◌≡◌, ◌≤◌, take, count_by}
use Rattle.told_places.specs.Places.{is_feed}
use Rattle.told_places.proofs.place.count_feeds.Given as goal

abbrev pub invariant-loop-byte : goal.invariant-loop-byte
invariant-loop-byte l = (l.count ≡ count_by is_feed (take l.byte-index l.bytes)) × (l.count ≤ l.byte-index)
