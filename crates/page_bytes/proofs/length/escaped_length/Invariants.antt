use Rattle.std.proofs.Common.{◌≡◌, take}
use Rattle.std.specs.List.{flat_map}
use Rattle.page_bytes.specs.Escapes.{escape_in}
use Rattle.page_bytes.specs.Lengths.{length_told}
use Rattle.page_bytes.proofs.length.escaped_length.Given as goal

abbrev pub invariant-loop-byte : goal.invariant-loop-byte
invariant-loop-byte l = l.total ≡ length_told (flat_map (escape_in l.value) (take l.byte-index l.text))
