use Rattle.std.proofs.Common.{◌≡◌, take}
use Rattle.std.specs.List.{flat_map}
use Rattle.xml_trees.specs.Written.{attribute_of}
use Rattle.xml_trees.specs.PieceText.{attribute_bytes}
use Rattle.page_bytes.specs.Lengths.{length_told}
use Rattle.page_bytes.proofs.length.attributes_length.Given as goal

abbrev pub invariant-loop-attr : goal.invariant-loop-attr
invariant-loop-attr l = l.total ≡ length_told (flat_map (λ attr. attribute_bytes (attribute_of attr)) (take l.attr-index l.attrs))
