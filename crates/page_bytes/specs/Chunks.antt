-- The bytes of the parts of a page's text.
use Rattle.std.specs.Prelude.{ℕ, List}
use Rattle.std.specs.Fmt.{signed_decimal}
use Rattle.std.specs.List.{flat_map}
use Rattle.page_bytes.specs.declared.chunk.Chunk.{Chunk}
use Rattle.page_bytes.specs.declared.chunk.Chunk.TheVariants.{Fixed, Words, Value, Number}
use Rattle.xml_trees.specs.PieceText.{escape, quote}

-- the bytes of a part
abbrev pub chunk_bytes : Chunk → List ℕ
chunk_bytes (Fixed text) = text.now
chunk_bytes (Words text) = flat_map escape text.now
chunk_bytes (Value text) = flat_map quote text.now
chunk_bytes (Number number) = flat_map quote (signed_decimal number)
