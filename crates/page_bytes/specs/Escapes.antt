-- The bytes for one byte of a text.
use Rattle.std.specs.Prelude.{ℕ, List, Bool, if◌then◌else◌}
use Rattle.xml_trees.specs.PieceText.{escape, quote}

-- the bytes for one byte of an attribute's text, or of a text between tags
abbrev pub escape_in : Bool → ℕ → List ℕ
escape_in value c = if value then quote c else escape c
