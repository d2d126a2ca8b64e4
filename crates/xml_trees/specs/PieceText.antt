-- The text of a page, computed piece by piece.
use Rattle.std.specs.Prelude.{ℕ, ◌+◌, ◌-◌, List, [], ◌∷◌, ◌++◌, ◌==◌, codes, if◌then◌else◌}
use Rattle.std.specs.List.{flat_map}
use Rattle.xml_trees.specs.declared.name.Name.{Name}
use Rattle.xml_trees.specs.declared.tag.Tag.{Tag}
use Rattle.xml_trees.specs.declared.attrs.Attr.{Attr}
use Rattle.xml_trees.specs.declared.page.Piece.{Piece}
use Rattle.xml_trees.specs.declared.page.Piece.TheVariants.{Begin, Words as Said, End}
use Rattle.xml_trees.specs.Names.{name_bytes, is_void_name}
use Rattle.xml_trees.specs.Tags.{name_of}
use Rattle.xml_trees.specs.Trees.{Whole, Nothing, built, IsWhole, trees_of, AreNested}
use Rattle.xml_trees.specs.Markup.{Attribute}
use Rattle.xml_trees.specs.Written.{written_attributes, written}
use Rattle.xml_trees.specs.Grammar.{IsPage}

-- the bytes for one byte of a text
abbrev pub escape : ℕ → List ℕ
escape c = if c == 38 then codes "&amp;" else if c == 60 then codes "&lt;" else if c == 62 then codes "&gt;" else c ∷ []

-- the bytes for one byte of an attribute's text
abbrev pub quote : ℕ → List ℕ
quote c = if c == 34 then codes "&quot;" else escape c

-- the bytes of an attribute
abbrev pub attribute_bytes : Attribute → List ℕ
attribute_bytes a = codes " " ++ (a.name ++ (codes "=\"" ++ (flat_map quote a.text ++ codes "\"")))

-- the bytes of a tag
abbrev pub begin_bytes : Tag → List Attr → List ℕ
begin_bytes tag attrs =
    codes "<" ++ (name_bytes (name_of tag) ++ (flat_map attribute_bytes (written_attributes tag attrs) ++ codes ">"))

-- the bytes of a closing tag
abbrev pub end_bytes : Name → List ℕ
end_bytes name = codes "</" ++ (name_bytes name ++ codes ">")

-- The bytes of a piece. `hidden` is the number of unfinished elements from the outermost void one on, within which
-- nothing is written.
abbrev pub piece_bytes : ℕ → Piece → List ℕ
piece_bytes hidden (Begin tag attrs) = if hidden == 0 then begin_bytes tag attrs else []
piece_bytes hidden (Said text) = if hidden == 0 then flat_map escape text else []
piece_bytes hidden (End name) = if hidden == 0 then end_bytes name else []

-- `hidden` after a piece
abbrev pub hidden_after : ℕ → Piece → ℕ
hidden_after hidden (Begin tag attrs) =
    if hidden == 0 then (if is_void_name (name_of tag) then 1 else 0) else hidden + 1
hidden_after hidden (Said text) = hidden
hidden_after hidden (End name) = hidden - 1

-- the bytes of pieces one after another
abbrev pub pieces_bytes : ℕ → List Piece → List ℕ
pieces_bytes hidden [] = []
pieces_bytes hidden (piece ∷ pieces) = piece_bytes hidden piece ++ pieces_bytes (hidden_after hidden piece) pieces

-- the bytes of a page
abbrev pub page_bytes : List Piece → List ℕ
page_bytes pieces = codes "<!DOCTYPE html><html>" ++ (pieces_bytes 0 pieces ++ codes "</html>")

-- The bytes of the pieces of a page without unfinished elements are the text of its trees.
abbrev pub PiecesArePages : Type 0
PiecesArePages =
    (pieces : List Piece) → AreNested (Whole Nothing) pieces → IsWhole (built pieces)
    → IsPage (page_bytes pieces) (written (trees_of (built pieces)))
