-- How long the text of a page may be.
use Rattle.std.specs.Prelude.{ℕ, ◌≤◌, ◌<◌, List, length}
use Rattle.xml_trees.specs.Markup.{Markup}
use Rattle.xml_trees.specs.Grammar.{IsPage}

-- the most bytes of a page's text
abbrev pub longest_page : ℕ
longest_page = 16777216

-- the text of these trees is short enough
abbrev pub IsShort : Markup → Type 0
IsShort trees = (bytes : List ℕ) × IsPage bytes trees × (length bytes ≤ longest_page)

-- the text of these trees is too long
abbrev pub IsLong : Markup → Type 0
IsLong trees = (bytes : List ℕ) × IsPage bytes trees × (longest_page < length bytes)
