-- What writing a page does.
use Rattle.std.specs.Prelude.{◌≡◌, ℕ, List, ◌++◌}
use Rattle.std.specs.declared.option.Option.{Option}
use Rattle.std.specs.Io.KnownBytes.{Appends}
use Rattle.xml_trees.specs.Markup.{Markup}
use Rattle.xml_trees.specs.Grammar.{IsPage}
use Rattle.page_bytes.specs.Lengths.{length_told}

-- known bytes grow by the text of these trees
abbrev pub WritesPage : Option (List ℕ) → Option (List ℕ) → Markup → Type 0
WritesPage old new trees = (bytes : List ℕ) × IsPage bytes trees × Appends old new bytes

-- known bytes grow by a front of the text of these trees
abbrev pub WritesFront : Option (List ℕ) → Option (List ℕ) → Markup → Type 0
WritesFront old new trees = (front : List ℕ) × (rest : List ℕ) × IsPage (front ++ rest) trees × Appends old new front

-- the length of the text of these trees, or 16,777,217 where it is longer than 16 MiB
abbrev pub IsLengthOf : ℕ → Markup → Type 0
IsLengthOf told trees = (bytes : List ℕ) × IsPage bytes trees × (told ≡ length_told bytes)
