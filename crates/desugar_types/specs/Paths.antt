-- Paths: `Path = {UpperDot} lower`.
use Rattle.std.specs.Prelude.{ℕ, ◌∷◌}
use Rattle.plain_tree.specs.declared.names.Path.{Path}
use Rattle.surface_tree.specs.declared.token.Token.{Token}
use Rattle.desugar_values.specs.Meanings.{MeaningsTree, no_meaning, meaning}
use Rattle.desugar_values.specs.Parts.{characters, part, several_of, start_of, word_of}
use Rattle.desugar_values.specs.Words.{texts}

-- the name that a path is
abbrev pub path_of : MeaningsTree → Path
path_of ps = record { modules = texts (several_of (part 0 ps)); name = characters (word_of (part 1 ps)).content }

-- the byte of the first of these trees, or else this one
abbrev pub first_start : MeaningsTree → ℕ → ℕ
first_start no_meaning at = at
first_start (meaning m ms) at = start_of m

-- the byte at which a path begins
abbrev pub path_start : MeaningsTree → ℕ
path_start ps = first_start (several_of (part 0 ps)) (word_of (part 1 ps)).at

-- a path within a module
abbrev pub within : Token → Path → Path
within t path = record { modules = characters t.content ∷ path.modules; name = path.name }
