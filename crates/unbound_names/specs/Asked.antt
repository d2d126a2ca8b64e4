-- What is asked of a source: whether a name that is written so stands at a byte of it, and isn't in scope there.
use Rattle.std.specs.Prelude.{ℕ, ◌==◌, Bool, false, ◌&&◌, ◌||◌, not, List, [], ◌∷◌, ◌++◌}
use Rattle.std.specs.Str.{bytes_eq}
use Rattle.plain_tree.specs.declared.names.Path.{Path}
use Rattle.source_names.specs.Scopes.{Words}

-- the byte, and the name as it is written
pub record Ask : Type 0 where
  pub at : ℕ
  pub written : Words

-- a name behind modules, as `M.x`
abbrev pub path_words : List Words → Words → Words
path_words [] x = x
path_words (m ∷ ms) x = m ++ 46 ∷ path_words ms x

-- whether a name at this byte is the one that is asked of
abbrev pub is_asked : Ask → ℕ → Words → Bool
is_asked q at x = at == q.at && bytes_eq x q.written

-- the same for a name behind modules
abbrev pub is_path_asked : Ask → ℕ → Path → Bool
is_path_asked q at p = is_asked q at (path_words p.modules p.name)
