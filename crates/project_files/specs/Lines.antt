-- The lines of a project file.
use Rattle.std.specs.Prelude.{◌≡◌, ◌≢◌, ◌<◌, ℕ, ◌==◌, length, slice_index, List, [], ◌∷◌, ◌++◌, if◌then◌else◌}

abbrev pub Line : Type 0
Line = List ℕ

-- what stands before a line feed, without a carriage return at its end
abbrev pub without_return : Line → Line
without_return [] = []
without_return (b ∷ []) = if b == 13 then [] else b ∷ []
without_return (b ∷ (c ∷ rest)) = b ∷ without_return (c ∷ rest)

-- no line feed stands in these bytes
abbrev pub IsOneLine : List ℕ → Type 0
IsOneLine bytes = (k : ℕ) → k < length bytes → slice_index bytes k ≢ 10

-- The bytes have these lines.
pub data HasLines : List ℕ → List Line → Type 0 where
  -- no bytes, no line
  no_lines : HasLines [] []
  -- what stands behind the last line feed is a line too
  last_line : {line : Line}
      → IsOneLine line
      → (line ≡ [] → ⊥)
      → HasLines line (line ∷ [])
  -- a line ends with a line feed
  line_and : {bytes : List ℕ} (front rest : List ℕ) {lines : List Line}
      → IsOneLine front
      → bytes ≡ front ++ 10 ∷ rest
      → HasLines rest lines
      → HasLines bytes (without_return front ∷ lines)
