-- The line of a refusal, as it is read.
use Rattle.std.specs.Prelude.{◌≡◌, ℕ, List, [], ◌++◌, codes, Option, Some, None}
use Rattle.told_places.specs.declared.refusal.Refusal.{Refusal}

-- what tells the place
abbrev pub at_words : Option (List ℕ) → List ℕ
at_words (Some at) = codes ":" ++ at
at_words None = []

-- the line has the file, the place and the name in this order, and nothing else
abbrev pub IsRead : List ℕ → List ℕ → Option (List ℕ) → List ℕ → Type 0
IsRead line file at name = line ≡ file ++ at_words at ++ codes ": " ++ name ++ codes "\n"
