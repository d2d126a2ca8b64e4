-- Words, and texts that have words behind them, each behind a space.
use Rattle.std.specs.Prelude.{ℕ, Bool, true, false, List, [], ◌∷◌, ◌++◌, codes}

-- words one after another, each behind a space
abbrev pub spaced : List (List ℕ) → List ℕ
spaced [] = []
spaced (w ∷ ws) = codes " " ++ w ++ spaced ws

-- a word that is there, or isn't
abbrev pub where_wanted : Bool → List ℕ → List (List ℕ)
where_wanted true w = w ∷ []
where_wanted false w = []

-- words, in brackets where they are wanted
abbrev pub within : Bool → List (List ℕ) → List (List ℕ)
within true ws = codes "(" ∷ ws ++ codes ")" ∷ []
within false ws = ws

-- a text with a word behind it
abbrev pub put_word : List ℕ → List ℕ → List ℕ
put_word w text = (text ++ codes " ") ++ w

-- a text with words behind it
abbrev pub put_words : List (List ℕ) → List ℕ → List ℕ
put_words [] text = text
put_words (w ∷ ws) text = put_words ws (put_word w text)

-- a text with a word behind it, where that is wanted
abbrev pub put_wanted : Bool → List ℕ → List ℕ → List ℕ
put_wanted true w text = put_word w text
put_wanted false w text = text
