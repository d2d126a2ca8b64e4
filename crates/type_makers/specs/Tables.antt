-- Tables of symbols, text by text.
use Rattle.std.specs.Prelude.{ℕ, List, [], ◌∷◌}
use Rattle.con_terms.specs.Symbols.{Table, put_text}

-- a table with texts put in, one after another
abbrev pub put_texts : Table → List (List ℕ) → Table
put_texts table [] = table
put_texts table (text ∷ texts) = put_texts (put_text table text) texts
