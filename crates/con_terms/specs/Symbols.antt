-- A table of texts: a symbol is the place of its text.
use Rattle.std.specs.Prelude.{ℕ, List, Option, position}
use Rattle.std.specs.Str.{bytes_eq}
use Rattle.indexmap.specs.IndexSet.{insert_key}

-- texts as their bytes
abbrev pub Table : Type 0
Table = List (List ℕ)

-- the table after a text is put in: it stays where the text is there, and else the text goes last
abbrev pub put_text : Table → List ℕ → Table
put_text texts text = insert_key bytes_eq texts text

-- the symbol of a text, where the table has it: the first place at which it stands
abbrev pub symbol_of : Table → List ℕ → Option ℕ
symbol_of texts text = position (bytes_eq text) texts
