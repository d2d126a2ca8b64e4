-- How many tables a module declares.
use Rattle.std.specs.Prelude.{ℕ, Bool, true, false}
use Rattle.surface_tree.specs.declared.kind.Kind.{Kind}
use Rattle.surface_tree.specs.declared.kind.Kind.TheVariants as k
use Rattle.surface_tree.specs.declared.token.Token.{Token}

abbrev pub opens_table : Kind → Bool
opens_table k.KeywordTable = true
opens_table _ = false

-- a declaration of a table begins with this token
abbrev pub is_table : Token → Bool
is_table token = opens_table token.kind

-- the most tables that a project has
abbrev pub most_tables : ℕ
most_tables = 1000
