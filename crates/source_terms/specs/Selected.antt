-- Names in a table, and which values of a module are exported by such tables.
use Rattle.std.specs.Prelude.{ℕ, ◌==◌, Bool, true, not, ◌&&◌, Option, Some, None, is_some}
use Rattle.con_terms.specs.Symbols.{Table, symbol_of}
use Rattle.source_names.specs.Scopes.{Words, DeclaredValue}

-- whether a table has a text
abbrev pub stands : Table → Words → Bool
stands t x = is_some (symbol_of t x)

-- whether a table has a text, where names are selected
abbrev pub is_selected : Option Table → Words → Bool
is_selected None x = true
is_selected (Some t) x = stands t x

-- whether a value is one of this module, is selected, and has none of the names behind it
abbrev pub is_chosen : ℕ → Option Table → DeclaredValue → Table → Bool
is_chosen h o v later = v.home == h && is_selected o v.name && not (stands later v.name)
