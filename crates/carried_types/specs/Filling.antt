-- Whether a form can fill a type's values, as it is computed.
use Rattle.std.specs.Prelude.{◌==◌, Bool, true, false, Option, Some, None, if◌then◌else◌}
use Rattle.con_terms.specs.Trees.{Cn, basic, record_of, row, types, Prs, no_pairs, pair}
use Rattle.con_terms.specs.Same.{kd_eq}
use Rattle.core_terms.specs.Names.{string_name, bool_name}
use Rattle.core_typing.specs.Scopes.{normal_of}
use Rattle.carried_types.specs.Built.{is_name}

-- string and bool
abbrev pub is_filled : Cn → Bool
is_filled (basic s) = if s == string_name then true else s == bool_name
is_filled _ = false

abbrev pub field_filled : Cn → Cn → Bool
field_filled n t = if is_name n then is_filled t else false

abbrev pub are_filled : Prs → Bool
are_filled no_pairs = true
are_filled (pair n t ps) = if field_filled n t then are_filled ps else false

abbrev pub row_filled : Cn → Bool
row_filled (row k ps) = if kd_eq k types then are_filled ps else false
row_filled _ = false

abbrev pub normal_filled : Option Cn → Bool
normal_filled (Some (record_of r)) = row_filled r
normal_filled _ = false

abbrev pub can_fill : Cn → Bool
can_fill t = normal_filled (normal_of t)
