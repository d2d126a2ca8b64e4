-- The bytes that a text holds.
use Rattle.std.specs.Prelude.{ℕ, List, [], string_bytes}
use Rattle.table_rows.specs.declared.text.Held.{Held}
use Rattle.table_rows.specs.declared.text.Held.TheVariants.{Nothing, Shared}
use Rattle.std.specs.Arc.{arc_value}

abbrev pub held_bytes : Held → List ℕ
held_bytes (Nothing alloc) = []
held_bytes (Shared shared) = string_bytes (arc_value shared)
