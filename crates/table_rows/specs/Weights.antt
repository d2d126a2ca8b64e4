-- How many parts a value has.
use Rattle.std.specs.Prelude.{ℕ, ◌+◌, List, Option, Some, None, map, Vec}
use Rattle.table_rows.specs.Wires.{Wr, int, words, unit, rec_of, bare, tagged, Wrs, no_wires, wire}
use Rattle.table_rows.specs.View.{wires_from, wire_tree}
use Rattle.table_rows.specs.declared.wire.Wire.{Wire}
use Rattle.std.specs.declared.alloc.Global.{Global}

-- each value counts one, and each record and each constructor that holds a value counts one more
abbrev mutual
  pub weight : Wr → ℕ
  weight (int z) = 1
  weight (words t) = 1
  weight unit = 1
  weight (rec_of ws) = all_weights ws + 2
  weight (bare n) = 1
  weight (tagged n w) = weight w + 2

  pub all_weights : Wrs → ℕ
  all_weights no_wires = 0
  all_weights (wire w ws) = weight w + all_weights ws

abbrev pub weights : List Wr → ℕ
weights ws = all_weights (wires_from ws)

-- of fields, where there are any
abbrev pub around_weight : Option (Vec Wire Global) → ℕ
around_weight None = 0
around_weight (Some v) = weights (map wire_tree v.items)
