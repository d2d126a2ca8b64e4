-- What is still to be written of a link.
use Rattle.std.specs.Prelude.{ℕ, ◌+◌, List, [], ◌∷◌, ◌++◌, map, reverse}
use Rattle.table_rows.specs.Wires.{Wr, int, words, unit, rec_of, bare, tagged, Wrs, no_wires, wire}
use Rattle.table_rows.specs.View.{wire_tree, wires_from}
use Rattle.link_router.specs.declared.agenda.Agenda.{Agenda}
use Rattle.table_rows.specs.Pieces.{all_pieces}
use Rattle.link_router.specs.Links.{joined}

-- the lists that are to be written, in order
abbrev pub agenda_view : Agenda → List (List Wr)
agenda_view a = reverse (map (λ list. map wire_tree list.now) a.lists.items)

-- lists of values, one after another
abbrev pub pending : List (List Wr) → List ℕ
pending [] = []
pending (ws ∷ wss) = joined (all_pieces (wires_from ws)) ++ pending wss

-- how many parts a value has that are lists to be written, with their members
abbrev mutual
  pub load : Wr → ℕ
  load (int z) = 0
  load (words t) = 0
  load unit = 0
  load (rec_of ws) = members_load ws + 1
  load (bare n) = 0
  load (tagged n w) = load w + 2

  pub members_load : Wrs → ℕ
  members_load no_wires = 0
  members_load (wire w ws) = load w + 1 + members_load ws

-- of a list: one, and one for each member with its own
abbrev pub list_load : List Wr → ℕ
list_load ws = members_load (wires_from ws) + 1

abbrev pub all_loads : List (List Wr) → ℕ
all_loads [] = 0
all_loads (ws ∷ wss) = list_load ws + all_loads wss
