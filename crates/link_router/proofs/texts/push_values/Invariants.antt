use Rattle.std.proofs.Common.{◌≡◌, ◌++◌}
use Rattle.table_rows.specs.View.{wires_tree}
use Rattle.table_rows.specs.Pieces.{all_pieces}
use Rattle.link_router.specs.Links.{joined}
use Rattle.link_router.specs.Pending.{agenda_view, pending, all_loads}
use Rattle.link_router.proofs.texts.push_values.Given as goal

abbrev pub invariant-loop-values : goal.invariant-loop-values
invariant-loop-values l = l.text ++ pending (agenda_view l.agenda) ≡ l.initial.text ++ joined (all_pieces (wires_tree l.wires))

abbrev pub decreases-loop-values : goal.decreases-loop-values
decreases-loop-values l = all_loads (agenda_view l.agenda)
