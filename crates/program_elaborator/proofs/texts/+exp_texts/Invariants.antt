use Rattle.std.proofs.Common.{◌*◌, ◌+◌}
use Rattle.program_elaborator.proofs.texts.+exp_texts.Given as goal

abbrev pub decreases-of_exp : goal.decreases-of_exp
decreases-of_exp l = 8 * l.room

abbrev pub decreases-of_named : goal.decreases-of_named
decreases-of_named l = 8 * l.room + 1

abbrev pub decreases-of_branch : goal.decreases-of_branch
decreases-of_branch l = 8 * l.room + 1

abbrev pub decreases-of_attributes : goal.decreases-of_attributes
decreases-of_attributes l = 8 * l.room + 1

abbrev pub decreases-of_items : goal.decreases-of_items
decreases-of_items l = 8 * l.room + 1

abbrev pub decreases-of_fields : goal.decreases-of_fields
decreases-of_fields l = 8 * l.room + 1

abbrev pub decreases-of_links : goal.decreases-of_links
decreases-of_links l = 8 * l.room + 1

abbrev pub decreases-of_branches : goal.decreases-of_branches
decreases-of_branches l = 8 * l.room + 2

abbrev pub decreases-of_group : goal.decreases-of_group
decreases-of_group l = 8 * l.room + 2

abbrev pub decreases-of_node : goal.decreases-of_node
decreases-of_node l = 8 * l.room + 2

abbrev pub decreases-of_local : goal.decreases-of_local
decreases-of_local l = 8 * l.room + 3

abbrev pub decreases-of_nodes : goal.decreases-of_nodes
decreases-of_nodes l = 8 * l.room + 3

abbrev pub decreases-of_locals : goal.decreases-of_locals
decreases-of_locals l = 8 * l.room + 4
