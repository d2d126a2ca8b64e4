use Rattle.std.proofs.Common.{◌+◌, ◌*◌}
use Rattle.term_elaborator.proofs.elab.+elab.Given as goal

abbrev pub decreases-elab : goal.decreases-elab
decreases-elab l = 5 * l.room + 4

abbrev pub decreases-of_term : goal.decreases-of_term
decreases-of_term l = 5 * l.room + 3

abbrev pub decreases-of_open : goal.decreases-of_open
decreases-of_open l = 5 * l.room + 3

abbrev pub decreases-of_core : goal.decreases-of_core
decreases-of_core l = 5 * l.room + 2

abbrev pub decreases-below : goal.decreases-below
decreases-below l = 5 * l.room

abbrev pub decreases-call_to_end : goal.decreases-call_to_end
decreases-call_to_end l = 5 * l.room + 1

abbrev pub decreases-frame_to_end : goal.decreases-frame_to_end
decreases-frame_to_end l = 5 * l.room + 1

abbrev pub decreases-let_to_end : goal.decreases-let_to_end
decreases-let_to_end l = 5 * l.room + 1

abbrev pub decreases-record_to_end : goal.decreases-record_to_end
decreases-record_to_end l = 5 * l.room + 1

abbrev pub decreases-chain_to_end : goal.decreases-chain_to_end
decreases-chain_to_end l = 5 * l.room + 1

abbrev pub decreases-page_to_end : goal.decreases-page_to_end
decreases-page_to_end l = 5 * l.room + 1
