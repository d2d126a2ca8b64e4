use Rattle.std.proofs.Common.{rules}
use Rattle.table_rows.proofs.Lists.{wires_pushed, wires_same}
use Rattle.table_rows.proofs.wire.Wires.push.Goals as goal

pub returns-in_err-push-clause-kept : goal.returns-in_err-push-clause-kept
returns-in_err-push-clause-kept c = search (rules, wires_same)

pub returns-clause-grown : goal.returns-clause-grown
returns-clause-grown c = wires_pushed _ _ _ c.in_ok-push.ensures.items
