use Rattle.std.proofs.Common.{refl, sym, ◌∙◌}
use Rattle.link_router.proofs.Listed.{told_true}
use Rattle.wire_values.proofs.Forms.{true_has, false_has}
use Rattle.wire_values.proofs.leaves.truth_named.Goals as goal

pub returns-then-are_same : goal.returns-then-are_same
returns-then-are_same c K = true_has c.args.name.now _ refl (sym c.as_bytes.ensures ∙ told_true c.are_same.ensures c.if-are_same.true)

pub returns-then-are_same-2 : goal.returns-then-are_same-2
returns-then-are_same-2 c K = false_has c.args.name.now _ refl (sym c.as_bytes-else-are_same.ensures ∙ told_true c.are_same-else-are_same.ensures c.if-are_same-2.true)
