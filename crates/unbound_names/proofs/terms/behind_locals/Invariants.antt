use Rattle.std.proofs.Common.{◌≡◌, drop, map}
use Rattle.plain_tree.specs.ExpView.{local_tree, locals_from, locals_tree}
use Rattle.plain_tree.specs.declared.exp.Form.TheViews.{out-Locals}
use Rattle.unbound_names.specs.Terms.{behind_locals}
use Rattle.unbound_names.specs.View.{around_view}
use Rattle.unbound_names.proofs.terms.behind_locals.Given as goal

abbrev pub invariant-loop-i : goal.invariant-loop-i
invariant-loop-i l =
    behind_locals (locals_tree l.ls) (around_view l.s)
    ≡ behind_locals (locals_from (map local_tree (drop l.i (out-Locals l.ls).items.items))) (around_view l.here)
