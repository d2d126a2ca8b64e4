use Rattle.std.proofs.Common.{◌≡◌, drop}
use Rattle.core_terms.specs.Strip.{strip_items}
use Rattle.core_terms.specs.View.{items_tree}
use Rattle.core_terms.specs.declared.exp.Form.TheViews.{out-Items}
use Rattle.source_terms.specs.Parts.{term_at}
use Rattle.source_terms.proofs.Leaving.{items_left}
use Rattle.source_terms.proofs.standing.term_left.Given as goal

abbrev pub invariant-loop-i : goal.invariant-loop-i
invariant-loop-i l =
    term_at l.place (strip_items (items_tree l.items))
    ≡ term_at l.before (items_left (drop l.i (out-Items l.items).items.items))
