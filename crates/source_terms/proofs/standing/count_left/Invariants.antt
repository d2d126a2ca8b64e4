use Rattle.std.proofs.Common.{◌≡◌, ◌+◌, ◌≤◌, drop}
use Rattle.core_terms.specs.Strip.{strip_items}
use Rattle.core_terms.specs.View.{items_tree}
use Rattle.core_terms.specs.declared.exp.Form.TheViews.{out-Items}
use Rattle.source_terms.specs.Parts.{count}
use Rattle.source_terms.proofs.Leaving.{items_left}
use Rattle.source_terms.proofs.standing.count_left.Given as goal

abbrev pub invariant-loop-i : goal.invariant-loop-i
invariant-loop-i l = record {
  few : l.count ≤ l.i;
  whole : count (strip_items (items_tree l.items))
      ≡ l.count + count (items_left (drop l.i (out-Items l.items).items.items));
}
