use Rattle.std.proofs.Common.{◌≡◌, ◌≤◌, ◌&&◌, drop, length}
use Rattle.core_terms.specs.Strip.{strip_items}
use Rattle.core_terms.specs.View.{items_tree}
use Rattle.core_terms.specs.declared.exp.Form.TheViews.{out-Items}
use Rattle.plain_tree.specs.ExpView as view
use Rattle.plain_tree.specs.declared.exp.Form.TheViews as plain
use Rattle.source_names.specs.View.{scope_view}
use Rattle.source_terms.specs.Tasks.{all_read}
use Rattle.source_terms.specs.Terms.{reads_items}
use Rattle.source_terms.proofs.Walking.{items_on}
use Rattle.source_terms.proofs.calls.are_items.Given as goal

abbrev pub invariant-loop-j : goal.invariant-loop-j
invariant-loop-j l = record {
  within : l.next ≤ length (plain.out-Items l.items).items.items;
  whole : (reads_items (scope_view l.s) (view.items_tree l.items) (strip_items (items_tree l.given))
      && all_read l.fn.tasks.items)
      ≡ (items_on (scope_view l.s) (drop l.next (plain.out-Items l.items).items.items)
      (drop l.j (out-Items l.given).items.items) && all_read l.tasks.items);
}
