use Rattle.std.proofs.Common.{Bool, ◌&&◌, refl}
use Rattle.core_terms.specs.Strip.{strip, strip_items}
use Rattle.core_terms.specs.View.{exp_tree, items_tree}
use Rattle.plain_tree.specs.ExpView as plain
use Rattle.source_names.specs.View.{scope_view}
use Rattle.source_terms.specs.Leaves.{form_of}
use Rattle.source_terms.specs.Parts.{reads_head}
use Rattle.source_terms.specs.Tasks.{all_read}
use Rattle.source_terms.specs.Terms.{reads_items}
use Rattle.source_terms.proofs.Tasking.{parts_fail, parts_both}
use Rattle.source_terms.proofs.calls.is_applied.Goals as goal

pub returns-then-not-branch : goal.returns-then-not-branch
returns-then-not-branch c =
    let head : Bool = reads_head (scope_view c.args.s.now) (plain.exp_tree c.args.head.now) c.args.sigil
    (form_of (strip (exp_tree c.args.g.now))) in
    let items : Bool = reads_items (scope_view c.args.s.now) (plain.items_tree c.args.items.now)
    (strip_items (items_tree c.args.given.now)) in
    parts_fail head items (all_read c.args.tasks.now.items) (all_read c.is_head.new.tasks.items)
    c.in_ok-is_head.field-0 (head && items) refl c.if-not-branch.true c.in_ok-is_head.ensures

pub returns : goal.returns
returns c =
    let head : Bool = reads_head (scope_view c.args.s.now) (plain.exp_tree c.args.head.now) c.args.sigil
    (form_of (strip (exp_tree c.args.g.now))) in
    let items : Bool = reads_items (scope_view c.args.s.now) (plain.items_tree c.args.items.now)
    (strip_items (items_tree c.args.given.now)) in
    parts_both head items (all_read c.args.tasks.now.items) (all_read c.is_head.new.tasks.items)
    (all_read c.are_items.new.tasks.items) c.in_ok-is_head.field-0 c.in_ok-found.found (head && items) refl
    c.if-not-branch.false c.in_ok-is_head.ensures c.in_ok-found.ensures
