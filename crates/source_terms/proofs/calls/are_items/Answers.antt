use Rattle.std.proofs.Common.{Vec, Global, ◌≡◌, ℕ, ◌+◌, ◌<◌, ◌≤◌, ◌&&◌, nat_eq, drop, length, arith, ap, sym, ◌∙◌}
use Rattle.core_terms.specs.declared.exp.Form.TheViews.{out-Items}
use Rattle.plain_tree.specs.declared.exp.Form.TheViews as plain
use Rattle.source_names.specs.View.{scope_view}
use Rattle.source_terms.specs.declared.tasks.Task.{Task}
use Rattle.source_terms.specs.Tasks.{all_read}
use Rattle.source_terms.proofs.Walking.{items_pass, items_miss, items_go, items_stop, items_moved}
use Rattle.source_terms.proofs.Walking.{items_pass, items_miss, items_go, items_stop, items_moved}
use Rattle.source_terms.proofs.calls.are_items.Goals as goal
use Rattle.source_terms.proofs.calls.are_items.Goals.{then-is_left+else-next-len+in_ok-is_item+else-not-branch}
use Rattle.source_terms.proofs.calls.are_items.Goals.{else-is_left}

pub returns-then-not-branch : goal.returns-then-not-branch
returns-then-not-branch c =
    let xs = (plain.out-Items c.args.items.now).items in
    let ys = (out-Items c.args.given.now).items in
    let one : c.loop-j.next < length xs.items = omega (arith, xs.ok.0) in
    let other : c.loop-j.j < length ys.items = omega (arith, ys.ok.0) in
    items_miss (scope_view c.args.s.now) _ _ _ _ xs.items c.loop-j.next _ ys.items c.loop-j.j _ one c.index.ensures
    other c.index-found.ensures c.loop-j.invariant.whole (sym c.if-is_left.true ∙ c.is_left.ensures)
    c.if-not-branch.true c.in_ok-is_item.ensures

pub loop-j-preserved : goal.loop-j-preserved
loop-j-preserved c =
    let xs = (plain.out-Items c.args.items.now).items in
    let ys = (out-Items c.args.given.now).items in
    let other : c.loop-j.j < length ys.items = omega (arith, ys.ok.0) in
    elim c.if-is_left.branch [
      | then-is_left+else-next-len+in_ok-is_item+else-not-branch w ↦
          let one : c.loop-j.next < length xs.items = omega (arith, xs.ok.0, w.if-next-len.false, w.len.ensures) in
          record {
            within = omega (arith, w.next-is, one);
            whole = items_moved (scope_view c.args.s.now) xs.items (c.loop-j.next + 1) c.if-is_left.next
                (drop (c.loop-j.j + 1) ys.items) _ (all_read w.is_item.new.tasks.items) _ w.next-is
                (ap (λ (t : Vec Task Global). all_read t.items) w.tasks-is)
                (items_go (scope_view c.args.s.now) _ _ _ _ xs.items c.loop-j.next _ ys.items c.loop-j.j _ one
                w.index.ensures other c.index-found.ensures c.loop-j.invariant.whole
                (sym w.if-is_left.true ∙ c.is_left.ensures) w.if-not-branch.false w.in_ok-is_item.ensures);
          }
      | else-is_left w ↦
          record {
            within = omega (arith, w.next-is, c.loop-j.invariant.within);
            whole = items_moved (scope_view c.args.s.now) xs.items c.loop-j.next c.if-is_left.next
                (drop (c.loop-j.j + 1) ys.items) _ (all_read c.loop-j.tasks.items) _ w.next-is
                (ap (λ (t : Vec Task Global). all_read t.items) w.tasks-is)
                (items_pass (scope_view c.args.s.now) _ _ (drop c.loop-j.next xs.items) ys.items c.loop-j.j _ other
                c.index-found.ensures c.loop-j.invariant.whole (sym w.if-is_left.false ∙ c.is_left.ensures));
          }
    ]

pub returns : goal.returns
returns c =
    let xs = (plain.out-Items c.args.items.now).items in
    let ys = (out-Items c.args.given.now).items in
    let q : c.len-2.result ≡ length xs.items = omega (arith, xs.ok.0) in
    let h : length ys.items ≤ c.loop-j.j = omega (arith, ys.ok.0) in
    ap (λ (k : ℕ). nat_eq c.loop-j.next k && all_read c.loop-j.tasks.items) q
    ∙ items_stop (scope_view c.args.s.now) _ _ xs.items c.loop-j.next ys.items c.loop-j.j c.loop-j.invariant.within
    h c.loop-j.invariant.whole
