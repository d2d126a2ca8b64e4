use Rattle.std.proofs.Common.{◌≡◌, ◌<◌, ◌≤◌, true, length, sym, ◌∙◌, arith, rules}
use Rattle.con_terms.specs.declared.con.Con.TheViews.{out-Cons, out-Pairs}
use Rattle.row_normal.proofs.SameTrees.{cons_differ, pairs_differ, prs_eq_more, prs_eq_end}
use Rattle.row_normal.proofs.same.+same_con.Goals as goal

pub same_each-returns-then-len : goal.same_each-returns-then-len
same_each-returns-then-len t c = sym (cons_differ c.args.cs.now c.args.ds.now (λ e. omega (arith, (out-Cons c.args.cs.now).items.ok.0, (out-Cons c.args.ds.now).items.ok.0)))

pub same_pairs-returns-then-len : goal.same_pairs-returns-then-len
same_pairs-returns-then-len t c = sym (pairs_differ c.args.ps.now c.args.qs.now (λ e. omega (arith, (out-Pairs c.args.ps.now).items.ok.0, (out-Pairs c.args.qs.now).items.ok.0)))

pub same_pairs-loop-i-preserved : goal.same_pairs-loop-i-preserved
same_pairs-loop-i-preserved t c =
    let ps = (out-Pairs c.args.ps.now).items in
    let qs = (out-Pairs c.args.qs.now).items in
    let one : c.loop-i.i < length ps.items = omega (arith, ps.ok.0) in
    let other : c.loop-i.i < length qs.items = omega (arith, ps.ok.0, qs.ok.0) in
    let e : c.same_pair.result ≡ true = search rules in
    c.loop-i.invariant ∙ prs_eq_more ps.items qs.items _ _ _ c.index.ensures c.index-in-loop-i.ensures one other (sym c.same_pair.ensures ∙ e)

pub same_pairs-returns : goal.same_pairs-returns
same_pairs-returns t c =
    let ps = (out-Pairs c.args.ps.now).items in
    let qs = (out-Pairs c.args.qs.now).items in
    let one : length ps.items ≤ c.loop-i.i = omega (arith, ps.ok.0) in
    let other : length qs.items ≤ c.loop-i.i = omega (arith, ps.ok.0, qs.ok.0) in
    sym (c.loop-i.invariant ∙ prs_eq_end ps.items qs.items _ one other)
