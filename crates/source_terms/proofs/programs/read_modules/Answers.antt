use Rattle.std.proofs.Common.{◌≡◌, ◌<◌, ◌≤◌, length, sym, ◌∙◌, arith}
use Rattle.source_terms.proofs.Steps.{trees_differ, all_read, some_left}
use Rattle.source_terms.proofs.programs.read_modules.Goals as goal

pub returns-then-trees-len : goal.returns-then-trees-len
returns-then-trees-len c =
    sym (trees_differ _ _ c.args.names.now c.args.trees.now _ (λ e. c.if-trees-len.true (e ∙ sym c.len.ensures)))

pub returns-then-next-len : goal.returns-then-next-len
returns-then-next-len c =
    let es = c.args.program.now.decls.items in
    let m : length c.args.names.now ≤ c.loop-i.i = omega arith in
    let k : c.loop-i.next < length es.items = omega (arith, es.ok.0) in
    sym (c.loop-i.invariant ∙ some_left _ _ c.args.names.now c.args.trees.now es.items c.loop-i.i c.loop-i.next m
    c.loop-i-test.false k)

pub returns : goal.returns
returns c =
    let es = c.args.program.now.decls.items in
    let m : length c.args.names.now ≤ c.loop-i.i = omega arith in
    let k : length es.items ≤ c.loop-i.next = omega (arith, es.ok.0) in
    sym (c.loop-i.invariant ∙ all_read _ _ c.args.names.now c.args.trees.now es.items c.loop-i.i c.loop-i.next m
    c.loop-i-test.false k)
