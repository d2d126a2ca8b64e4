use Rattle.std.proofs.Common.{◌≡◌, ◌<◌, ◌≤◌, ◌+◌, true, false, length, map, drop, ap, sym, ◌∙◌, arith, rules}
use Rattle.std.proofs.Common.{IsTrue}
use Rattle.core_terms.specs.View.{decls_view}
use Rattle.plain_tree.specs.View.{decl_tree}
use Rattle.source_names.specs.View.{declared_view, tables_view}
use Rattle.source_terms.specs.Programs.{after_decls}
use Rattle.source_terms.proofs.Steps.{next_read, none_left}
use Rattle.source_terms.proofs.programs.read_decls.Goals as goal

pub returns-then-next-len : goal.returns-then-next-len
returns-then-next-len c =
    let es = c.args.program.now.decls.items in
    let m : length es.items ≤ c.loop-i.next = omega (arith, es.ok.0) in
    sym (c.loop-i.invariant ∙ none_left _ _ c.args.decls.now c.loop-i.i es.items c.loop-i.next c.loop-i-test.true m)

pub returns-then-not-branch : goal.returns-then-not-branch
returns-then-not-branch c =
    let es = c.args.program.now.decls.items in
    let m : c.loop-i.next < length es.items = omega (arith, es.ok.0) in
    sym (c.loop-i.invariant ∙ next_read _ _ c.args.decls.now c.loop-i.i c.index-decls-i.result es.items
    c.loop-i.next
    c.index.result.now false c.index-decls-i.is c.loop-i-test.true c.index.ensures m
    (sym c.if-not-branch.true ∙ c.in_ok-is_decl.ensures.same))

pub loop-i-preserved : goal.loop-i-preserved
loop-i-preserved c =
    let es = c.args.program.now.decls.items in
    let m : c.loop-i.next < length es.items = omega (arith, es.ok.0) in
    let yes : IsTrue c.in_ok-is_decl.field-0 = search rules in
    c.loop-i.invariant ∙ next_read _ _ c.args.decls.now c.loop-i.i c.index-decls-i.result es.items c.loop-i.next
    c.index.result.now true c.index-decls-i.is c.loop-i-test.true c.index.ensures m
    (sym c.if-not-branch.false ∙ c.in_ok-is_decl.ensures.same)
    ∙ ap (λ d. after_decls (tables_view c.args.program.now) d
    (map decl_tree (drop (c.loop-i.i + 1) c.args.decls.now))
    (drop (c.loop-i.next + 1) (decls_view c.args.program.now.decls))) (sym (c.in_ok-is_decl.ensures.behind yes))
