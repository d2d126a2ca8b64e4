use Rattle.std.proofs.Common.{◌≡◌, ◌<◌, ◌≤◌, ◌∙◌, length, None, Some, rules, arith}
use Rattle.con_terms.specs.View.{con_tree}
use Rattle.source_names.proofs.Nested.{records_more, records_end}
use Rattle.source_names.proofs.parts.in_records.Goals as goal

pub returns-in-None : goal.returns-in-None
returns-in-None c = λ first.
    let count : c.len-i-end.result ≡ length c.args.more.now = search rules in
    let h : c.loop-i.i < length c.args.more.now = omega (arith, count, c.loop-i-test.true) in
    c.loop-i.invariant first ∙ records_more c.args.more.now c.loop-i.i (con_tree c.loop-i.at.now) None first h
    c.in-None.ensures

pub loop-i-preserved : goal.loop-i-preserved
loop-i-preserved c = λ first.
    let count : c.len-i-end.result ≡ length c.args.more.now = search rules in
    let h : c.loop-i.i < length c.args.more.now = omega (arith, count, c.loop-i-test.true) in
    c.loop-i.invariant first ∙ records_more c.args.more.now c.loop-i.i (con_tree c.loop-i.at.now) (Some
    (con_tree c.in-Some.row.now)) first h c.in-Some.ensures

pub returns : goal.returns
returns c = λ first.
    let count : c.len-i-end.result ≡ length c.args.more.now = search rules in
    let h : length c.args.more.now ≤ c.loop-i.i = omega (arith, count, c.loop-i-test.false) in
    c.loop-i.invariant first ∙ records_end c.args.more.now c.loop-i.i (con_tree c.loop-i.at.now) first h ∙
    c.record_part-2.ensures first
