use Rattle.std.proofs.Common.{◌<◌, ◌++◌, ◌∙◌, length, take, ap, sym, arith}
use Rattle.std.proofs.lemmas.List.{nil_from_length}
use Rattle.link_router.proofs.Listed.{name_there, name_wanting, name_passed, told_false, told_true}
use Rattle.link_router.proofs.pieces.behind_names.Goals as goal

pub returns-in_default-clause-none : goal.returns-in_default-clause-none
returns-in_default-clause-none c r e =
    let within : c.loop-i.i < length c.args.names.now = omega (arith, c.loop-i-test.true, c.len-i-end.ensures) in
    name_wanting c.args.names.now c.loop-i.i r within (ap (λ x. take c.loop-i.i c.args.names.now ++ x) (sym (nil_from_length c.loop-i.rest.now c.in_default.ensures.cases)) ∙ sym c.loop-i.invariant ∙ e)

pub returns-else-are_same-clause-none : goal.returns-else-are_same-clause-none
returns-else-are_same-clause-none c r e =
    let within : c.loop-i.i < length c.args.names.now = omega (arith, c.loop-i-test.true, c.len-i-end.ensures) in
    told_false c.are_same.ensures c.if-are_same.false (c.as_slice.ensures
    ∙ name_there c.args.names.now c.loop-i.i c.at.result.now c.in-Some.first.now c.in-Some.others.now r within (ap (λ x. take c.loop-i.i c.args.names.now ++ x) (sym c.in-Some.ensures.cases.0) ∙ sym c.loop-i.invariant ∙ e)
    ∙ sym c.at.ensures ∙ sym c.as_bytes.ensures)

pub loop-i-preserved : goal.loop-i-preserved
loop-i-preserved c =
    let within : c.loop-i.i < length c.args.names.now = omega (arith, c.loop-i-test.true, c.len-i-end.ensures) in
    c.loop-i.invariant ∙ ap (λ x. take c.loop-i.i c.args.names.now ++ x) c.in-Some.ensures.cases.0
    ∙ name_passed c.args.names.now c.loop-i.i c.at.result.now c.in-Some.first.now c.in-Some.others.now within (sym c.as_slice.ensures ∙ told_true c.are_same.ensures c.if-are_same.true ∙ c.as_bytes.ensures ∙ c.at.ensures)
