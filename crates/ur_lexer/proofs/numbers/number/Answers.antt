use Rattle.std.proofs.Common.{◌≡◌, suc, ◌+◌, ◌-◌, ◌*◌, drop, get_or, arith, sym, ap, ◌∙◌, Some}
use Rattle.ur_lexer.specs.Numbers.{value_from}
use Rattle.ur_lexer.proofs.Front.Values.{value_grows, value_step, value_end, number_small, number_large}
use Rattle.ur_lexer.proofs.numbers.number.Goals as goal

pub returns-then-from-next-clause-value : goal.returns-then-from-next-clause-value
returns-then-from-next-clause-value c =
    let ds = c.args.digits.now in
    let step = value_step c.digits.total c.digits.digit-index ds c.digits-test.true in
    let grows = value_grows (c.digits.total * 10 + (get_or ds c.digits.digit-index 0 - 48)) (drop (suc c.digits.digit-index) ds) in
    sym (number_large ds c.args.most (omega (arith, step, grows, c.digits.invariant.value)))

pub returns-clause-value : goal.returns-clause-value
returns-clause-value c =
    let ds = c.args.digits.now in
    let is : value_from 0 ds ≡ c.digits.total = sym c.digits.invariant.value ∙ value_end c.digits.total c.digits.digit-index ds c.digits-test.false in
    sym (number_small ds c.args.most (omega (arith, is, c.digits.invariant.low)) ∙ ap Some is)
