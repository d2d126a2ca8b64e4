use Rattle.std.proofs.Common.{arith, subst, ltb-true}
use Rattle.grammar_engine.specs.Allowed.{StopsAllowed}
use Rattle.grammar_engine.specs.Exact.{StopsText}
use Rattle.grammar_engine.proofs.Texts.Refusing.{none_goes}
use Rattle.grammar_engine.proofs.Short.Whole.{allows_at, goes_on_whole, goes_on_later}
use Rattle.grammar_engine.proofs.read.is_deeper.Goals as goal

pub returns-in-Ok-clause-deeper : goal.returns-in-Ok-clause-deeper
returns-in-Ok-clause-deeper c = λ yes. goes_on_whole c.args.tokens.now.items c.args.part 18446744073709551615 c.args.place c.in-Ok._tree c.in-Ok.ensures.tree

pub returns-in-Err-Refused-clause-deeper : goal.returns-in-Err-Refused-clause-deeper
returns-in-Err-Refused-clause-deeper c =
    let items = c.args.tokens.now.items in
    λ yes.
    goes_on_later items c.args.part 18446744073709551615 c.args.place c.in-Err-Refused.later (ltb-true c.args.place c.in-Err-Refused.later (search yes))
    (allows_at items c.args.part 18446744073709551615 c.in-Err-Refused.later (omega arith) (subst (StopsAllowed items c.args.part 0 18446744073709551615) c.in-Err-Refused.field-0-is c.in-Err-Refused.ensures.allowed))

pub returns-in-Err-Refused-clause-no_deeper : goal.returns-in-Err-Refused-clause-no_deeper
returns-in-Err-Refused-clause-no_deeper c =
    let items = c.args.tokens.now.items in
    λ no.
    none_goes items c.args.part 18446744073709551615 c.args.place c.in-Err-Refused.later (subst (StopsText c.args.part items 18446744073709551615) c.in-Err-Refused.field-0-is c.in-Err-Refused.ensures.ends)
    (omega (arith, c.requires.few)) (search (arith, no)) c.requires.within
