use Rattle.std.proofs.Common.{arith, subst, sym}
use Rattle.std.proofs.lemmas.Result.{err_from_is_err_and}
use Rattle.grammar_engine.specs.declared.stop.Stop.TheVariants.{Refused}
use Rattle.grammar_engine.specs.Exact.{StopsText}
use Rattle.grammar_engine.proofs.Texts.Refusing.{left_text, stops_text}
use Rattle.grammar_engine.proofs.read.read_all.Goals as goal

pub returns-in_err-read-clause-ends : goal.returns-in_err-read-clause-ends
returns-in_err-read-clause-ends c =
    let p = err_from_is_err_and c.from_residual.result c.from_residual.ensures.1 in
    rw (p.1, p.2) (stops_text c.args.tokens.now.items c.args.part c.args.room c.in_err-read.field-0.0 c.in_err-read.ensures.ends)

pub returns-then-read-len-clause-ends : goal.returns-then-read-len-clause-ends
returns-then-read-len-clause-ends c =
    let items = c.args.tokens.now.items in
    let r = c.in_ok-read.read in
    subst (λ i. StopsText c.args.part items c.args.room (Refused i)) (sym c.max.ensures) (left_text items c.args.part c.args.room r.behind r.far r.tree c.in_ok-read.ensures.sole (search (arith, c.if-read-len.true, c.len.ensures)))
