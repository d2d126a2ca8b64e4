use Rattle.std.proofs.Common.{ℕ, List, subst}
use Rattle.ur_lexer.specs.Lexing.{IsTold}
use Rattle.project_sources.proofs.modules.tokens_of.Goals as goal

pub returns-in_default-clause-refused : goal.returns-in_default-clause-refused
returns-in_default-clause-refused c = λ part. c.not_utf8.ensures.cause part c.args.bytes.now c.requires
    c.in_default.ensures.cases.0

pub returns-in-Err-clause-refused : goal.returns-in-Err-clause-refused
returns-in-Err-clause-refused c = λ part.
    c.unread.ensures.cause part c.args.bytes.now (c.requires, c.in-Ok.ensures.cases.1)
    (subst (λ (l : List ℕ). IsTold l c.in-Err.fault) c.in-Ok.ensures.cases.0 c.in-Err.ensures.fault)
