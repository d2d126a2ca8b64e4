use Rattle.std.proofs.lemmas.Result.{err_from_is_err_and}
use Rattle.ur_parser.specs.Sources.{interface_part}
use Rattle.project_sources.proofs.modules.interface_of.Goals as goal

pub returns-in_err-tokens-clause-refused : goal.returns-in_err-tokens-clause-refused
returns-in_err-tokens-clause-refused c =
    let p = err_from_is_err_and c.from_residual.result c.from_residual.ensures.1 in
    rw (p.1, p.2) (c.in_err-tokens.ensures.refused interface_part)

pub returns-clause-refused : goal.returns-clause-refused
returns-clause-refused c =
    c.unparsed.ensures.cause interface_part c.args.bytes.now c.in_ok-tokens.tokens c.in_ok-tokens.ensures.text
    c.in_ok-tokens.ensures.tokens
    c.in-Err.ensures.refused
