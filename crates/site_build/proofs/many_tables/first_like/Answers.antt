use Rattle.std.proofs.Common.{◌≡◌, ◌≢◌, arith, sym, ◌∙◌}
use Rattle.std.specs.Cmp.Lexicographic.{same_text, other_text}
use Rattle.site_build.proofs.ProjectLines.{first_found, one_passed}
use Rattle.site_build.proofs.many_tables.first_like.Goals as goal

pub returns-then-eq-clause-first : goal.returns-then-eq-clause-first
returns-then-eq-clause-first c =
    let same : c.first_line.result.0.now ≡ c.args.line.now = same_text c.first_line.result.0.now c.args.line.now (sym c.if-eq.true ∙ c.eq.ensures) in
    first_found c.args.bytes.now c.args.line.now c.loop-line.before c.loop-line.rest.now c.first_line.result.0.now c.first_line.result.1.now c.loop-line.invariant.0 c.first_line.ensures.lines same

pub loop-line-preserved : goal.loop-line-preserved
loop-line-preserved c =
    let other : c.first_line.result.0.now ≢ c.args.line.now = other_text c.first_line.result.0.now c.args.line.now (sym c.if-eq.false ∙ c.eq.ensures) in
    (one_passed c.args.bytes.now c.args.line.now c.loop-line.before c.loop-line.rest.now c.first_line.result.0.now c.first_line.result.1.now c.loop-line.invariant.0 c.first_line.ensures.lines other, omega (arith, c.loop-line.invariant.1, c.first_line.ensures.shorter))
