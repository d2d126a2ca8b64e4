use Rattle.std.proofs.Common.{◌≢◌, length, arith}
use Rattle.core_terms.specs.declared.exp.Form.TheViews.{out-Branches}
use Rattle.source_terms.proofs.Counting.{no_only_branch}
use Rattle.source_terms.proofs.standing.only_branch.Goals as goal

pub returns-else-len-eq1 : goal.returns-else-len-eq1
returns-else-len-eq1 c =
    let bs = (out-Branches c.args.branches.now).items in
    let h : length bs.items ≢ 1 = (λ e. c.if-len-eq1.false (omega (arith, bs.ok.0))) in
    no_only_branch c.args.branches.now h
