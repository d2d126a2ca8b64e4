use Rattle.std.proofs.Common.{◌≡◌, sym}
use Rattle.con_terms.specs.View.{pair_tree}
use Rattle.con_terms.proofs.Listed.{pushed_listed, same_listed, on_err}
use Rattle.con_terms.proofs.Lists.{pairs_listed, pairs_listed-roll}
use Rattle.con_terms.proofs.con.Pairs.push.Goals as goal

pub returns-clause-grown : goal.returns-clause-grown
returns-clause-grown c = pushed_listed pair_tree _ _ _ _ _ (pairs_listed c.args.self.now) (pairs_listed-roll (record { items = c.push.new.self })) c.in_ok-push.ensures.items

pub returns-in_err-push-clause-kept : goal.returns-in_err-push-clause-kept
returns-in_err-push-clause-kept c = on_err c.from_residual.result _ (same_listed pair_tree _ _ _ _ (pairs_listed c.args.self.now) (pairs_listed-roll (record { items = c.push.new.self })) c.in_err-push.ensures.items)
