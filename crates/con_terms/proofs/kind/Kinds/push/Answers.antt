use Rattle.std.proofs.Common.{◌≡◌, sym}
use Rattle.con_terms.specs.View.{kind_tree}
use Rattle.con_terms.specs.declared.kind.Kind.TheViews.{roll-Kinds}
use Rattle.con_terms.proofs.Listed.{pushed_listed, same_listed, on_err}
use Rattle.con_terms.proofs.Lists.{kinds_listed}
use Rattle.con_terms.proofs.kind.Kinds.push.Goals as goal

pub returns-clause-grown : goal.returns-clause-grown
returns-clause-grown c = pushed_listed kind_tree _ _ _ _ _ (kinds_listed c.args.self.now) (kinds_listed (roll-Kinds (record { items = c.push.new.self }))) c.in_ok-push.ensures.items

pub returns-in_err-push-clause-kept : goal.returns-in_err-push-clause-kept
returns-in_err-push-clause-kept c = on_err c.from_residual.result _ (same_listed kind_tree _ _ _ _ (kinds_listed c.args.self.now) (kinds_listed (roll-Kinds (record { items = c.push.new.self }))) c.in_err-push.ensures.items)
