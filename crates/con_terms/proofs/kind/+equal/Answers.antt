use Rattle.std.proofs.Common.{◌≡◌, length, sym, arith}
use Rattle.con_terms.specs.declared.kind.Kind.TheViews.{out-Kinds}
use Rattle.con_terms.proofs.SameKinds.{kinds_differ}
use Rattle.con_terms.proofs.kind.+equal.Goals as goal

pub equal_each-returns-then-len : goal.equal_each-returns-then-len
equal_each-returns-then-len t c = sym (kinds_differ c.args.ks.now c.args.ls.now (λ e. omega (arith, (out-Kinds c.args.ks.now).items.ok.0, (out-Kinds c.args.ls.now).items.ok.0)))
