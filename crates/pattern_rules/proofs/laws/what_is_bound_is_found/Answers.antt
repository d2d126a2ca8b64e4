use Rattle.std.proofs.Common.{subst}
use Rattle.pattern_rules.proofs.Bound.{BindsAs, Binds, pattern_binds}
use Rattle.pattern_rules.proofs.laws.what_is_bound_is_found.Goals as goal

pub returns : goal.returns
returns c = λ G L q t M h. let w : Binds G L q t M = subst (BindsAs G L q t) h (pattern_binds G L q t) in (w.bound, w.found, w.is)
