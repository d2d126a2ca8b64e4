use Rattle.std.proofs.Common.{◌≡◌}
use Rattle.kind_rules.specs.Kinding.{kinding}
use Rattle.kind_rules.proofs.Causes.{and_cause, kinding_errs}
use Rattle.kind_rules.proofs.Told.{told_of_kinded}
use Rattle.kind_rules.proofs.laws.kind_is_found.Goals as goal

pub returns : goal.returns
returns c = λ G x k h. and_cause G x (λ l. l ≡ k) (kinding G x) (told_of_kinded G x k h) (kinding_errs G x)
