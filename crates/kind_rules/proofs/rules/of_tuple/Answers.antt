use Rattle.std.proofs.Common.{Ok, ap, sym, ◌∙◌}
use Rattle.kind_rules.specs.Rules.{tuple_kind}
use Rattle.kind_rules.specs.View.{found, kind_trees}
use Rattle.kind_rules.proofs.Tuples.{tuple_is}
use Rattle.kind_rules.proofs.rules.of_tuple.Goals as goal

pub returns : goal.returns
returns c = ap Ok (tuple_is c.in_ok-kinds.field-0) ∙ sym (ap (λ r. tuple_kind (found kind_trees r)) c.in_ok-kinds.was)
