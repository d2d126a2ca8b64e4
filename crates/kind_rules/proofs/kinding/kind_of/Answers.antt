use Rattle.std.proofs.Common.{ap, sym, ◌∙◌}
use Rattle.con_terms.specs.View.{con_tree, kind_tree}
use Rattle.kind_rules.specs.View.{found, scope_view}
use Rattle.kind_rules.proofs.Sound.{judged_sound}
use Rattle.kind_rules.proofs.Differ.{fair_of, keeps_two_kinds}
use Rattle.kind_rules.proofs.Told.{refusal_of_kinded}
use Rattle.kind_rules.proofs.Causes.{cause_of}
use Rattle.kind_rules.proofs.kinding.kind_of.Goals as goal

pub returns-in-Ok-clause-kinded : goal.returns-in-Ok-clause-kinded
returns-in-Ok-clause-kinded c =
    judged_sound (scope_view c.args.s.now) (con_tree c.args.c.now) _ (sym c.in_ok-kind.ensures ∙ ap (found kind_tree) c.in-Ok.is)

pub returns-in-Err-clause-two_kinds : goal.returns-in-Err-clause-two_kinds
returns-in-Err-clause-two_kinds c =
    keeps_two_kinds c.args.at c.fault_at.result _
    (fair_of (scope_view c.args.s.now) (con_tree c.args.c.now) _ (sym (ap (found kind_tree) c.in-Err.is) ∙ c.in_ok-kind.ensures)) c.fault_at.ensures

pub returns-in-Ok-clause-unbound_or_mismatch_only_where_unkinded : goal.returns-in-Ok-clause-unbound_or_mismatch_only_where_unkinded
returns-in-Ok-clause-unbound_or_mismatch_only_where_unkinded c = λ k h. tt

pub returns-in-Err-clause-unbound_or_mismatch_only_where_unkinded : goal.returns-in-Err-clause-unbound_or_mismatch_only_where_unkinded
returns-in-Err-clause-unbound_or_mismatch_only_where_unkinded c =
    λ k h. refusal_of_kinded (scope_view c.args.s.now) (con_tree c.args.c.now) k c.args.at c.fault_at.result _ (sym (ap (found kind_tree) c.in-Err.is) ∙ c.in_ok-kind.ensures) c.fault_at.ensures h

pub returns-in-Err-clause-pieces_or_size_only_with_a_cause : goal.returns-in-Err-clause-pieces_or_size_only_with_a_cause
returns-in-Err-clause-pieces_or_size_only_with_a_cause c =
    cause_of (scope_view c.args.s.now) (con_tree c.args.c.now) c.args.at c.fault_at.result _ (sym (ap (found kind_tree) c.in-Err.is) ∙ c.in_ok-kind.ensures) c.fault_at.ensures
