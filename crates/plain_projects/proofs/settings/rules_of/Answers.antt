use Rattle.std.proofs.Common.{◌++◌, [], ◌∷◌, ap, ◌∙◌}
use Rattle.core_terms.specs.Lists.{rules_view}
use Rattle.plain_projects.proofs.Sources.{rules_more}
use Rattle.plain_projects.proofs.settings.rules_of.Goals as goal

pub loop-rule-preserved : goal.loop-rule-preserved
loop-rule-preserved c =
    let old = rules_view c.loop-rule.rules in
    rules_more c.args.project.now.rules.items c.as_slice-rule-items.result.now c.loop-rule.rule-index c.rule-item.result old (rules_view c.push.new.self) _
    c.as_slice-rule-items.ensures.value c.loop-rule-test.true c.rule-item.is c.loop-rule.invariant
    (c.in_ok-push.ensures.grown ∙ ap (λ t. old ++ record { allow = c.rule-item.result.allow; pattern = t } ∷ []) c.in_ok-pattern.ensures)
