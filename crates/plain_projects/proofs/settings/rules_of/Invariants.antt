use Rattle.std.proofs.Common.{◌≡◌, ◌++◌, drop, map}
use Rattle.core_terms.specs.Lists.{rules_view}
use Rattle.project_files.specs.View.{said_by}
use Rattle.project_files.specs.declared.projects.AddressRule.{AddressRule}
use Rattle.plain_projects.specs.Said.{rules_said}
use Rattle.plain_projects.proofs.settings.rules_of.Given as goal

abbrev pub invariant-loop-rule : goal.invariant-loop-rule
invariant-loop-rule l =
    rules_view l.rules ++ rules_said (map (λ (r : AddressRule). (r.allow, r.pattern)) (drop l.rule-index l.project.rules.items)) ≡ rules_said (said_by l.project).rules
