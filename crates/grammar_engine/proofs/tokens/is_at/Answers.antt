use denote.Enum.Bare.{same_true}
use Rattle.std.proofs.Common.{ap, Some, ◌∙◌, sym, rules}
use Rattle.surface_tree.specs.contracts.kind.Kind.{the_type}
use Rattle.grammar_engine.proofs.tokens.is_at.Goals as goal

pub returns-in-Some-clause-yes : goal.returns-in-Some-clause-yes
returns-in-Some-clause-yes c = λ yes. sym c.kind_at.ensures ∙ c.in-Some.is ∙ ap Some (same_true the_type (search rules) _ _ (sym c.eq.ensures ∙ search (rules, yes)))
