use Rattle.std.proofs.Common.{◌∙◌, sym, arith}
use Rattle.surface_grammar.specs.declared.kinds.KindRule.TheVariants as kind
use Rattle.surface_grammar.specs.declared.rule.Rule.TheVariants as r
use Rattle.grammar_engine.proofs.Table.Chosen.{chosen_at}
use Rattle.grammar_engine.proofs.Table.NoneBegins.{none_begins}
use Rattle.grammar_engine.proofs.machine.choose.Goals as goal

pub returns-then-starts-clause-chosen : goal.returns-then-starts-clause-chosen
returns-then-starts-clause-chosen c = chosen_at c.rules-rule-items.result.now c.loop-rule.rule-index (r.Kind kind.KindTerm) c.args.form c.in_ok-kind.kind c.args.next c.rules-rule-items.ensures c.loop-rule-test.true (sym c.starts.ensures ∙ c.if-starts.true) c.in_ok-kind.was

pub returns-clause-none : goal.returns-clause-none
returns-clause-none c = none_begins c.args.form c.in_ok-kind.kind c.args.next c.rules-rule-items.result.now c.loop-rule.rule-index c.in_ok-kind.was c.rules-rule-items.ensures c.loop-rule.invariant (search (arith, c.loop-rule-test.false, c.loop-rule.auto))
