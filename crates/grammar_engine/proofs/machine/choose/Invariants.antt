use Rattle.std.proofs.Common.{◌≡◌, drop}
use Rattle.grammar_engine.specs.Laws.{starts_none}
use Rattle.grammar_engine.proofs.machine.choose.Given as goal

abbrev pub invariant-loop-rule : goal.invariant-loop-rule
invariant-loop-rule l = starts_none (drop l.rule-index l.rule-items) l.kind ≡ starts_none l.rule-items l.kind
