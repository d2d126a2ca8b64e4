use Rattle.std.proofs.Common.{◌≡◌}
use Rattle.source_terms.specs.Tasks.{all_read}
use Rattle.source_terms.proofs.terms.are_done.Given as goal

abbrev pub invariant-loop : goal.invariant-loop
invariant-loop l = all_read l.fn.tasks.items ≡ all_read l.waiting.items
