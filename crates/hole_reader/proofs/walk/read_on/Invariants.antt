use Rattle.std.proofs.Common.{List, drop}
use Rattle.surface_grammar.specs.Listings.{Listing}
use Rattle.grammar_engine.specs.declared.want.Want.{Want}
use Rattle.grammar_engine.proofs.Keeping.Smaller.{left_over}
use Rattle.hole_reader.specs.Progress.{Comes}
use Rattle.hole_reader.proofs.walk.read_on.Given as goal

abbrev pub invariant-loop-want : goal.invariant-loop-want
invariant-loop-want l = record {
  comes : (first : Want) (handed : List Listing) → Comes l.tokens.items first handed l.fn.machine.at l.fn.machine.far l.fn.machine.tree l.fn.machine.wants → Comes l.tokens.items first handed l.machine.at l.machine.far l.machine.tree l.machine.wants;
}

abbrev pub decreases-loop-want : goal.decreases-loop-want
decreases-loop-want l = left_over (drop l.machine.at l.tokens.items) l.machine.wants
