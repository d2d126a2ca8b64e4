use Rattle.std.proofs.Common.{◌≡◌, ◌≤◌, length, take, reverse}
use Rattle.grammar_engine.specs.Solid.{first_solid}
use Rattle.grammar_engine.proofs.want.last_solid.Given as goal

abbrev pub invariant-loop-left : goal.invariant-loop-left
invariant-loop-left l = record {
  same : first_solid (reverse (take l.left l.wants)) ≡ first_solid (reverse l.wants);
  within : l.left ≤ length l.wants;
}

abbrev pub decreases-loop-left : goal.decreases-loop-left
decreases-loop-left l = l.left
