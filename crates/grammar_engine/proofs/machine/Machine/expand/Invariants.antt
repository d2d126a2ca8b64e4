use Rattle.std.proofs.Common.{◌≡◌, ◌++◌, ◌≤◌, drop, length}
use Rattle.grammar_engine.specs.Moves.{wants_of}
use Rattle.grammar_engine.proofs.machine.Machine.expand.Given as goal

abbrev pub invariant-loop-left : goal.invariant-loop-left
invariant-loop-left l = record {
  pushed : l.self.wants ≡ wants_of l.room l.tag (drop l.left l.parts) ++ l.fn.self.wants;
  tree : l.self.tree ≡ l.fn.self.tree;
  at : l.self.at ≡ l.fn.self.at;
  far : l.self.far ≡ l.fn.self.far;
  within : l.left ≤ length l.parts;
}

abbrev pub decreases-loop-left : goal.decreases-loop-left
decreases-loop-left l = l.left
