use Rattle.std.proofs.Common.{◌≡◌, ◌≤◌, Bool, length, take}
use Rattle.con_terms.specs.Trees.{Cn}
use Rattle.con_terms.specs.View.{con_tree}
use Rattle.source_names.specs.Reading.{is_projs}
use Rattle.source_names.proofs.parts.before_numbers.Given as goal

abbrev pub invariant-loop-left : goal.invariant-loop-left
invariant-loop-left l = record {
  within : l.left ≤ length l.numbers;
  same : (first : Cn → Bool) → is_projs l.numbers first (con_tree l.con) ≡ is_projs (take l.left l.numbers) first
      (con_tree l.at);
}

abbrev pub decreases-loop-left : goal.decreases-loop-left
decreases-loop-left l = l.left
