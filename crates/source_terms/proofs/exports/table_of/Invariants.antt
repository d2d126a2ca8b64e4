use Rattle.std.proofs.Common.{◌≡◌, ◌||◌, ℕ, List, drop}
use Rattle.source_terms.specs.Programs.{is_one_of}
use Rattle.source_terms.specs.Selected.{stands}
use Rattle.source_terms.proofs.exports.table_of.Given as goal

abbrev pub invariant-loop-i : goal.invariant-loop-i
invariant-loop-i l = (x : List ℕ) → (stands l.table x || is_one_of x (drop l.i l.texts)) ≡ is_one_of x l.texts
