use Rattle.std.proofs.Common.{◌≡◌}
use Rattle.con_terms.specs.View.{pairs_tree}
use Rattle.con_terms.specs.Trees.{Prs}
use Rattle.inserted_terms.specs.Folders.{beside}
use Rattle.inserted_terms.specs.View.{fields_left}
use Rattle.inserted_terms.proofs.folders.past_fields.Given as goal

abbrev pub invariant-loop-i : goal.invariant-loop-i
invariant-loop-i l =
    (rest : Prs) → fields_left l.fields l.next ≡ beside (fields_left l.ps l.i) rest
    → fields_left l.fields l.place ≡ beside (pairs_tree l.ps) rest
