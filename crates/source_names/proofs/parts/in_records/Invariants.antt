use Rattle.std.proofs.Common.{◌≡◌, Bool, drop}
use Rattle.con_terms.specs.Trees.{Cn}
use Rattle.con_terms.specs.View.{con_tree}
use Rattle.source_names.specs.Reading.{is_records}
use Rattle.source_names.proofs.parts.in_records.Given as goal

abbrev pub invariant-loop-i : goal.invariant-loop-i
invariant-loop-i l = (first : Cn → Bool) → is_records l.more first (con_tree l.con) ≡ is_records (drop l.i l.more)
    first (con_tree l.at)
