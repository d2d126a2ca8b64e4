use Rattle.std.proofs.Common.{◌≡◌, drop}
use Rattle.con_terms.specs.View.{kind_tree}
use Rattle.shown_types.specs.Names.{first_letters, free_from, new_name}
use Rattle.shown_types.proofs.called.new_name.Given as goal

abbrev pub invariant-loop-number : goal.invariant-loop-number
invariant-loop-number l =
    new_name l.called (kind_tree l.kind) ≡ free_from l.called (drop l.number l.called) (first_letters (kind_tree l.kind)) l.number
