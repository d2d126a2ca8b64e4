use Rattle.std.proofs.Common.{◌≡◌}
use Rattle.con_terms.specs.View.{con_tree}
use Rattle.judgements.specs.View.{locals_view}
use Rattle.source_names.specs.View.{names_view}
use Rattle.inserted_terms.specs.Searches.{first_bound}
use Rattle.inserted_terms.specs.Values.{raised}
use Rattle.inserted_terms.proofs.instances.first_bound.Given as goal

abbrev pub invariant-loop-locals : goal.invariant-loop-locals
invariant-loop-locals l =
    first_bound (names_view l.h.names.values.value) (con_tree l.n) 0 (names_view l.h.names.values.value)
    (locals_view l.h.locals.value)
    ≡ first_bound (names_view l.h.names.values.value) (con_tree l.n) l.i (names_view l.names)
    (raised l.by (locals_view l.locals))
