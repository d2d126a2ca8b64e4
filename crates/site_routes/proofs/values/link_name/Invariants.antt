use Rattle.std.proofs.Common.{◌≡◌, ◌++◌, ◌∷◌, [], get_or, map, drop}
use Rattle.core_terms.specs.View.{program_view, symbols_view}
use Rattle.site_routes.specs.Linked.{name_in}
use Rattle.site_routes.proofs.values.link_name.Given as goal

abbrev pub invariant-loop-i : goal.invariant-loop-i
invariant-loop-i l =
    l.texts ++ map (λ y. get_or l.p.names y []) (map (λ s. s.number) (drop l.i l.path.items.items) ++ l.name.number ∷ [])
    ≡ name_in (program_view l.p) l.fn.place.file (symbols_view l.path) l.name.number
