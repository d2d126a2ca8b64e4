use Rattle.std.proofs.Common.{◌≡◌, map, drop}
use Rattle.core_terms.specs.View.{foreign_view}
use Rattle.plain_tree.specs.View as view
use Rattle.source_names.specs.View.{declared_view}
use Rattle.unbound_names.specs.Declarations.{unbound_decls}
use Rattle.unbound_names.specs.InScope.{tables_with}
use Rattle.unbound_names.specs.View.{ask_view}
use Rattle.unbound_names.proofs.declarations.unbound_decls.Given as goal

abbrev pub invariant-loop-i : goal.invariant-loop-i
invariant-loop-i l =
    unbound_decls (ask_view l.q) (tables_with (map foreign_view l.effects.items.items)) (declared_view l.initial.known)
    (view.decls_tree l.xs)
    ≡ unbound_decls (ask_view l.q) (tables_with (map foreign_view l.effects.items.items)) (declared_view l.known)
    (map view.decl_tree (drop l.i l.xs.items.items))
