use Rattle.std.proofs.Common.{◌≡◌, Bool, IfOk, map, subst, arith}
use Rattle.core_terms.specs.View.{foreign_view}
use Rattle.source_names.specs.View.{declared_view}
use Rattle.unbound_names.proofs.Modules.{in_module}
use Rattle.unbound_names.proofs.programs.is_unbound.Goals as goal

pub returns : goal.returns
returns c =
    let P : Bool → Type 0 = λ z. IfOk c.unbound_decls.result (λ b. b ≡ z) in
    let same =
    in_module c.args.modules.now c.args.trees.now (map foreign_view c.args.effects.now.items.items) c.args.file
    c.args.at c.args.name.now c.index-trees-place.result (declared_view c.in_ok-known.known) (omega arith)
    c.in_ok-known.ensures in
    subst P same c.unbound_decls.ensures
