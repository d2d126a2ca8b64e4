use Rattle.std.proofs.Common.{sym, ◌∙◌}
use Rattle.unbound_names.proofs.Scopes.{type_bound, type_declared, type_undeclared}
use Rattle.unbound_names.proofs.in_scope.type_in_scope.Goals as goal

pub returns-then-is_bound_type : goal.returns-then-is_bound_type
returns-then-is_bound_type c = type_bound _ _ _ (sym c.is_bound_type.ensures ∙ c.if-is_bound_type.true)

pub returns-then-has_type : goal.returns-then-has_type
returns-then-has_type c = type_declared _ _ _ (sym c.has_type.ensures ∙ c.if-has_type.true)

pub returns : goal.returns
returns c = type_undeclared _ _ _ _ (sym c.is_bound_type.ensures ∙ c.if-is_bound_type.false)
    (sym c.has_type.ensures ∙ c.if-has_type.false) c.is_undeclared_type.ensures
