use Rattle.std.proofs.Common.{sym, ◌∙◌}
use Rattle.unbound_names.proofs.Scopes.{first_bound, first_declared, first_undeclared}
use Rattle.unbound_names.proofs.in_scope.value_in_scope.Goals as goal

pub returns-then-is_bound_value : goal.returns-then-is_bound_value
returns-then-is_bound_value c = first_bound _ _ _ (sym c.is_bound_value.ensures ∙ c.if-is_bound_value.true)

pub returns-then-has_value : goal.returns-then-has_value
returns-then-has_value c = first_declared _ _ _ (sym c.has_value.ensures ∙ c.if-has_value.true)

pub returns : goal.returns
returns c = first_undeclared _ _ _ _ (sym c.is_bound_value.ensures ∙ c.if-is_bound_value.false)
    (sym c.has_value.ensures ∙ c.if-has_value.false) c.is_undeclared_value.ensures
