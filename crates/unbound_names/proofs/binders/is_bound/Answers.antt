use Rattle.std.proofs.Common.{◌∙◌}
use Rattle.source_names.specs.View.{names_view}
use Rattle.unbound_names.proofs.Scopes.{bound_is}
use Rattle.unbound_names.proofs.binders.is_bound.Goals as goal

pub returns : goal.returns
returns c = c.is_binder_of.ensures ∙ bound_is c.args.name.now (names_view c.args.names.now)
