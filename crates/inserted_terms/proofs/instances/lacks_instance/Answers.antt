use Rattle.std.proofs.Common.{sym, ◌∙◌}
use Rattle.con_terms.specs.View.{con_tree}
use Rattle.inserted_terms.specs.View.{at_view}
use Rattle.inserted_terms.proofs.Inserting.{lacks_instance_at}
use Rattle.inserted_terms.proofs.Tables.{ok_then}
use Rattle.inserted_terms.proofs.instances.lacks_instance.Goals as goal

pub returns : goal.returns
returns c =
    ok_then c.none_has.result _ _ (λ none p. lacks_instance_at (at_view c.args.h.now) (con_tree c.args.t.now) c.args.gap
    c.requires (sym c.in_ok-is_class_type.ensures ∙ c.if-not-branch.false) none p)
    c.none_has.ensures
