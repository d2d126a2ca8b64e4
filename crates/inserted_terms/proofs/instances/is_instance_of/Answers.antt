use Rattle.std.proofs.Common.{sym, ap, ◌∙◌}
use Rattle.con_terms.specs.View.{con_tree}
use Rattle.core_terms.specs.View.{form_tree, maybe_con}
use Rattle.inserted_terms.specs.View.{at_view, leaf_form, maybe_leaf}
use Rattle.inserted_terms.proofs.Inserting.{inserts_instance}
use Rattle.inserted_terms.proofs.instances.is_instance_of.Goals as goal

pub returns : goal.returns
returns c = λ yes p.
    inserts_instance (at_view c.args.h.now) (con_tree c.args.t.now) (con_tree c.in-Some.n) (form_tree c.args.f.now)
    (leaf_form c.in-Some-2.l)
    (sym c.in_ok-is_class_type.ensures ∙ c.if-not-branch.false)
    (sym c.in_ok-normal_of.ensures.exact ∙ ap maybe_con c.in-Some.is)
    (sym (ap maybe_leaf c.in-Some-2.is) ∙ c.in_ok-first_instance.ensures)
    (c.is_leaf.ensures yes) p
