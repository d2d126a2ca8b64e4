use Rattle.std.proofs.Common.{ap, sym, ◌∙◌}
use Rattle.core_terms.specs.Strip.{strip}
use Rattle.core_terms.specs.View.{exp_tree, form_tree}
use Rattle.source_terms.specs.Leaves.{form_of}
use Rattle.source_terms.proofs.Leaving.{head_alone, call_stays}
use Rattle.source_terms.proofs.Nodes.{exp_is, call_is}
use Rattle.source_terms.proofs.standing.standing.Goals as goal

pub loop-x-preserved : goal.loop-x-preserved
loop-x-preserved c =
    let e = ap form_tree c.in-Call.is ∙ call_is c.in-Call.head c.in-Call.sigil c.in-Call.items in
    ap (λ y. form_of (strip (exp_tree y))) c.deref-x.ensures
    ∙ sym (head_alone _ _ _ _ _ _ _ (exp_is c.loop-x.x.now) e (sym c.is_alone.ensures ∙ c.if-not-is_alone.false))
    ∙ c.loop-x.invariant

pub returns-then-not-is_alone : goal.returns-then-not-is_alone
returns-then-not-is_alone c =
    let e = ap form_tree c.in-Call.is ∙ call_is c.in-Call.head c.in-Call.sigil c.in-Call.items in
    call_stays _ _ _ _ _ _ _ (exp_is c.loop-x.x.now) e (sym c.is_alone.ensures ∙ c.if-not-is_alone.true)
    ∙ c.loop-x.invariant
