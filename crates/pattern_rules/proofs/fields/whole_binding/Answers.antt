use Rattle.std.proofs.Common.{ap, ◌∙◌}
use Rattle.judgements.specs.View.{cons_view, locals_view, sc_view}
use Rattle.pattern_rules.specs.View.{fields_tree}
use Rattle.pattern_rules.proofs.Rests.{left_told}
use Rattle.pattern_rules.proofs.fields.whole_binding.Goals as goal

pub returns-in_ok-other_form-in-Bound : goal.returns-in_ok-other_form-in-Bound
returns-in_ok-other_form-in-Bound c =
    left_told (sc_view c.args.g.now c.args.s.now) c.args.p c.args.more (cons_view c.in-Bound.rest) (locals_view c.in-Bound.locals.value) _ _ _ (fields_tree c.args.fields)
    (ap fields_tree c.in-Bound.is) c.if-more.false (λ e. c.if-len-eq0.false (c.len.ensures ∙ e)) c.in_ok-wanted-in-Bound.ensures c.in_ok-found-in-Bound.ensures c.in_ok-other_form-in-Bound.ensures
