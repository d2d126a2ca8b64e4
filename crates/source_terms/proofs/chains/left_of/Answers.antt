use Rattle.std.proofs.Common.{◌≡◌, ◌&&◌, ap, sym, ◌∙◌}
use Rattle.core_terms.specs.View.{form_tree}
use Rattle.plain_tree.specs.ExpView as plain
use Rattle.source_names.specs.View.{scope_view}
use Rattle.source_terms.specs.Left.{left}
use Rattle.source_terms.specs.Tasks.{all_read}
use Rattle.source_terms.specs.Terms.{reads_link}
use Rattle.source_terms.proofs.Written.{infix_is}
use Rattle.source_terms.proofs.chains.left_of.Goals as goal

pub returns-in_ok-left_of_infix-in-Infix : goal.returns-in_ok-left_of_infix-in-Infix
returns-in_ok-left_of_infix-in-Infix c = λ test.
    c.in_ok-left_of_infix-in-Infix.ensures test
    ∙ sym (ap (λ l. reads_link (scope_view c.args.s.now) l test (left (form_tree c.args.f.now))
    && all_read c.args.tasks.now.items)
    (ap plain.link_tree c.in-Infix.is ∙ infix_is c.in-Infix.field-0 c.in-Infix.op c.in-Infix.e))
