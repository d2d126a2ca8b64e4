use Rattle.std.proofs.Common.{ap, ◌∙◌}
use Rattle.surface_grammar.specs.declared.form.Form.TheVariants as f
use Rattle.desugar_terms.specs.Signed.{signeds_of}
use Rattle.desugar.specs.Stacks.{repeated}
use Rattle.desugar.proofs.Listed.{listed_trees}
use Rattle.desugar.proofs.modules.plain_interface.Goals as goal

pub returns : goal.returns
returns c = λ room n lists whole.
    c.in_ok-signeds_of.ensures
    ∙ ap signeds_of (c.in_ok-trees.ensures.trees ∙ ap (λ es. (repeated es).0) c.in_ok-stack.ensures ∙ listed_trees c.args.t.now room f.InterfaceItem n lists whole)
