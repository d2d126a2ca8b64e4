use Rattle.std.proofs.Common.{ap, ◌∙◌}
use Rattle.surface_grammar.specs.declared.form.Form.TheVariants as f
use Rattle.desugar_terms.specs.Decls.{decls_of}
use Rattle.desugar.specs.Stacks.{repeated}
use Rattle.desugar.proofs.Listed.{listed_trees}
use Rattle.desugar.proofs.modules.plain.Goals as goal

pub returns : goal.returns
returns c = λ room n lists whole.
    c.in_ok-decls.ensures
    ∙ ap decls_of (c.in_ok-trees.ensures.trees ∙ ap (λ es. (repeated es).0) c.in_ok-stack.ensures ∙ listed_trees c.args.t.now room f.Decl n lists whole)
