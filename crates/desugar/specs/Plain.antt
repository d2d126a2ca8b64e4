-- What each tree of the grammar stands for: what its rule makes of what its parts stand for.
use Rattle.std.specs.Prelude.{List}
use Rattle.surface_grammar.specs.declared.rule.Rule.{Rule}
use Rattle.surface_grammar.specs.declared.rule.Rule.TheVariants as r
use Rattle.surface_grammar.specs.Trees.{Node, leaf, branch, several, absent, present, Nodes, none, more}
use Rattle.plain_tree.specs.Trees.{DeclTree, SignedTree}
use Rattle.desugar_values.specs.Meanings.{MeaningTree, a_word, group, MeaningsTree, no_meaning, meaning}
use Rattle.desugar_values.specs.Meanings as m
use Rattle.desugar_values.specs.Parts.{several_of}
use Rattle.desugar_types.specs.ConRules.{kind_value, con_value}
use Rattle.desugar_types.specs.PatRules.{pat_value}
use Rattle.desugar_terms.specs.TermRules.{exp_value}
use Rattle.desugar_terms.specs.MarkupRules.{markup_value}
use Rattle.desugar_terms.specs.DeclRules.{decl_value}
use Rattle.desugar_terms.specs.Decls.{decls_of}
use Rattle.desugar_terms.specs.Signed.{signeds_of}
use Rattle.desugar.specs.Leaves.{spelled}

-- What a rule stands for, by what its parts stand for. Parameters are taken apart by the rule above them. Queries and
-- changes of tables stand for nothing yet.
abbrev pub built : Rule → MeaningsTree → MeaningTree
built (r.Kind q) ms = kind_value q ms
built (r.Con q) ms = con_value q ms
built (r.Pat q) ms = pat_value q ms
built (r.Arg q) ms = group ms
built (r.Exp q) ms = exp_value q ms
built (r.Markup q) ms = markup_value q ms
built (r.Decl q) ms = decl_value q ms
built (r.Sql q) ms = group ms

-- what a tree stands for
abbrev mutual
  pub value : Node → MeaningTree
  value (leaf t) = a_word (spelled t)
  value (branch q ns) = built q (values ns)
  value (several ns) = m.several (values ns)
  value absent = m.absent
  value (present n) = value n

  pub values : Nodes → MeaningsTree
  values none = no_meaning
  values (more n ns) = meaning (value n) (values ns)

-- the declarations of a module
abbrev pub plain_of : Node → List DeclTree
plain_of n = decls_of (several_of (value n))

-- the values of an interface
abbrev pub interface_of : Node → List SignedTree
interface_of n = signeds_of (several_of (value n))
