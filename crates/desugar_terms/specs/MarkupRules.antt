-- What the rules of markup stand for.
use Rattle.surface_grammar.specs.declared.markup.MarkupRule.{MarkupRule}
use Rattle.surface_grammar.specs.declared.markup.MarkupRule.TheVariants as rule
use Rattle.desugar_values.specs.Meanings.{MeaningTree, group, MeaningsTree}
use Rattle.desugar_values.specs.Parts.{part}
use Rattle.desugar_terms.specs.Atoms.{int_term, string_term}
use Rattle.desugar_terms.specs.Markup.{node_text, node_brace, whole_element}

-- what a rule stands for, given what its parts stand for
abbrev pub markup_value : MarkupRule → MeaningsTree → MeaningTree
markup_value rule.NodeText ps = node_text ps
markup_value rule.NodeBrace ps = node_brace ps
markup_value rule.NodeElement ps = whole_element ps
markup_value rule.NodeSplice ps = group ps
markup_value rule.NodeExp ps = group ps
markup_value rule.Splice ps = group ps
markup_value rule.TagName ps = part 1 ps
markup_value rule.ElementEmpty ps = group ps
markup_value rule.ElementFull ps = group ps
markup_value rule.Attribute ps = group ps
markup_value rule.AttributeString ps = string_term ps
markup_value rule.AttributeInt ps = int_term ps
markup_value rule.AttributeExp ps = part 1 ps
