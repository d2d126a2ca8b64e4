-- What the rules of operands and atoms stand for.
use Rattle.surface_grammar.specs.declared.expressions.ExpRule.{ExpRule}
use Rattle.surface_grammar.specs.declared.expressions.ExpRule.TheVariants as rule
use Rattle.desugar_values.specs.Meanings.{MeaningTree, group, MeaningsTree}
use Rattle.desugar_terms.specs.Atoms.{int_term, string_term, let_term, xml_empty, xml_term}
use Rattle.desugar_terms.specs.Groups.{parens}
use Rattle.desugar_terms.specs.Operands.{operand, atom_list}
use Rattle.desugar_terms.specs.Records.{record_term}

-- what a rule stands for, given what its parts stand for
abbrev pub atom_value : ExpRule → MeaningsTree → MeaningTree
atom_value rule.AtomList ps = atom_list ps
atom_value rule.Operand ps = operand ps
atom_value rule.PrimaryInt ps = int_term ps
atom_value rule.PrimaryString ps = string_term ps
atom_value rule.PrimaryParens ps = parens ps
atom_value rule.PrimaryRecord ps = record_term ps
atom_value rule.PrimaryLet ps = let_term ps
atom_value rule.PrimaryXmlEmpty ps = xml_empty ps
atom_value rule.PrimaryXml ps = xml_term ps
atom_value _ ps = group ps
