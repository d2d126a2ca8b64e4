-- What each rule of patterns stands for, given what its parts stand for.
use Rattle.surface_grammar.specs.declared.patterns.PatRule.{PatRule}
use Rattle.surface_grammar.specs.declared.patterns.PatRule.TheVariants as rule
use Rattle.desugar_values.specs.Meanings.{MeaningTree, several, group, MeaningsTree}
use Rattle.desugar_values.specs.Parts.{part}
use Rattle.desugar_types.specs.PatRecords.{field_named, pattern_record}
use Rattle.desugar_types.specs.Patterns.{pattern, pattern_constructor, pattern_int, pattern_list, pattern_name, pattern_negative, pattern_parens, pattern_string, pattern_variable, pattern_wild}

abbrev pub pat_value : PatRule → MeaningsTree → MeaningTree
pat_value rule.Pat ps = pattern ps
pat_value rule.PatCons ps = part 1 ps
pat_value rule.PatConstructor ps = pattern_constructor ps
pat_value rule.PatPlain ps = part 0 ps
pat_value rule.PatWild ps = pattern_wild ps
pat_value rule.PatVariable ps = pattern_variable ps
pat_value rule.PatInt ps = pattern_int ps
pat_value rule.PatNegative ps = pattern_negative ps
pat_value rule.PatString ps = pattern_string ps
pat_value rule.PatName ps = pattern_name ps
pat_value rule.PatList ps = pattern_list ps
pat_value rule.PatParens ps = pattern_parens ps
pat_value rule.PatRecord ps = pattern_record ps
pat_value rule.UpperPath ps = group ps
pat_value rule.DotUpper ps = part 1 ps
pat_value rule.PatUnit ps = group ps
pat_value rule.PatGroup ps = group ps
pat_value rule.PatClose ps = group ps
pat_value rule.PatTyped ps = group ps
pat_value rule.PatTuple ps = group ps
pat_value rule.PatComma ps = part 1 ps
pat_value rule.PatRecordEmpty ps = group ps
pat_value rule.PatRecordDots ps = group ps
pat_value rule.PatRecordFields ps = group ps
pat_value rule.PatFieldMore ps = part 1 ps
pat_value rule.PatFieldDots ps = several ps
pat_value rule.PatFieldNamed ps = field_named ps
