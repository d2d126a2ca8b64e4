-- What each rule of kinds and of constructors stands for.
use Rattle.con_terms.specs.Trees.{types, units, names}
use Rattle.surface_grammar.specs.declared.kinds.KindRule.{KindRule}
use Rattle.surface_grammar.specs.declared.kinds.KindRule.TheVariants as kind
use Rattle.surface_grammar.specs.declared.constructors.ConRule.{ConRule}
use Rattle.surface_grammar.specs.declared.constructors.ConRule.TheVariants as con
use Rattle.desugar_values.specs.Meanings.{MeaningTree, group, a_kind, MeaningsTree}
use Rattle.desugar_values.specs.Parts.{part}
use Rattle.desugar_types.specs.Brackets.{bracket_value}
use Rattle.desugar_types.specs.Constructors.{apply_value, fields_value, hash_value, lambda_value, lower_value, other_value, parens_value, path_value, primary_value, product_value, record_value, row_value, sum_value, wild_value}
use Rattle.desugar_types.specs.Kinds.{row_kind_value, term_value, tuple_value}

-- what a rule of kinds stands for, by what its parts stand for
abbrev pub kind_value : KindRule → MeaningsTree → MeaningTree
kind_value kind.KindTerm ps = term_value ps
kind_value kind.KindType ps = a_kind types
kind_value kind.KindUnit ps = a_kind units
kind_value kind.KindName ps = a_kind names
kind_value kind.KindRow ps = row_kind_value ps
kind_value kind.KindTuple ps = tuple_value ps
kind_value kind.KindArrow ps = part 1 ps
kind_value kind.KindTimes ps = part 1 ps
kind_value kind.KindMark ps = part 1 ps

-- a rule of constructors that stands for its first part or its second one, or is a group
abbrev pub con_part : ConRule → MeaningsTree → MeaningTree
con_part con.ConPlain ps = part 0 ps
con_part con.ConDollar ps = part 0 ps
con_part con.HashUpper ps = part 0 ps
con_part con.HashInt ps = part 0 ps
con_part con.FieldUpper ps = part 0 ps
con_part con.FieldInt ps = part 0 ps
con_part con.FieldLower ps = part 0 ps
con_part con.UpperDot ps = part 0 ps
con_part con.BracketOpen ps = part 0 ps
con_part con.ConArrow ps = part 1 ps
con_part con.ConTimes ps = part 1 ps
con_part con.ConConcat ps = part 1 ps
con_part con.ConIndex ps = part 1 ps
con_part con.ConMarked ps = part 1 ps
con_part con.ConComma ps = part 1 ps
con_part con.ConFieldValue ps = part 1 ps
con_part _ ps = group ps

-- what a rule of constructors stands for, by what its parts stand for
abbrev pub con_value : ConRule → MeaningsTree → MeaningTree
con_value con.ConLambda ps = lambda_value ps
con_value con.ConLower ps = lower_value ps
con_value con.ConBracket ps = bracket_value ps
con_value con.ConOther ps = other_value ps
con_value con.ConProduct ps = product_value ps
con_value con.ConSum ps = sum_value ps
con_value con.ConApply ps = apply_value ps
con_value con.ConRecord ps = record_value ps
con_value con.ConPrimary ps = primary_value ps
con_value con.ConPath ps = path_value ps
con_value con.ConWild ps = wild_value ps
con_value con.ConHash ps = hash_value ps
con_value con.ConParens ps = parens_value ps
con_value con.ConFields ps = fields_value ps
con_value con.ConRow ps = row_value ps
con_value rule ps = con_part rule ps
