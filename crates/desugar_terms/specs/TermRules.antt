-- What each rule of terms stands for, given what its parts stand for.
use Rattle.surface_grammar.specs.declared.expressions.ExpRule.{ExpRule}
use Rattle.surface_grammar.specs.declared.expressions.ExpRule.TheVariants as e
use Rattle.desugar_values.specs.Meanings.{MeaningTree, MeaningsTree}
use Rattle.desugar_values.specs.Parts.{part}
use Rattle.desugar_terms.specs.Actions.{exp_bind, exp_plain, term_lambda}
use Rattle.desugar_terms.specs.AtomRules.{atom_value}
use Rattle.desugar_terms.specs.Branches.{term_case, term_if}
use Rattle.desugar_terms.specs.Calls.{apply}
use Rattle.desugar_terms.specs.Chains.{chain}
use Rattle.desugar_terms.specs.Operators.{compare, cons, sign_minus}

-- a rule that stands for one of its parts, or one of operands and atoms
abbrev pub part_value : ExpRule → MeaningsTree → MeaningTree
part_value e.TermOr ps = part 0 ps
part_value e.BodyOr ps = part 0 ps
part_value e.CaseBar ps = part 0 ps
part_value e.SignNone ps = part 0 ps
part_value e.AtomTerm ps = part 0 ps
part_value e.AnyLower ps = part 0 ps
part_value e.AnyUpper ps = part 0 ps
part_value e.ArgumentTerm ps = part 0 ps
part_value e.Dot ps = part 1 ps
part_value e.ExpComma ps = part 1 ps
part_value rule ps = atom_value rule ps

-- a rule of expressions
abbrev pub exp_value : ExpRule → MeaningsTree → MeaningTree
exp_value e.ExpBind ps = exp_bind ps
exp_value e.ExpPlain ps = exp_plain ps
exp_value e.TermLambda ps = term_lambda ps
exp_value e.TermCase ps = term_case ps
exp_value e.TermIf ps = term_if ps
exp_value e.BodyIf ps = term_if ps
exp_value e.Or ps = chain ps
exp_value e.And ps = chain ps
exp_value e.Compare ps = compare ps
exp_value e.Cons ps = cons ps
exp_value e.Join ps = chain ps
exp_value e.Sum ps = chain ps
exp_value e.Product ps = chain ps
exp_value e.SignMinus ps = sign_minus ps
exp_value e.Cut ps = chain ps
exp_value e.Apply ps = apply ps
exp_value rule ps = part_value rule ps
