-- Names, paths and the empty list, with projections behind them.
use Rattle.std.specs.Prelude.{ℕ, List, []}
use Rattle.plain_tree.specs.Trees.{ExpTree, exp, exp_name, exp_basis}
use Rattle.plain_tree.specs.declared.names.Basis.TheVariants as basis
use Rattle.plain_tree.specs.declared.names.BasisBuilder.TheVariants as builder
use Rattle.plain_tree.specs.declared.names.Sigil.{Sigil}
use Rattle.plain_tree.specs.declared.names.Sigil.TheVariants as sigil
use Rattle.surface_tree.specs.declared.kind.Kind.{Kind}
use Rattle.surface_tree.specs.declared.kind.Kind.TheVariants.{AtSign, DoubleAtSign, LowerName}
use Rattle.surface_tree.specs.declared.token.Token.{Token}
use Rattle.desugar_values.specs.Meanings.{MeaningTree, absent, a_word, several, group, a_kind, a_con, a_pat, an_exp, a_node, MeaningsTree}
use Rattle.desugar_values.specs.Parts.{behind, part, start_of, word_of, characters, several_of, exp_of}
use Rattle.desugar_values.specs.Words.{bare}
use Rattle.desugar_terms.specs.Dots.{with_dots}
use Rattle.desugar_terms.specs.Paths.{longest, path_exp}

-- what stands before a name, by the first word: `@`, `@@` or nothing
abbrev pub sigil_of : Kind → Sigil
sigil_of AtSign = sigil.At
sigil_of DoubleAtSign = sigil.AtAt
sigil_of _ = sigil.Nothing

-- the name itself, by the first word's kind: the first word, or the one behind it
abbrev pub name_by : Kind → Token → MeaningsTree → Token
name_by AtSign t ms = word_of (part 0 ms)
name_by DoubleAtSign t ms = word_of (part 0 ms)
name_by _ t ms = t

-- A name with this spelling, of a term at this byte, with dots behind it: a lower-case name stands alone, and an
-- upper-case name begins the longest path.
abbrev pub exp_by : Kind → ℕ → Sigil → List ℕ → MeaningsTree → ExpTree
exp_by LowerName at sigil text ms = with_dots at (exp at (exp_name sigil (bare text))) ms
exp_by _ at sigil text ms = path_exp at sigil (longest [] text ms)

-- a name, of a term at this byte, with dots behind it
abbrev pub name_exp : ℕ → Sigil → Token → MeaningsTree → ExpTree
name_exp at sigil t ms = exp_by t.kind at sigil (characters t.content) ms

-- a name by its first word and the words behind that, with dots behind it
abbrev pub words_exp : Token → MeaningsTree → MeaningsTree → ExpTree
words_exp t ws ms = name_exp t.at (sigil_of t.kind) (name_by t.kind t ws) ms

-- a name by its words: `PrimaryLower = lower`, `PrimaryUpper = upper`, `PrimaryAt = "@" AnyName` or
-- `PrimaryAtAt = "@@" AnyName`; with dots behind it
abbrev pub named_operand : MeaningsTree → MeaningsTree → MeaningTree
named_operand ws ms = an_exp (word_of (part 0 ws)).at (words_exp (word_of (part 0 ws)) (behind ws) ms)

-- any other term, with dots behind it
abbrev pub plain_operand : MeaningTree → MeaningsTree → MeaningTree
plain_operand m ms = an_exp (start_of m) (with_dots (start_of m) (exp_of m) ms)

abbrev pub operand_by : MeaningTree → MeaningsTree → MeaningTree
operand_by absent ms = plain_operand absent ms
operand_by (a_word t) ms = plain_operand (a_word t) ms
operand_by (several x) ms = plain_operand (several x) ms
operand_by (group ws) ms = named_operand ws ms
operand_by (a_kind x) ms = plain_operand (a_kind x) ms
operand_by (a_con s c) ms = plain_operand (a_con s c) ms
operand_by (a_pat s p) ms = plain_operand (a_pat s p) ms
operand_by (an_exp s e) ms = plain_operand (an_exp s e) ms
operand_by (a_node n) ms = plain_operand (a_node n) ms

-- `Operand = Primary {Dot}`
abbrev pub operand : MeaningsTree → MeaningTree
operand ps = operand_by (part 0 ps) (several_of (part 1 ps))

-- the empty list
abbrev pub nil : ℕ → ExpTree
nil at = exp at (exp_basis (basis.Builder builder.Nil))

-- an empty list that begins at this byte, with dots behind it
abbrev pub nil_operand : ℕ → MeaningsTree → MeaningTree
nil_operand at ms = an_exp at (with_dots at (nil at) ms)

-- `AtomList = "[" "]" {Dot}`
abbrev pub atom_list : MeaningsTree → MeaningTree
atom_list ps = nil_operand (start_of (part 0 ps)) (several_of (part 2 ps))
