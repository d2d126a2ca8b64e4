-- What stands for a constructor that begins with a bracket: a row, or a guard. The words behind the bracket are read
-- before it is known which of both it is.
use Rattle.std.specs.Prelude.{ℕ, List, [], Option, Some, None}
use Rattle.plain_tree.specs.Trees.{ConTree, con, con_name, con_label, con_guarded, con_row, ConFieldTree}
use Rattle.plain_tree.specs.ConView.{con_fields_from}
use Rattle.surface_tree.specs.declared.kind.Kind.{Kind}
use Rattle.surface_tree.specs.declared.kind.Kind.TheVariants.{Hash, Integer, LowerName, RightBracket}
use Rattle.surface_tree.specs.declared.token.Token.{Token}
use Rattle.desugar_values.specs.Meanings.{MeaningTree, absent, a_word, several, group, a_kind, a_con, a_pat, an_exp, a_node, MeaningsTree, no_meaning}
use Rattle.desugar_values.specs.Parts.{behind, con_of, group_of, maybe_con_of, part, several_of, start_of, word_of}
use Rattle.desugar_values.specs.Words.{field_word, label_of}
use Rattle.desugar_types.specs.Paths.{path_of, within}
use Rattle.desugar_types.specs.Rows.{at_of, row_with}
use Rattle.desugar_types.specs.Tails.{more_tails, tails}

-- a row at its bracket
abbrev pub row_at : ℕ → List ConFieldTree → ConTree
row_at at fields = con at (con_row (con_fields_from fields))

-- a row with this first name, its value and `{ConRowMore}`, and what follows the row
abbrev pub named_row : ℕ → ConTree → Option ConTree → MeaningsTree → MeaningsTree → ConTree
named_row at name value more ps = tails at (row_at at (row_with name value more)) ps

-- BracketFields = [ConFieldValue] {ConRowMore} "]", behind a first name, and what follows the row
abbrev pub fields_row : ℕ → ConTree → MeaningsTree → MeaningsTree → ConTree
fields_row at name fields ps = named_row at name (maybe_con_of (part 0 fields)) (several_of (part 1 fields)) ps

-- a guard whose left side begins with this constructor and `{ConIndex}`: `{ConTerm} {ConConcat} "~" ConSum "]"`, and
-- its body
abbrev pub named_guard : ℕ → ConTree → MeaningsTree → MeaningsTree → ConTree → ConTree
named_guard at c indexes sides body =
    con at (con_guarded (more_tails (at_of c) c indexes sides) (con_of (part 3 sides)) body)

-- GuardSides = ConSum "~" ConSum "]", and a guard's body
abbrev pub plain_guard : ℕ → MeaningsTree → ConTree → ConTree
plain_guard at sides body = con at (con_guarded (con_of (part 0 sides)) (con_of (part 2 sides)) body)

-- BracketNameRest behind a first name, by how its first tree begins: that of a guard with a repetition
abbrev pub name_rest : ℕ → ConTree → MeaningTree → MeaningsTree → MeaningsTree → ConTree
name_rest at c (several ms) sides ps = named_guard at c ms sides (con_of (part 1 ps))
name_rest at c (a_con s d) sides ps = named_row at c (Some d) (several_of (part 0 sides)) ps
name_rest at c absent sides ps = named_row at c None (several_of (part 0 sides)) ps
name_rest at c (a_word t) sides ps = named_row at c None (several_of (part 0 sides)) ps
name_rest at c (group ms) sides ps = named_row at c None (several_of (part 0 sides)) ps
name_rest at c (a_kind x) sides ps = named_row at c None (several_of (part 0 sides)) ps
name_rest at c (a_pat s p) sides ps = named_row at c None (several_of (part 0 sides)) ps
name_rest at c (an_exp s e) sides ps = named_row at c None (several_of (part 0 sides)) ps
name_rest at c (a_node n) sides ps = named_row at c None (several_of (part 0 sides)) ps

-- BracketNameRest = BracketNameRow | BracketNameGuard, behind a first name
abbrev pub bracket_name : ℕ → ConTree → MeaningsTree → ConTree
bracket_name at c ps = name_rest at c (part 0 (group_of (part 0 ps))) (behind (group_of (part 0 ps))) (behind ps)

-- a guard that begins with a module's name: behind the dot `Path {ConIndex} {ConTerm} {ConConcat} "~" ConSum "]"`
abbrev pub path_guard : ℕ → Token → MeaningsTree → ConTree → ConTree
path_guard at t sides body =
    named_guard at (con t.at (con_name (within t (path_of (group_of (part 0 sides)))))) (several_of (part 1 sides))
    (behind (behind sides)) body

-- BracketUpperRest behind an upper-case name, by how its first tree begins: that of a guard with a dot
abbrev pub upper_rest : ℕ → Token → MeaningTree → MeaningsTree → MeaningsTree → ConTree
upper_rest at t (a_word dot) sides ps = path_guard at t sides (con_of (part 1 ps))
upper_rest at t (a_con s c) sides ps = named_row at (field_word t) (Some c) (several_of (part 0 sides)) ps
upper_rest at t absent sides ps = named_row at (field_word t) None (several_of (part 0 sides)) ps
upper_rest at t (several ms) sides ps = named_row at (field_word t) None (several_of (part 0 sides)) ps
upper_rest at t (group ms) sides ps = named_row at (field_word t) None (several_of (part 0 sides)) ps
upper_rest at t (a_kind x) sides ps = named_row at (field_word t) None (several_of (part 0 sides)) ps
upper_rest at t (a_pat s p) sides ps = named_row at (field_word t) None (several_of (part 0 sides)) ps
upper_rest at t (an_exp s e) sides ps = named_row at (field_word t) None (several_of (part 0 sides)) ps
upper_rest at t (a_node n) sides ps = named_row at (field_word t) None (several_of (part 0 sides)) ps

-- BracketUpperRest = BracketUpperRow | BracketUpperGuard, behind an upper-case name
abbrev pub bracket_upper : ℕ → Token → MeaningsTree → ConTree
bracket_upper at t ps = upper_rest at t (part 0 (group_of (part 0 ps))) (behind (group_of (part 0 ps))) (behind ps)

-- a label at its `#`
abbrev pub label_at : ℕ → Token → ConTree
label_at at t = con at (con_label (label_of t))

-- IntSides = int {ConIndex} {ConTerm} {ConConcat} "~" ConSum "]" behind `#`, and a guard's body
abbrev pub number_guard : ℕ → ℕ → MeaningsTree → ConTree → ConTree
number_guard at hash sides body =
    named_guard at (label_at hash (word_of (part 0 sides))) (several_of (part 1 sides)) (behind (behind sides)) body

-- BracketHashRest behind `#`, by its first part: an upper-case name, or the sides of a guard
abbrev pub hash_rest : ℕ → ℕ → MeaningTree → MeaningsTree → ConTree
hash_rest at hash (a_word t) ps = bracket_name at (label_at hash t) (group_of (part 0 ps))
hash_rest at hash (group sides) ps = number_guard at hash sides (con_of (part 1 ps))
hash_rest at hash absent ps = number_guard at hash no_meaning (con_of (part 1 ps))
hash_rest at hash (several ms) ps = number_guard at hash no_meaning (con_of (part 1 ps))
hash_rest at hash (a_kind x) ps = number_guard at hash no_meaning (con_of (part 1 ps))
hash_rest at hash (a_con s c) ps = number_guard at hash no_meaning (con_of (part 1 ps))
hash_rest at hash (a_pat s p) ps = number_guard at hash no_meaning (con_of (part 1 ps))
hash_rest at hash (an_exp s e) ps = number_guard at hash no_meaning (con_of (part 1 ps))
hash_rest at hash (a_node n) ps = number_guard at hash no_meaning (con_of (part 1 ps))

-- BracketHashRest = BracketHashUpper | BracketHashInt, behind `#`
abbrev pub bracket_hash : ℕ → ℕ → MeaningsTree → ConTree
bracket_hash at hash ps = hash_rest at hash (part 0 ps) (behind ps)

-- what a bracket is by the word behind it: BracketEmpty, BracketInt, BracketHash, BracketLower or BracketUpper
abbrev pub bracket_word : ℕ → Token → Kind → MeaningsTree → ConTree
bracket_word at t RightBracket ps = tails at (row_at at []) ps
bracket_word at t Integer ps = fields_row at (field_word t) (group_of (part 0 ps)) (behind ps)
bracket_word at t Hash ps = bracket_hash at t.at (group_of (part 0 ps))
bracket_word at t LowerName ps = bracket_name at (field_word t) (group_of (part 0 ps))
bracket_word at t _ ps = bracket_upper at t (group_of (part 0 ps))

-- BracketRest by its first part, of which these are the parts behind it
abbrev pub bracket_rest : ℕ → MeaningTree → MeaningsTree → ConTree
bracket_rest at (a_word t) ps = bracket_word at t t.kind ps
bracket_rest at (group sides) ps = plain_guard at sides (con_of (part 1 ps))
bracket_rest at absent ps = plain_guard at no_meaning (con_of (part 1 ps))
bracket_rest at (several ms) ps = plain_guard at no_meaning (con_of (part 1 ps))
bracket_rest at (a_kind x) ps = plain_guard at no_meaning (con_of (part 1 ps))
bracket_rest at (a_con s c) ps = plain_guard at no_meaning (con_of (part 1 ps))
bracket_rest at (a_pat s p) ps = plain_guard at no_meaning (con_of (part 1 ps))
bracket_rest at (an_exp s e) ps = plain_guard at no_meaning (con_of (part 1 ps))
bracket_rest at (a_node n) ps = plain_guard at no_meaning (con_of (part 1 ps))

-- BracketRest behind its bracket
abbrev pub bracketed : ℕ → MeaningsTree → ConTree
bracketed at ps = bracket_rest at (part 0 ps) (behind ps)

-- ConBracket = BracketOpen BracketRest
abbrev pub bracket_value : MeaningsTree → MeaningTree
bracket_value ps = a_con (start_of (part 0 ps)) (bracketed (start_of (part 0 ps)) (group_of (part 1 ps)))
