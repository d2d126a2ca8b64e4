-- Numbers, texts, `let` and markup as terms.
use Rattle.std.specs.Prelude.{ℕ, List, [], ◌∷◌}
use Rattle.plain_tree.specs.Trees.{ExpTree, exp_int, exp_words, exp_let, exp_xml, LocalTree, NodeTree}
use Rattle.plain_tree.specs.ExpView.{locals_from, nodes_from}
use Rattle.surface_tree.specs.declared.token.Token.{Token}
use Rattle.desugar_values.specs.Meanings.{MeaningTree, MeaningsTree, no_meaning, meaning}
use Rattle.desugar_values.specs.Parts.{part, start_of, word_of, characters, number, several_of, exp_of}
use Rattle.desugar_terms.specs.Locals.{local_of}
use Rattle.desugar_terms.specs.Nodes.{nodes_of}
use Rattle.desugar_terms.specs.Placed.{a_term}

-- the number that a token holds, at the token
abbrev pub int_of : Token → MeaningTree
int_of t = a_term t.at (exp_int (number t.content))

-- `PrimaryInt = int`, as well as `AttributeInt`
abbrev pub int_term : MeaningsTree → MeaningTree
int_term ps = int_of (word_of (part 0 ps))

-- the text that a token holds, at the token
abbrev pub string_of : Token → MeaningTree
string_of t = a_term t.at (exp_words (characters t.content))

-- `PrimaryString = string`, as well as `AttributeString`
abbrev pub string_term : MeaningsTree → MeaningTree
string_term ps = string_of (word_of (part 0 ps))

-- the declarations of a `let`
abbrev pub locals_of : MeaningsTree → List LocalTree
locals_of no_meaning = []
locals_of (meaning m ms) = local_of m ∷ locals_of ms

-- a `let` at this byte
abbrev pub let_at : ℕ → List LocalTree → ExpTree → MeaningTree
let_at at ls e = a_term at (exp_let (locals_from ls) e)

-- `PrimaryLet = "let" {LetDecl} "in" Exp "end"`
abbrev pub let_term : MeaningsTree → MeaningTree
let_term ps = let_at (start_of (part 0 ps)) (locals_of (several_of (part 1 ps))) (exp_of (part 3 ps))

-- markup at this byte
abbrev pub xml_at : ℕ → List NodeTree → MeaningTree
xml_at at ns = a_term at (exp_xml (nodes_from ns))

-- `PrimaryXmlEmpty = "<xml/>"`
abbrev pub xml_empty : MeaningsTree → MeaningTree
xml_empty ps = xml_at (start_of (part 0 ps)) []

-- `PrimaryXml = "<xml>" {Node} "</xml>"`
abbrev pub xml_term : MeaningsTree → MeaningTree
xml_term ps = xml_at (start_of (part 0 ps)) (nodes_of (several_of (part 1 ps)))
