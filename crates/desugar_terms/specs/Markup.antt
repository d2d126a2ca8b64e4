-- Markup.
use Rattle.std.specs.Prelude.{ℕ, List, [], ◌∷◌, Option}
use Rattle.plain_tree.specs.Trees.{ConTree, exp, NodeTree, node_run, node_exp, node_element, AttributeTree, attribute}
use Rattle.plain_tree.specs.ExpView.{attributes_from, nodes_from}
use Rattle.plain_tree.specs.declared.names.Basis.TheVariants as basis
use Rattle.plain_tree.specs.declared.names.Word.{Word}
use Rattle.desugar_values.specs.Meanings.{MeaningTree, absent, a_word, several, group, a_kind, a_con, a_pat, an_exp, a_node, MeaningsTree, no_meaning, meaning}
use Rattle.desugar_values.specs.Parts.{behind, part, start_of, word_of, named, several_of, group_of, maybe_con_of, exp_of}
use Rattle.desugar_terms.specs.Made.{call_one}
use Rattle.desugar_terms.specs.Nodes.{nodes_of}

-- a name as a run of text, at its place
abbrev pub run_of : Word → NodeTree
run_of w = node_run w.at w.text

-- `NodeText = text`
abbrev pub node_text : MeaningsTree → MeaningTree
node_text ps = a_node (run_of (named (word_of (part 0 ps))))

-- `"{" Splice "}"`, `Splice = "[" Exp "]"`: `{[e]}` is `txt e`, at the brace
abbrev pub splice : ℕ → MeaningsTree → NodeTree
splice at ps = node_exp at (exp at (call_one at basis.Txt (exp_of (part 1 ps))))

-- what stands in braces, which begin at this byte: `NodeSplice = Splice "}"`, or `NodeExp = Exp "}"`
abbrev pub brace_by : ℕ → MeaningTree → NodeTree
brace_by at absent = node_exp at (exp_of absent)
brace_by at (a_word t) = node_exp at (exp_of (a_word t))
brace_by at (several ms) = node_exp at (exp_of (several ms))
brace_by at (group ps) = splice at ps
brace_by at (a_kind x) = node_exp at (exp_of (a_kind x))
brace_by at (a_con s c) = node_exp at (exp_of (a_con s c))
brace_by at (a_pat s p) = node_exp at (exp_of (a_pat s p))
brace_by at (an_exp s e) = node_exp at (exp_of (an_exp s e))
brace_by at (a_node n) = node_exp at (exp_of (a_node n))

-- `NodeBrace = "{" NodeBraceRest`
abbrev pub node_brace : MeaningsTree → MeaningTree
node_brace ps = a_node (brace_by (start_of (part 0 ps)) (part 0 (group_of (part 1 ps))))

-- `name "=" AttributeValue`
abbrev pub attribute_by : MeaningsTree → AttributeTree
attribute_by ps = attribute (named (word_of (part 0 ps))) (exp_of (part 2 ps))

-- `Attribute = name "=" AttributeValue`
abbrev pub attribute_of : MeaningTree → AttributeTree
attribute_of m = attribute_by (group_of m)

-- `{Attribute}`
abbrev pub attributes_of : MeaningsTree → List AttributeTree
attributes_of no_meaning = []
attributes_of (meaning m ms) = attribute_of m ∷ attributes_of ms

-- what stands in an element: `ElementEmpty = "/>"`, or `ElementFull = ">" {Node} close_tag`
abbrev pub element_end : MeaningsTree → List NodeTree
element_end ps = nodes_of (several_of (part 1 ps))

-- an element by its opening tag, its name, its attributes and what stands in it
abbrev pub element_at : Word → Option ConTree → List AttributeTree → List NodeTree → NodeTree
element_at tag name attributes inner = node_element tag.at tag.text name (attributes_from attributes) (nodes_from inner)

-- an element by its opening tag and what follows it, `[TagName] {Attribute} ElementEnd`
abbrev pub element_by : Word → MeaningsTree → NodeTree
element_by tag ps =
    element_at tag (maybe_con_of (part 0 ps)) (attributes_of (several_of (part 1 ps)))
    (element_end (group_of (part 2 ps)))

-- `NodeElement = open_tag [TagName] {Attribute} ElementEnd`
abbrev pub whole_element : MeaningsTree → MeaningTree
whole_element ps = a_node (element_by (named (word_of (part 0 ps))) (behind ps))
