-- What the rules of patterns stand for, but for those of records.
use Rattle.std.specs.Prelude.{ℕ, ◌+◌, true, false, List, [], ◌∷◌}
use Rattle.plain_tree.specs.ConView.{pat_fields_from}
use Rattle.plain_tree.specs.Trees.{pat, PatFormTree, pat_any, pat_bind, pat_int, pat_words, pat_bare, pat_holding, pat_rec, pat_typed, PatFieldTree, pat_field, no_pat_fields}
use Rattle.plain_tree.specs.declared.names.BasisBuilder.TheVariants as basis
use Rattle.plain_tree.specs.declared.names.Builder.{Builder}
use Rattle.plain_tree.specs.declared.names.Builder.TheVariants as builder
use Rattle.plain_tree.specs.declared.names.Path.{Path}
use Rattle.surface_tree.specs.declared.kind.Kind.{Kind}
use Rattle.surface_tree.specs.declared.kind.Kind.TheVariants.{Colon, Comma}
use Rattle.surface_tree.specs.declared.token.Token.{Token}
use Rattle.desugar_values.specs.Meanings.{MeaningTree, absent, a_word, several, group, a_kind, a_con, a_pat, an_exp, a_node, MeaningsTree, no_meaning, meaning}
use Rattle.desugar_values.specs.Parts.{part, start_of, word_of, characters, number, several_of, group_of, con_of, pat_of}
use Rattle.desugar_values.specs.Words.{component}
use Rattle.desugar_types.specs.Leading.{leading}

-- a pattern that stands where its tree begins
abbrev pub pattern_at : ℕ → PatFormTree → MeaningTree
pattern_at at form = a_pat at (pat at form)

-- a pattern as the component of a tuple with this number
abbrev pub component_field : ℕ → MeaningTree → PatFieldTree
component_field n m = pat_field (start_of m) (component (start_of m) n) (pat_of m)

-- patterns as the components of a tuple from this number on
abbrev pub components : ℕ → MeaningsTree → List PatFieldTree
components n no_meaning = []
components n (meaning m ms) = component_field n m ∷ components (n + 1) ms

-- a tuple, which is a record with the fields 1, 2, ..
abbrev pub tuple : MeaningTree → MeaningTree → MeaningsTree → PatFormTree
tuple one two more =
    pat_rec (pat_fields_from (component_field 1 one ∷ component_field 2 two ∷ components 3 more)) false

-- `p :: q`, which is `Cons` on a pair
abbrev pub pattern_cons : MeaningTree → MeaningTree → MeaningTree
pattern_cons one two =
    pattern_at (start_of one) (pat_holding (builder.Basis basis.Cons) (pat (start_of one) (tuple one two no_meaning)))

-- a pattern, by whether `::` and another pattern stand behind it
abbrev pub pattern_by : MeaningTree → MeaningTree → MeaningTree
pattern_by one (a_pat s p) = pattern_cons one (a_pat s p)
pattern_by one absent = one
pattern_by one (a_word t) = one
pattern_by one (several ms) = one
pattern_by one (group ms) = one
pattern_by one (a_kind x) = one
pattern_by one (a_con s c) = one
pattern_by one (an_exp s e) = one
pattern_by one (a_node n) = one

-- `Pat = PatTerm [PatCons]`
abbrev pub pattern : MeaningsTree → MeaningTree
pattern ps = pattern_by (part 0 ps) (part 1 ps)

-- the text of a word
abbrev pub text_of : MeaningTree → List ℕ
text_of m = characters (word_of m).content

-- the last of these names
abbrev pub last_name : List ℕ → MeaningsTree → List ℕ
last_name name no_meaning = name
last_name name (meaning m ms) = last_name (text_of m) ms

-- these names but the last
abbrev pub but_last : List ℕ → MeaningsTree → List (List ℕ)
but_last name no_meaning = []
but_last name (meaning m ms) = name ∷ but_last (text_of m) ms

-- the last of these names within those before it, which are modules
abbrev pub upper_names : List ℕ → MeaningsTree → Path
upper_names name more = record { modules = but_last name more; name = last_name name more }

-- `UpperPath = upper {DotUpper}`, the constructor of a datatype
abbrev pub upper_path : MeaningsTree → Path
upper_path ps = upper_names (text_of (part 0 ps)) (several_of (part 1 ps))

-- the byte at which an `UpperPath` begins
abbrev pub upper_start : MeaningsTree → ℕ
upper_start ps = (word_of (part 0 ps)).at

-- a constructor of a datatype, by whether a pattern of what it holds stands behind it
abbrev pub constructor_by : ℕ → Builder → MeaningTree → MeaningTree
constructor_by at b (a_pat s p) = pattern_at at (pat_holding b p)
constructor_by at b absent = pattern_at at (pat_bare b)
constructor_by at b (a_word t) = pattern_at at (pat_bare b)
constructor_by at b (several ms) = pattern_at at (pat_bare b)
constructor_by at b (group ms) = pattern_at at (pat_bare b)
constructor_by at b (a_kind x) = pattern_at at (pat_bare b)
constructor_by at b (a_con s c) = pattern_at at (pat_bare b)
constructor_by at b (an_exp s e) = pattern_at at (pat_bare b)
constructor_by at b (a_node n) = pattern_at at (pat_bare b)

-- `PatConstructor = UpperPath [PatAtom]`
abbrev pub pattern_constructor : MeaningsTree → MeaningTree
pattern_constructor ps =
    constructor_by (upper_start (group_of (part 0 ps))) (builder.Named (upper_path (group_of (part 0 ps)))) (part 1 ps)

-- `PatName = UpperPath`
abbrev pub pattern_name : MeaningsTree → MeaningTree
pattern_name ps =
    pattern_at (upper_start (group_of (part 0 ps))) (pat_bare (builder.Named (upper_path (group_of (part 0 ps)))))

-- `PatWild = "_"`
abbrev pub pattern_wild : MeaningsTree → MeaningTree
pattern_wild ps = pattern_at (start_of (part 0 ps)) pat_any

-- a variable, which this token is
abbrev pub token_variable : Token → MeaningTree
token_variable t = pattern_at t.at (pat_bind (characters t.content))

-- `PatVariable = lower`
abbrev pub pattern_variable : MeaningsTree → MeaningTree
pattern_variable ps = token_variable (word_of (part 0 ps))

-- a number, which this token is
abbrev pub token_int : Token → MeaningTree
token_int t = pattern_at t.at (pat_int false (number t.content))

-- `PatInt = int`
abbrev pub pattern_int : MeaningsTree → MeaningTree
pattern_int ps = token_int (word_of (part 0 ps))

-- `PatNegative = "-" int`, which stands at the `-`
abbrev pub pattern_negative : MeaningsTree → MeaningTree
pattern_negative ps = pattern_at (start_of (part 0 ps)) (pat_int true (number (word_of (part 1 ps)).content))

-- a text, which this token is
abbrev pub token_string : Token → MeaningTree
token_string t = pattern_at t.at (pat_words (characters t.content))

-- `PatString = string`
abbrev pub pattern_string : MeaningsTree → MeaningTree
pattern_string ps = token_string (word_of (part 0 ps))

-- `PatList = "[" "]"`
abbrev pub pattern_list : MeaningsTree → MeaningTree
pattern_list ps = pattern_at (start_of (part 0 ps)) (pat_bare (builder.Basis basis.Nil))

-- a pattern in parentheses, by the word that stands behind it: `(p : c)`, a tuple, or the pattern itself
abbrev pub closed_by : Kind → ℕ → MeaningTree → MeaningsTree → MeaningTree
closed_by Colon at one end = pattern_at at (pat_typed (pat_of one) (con_of (part 1 end)))
closed_by Comma at one end = pattern_at at (tuple one (part 1 end) (several_of (part 2 end)))
closed_by _ at one end = a_pat at (pat_of one)

abbrev pub closed : ℕ → MeaningTree → MeaningsTree → MeaningTree
closed at one end = closed_by (leading end) at one end

-- what parentheses hold: a pattern and what stands behind it, or nothing
abbrev pub parens_by : ℕ → MeaningTree → MeaningTree → MeaningTree
parens_by at (a_pat s p) end = closed at (a_pat s p) (group_of end)
parens_by at absent end = pattern_at at (pat_rec no_pat_fields false)
parens_by at (a_word t) end = pattern_at at (pat_rec no_pat_fields false)
parens_by at (several ms) end = pattern_at at (pat_rec no_pat_fields false)
parens_by at (group ms) end = pattern_at at (pat_rec no_pat_fields false)
parens_by at (a_kind x) end = pattern_at at (pat_rec no_pat_fields false)
parens_by at (a_con s c) end = pattern_at at (pat_rec no_pat_fields false)
parens_by at (an_exp s e) end = pattern_at at (pat_rec no_pat_fields false)
parens_by at (a_node n) end = pattern_at at (pat_rec no_pat_fields false)

abbrev pub in_parens : ℕ → MeaningsTree → MeaningTree
in_parens at rest = parens_by at (part 0 rest) (part 1 rest)

-- `PatParens = "(" PatParenRest`
abbrev pub pattern_parens : MeaningsTree → MeaningTree
pattern_parens ps = in_parens (start_of (part 0 ps)) (group_of (part 1 ps))
