-- The parts of a rule, and what they hold. A part that is of another sort holds a value that no tree of the grammar
-- shows.
use Rattle.std.specs.Prelude.{ℕ, zero, suc, List, [], Option, Some, None}
use Rattle.con_terms.specs.Trees.{Kd, types}
use Rattle.plain_tree.specs.Trees.{ConTree, con, con_wild, PatTree, pat, pat_any, ExpTree, exp, exp_basis}
use Rattle.plain_tree.specs.declared.names.Word.{Word}
use Rattle.plain_tree.specs.declared.names.Basis.TheVariants as basis
use Rattle.surface_tree.specs.declared.kind.Kind.TheVariants as k
use Rattle.surface_tree.specs.declared.token.Token.{Token}
use Rattle.surface_tree.specs.declared.token.Content.{Content}
use Rattle.surface_tree.specs.declared.token.Content.TheVariants.{Nothing, Number, Characters}
use Rattle.desugar_values.specs.Meanings.{MeaningTree, absent, a_word, several, group, a_kind, a_con, a_pat, an_exp, a_node, MeaningsTree, no_meaning, meaning}

-- the first part
abbrev pub first : MeaningsTree → MeaningTree
first no_meaning = absent
first (meaning m ms) = m

-- the parts behind the first
abbrev pub behind : MeaningsTree → MeaningsTree
behind no_meaning = no_meaning
behind (meaning m ms) = ms

-- the part with this number, from 0 on
abbrev pub part : ℕ → MeaningsTree → MeaningTree
part zero ms = first ms
part (suc n) ms = part n (behind ms)

-- the byte at which a tree begins, as far as what it stands for tells it
abbrev pub start_of : MeaningTree → ℕ
start_of absent = 0
start_of (a_word t) = t.at
start_of (several ms) = 0
start_of (group ms) = 0
start_of (a_kind x) = 0
start_of (a_con s c) = s
start_of (a_pat s p) = s
start_of (an_exp s e) = s
start_of (a_node n) = 0

-- a token that stands in no text
abbrev pub no_word : Token
no_word = record { kind = k.Underscore; at = 0; content = Nothing }

abbrev pub word_of : MeaningTree → Token
word_of (a_word t) = t
word_of absent = no_word
word_of (several ms) = no_word
word_of (group ms) = no_word
word_of (a_kind x) = no_word
word_of (a_con s c) = no_word
word_of (a_pat s p) = no_word
word_of (an_exp s e) = no_word
word_of (a_node n) = no_word

-- the characters that a token holds
abbrev pub characters : Content → List ℕ
characters Nothing = []
characters (Number n) = []
characters (Characters text) = text

-- the number that a token holds
abbrev pub number : Content → ℕ
number Nothing = 0
number (Number n) = n
number (Characters text) = 0

-- a token as a name
abbrev pub named : Token → Word
named t = record { at = t.at; text = characters t.content }

abbrev pub several_of : MeaningTree → MeaningsTree
several_of (several ms) = ms
several_of absent = no_meaning
several_of (a_word t) = no_meaning
several_of (group ms) = no_meaning
several_of (a_kind x) = no_meaning
several_of (a_con s c) = no_meaning
several_of (a_pat s p) = no_meaning
several_of (an_exp s e) = no_meaning
several_of (a_node n) = no_meaning

abbrev pub group_of : MeaningTree → MeaningsTree
group_of (group ms) = ms
group_of absent = no_meaning
group_of (a_word t) = no_meaning
group_of (several ms) = no_meaning
group_of (a_kind x) = no_meaning
group_of (a_con s c) = no_meaning
group_of (a_pat s p) = no_meaning
group_of (an_exp s e) = no_meaning
group_of (a_node n) = no_meaning

-- a kind, where it is there
abbrev pub maybe_kind_of : MeaningTree → Option Kd
maybe_kind_of (a_kind x) = Some x
maybe_kind_of absent = None
maybe_kind_of (a_word t) = None
maybe_kind_of (several ms) = None
maybe_kind_of (group ms) = None
maybe_kind_of (a_con s c) = None
maybe_kind_of (a_pat s p) = None
maybe_kind_of (an_exp s e) = None
maybe_kind_of (a_node n) = None

-- a kind; one that isn't there is Type
abbrev pub kind_or_type : Option Kd → Kd
kind_or_type None = types
kind_or_type (Some x) = x

abbrev pub kind_of : MeaningTree → Kd
kind_of m = kind_or_type (maybe_kind_of m)

-- a constructor, where it is there
abbrev pub maybe_con_of : MeaningTree → Option ConTree
maybe_con_of (a_con s c) = Some c
maybe_con_of absent = None
maybe_con_of (a_word t) = None
maybe_con_of (several ms) = None
maybe_con_of (group ms) = None
maybe_con_of (a_kind x) = None
maybe_con_of (a_pat s p) = None
maybe_con_of (an_exp s e) = None
maybe_con_of (a_node n) = None

abbrev pub con_or_wild : Option ConTree → ConTree
con_or_wild None = con 0 con_wild
con_or_wild (Some c) = c

abbrev pub con_of : MeaningTree → ConTree
con_of m = con_or_wild (maybe_con_of m)

abbrev pub pat_of : MeaningTree → PatTree
pat_of (a_pat s p) = p
pat_of absent = pat 0 pat_any
pat_of (a_word t) = pat 0 pat_any
pat_of (several ms) = pat 0 pat_any
pat_of (group ms) = pat 0 pat_any
pat_of (a_kind x) = pat 0 pat_any
pat_of (a_con s c) = pat 0 pat_any
pat_of (an_exp s e) = pat 0 pat_any
pat_of (a_node n) = pat 0 pat_any

abbrev pub no_exp : ExpTree
no_exp = exp 0 (exp_basis basis.Bind)

abbrev pub exp_of : MeaningTree → ExpTree
exp_of (an_exp s e) = e
exp_of absent = no_exp
exp_of (a_word t) = no_exp
exp_of (several ms) = no_exp
exp_of (group ms) = no_exp
exp_of (a_kind x) = no_exp
exp_of (a_con s c) = no_exp
exp_of (a_pat s p) = no_exp
exp_of (a_node n) = no_exp
