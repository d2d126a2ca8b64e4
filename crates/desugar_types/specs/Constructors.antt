-- What the rules of constructors stand for.
use Rattle.std.specs.Prelude.{ℕ, Bool, true, false, ◌∷◌}
use Rattle.plain_tree.specs.Trees.{ConTree, con, ConFormTree, con_name, con_wild, con_poly, con_lambda, con_record, con_unit, con_tuple, con_kinded}
use Rattle.plain_tree.specs.ConView.{con_fields_from, cons_from}
use Rattle.surface_tree.specs.declared.kind.Kind.{Kind}
use Rattle.surface_tree.specs.declared.kind.Kind.TheVariants.{Comma, TripleColon}
use Rattle.surface_tree.specs.declared.token.Token.{Token}
use Rattle.desugar_values.specs.Meanings.{MeaningTree, absent, a_word, several, group, a_kind, a_con, a_pat, an_exp, a_node, MeaningsTree}
use Rattle.desugar_values.specs.Parts.{behind, characters, con_of, group_of, kind_of, maybe_con_of, part, several_of, start_of, word_of}
use Rattle.desugar_values.specs.Words.{bare}
use Rattle.desugar_types.specs.Brackets.{label_at, row_at}
use Rattle.desugar_types.specs.Lists.{cons_of, places_of}
use Rattle.desugar_types.specs.Paths.{path_of, path_start}
use Rattle.desugar_types.specs.Rows.{field_types, row_fields}
use Rattle.desugar_types.specs.Tails.{applied, arrow, joined, product, projected, record_at, tails}

-- a constructor that begins where its tree does
abbrev pub con_at : ℕ → ConFormTree → MeaningTree
con_at at form = a_con at (con at form)

-- ConLambda = "fn" lower [KindMark] "=>" Con; a kind that isn't written is Type
abbrev pub lambda_value : MeaningsTree → MeaningTree
lambda_value ps =
    con_at (start_of (part 0 ps))
    (con_lambda (characters (word_of (part 1 ps)).content) (kind_of (part 2 ps)) (con_of (part 4 ps)))

-- whether colons are three
abbrev pub is_implicit : Kind → Bool
is_implicit TripleColon = true
is_implicit _ = false

-- ConExplicit = "::" KindAtom "->" Con, and ConImplicit with `:::`, behind a name
abbrev pub poly : Token → MeaningsTree → ConTree
poly t ps =
    con t.at
    (con_poly (is_implicit (word_of (part 0 ps)).kind) (characters t.content) (kind_of (part 1 ps))
    (con_of (part 3 ps)))

-- a lower-case name with what follows it
abbrev pub lower_tails : Token → MeaningsTree → ConTree
lower_tails t ps = tails t.at (con t.at (con_name (bare (characters t.content)))) ps

-- a lower-case name, `[ConForall]` behind it, and what follows both
abbrev pub lower : Token → MeaningTree → MeaningsTree → ConTree
lower t (group qs) ps = poly t qs
lower t absent ps = lower_tails t ps
lower t (a_word u) ps = lower_tails t ps
lower t (several ms) ps = lower_tails t ps
lower t (a_kind x) ps = lower_tails t ps
lower t (a_con s c) ps = lower_tails t ps
lower t (a_pat s p) ps = lower_tails t ps
lower t (an_exp s e) ps = lower_tails t ps
lower t (a_node n) ps = lower_tails t ps

-- ConLower = lower [ConForall] {ConIndex} {ConTerm} {ConConcat} {ConTimes} [ConArrow]
abbrev pub lower_value : MeaningsTree → MeaningTree
lower_value ps = a_con (word_of (part 0 ps)).at (lower (word_of (part 0 ps)) (part 1 ps) (behind (behind ps)))

-- ConOther = ConProduct [ConArrow]
abbrev pub other_value : MeaningsTree → MeaningTree
other_value ps =
    a_con (start_of (part 0 ps)) (arrow (start_of (part 0 ps)) (con_of (part 0 ps)) (maybe_con_of (part 1 ps)))

-- ConProduct = ConSum {ConTimes}
abbrev pub product_value : MeaningsTree → MeaningTree
product_value ps =
    a_con (start_of (part 0 ps)) (product (start_of (part 0 ps)) (con_of (part 0 ps)) (several_of (part 1 ps)))

-- ConSum = ConApply {ConConcat}
abbrev pub sum_value : MeaningsTree → MeaningTree
sum_value ps =
    a_con (start_of (part 0 ps)) (joined (start_of (part 0 ps)) (con_of (part 0 ps)) (several_of (part 1 ps)))

-- ConApply = ConTerm {ConTerm}
abbrev pub apply_value : MeaningsTree → MeaningTree
apply_value ps =
    a_con (start_of (part 0 ps)) (applied (start_of (part 0 ps)) (con_of (part 0 ps)) (several_of (part 1 ps)))

-- ConRecord = "$" {ConDollar} ConPrimary
abbrev pub record_value : MeaningsTree → MeaningTree
record_value ps = con_at (start_of (part 0 ps)) (con_record (places_of (several_of (part 1 ps))) (con_of (part 2 ps)))

-- ConPrimary = ConAtom {ConIndex}
abbrev pub primary_value : MeaningsTree → MeaningTree
primary_value ps =
    a_con (start_of (part 0 ps)) (projected (start_of (part 0 ps)) (con_of (part 0 ps)) (several_of (part 1 ps)))

-- a path as a constructor
abbrev pub path_con : MeaningsTree → MeaningTree
path_con ps = con_at (path_start ps) (con_name (path_of ps))

-- ConPath = Path
abbrev pub path_value : MeaningsTree → MeaningTree
path_value ps = path_con (group_of (part 0 ps))

-- ConWild = "_"
abbrev pub wild_value : MeaningsTree → MeaningTree
wild_value ps = con_at (start_of (part 0 ps)) con_wild

-- ConHash = "#" HashName
abbrev pub hash_value : MeaningsTree → MeaningTree
hash_value ps = a_con (start_of (part 0 ps)) (label_at (start_of (part 0 ps)) (word_of (part 1 ps)))

-- a tuple's first constructor and `Con {ConComma} ")"`, behind the first comma
abbrev pub tuple : ℕ → ConTree → MeaningsTree → ConTree
tuple at c ps = con at (con_tuple (cons_from (c ∷ con_of (part 0 ps) ∷ cons_of (several_of (part 1 ps)))))

-- a constructor in brackets by the kind of the word behind it: ConTuple = "," Con {ConComma} ")", or ConClose = ")"
abbrev pub tuple_end : ℕ → ConTree → Kind → MeaningsTree → ConTree
tuple_end at c Comma ps = tuple at c ps
tuple_end at c _ ps = c

-- a constructor in brackets by what ends it: a kind, a tuple's further constructors, or the bracket alone
abbrev pub group_end : ℕ → ConTree → MeaningTree → ConTree
group_end at c (a_kind k) = con at (con_kinded c k)
group_end at c (group ps) = tuple_end at c (word_of (part 0 ps)).kind (behind ps)
group_end at c absent = c
group_end at c (a_word t) = c
group_end at c (several ms) = c
group_end at c (a_con s d) = c
group_end at c (a_pat s p) = c
group_end at c (an_exp s e) = c
group_end at c (a_node n) = c

-- ConParenRest: ConGroup = Con ConParenEnd, or ConUnit = ")", by its two parts
abbrev pub parens_rest : ℕ → MeaningTree → MeaningTree → ConTree
parens_rest at (a_con s c) close = group_end at c close
parens_rest at absent close = con at con_unit
parens_rest at (a_word t) close = con at con_unit
parens_rest at (several ms) close = con at con_unit
parens_rest at (group ms) close = con at con_unit
parens_rest at (a_kind k) close = con at con_unit
parens_rest at (a_pat s p) close = con at con_unit
parens_rest at (an_exp s e) close = con at con_unit
parens_rest at (a_node n) close = con at con_unit

-- what stands behind an opening bracket
abbrev pub in_parens : ℕ → MeaningsTree → ConTree
in_parens at ps = parens_rest at (part 0 ps) (part 1 ps)

-- ConParens = "(" ConParenRest
abbrev pub parens_value : MeaningsTree → MeaningTree
parens_value ps = a_con (start_of (part 0 ps)) (in_parens (start_of (part 0 ps)) (group_of (part 1 ps)))

-- ConFields = "{" [ConFieldTypes] "}"
abbrev pub fields_value : MeaningsTree → MeaningTree
fields_value ps =
    a_con (start_of (part 0 ps)) (record_at (start_of (part 0 ps)) (con_fields_from (field_types (part 1 ps))))

-- ConRow = "[" [ConRowFields] "]"
abbrev pub row_value : MeaningsTree → MeaningTree
row_value ps = a_con (start_of (part 0 ps)) (row_at (start_of (part 0 ps)) (row_fields (part 1 ps)))
