-- What the rules of kinds stand for.
use Rattle.std.specs.Prelude.{List, [], ◌∷◌, Option, Some, None}
use Rattle.con_terms.specs.Trees.{Kd, row_of, to, tuple_of}
use Rattle.con_terms.specs.View.{kinds_from}
use Rattle.desugar_values.specs.Meanings.{MeaningTree, a_kind, MeaningsTree, no_meaning, meaning}
use Rattle.desugar_values.specs.Parts.{kind_of, maybe_kind_of, part, several_of}

abbrev pub kinds_of : MeaningsTree → List Kd
kinds_of no_meaning = []
kinds_of (meaning m ms) = kind_of m ∷ kinds_of ms

-- a kind with what its arrow leads to
abbrev pub kind_arrow : Kd → Option Kd → Kd
kind_arrow k None = k
kind_arrow k (Some l) = to k l

-- KindTerm = KindAtom [KindArrow]
abbrev pub term_value : MeaningsTree → MeaningTree
term_value ps = a_kind (kind_arrow (kind_of (part 0 ps)) (maybe_kind_of (part 1 ps)))

-- KindRow = "{" KindTerm "}"
abbrev pub row_kind_value : MeaningsTree → MeaningTree
row_kind_value ps = a_kind (row_of (kind_of (part 1 ps)))

-- the kind of tuples with these components, of which there are at least two
abbrev pub kind_components : Kd → Kd → MeaningsTree → Kd
kind_components k l ms = tuple_of (kinds_from (k ∷ l ∷ kinds_of ms))

-- a kind with the further ones of a tuple
abbrev pub kind_times : Kd → MeaningsTree → Kd
kind_times k no_meaning = k
kind_times k (meaning m ms) = kind_components k (kind_of m) ms

-- KindTuple = "(" KindTerm {KindTimes} ")"; brackets round one kind are that kind
abbrev pub tuple_value : MeaningsTree → MeaningTree
tuple_value ps = a_kind (kind_times (kind_of (part 1 ps)) (several_of (part 2 ps)))
