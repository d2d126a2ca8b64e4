-- The parts of a rule, from what was read before it: what trees stand for, and the marks of repetitions and options,
-- the leftmost first.
use Rattle.std.specs.Prelude.{Bool, true, false, List, [], ◌∷◌}
use Rattle.surface_grammar.specs.declared.part.Part.{Part}
use Rattle.surface_grammar.specs.declared.part.Part.TheVariants.{Word, One, Many, Maybe}
use Rattle.desugar_values.specs.Meanings.{MeaningTree, absent, several, MeaningsTree, no_meaning, meaning}

-- what was read
pub data Entry : Type 0 where
  -- that another tree of a repetition, or the tree of an option, follows
  item : Entry
  -- that none follows
  end : Entry
  -- what a tree stands for
  value : MeaningTree → Entry

-- what the first tree stands for
abbrev pub met : Entry → MeaningTree
met item = absent
met end = absent
met (value m) = m

abbrev pub first_met : List Entry → MeaningTree
first_met [] = absent
first_met (e ∷ es) = met e

abbrev pub left : List Entry → List Entry
left [] = []
left (e ∷ es) = es

-- another tree of a repetition follows
abbrev pub is_item : List Entry → Bool
is_item [] = false
is_item (item ∷ es) = true
is_item (end ∷ es) = false
is_item (value m ∷ es) = false

-- the trees of a repetition, with what is left behind them
abbrev mutual
  pub repeated : List Entry → MeaningsTree × List Entry
  repeated [] = (no_meaning, [])
  repeated (item ∷ es) = repeated_more es
  repeated (end ∷ es) = (no_meaning, es)
  repeated (value m ∷ es) = (no_meaning, es)

  pub repeated_more : List Entry → MeaningsTree × List Entry
  repeated_more [] = (meaning absent no_meaning, [])
  repeated_more (e ∷ es) = (meaning (met e) (repeated es).0, (repeated es).1)

-- the tree of an option
abbrev pub optional : List Entry → MeaningTree × List Entry
optional [] = (absent, [])
optional (item ∷ es) = (first_met es, left es)
optional (end ∷ es) = (absent, es)
optional (value m ∷ es) = (absent, es)

-- a part of a rule
abbrev pub part_met : Part → List Entry → MeaningTree × List Entry
part_met (Word w) es = (first_met es, left es)
part_met (One g) es = (first_met es, left es)
part_met (Many g) es = (several (repeated es).0, (repeated es).1)
part_met (Maybe g) es = optional es

-- the parts of a rule
abbrev pub parts_met : List Part → List Entry → MeaningsTree × List Entry
parts_met [] es = (no_meaning, es)
parts_met (p ∷ ps) es =
    (meaning (part_met p es).0 (parts_met ps (part_met p es).1).0, (parts_met ps (part_met p es).1).1)
