-- What follows the first word of a constructor. All that is made of it begins at its byte.
use Rattle.std.specs.Prelude.{ℕ, List, [], ◌∷◌, Option, Some, None}
use Rattle.plain_tree.specs.Trees.{ConTree, con, con_arrow, con_record, con_apply, con_concat, con_row, con_proj, ConFieldsTree, con_field}
use Rattle.plain_tree.specs.ConView.{con_fields_from, cons_from}
use Rattle.desugar_values.specs.Meanings.{MeaningsTree, no_meaning, meaning}
use Rattle.desugar_values.specs.Parts.{behind, con_of, maybe_con_of, number, part, several_of, word_of}
use Rattle.desugar_values.specs.Words.{component}
use Rattle.desugar_types.specs.Lists.{components_of, cons_of, numbers_of}

-- `{ConIndex}`: a constructor with the projections behind it
abbrev pub projected : ℕ → ConTree → MeaningsTree → ConTree
projected at c no_meaning = c
projected at c (meaning m ms) = con at (con_proj c (number (word_of m).content ∷ numbers_of ms))

-- `{ConTerm}`: a constructor with its arguments
abbrev pub applied : ℕ → ConTree → MeaningsTree → ConTree
applied at c no_meaning = c
applied at c (meaning m ms) = con at (con_apply c (cons_from (con_of m ∷ cons_of ms)))

-- `{ConConcat}`: a constructor with what is joined to it
abbrev pub joined : ℕ → ConTree → MeaningsTree → ConTree
joined at c no_meaning = c
joined at c (meaning m ms) = con at (con_concat c (cons_from (con_of m ∷ cons_of ms)))

-- the record type of a row, written without `$`
abbrev pub record_at : ℕ → ConFieldsTree → ConTree
record_at at fields = con at (con_record [] (con at (con_row fields)))

-- `{ConTimes}`: the record type with the fields 1, 2, ..
abbrev pub product : ℕ → ConTree → MeaningsTree → ConTree
product at c no_meaning = c
product at c (meaning m ms) =
    record_at at (con_fields_from (con_field at (component at 1) c ∷ components_of 2 (meaning m ms)))

-- `[ConArrow]`: a constructor with what its arrow leads to
abbrev pub arrow : ℕ → ConTree → Option ConTree → ConTree
arrow at c None = c
arrow at c (Some d) = con at (con_arrow c d)

-- `{ConIndex}`, and `{ConTerm} {ConConcat}` behind it
abbrev pub more_tails : ℕ → ConTree → MeaningsTree → MeaningsTree → ConTree
more_tails at c indexes ps =
    joined at (applied at (projected at c indexes) (several_of (part 0 ps))) (several_of (part 1 ps))

-- `{ConIndex} {ConTerm} {ConConcat}` behind a constructor
abbrev pub short_tails : ℕ → ConTree → MeaningsTree → ConTree
short_tails at c ps = more_tails at c (several_of (part 0 ps)) (behind ps)

-- `{ConIndex} {ConTerm} {ConConcat} {ConTimes} [ConArrow]` behind a constructor
abbrev pub tails : ℕ → ConTree → MeaningsTree → ConTree
tails at c ps = arrow at (product at (short_tails at c ps) (several_of (part 3 ps))) (maybe_con_of (part 4 ps))
