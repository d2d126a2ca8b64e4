-- What the rules of record patterns stand for. The fields of a record are gathered from the last to the first; a word
-- `...`, where there is one, stands before them.
use Rattle.std.specs.Prelude.{ℕ, Bool, true, false, List, [], ◌∷◌}
use Rattle.plain_tree.specs.ConView.{pat_fields_from}
use Rattle.plain_tree.specs.Trees.{ConTree, con, PatFormTree, pat_rec, PatFieldTree, pat_field, no_pat_fields}
use Rattle.surface_tree.specs.declared.kind.Kind.{Kind}
use Rattle.surface_tree.specs.declared.kind.Kind.TheVariants.{RightBrace, Comma, Ellipsis}
use Rattle.desugar_values.specs.Meanings.{MeaningTree, several, group, MeaningsTree, no_meaning, meaning, and_one}
use Rattle.desugar_values.specs.Parts.{behind, part, start_of, several_of, group_of, pat_of}
use Rattle.desugar_values.specs.Words.{field_name}
use Rattle.desugar_types.specs.Leading.{leading}
use Rattle.desugar_types.specs.Patterns.{pattern_at}

-- a field: what its name and its pattern stand for
abbrev pub field_parts : MeaningTree → MeaningTree → MeaningTree
field_parts name m = group (meaning name (meaning m no_meaning))

-- `FieldName "=" Pat [PatFieldMore]`: the fields from the last to the first
abbrev pub gathered : MeaningsTree → MeaningsTree
gathered ps = and_one (several_of (part 3 ps)) (field_parts (part 0 ps) (part 2 ps))

-- `PatFieldNamed = FieldName "=" Pat [PatFieldMore]`
abbrev pub field_named : MeaningsTree → MeaningTree
field_named ps = several (gathered ps)

-- the byte at which a constructor stands
abbrev pub con_at : ConTree → ℕ
con_at (con at form) = at

-- a field, which stands at its name
abbrev pub field_with : ConTree → MeaningTree → PatFieldTree
field_with name m = pat_field (con_at name) name (pat_of m)

abbrev pub field_from : MeaningsTree → PatFieldTree
field_from ps = field_with (field_name (part 0 ps)) (part 1 ps)

-- gathered fields from the first to the last, before these
abbrev pub fields_before : MeaningsTree → List PatFieldTree → List PatFieldTree
fields_before no_meaning after = after
fields_before (meaning m ms) after = fields_before ms (field_from (group_of m) ∷ after)

-- the record of gathered fields, and whether further ones may stand beside them
abbrev pub record_with : MeaningsTree → Bool → PatFormTree
record_with ms others = pat_rec (pat_fields_from (fields_before ms [])) others

-- the record of gathered fields: further ones may stand beside them where `...` does
abbrev pub record_by : Kind → MeaningsTree → PatFormTree
record_by Ellipsis ms = record_with (behind ms) true
record_by _ ms = record_with ms false

abbrev pub record_of : MeaningsTree → PatFormTree
record_of ms = record_by (leading ms) ms

-- what braces hold, by the word with which it begins: no field, `, ...`, or a field and what stands behind it
abbrev pub braces_by : Kind → MeaningsTree → PatFormTree
braces_by RightBrace rest = pat_rec no_pat_fields false
braces_by Comma rest = pat_rec no_pat_fields true
braces_by _ rest = record_of (gathered rest)

abbrev pub in_braces : MeaningsTree → PatFormTree
in_braces rest = braces_by (leading rest) rest

-- `PatRecord = "{" PatRecordRest`
abbrev pub pattern_record : MeaningsTree → MeaningTree
pattern_record ps = pattern_at (start_of (part 0 ps)) (in_braces (group_of (part 1 ps)))
