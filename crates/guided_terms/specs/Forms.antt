-- The forms of types, as rules look at them: with their rows as written.
use Rattle.std.specs.Prelude.{ℕ, ◌==◌, Bool, true, false, ◌||◌, List, [], ◌∷◌, Option, Some, None, option_map, if◌then◌else◌}
use Rattle.con_terms.specs.Trees.{types, Cn, arrow, poly, guarded, record_of, app, basic, name, row, Prs, no_pairs, pair}
use Rattle.core_terms.specs.Names.{xml_name, form_context}
use Rattle.core_terms.specs.Types.{no_types}
use Rattle.core_typing.specs.Compared.{field_of}
use Rattle.kind_rules.specs.Compared.{comparison_units}
use Rattle.row_normal.specs.NormalForm.{limit}
use Rattle.row_normal.specs.Ordered.{joined}
use Rattle.row_normal.specs.Outcomes.{head_reduced}
use Rattle.row_normal.specs.Pieces.{written_pieces}
use Rattle.row_normal.specs.Steps.{reduced}

abbrev pub first_of : Cn × ℕ → Cn
first_of r = r.0

-- what steps leave of a type as soon as its form is known; none where that is too large
abbrev pub head_of : Cn → Option Cn
head_of c = option_map first_of (head_reduced None limit comparison_units c)

-- what all steps leave of it, with rows as written
abbrev pub steps_of : Cn → Option Cn
steps_of c = option_map first_of (reduced limit comparison_units c)

-- a type of functions: of terms, of constructors, of guards' proofs
abbrev pub takes_something : Cn → Bool
takes_something (arrow a b) = true
takes_something (poly i k b) = true
takes_something (guarded c d b) = true
takes_something _ = false

-- the pieces of a row, as written
abbrev pub pieces_of : Cn → Option (List Cn)
pieces_of r = option_map written_pieces (steps_of r)

-- those of the row of a record type
abbrev pub pieces_of_record : Option Cn → Option (List Cn)
pieces_of_record (Some (record_of r)) = Some (written_pieces r)
pieces_of_record _ = None

abbrev pub record_pieces : Cn → Option (List Cn)
record_pieces t = pieces_of_record (steps_of t)

-- the record type of pieces, in their order
abbrev pub record_with : List Cn → Cn
record_with ps = record_of (joined types ps)

-- the field of a name among pieces, with the other pieces in their order
abbrev pub named_field : Option Cn → List Cn → Option (Cn × List Cn)
named_field None ps = None
named_field (Some n) ps = field_of n ps

-- the fields of pieces that are all literals, in the written order
abbrev pub fields_before : Prs → Option Prs → Option Prs
fields_before ps None = None
fields_before no_pairs (Some qs) = Some qs
fields_before (pair n v ps) (Some qs) = option_map (λ rs. pair n v rs) (fields_before ps (Some qs))

abbrev pub literal_fields : List Cn → Option Prs
literal_fields [] = Some no_pairs
literal_fields (row k ps ∷ more) = fields_before ps (literal_fields more)
literal_fields (p ∷ more) = None

-- xml c u b: where a tree stands, the fields filled before it, and those that it fills
pub record Page : Type 0 where
  pub context : Cn
  pub uses : Cn
  pub fills : Cn

abbrev pub page_from : Option Cn → Option Page
page_from (Some (app (app (app (basic s) c) u) b)) =
    if s == xml_name then Some (record { context = c; uses = u; fills = b }) else None
page_from _ = None

abbrev pub page_of : Cn → Option Page
page_of t = page_from (steps_of t)

-- what a tree of a type fills: nothing, where the type is no page's
abbrev pub fills_of_page : Option Page → Cn
fills_of_page None = no_types
fills_of_page (Some p) = p.fills

abbrev pub fills_of : Cn → Cn
fills_of t = fills_of_page (page_of t)

-- whether a context tells that a form is around
abbrev pub is_form_piece : Cn → Bool
is_form_piece (row k (pair (name s) v ps)) = s == form_context
is_form_piece _ = false

abbrev pub any_form : List Cn → Bool
any_form [] = false
any_form (p ∷ ps) = is_form_piece p || any_form ps

abbrev pub has_form_around : Cn → Bool
has_form_around c = any_form (written_pieces c)
