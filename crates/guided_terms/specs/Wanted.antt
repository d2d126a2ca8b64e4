-- What type is wanted of each part of a form, where something is known of what is wanted of the form.
-- The Ur/Web Manual, "Type Inference".
use Rattle.std.specs.Prelude.{Bool, true, false, List, Option, Some, None}
use Rattle.con_terms.specs.Trees.{Cn, arrow, poly, guarded}
use Rattle.core_terms.specs.Trees.{Ex}
use Rattle.guided_terms.specs.Forms.{head_of, steps_of, record_pieces, named_field}
use Rattle.guided_terms.specs.Heres.{Here}

-- what is known of the type that is wanted of a term
pub data Want : Type 0 where
  -- nothing yet: a wanted type may be known later, so no context of an XML literal is chosen
  nothing_yet : Want
  -- nothing, and nothing will be: contexts of XML literals are chosen
  nothing_ever : Want
  -- the type that is wanted
  whole : Cn → Want
  -- that of the parameter of a function, and what is known of its result
  takes : Cn → Want → Want
  -- of an argument: where it stands, if it is an XML literal, and the fields filled before it, where these are known
  stands_in : Cn → Option Cn → Want
  -- of a tree that is spliced in: where it stands, and the fields filled before it. What it fills is its own
  spliced_in : Cn → Cn → Want

-- that a source, where it stands here and this is wanted of it, is this term, and has this type
abbrev pub Judge : Type 1
Judge = Here → Want → Ex → Cn → Type 0

-- it has no type as yet
abbrev pub HasNoType : (Ex → Cn → Type 0) → Type 0
HasNoType gives = (e : Ex) (t : Cn) → gives e t → ⊥

-- whether contexts of XML literals are chosen
abbrev pub chooses : Want → Bool
chooses nothing_ever = true
chooses (whole t) = true
chooses (spliced_in c u) = true
chooses _ = false

-- of a part of which nothing is wanted, whatever will be known of the whole
abbrev pub of_other_part : Want → Want
of_other_part nothing_ever = nothing_ever
of_other_part (whole t) = nothing_ever
of_other_part (spliced_in c u) = nothing_ever
of_other_part _ = nothing_yet

-- of the body of fn p => e: the result of the wanted function type
abbrev pub of_result : Option Cn → Want
of_result (Some (arrow a b)) = whole b
of_result _ = nothing_ever

abbrev pub of_body : Want → Want
of_body (whole t) = of_result (head_of t)
of_body (takes a w) = w
of_body w = of_other_part w

-- of the body of fn [x :: k] => e
abbrev pub under_the_constructor : Option Cn → Want
under_the_constructor (Some (poly i k b)) = whole b
under_the_constructor _ = nothing_ever

abbrev pub of_body_for_con : Want → Want
of_body_for_con (whole t) = under_the_constructor (head_of t)
of_body_for_con w = of_other_part w

-- of the body of fn [c ~ d] => e
abbrev pub under_the_guard : Option Cn → Want
under_the_guard (Some (guarded c d b)) = whole b
under_the_guard _ = nothing_ever

abbrev pub of_body_for_guard : Want → Want
of_body_for_guard (whole t) = under_the_guard (head_of t)
of_body_for_guard w = of_other_part w

-- the parameter type of a wanted function type
abbrev pub parameter_of : Option Cn → Option Cn
parameter_of (Some (arrow a b)) = Some a
parameter_of _ = None

abbrev pub wanted_parameter : Want → Option Cn
wanted_parameter (whole t) = parameter_of (head_of t)
wanted_parameter (takes a w) = Some a
wanted_parameter _ = None

-- of a field: its type in the wanted record type
abbrev pub of_found_field : Option (Cn × List Cn) → Want
of_found_field (Some f) = whole f.0
of_found_field None = nothing_ever

abbrev pub of_field_among : Cn → Option (List Cn) → Want
of_field_among n (Some ps) = of_found_field (named_field (steps_of n) ps)
of_field_among n None = nothing_ever

abbrev pub of_field : Want → Cn → Want
of_field (whole t) n = of_field_among n (record_pieces t)
of_field w n = of_other_part w

-- of a term whose type is written, or isn't
abbrev pub of_written : Option Cn → Want
of_written (Some t) = whole t
of_written None = nothing_ever

-- Wanted of the body of a let, of the first branch of a case and of a term in brackets is what is wanted of the form.
-- Wanted of a later branch is the type of the first one. Wanted of an argument is its parameter's type, where no
-- unknown is left in it. Of all others nothing is wanted: of what is matched, of what stands before a link of a chain,
-- of both sides of ++, of a head that is no identifier.
