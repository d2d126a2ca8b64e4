-- What is left of a term when what was inserted is dropped, form by form.
use Rattle.std.specs.Prelude.{Bool, true, false, not}
use Rattle.con_terms.specs.Trees.{unit_con}
use Rattle.core_terms.specs.declared.exp.ConOrigin.TheVariants.{Inserted}
use Rattle.core_terms.specs.declared.exp.Sigil.{Sigil}
use Rattle.core_terms.specs.declared.exp.Sigil.TheVariants.{Plain}
use Rattle.core_terms.specs.Datatypes.{nowhere}
use Rattle.core_terms.specs.Strip.{was_added, strip, strip_form, strip_items}
use Rattle.core_terms.specs.Trees.{Ex, Fo, call, Its, no_items, It, a_term, a_con, a_guard}
use Rattle.source_terms.specs.Leaves.{form_of}

-- whether an item of a call was written
abbrev pub is_left : It → Bool
is_left (a_term x) = not (was_added x)
is_left (a_con p Inserted c) = false
is_left (a_con p _ c) = true
is_left (a_guard p added) = not added

abbrev pub is_empty : Its → Bool
is_empty no_items = true
is_empty _ = false

-- whether of a call, without what was inserted, only the head is left
abbrev pub is_alone : Sigil → Its → Bool
is_alone Plain is = is_empty is
is_alone _ is = false

-- what is left of a form; a call stays one, though its head alone be left
abbrev pub left : Fo → Fo
left (call f sigil is) = call (strip f) sigil (strip_items is)
left f = form_of (strip_form nowhere false f)
