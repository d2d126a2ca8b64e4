-- What the values of this crate are.
use Rattle.guided_terms.specs.Contexts as rule
use Rattle.page_forms.specs.declared.contexts.Ring.{Ring}
use Rattle.type_makers.specs.Standing.{where_of}

-- a place, and whether a form is around it
abbrev pub ring_view : Ring → rule.Ring
ring_view r = record { standing = where_of r.standing; in_form = r.in_form }
