-- What an element holds, as it is computed.
use Rattle.std.specs.Prelude.{Bool, true, false, List, [], ◌∷◌, Option, Some, None}
use Rattle.con_terms.specs.Trees.{Cn, unit_con, basic}
use Rattle.con_terms.specs.declared.place.Place.{Place}
use Rattle.core_terms.specs.declared.basis.BasisName.{BasisName}
use Rattle.core_terms.specs.declared.basis.BasisName.TheVariants.{Txt, Cdata}
use Rattle.core_terms.specs.Trees.{Ex, node, basis, call}
use Rattle.core_terms.specs.Types.{string_type, unit_type, no_types}
use Rattle.core_terms.specs.Markup.{Where, in_body, context_row, Sort, holding, of_words, empty, a_form, an_input, a_button}
use Rattle.core_terms.specs.View.{NodeTree}
use Rattle.core_typing.specs.Scopes.{Sc, normal_of}
use Rattle.core_typing.specs.Own.{place_of}
use Rattle.core_typing.specs.Faults.{Fault, mismatch, too_large}
use Rattle.told_faults.specs.Computed.{Jd, first}
use Rattle.markup_rules.specs.Nodes.{Nd, nodes_found}
use Rattle.markup_rules.specs.Standing.{Ar, within_form, no_form, elsewhere, field_row}

-- a type that isn't this one
abbrev pub other_than_unit : Cn → Cn
other_than_unit unit_con = unit_type
other_than_unit _ = unit_con

abbrev pub other_than_basic : Cn → Cn
other_than_basic (basic s) = unit_type
other_than_basic _ = string_type

-- a node stands where nothing may
abbrev pub form_not_held : Sc → Place → Option Cn → Option Fault
form_not_held G p None = Some (too_large p)
form_not_held G p (Some n) = Some (mismatch p G.called (other_than_unit n) n)

abbrev pub not_held : Sc → Place → Cn → Option Fault
not_held G p t = form_not_held G p (normal_of t)

abbrev pub node_not_held : Sc → NodeTree → Option Cn → Option Fault
node_not_held G x None = None
node_not_held G x (Some t) = not_held G (place_of x.1) t

abbrev pub first_held : Sc → NodeTree → List Jd → Option Fault
first_held G x [] = None
first_held G x (j ∷ js) = node_not_held G x j.type

-- an element that holds nothing and fills these fields
abbrev pub holds_nothing : Sc → List NodeTree → List Jd → Option Cn → Nd
holds_nothing G [] js row = record { own = None; row = row }
holds_nothing G (x ∷ xs) js row = record { own = first_held G x js; row = None }

-- text alone: a call of cdata or of txt
abbrev pub is_text_name : BasisName → Bool
is_text_name Cdata = true
is_text_name Txt = true
is_text_name _ = false

abbrev pub is_text_maker : Ex → Bool
is_text_maker (node p a (basis b)) = is_text_name b
is_text_maker (node p a _) = false

abbrev pub is_words : Ex → Bool
is_words (node p a (call f s is)) = is_text_maker f
is_words (node p a _) = false

-- a node in a title that isn't text
abbrev pub form_no_words : Sc → Place → Option Cn → Option Fault
form_no_words G p None = Some (too_large p)
form_no_words G p (Some n) = Some (mismatch p G.called (other_than_basic n) n)

abbrev pub no_words : Sc → Place → Cn → Option Fault
no_words G p t = form_no_words G p (normal_of t)

abbrev pub other_told : Sc → Place → Option Cn → Option Fault
other_told G p None = None
other_told G p (Some t) = no_words G p t

-- whether all nodes are text, and what is told of the first that isn't
pub record Wd : Type 0 where
  pub are_all : Bool
  pub told : Option Fault

abbrev pub all_words : Wd
all_words = record { are_all = true; told = None }

abbrev pub word_or : Sc → NodeTree → Option Cn → Bool → Wd → Wd
word_or G x o true r = r
word_or G x o false r = record { are_all = false; told = other_told G (place_of x.1) o }

abbrev pub words_in : Sc → List NodeTree → List Jd → Wd
words_in G [] js = all_words
words_in G (x ∷ xs) [] = record { are_all = false; told = None }
words_in G (x ∷ xs) (j ∷ js) = word_or G x j.type (is_words x.1) (words_in G xs js)

-- nodes of a place, where the element stands as its tag does
abbrev pub not_looked_at : Nd
not_looked_at = record { own = None; row = None }

abbrev pub nodes_at : Sc → Cn → Where → Bool → List NodeTree → List Jd → Nd
nodes_at G u w o xs js = nodes_found G (context_row w o) u xs js

abbrev pub within : Sc → Cn → Where → Ar → List NodeTree → List Jd → Nd
within G u w elsewhere xs js = not_looked_at
within G u w within_form xs js = nodes_at G u w true xs js
within G u w no_form xs js = nodes_at G u w false xs js

-- a title
abbrev pub row_if : Bool → Option Cn → Option Cn
row_if true row = row
row_if false row = None

abbrev pub with_words : Wd → Nd → Nd
with_words r n = record { own = first r.told n.own; row = row_if r.are_all n.row }

abbrev pub title : Sc → Cn → Where → Ar → List NodeTree → List Jd → Nd
title G u w a xs js = with_words (words_in G xs js) (within G u w a xs js)

-- a form, which fills no field outside of it
abbrev pub fills_none : Option Cn → Option Cn
fills_none None = None
fills_none (Some d) = Some no_types

abbrev pub in_form : Nd → Nd
in_form n = record { own = n.own; row = fills_none n.row }

abbrev pub form : Sc → List NodeTree → List Jd → Nd
form G xs js = in_form (nodes_at G no_types in_body true xs js)

abbrev pub empty_content : Sc → List NodeTree → List Jd → Nd
empty_content G xs js = holds_nothing G xs js (Some no_types)

abbrev pub input_content : Sc → Option (Place × Cn) → Cn → List NodeTree → List Jd → Nd
input_content G n t xs js = holds_nothing G xs js (field_row n t)

abbrev pub content_by : Sc → Option (Place × Cn) → Cn → Where → Ar → List NodeTree → List Jd → Sort → Nd
content_by G n u w a xs js (holding v) = within G u v a xs js
content_by G n u w a xs js of_words = title G u w a xs js
content_by G n u w a xs js empty = empty_content G xs js
content_by G n u w a xs js a_form = form G xs js
content_by G n u w a xs js (an_input t) = input_content G n t xs js
content_by G n u w a xs js a_button = empty_content G xs js
