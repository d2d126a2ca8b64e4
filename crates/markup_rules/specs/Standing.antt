-- Where an element stands, its rows, and its field's name, as it is computed.
use Rattle.std.specs.Prelude.{Bool, true, false, Option, Some, None}
use Rattle.con_terms.specs.Trees.{types, units, names, row_of, Cn, unit_con}
use Rattle.con_terms.specs.declared.place.Place.{Place}
use Rattle.kind_rules.specs.Kinding.{judged_at}
use Rattle.core_terms.specs.Types.{no_types, one_field}
use Rattle.core_terms.specs.Markup.{Where, in_body, context_row, Sort, holding, of_words, empty, a_form, an_input, a_button}
use Rattle.core_typing.specs.Scopes.{Sc, normal_of}
use Rattle.core_typing.specs.Faults.{Fault, unbound, an_input_name, mismatch, too_large}
use Rattle.told_faults.specs.Computed.{first, flawed, wants}
use Rattle.judgements.specs.Comparisons.{are_alike}

-- a form is around an element, or none, where it stands as its tag does
pub data Ar : Type 0 where
  within_form : Ar
  no_form : Ar
  elsewhere : Ar

abbrev pub around_by : Bool → Bool → Ar
around_by true b = no_form
around_by false true = within_form
around_by false false = elsewhere

abbrev pub around_of : Where → Cn → Ar
around_of w c = around_by (are_alike (context_row w false) c) (are_alike (context_row w true) c)

-- a context that isn't the one of a place
abbrev pub context_told : Sc → Place → Where → Bool → Cn → Option Fault
context_told G p w o c = wants G p (context_row w o) c

-- where it stands, and what is told of that
pub record Po : Type 0 where
  pub around : Ar
  pub told : Option Fault

abbrev pub elsewhere_told : Sc → Place → Where → Cn → Ar → Option Fault
elsewhere_told G p w c elsewhere = context_told G p w false c
elsewhere_told G p w c within_form = None
elsewhere_told G p w c no_form = None

-- with a form around it or not
abbrev pub either_way : Sc → Place → Where → Cn → Po
either_way G p w c = record { around = around_of w c; told = elsewhere_told G p w c (around_of w c) }

-- a form, which has none around it and before which no field is filled
abbrev pub form_stands : Sc → Place → Cn → Cn → Po
form_stands G p c u = record {
  around = within_form;
  told = first (context_told G p in_body false c) (wants G p no_types u);
}

-- in a form
abbrev pub inside_form : Sc → Place → Cn → Po
inside_form G p c = record { around = within_form; told = context_told G p in_body true c }

abbrev pub stands_by : Sc → Place → Cn → Cn → Where → Sort → Po
stands_by G p c u w a_form = form_stands G p c u
stands_by G p c u w (an_input t) = inside_form G p c
stands_by G p c u w a_button = inside_form G p c
stands_by G p c u w (holding v) = either_way G p w c
stands_by G p c u w of_words = either_way G p w c
stands_by G p c u w empty = either_way G p w c

-- what the kinds of the rows tell
abbrev pub rows_told : Sc → Place → Cn → Cn → Option Fault
rows_told G p c u =
    first (flawed G p (judged_at G.kinds c (row_of units))) (flawed G p (judged_at G.kinds u (row_of types)))

-- a field's name on another tag than an input's
abbrev pub other_name : Sc → Place → Option Cn → Option Fault
other_name G q None = Some (too_large q)
other_name G q (Some n) = Some (mismatch q G.called no_types (one_field n unit_con))

abbrev pub other_name_of : Sc → Place → Cn → Option Fault
other_name_of G q n = other_name G q (normal_of n)

abbrev pub name_by : Sc → Place → Cn → Bool → Option Fault → Option Fault
name_by G q n b (Some f) = Some f
name_by G q n true None = None
name_by G q n false None = other_name_of G q n

abbrev pub name_at : Sc → Place → Cn → Bool → Option Fault
name_at G q n b = name_by G q n b (flawed G q (judged_at G.kinds n names))

abbrev pub no_name_told : Place → Bool → Option Fault
no_name_told p true = Some (unbound p an_input_name)
no_name_told p false = None

-- the name of the field that an element fills, which is an input or not
abbrev pub name_told : Sc → Place → Bool → Option (Place × Cn) → Option Fault
name_told G p b None = no_name_told p b
name_told G p b (Some n) = name_at G n.0 n.1 b

abbrev pub is_input : Sort → Bool
is_input (an_input t) = true
is_input (holding w) = false
is_input of_words = false
is_input empty = false
is_input a_form = false
is_input a_button = false

-- the field that an input fills, as a row
abbrev pub field_row : Option (Place × Cn) → Cn → Option Cn
field_row None t = None
field_row (Some n) t = Some (one_field n.1 t)
