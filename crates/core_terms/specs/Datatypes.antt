-- Datatypes: those of the basis, the types of constructors, and what a constructor holds at given types.
-- The Ur/Web Manual, "Datatypes".
use Rattle.std.specs.Prelude.{ℕ, zero, suc, ◌==◌, List, [], ◌∷◌, ◌++◌, length, Option, Some, None, if◌then◌else◌}
use Rattle.con_terms.specs.Trees.{Cn, var, basic, arrow, record_of, name, no_pairs, pair}
use Rattle.con_terms.specs.Substitution.{shift, subst}
use Rattle.con_terms.specs.declared.place.Place.{Place}
use Rattle.core_terms.specs.Names.{bool_name, option_name, list_name, first_name, second_name, false_name, true_name, none_name, some_name, nil_name, cons_name, parameter_name}
use Rattle.core_terms.specs.Types.{at_types, type_row, for_types}
use Rattle.core_terms.specs.Trees.{Cd, Dt, arity}

-- what isn't declared in a source stands at no place that matters
abbrev pub nowhere : Place
nowhere = record { file = 0; at = 0 }

abbrev pub constructor_of : ℕ → Option Cn → Cd
constructor_of n held = record { place = nowhere; name = n; holds = held }

-- a datatype that every program has: its name is its symbol
abbrev pub basis_datatype : ℕ → List ℕ → List Cd → Dt
basis_datatype s xs cs = record {
  path = [];
  place = nowhere;
  home = None;
  name = s;
  symbol = s;
  parameters = xs;
  constructors = cs;
}

-- bool = False | True, option t = None | Some of t, list t = Nil | Cons of t * list t
abbrev pub basis_datatypes : List Dt
basis_datatypes =
    basis_datatype bool_name []
    (constructor_of false_name None ∷ constructor_of true_name None ∷ [])
    ∷ basis_datatype option_name (parameter_name ∷ [])
    (constructor_of none_name None ∷ constructor_of some_name (Some (var 0)) ∷ [])
    ∷ basis_datatype list_name (parameter_name ∷ [])
    (constructor_of nil_name None ∷ constructor_of cons_name (Some
    (record_of (type_row
    (pair (name first_name) (var 0) (pair (name second_name) (at_types (basic list_name) (var 0 ∷ []))
    no_pairs))))) ∷ [])
    ∷ []

-- the datatype with a symbol
abbrev pub datatype_of : List Dt → ℕ → Option Dt
datatype_of [] s = None
datatype_of (d ∷ ds) s = if d.symbol == s then Some d else datatype_of ds s

-- constructors for the numbers from 0 on, the first for 0, put into what stands under as many binders
abbrev pub put_all : List Cn → Cn → Cn
put_all [] c = c
put_all (a ∷ more) c = put_all more (subst c (shift (length more) a 0))

-- what a constructor holds, at a datatype's arguments in their order
abbrev pub reversed : List Cn → List Cn
reversed [] = []
reversed (c ∷ cs) = reversed cs ++ c ∷ []

abbrev pub held_at : List Cn → Cn → Cn
held_at args held = put_all (reversed args) held

-- a datatype's parameters, the first first, as its constructors see them
abbrev pub parameters_of : ℕ → List Cn
parameters_of zero = []
parameters_of (suc n) = var n ∷ parameters_of n

-- a datatype at its own parameters
abbrev pub own_type : Dt → Cn
own_type d = at_types (basic d.symbol) (parameters_of (arity d))

-- a constructor's type: t ::: Type -> .. -> held -> datatype t ..
abbrev pub constructor_type : Dt → Cd → Cn
constructor_type d c = for_types (arity d) (elim (c.holds) [
  | None ↦ own_type d
  | Some held ↦ arrow held (own_type d)
])
