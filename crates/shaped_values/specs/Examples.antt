-- Values that types have, worked out.
use Rattle.std.specs.Prelude.{ℕ, true, pos, [], ◌∷◌}
use Rattle.con_terms.specs.Trees.{Cn, types, var, basic, record_of, app, name, row, no_pairs, pair}
use Rattle.core_terms.specs.Datatypes.{basis_datatypes}
use Rattle.core_terms.specs.Names.{bool_name, int_name, option_name}
use Rattle.core_meaning.specs.Values.{V, of_number, of_fields, of_holding, no_slots, slot, truth}
use Rattle.shaped_values.specs.Values.{IsOf}

-- option int
abbrev pub option_int : Cn
option_int = app (basic option_name) (basic int_name)

-- Some 0
abbrev pub some_number : V
some_number = of_holding option_name 1 (of_number (pos 0))

-- $[nm = option int], where nm is a variable
abbrev pub record_at_name : Cn
record_at_name = record_of (row types (pair (var 0) option_int no_pairs))

-- True is a value of bool, Some 0 one of option int, {} one of $[], and {nm = Some 0, B = True} one of
-- $[nm = option int], where nm is another name than B, at every depth.
abbrev pub ExamplesAreValues : Type 0
ExamplesAreValues =
    ((d : ℕ) → IsOf basis_datatypes [] d (basic bool_name) (truth true))
    × ((d : ℕ) → IsOf basis_datatypes [] d option_int some_number)
    × ((d : ℕ) → IsOf basis_datatypes [] d (record_of (row types no_pairs)) (of_fields no_slots))
    × ((d : ℕ) → IsOf basis_datatypes (name 9 ∷ []) d record_at_name
    (of_fields (slot 8 (truth true) (slot 9 some_number no_slots))))
