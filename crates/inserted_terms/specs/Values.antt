-- Values with their types, as the program keeps them.
use Rattle.std.specs.Prelude.{ℕ, Bool, true, false, ◌&&◌, List, [], ◌∷◌, map, Option, Some, None}
use Rattle.con_terms.specs.Trees.{Cn}
use Rattle.con_terms.specs.Substitution.{shift}
use Rattle.con_terms.specs.View.{con_tree}
use Rattle.con_terms.specs.declared.con.Con.{Con}
use Rattle.core_terms.specs.declared.basis.BasisName.{BasisName}
use Rattle.inserted_terms.specs.declared.values.BasisValue.{BasisValue}
use Rattle.inserted_terms.specs.declared.values.TypedValue.{TypedValue}

-- the types of values
abbrev pub type_of_value : TypedValue → Cn
type_of_value v = con_tree v.con

-- the names of values of the basis
abbrev pub name_of : BasisValue → BasisName
name_of v = v.name

-- whether no value is an instance
abbrev pub is_nothing : Option Con → Bool
is_nothing None = true
is_nothing (Some c) = false

abbrev pub are_plain : List TypedValue → Bool
are_plain [] = true
are_plain (v ∷ vs) = is_nothing v.form && are_plain vs

-- types as they are seen from under so many binders of constructors
abbrev pub raised : ℕ → List Cn → List Cn
raised by ts = map (λ t. shift by t 0) ts
