-- What is found for names, literals and constructors, as it is computed.
use Rattle.std.specs.Prelude.{ℕ, Option, Some, None, nat_lt, slice_get, if◌then◌else◌}
use Rattle.con_terms.specs.Trees.{Kd, Cn, arrow}
use Rattle.con_terms.specs.declared.place.Place.{Place}
use Rattle.core_terms.specs.declared.basis.BasisName.{BasisName}
use Rattle.core_terms.specs.Trees.{Cd, Dt}
use Rattle.core_terms.specs.Types.{int_type, string_type, unit_type, transaction_of}
use Rattle.core_terms.specs.Basis.{basis_type, fold_type}
use Rattle.core_terms.specs.Datatypes.{datatype_of, constructor_type}
use Rattle.core_typing.specs.Scopes.{Sc, folder_of}
use Rattle.core_typing.specs.Faults.{Fault, unbound, a_variable, a_value, an_effect, a_constructor, a_folder}
use Rattle.told_faults.specs.Computed.{Jd, typed, faulty}
use Rattle.judgements.specs.Bindings.{of_name}

-- x
abbrev pub of_variable : Sc → Place → ℕ → Jd
of_variable G p i = of_name (unbound p (a_variable i)) (slice_get G.locals i)

-- M.x
abbrev pub of_top : Sc → Place → ℕ → Jd
of_top G p i = of_name (unbound p (a_value i)) (slice_get G.tops i)

-- M.f
abbrev pub of_foreign : Sc → Place → ℕ → Jd
of_foreign G p i =
    if nat_lt i G.effects then typed (arrow string_type (transaction_of unit_type))
    else faulty (unbound p (an_effect i))

-- a name of the basis, and literals
abbrev pub of_basis : BasisName → Jd
of_basis b = typed (basis_type b)

abbrev pub of_number : Jd
of_number = typed int_type

abbrev pub of_text : Jd
of_text = typed string_type

-- fold
abbrev pub of_fold_at : Place → Kd → Option ℕ → Jd
of_fold_at p k None = faulty (unbound p (a_folder k))
of_fold_at p k (Some s) = typed (fold_type k s)

abbrev pub of_fold : Sc → Place → Kd → Jd
of_fold G p k = of_fold_at p k (folder_of G.folders k)

-- C
abbrev pub of_constructor : Fault → Dt → Option Cd → Jd
of_constructor f d None = faulty f
of_constructor f d (Some c) = typed (constructor_type d c)

abbrev pub of_datatype : Fault → ℕ → Option Dt → Jd
of_datatype f j None = faulty f
of_datatype f j (Some d) = of_constructor f d (slice_get d.constructors j)

abbrev pub of_built : Sc → Place → ℕ → ℕ → Jd
of_built G p s j = of_datatype (unbound p (a_constructor s j)) j (datatype_of G.datatypes s)
