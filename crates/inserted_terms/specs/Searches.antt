-- The search for an instance, step by step.
use Rattle.std.specs.Prelude.{ℕ, ◌+◌, ◌&&◌, List, [], ◌∷◌, length, Option, Some, None, slice_get, if◌then◌else◌}
use Rattle.con_terms.specs.Trees.{Cn}
use Rattle.core_terms.specs.Basis.{basis_type}
use Rattle.core_terms.specs.Trees.{Fo, bound, top, basis}
use Rattle.core_terms.specs.declared.basis.BasisName.{BasisName}
use Rattle.core_typing.specs.Scopes.{normal_of}
use Rattle.guided_terms.specs.Heres.{Here}
use Rattle.guided_terms.specs.Implied.{has_form, is_innermost, is_seen}
use Rattle.source_names.specs.Scopes.{Words, DeclaredValue, Declared}
use Rattle.inserted_terms.specs.Forms.{if_has_form, instance_names}

-- The number of the first binder, the innermost of its name, of a type with this normal form: of binders with these
-- names and types, where so many stand further in.
abbrev pub first_bound : List Words → Cn → ℕ → List Words → List Cn → Option ℕ
first_bound all n i [] ts = None
first_bound all n i (x ∷ xs) [] = None
first_bound all n i (x ∷ xs) (t ∷ ts) =
    if has_form (normal_of t) n && is_innermost x all i then Some i else first_bound all n (i + 1) xs ts

-- the number of the latest value that is seen, of a type with this normal form
abbrev pub first_top : List Words → Declared → List Cn → Cn → List DeclaredValue → Option ℕ
first_top xs d ts n [] = None
first_top xs d ts n (v ∷ vs) =
    if if_has_form (slice_get ts (length vs)) n && is_seen xs d v (length vs) then Some (length vs)
    else first_top xs d ts n vs

-- the first of these values of the basis of a type with this normal form
abbrev pub first_basis : Cn → List BasisName → Option BasisName
first_basis n [] = None
first_basis n (b ∷ bs) = if has_form (normal_of (basis_type b)) n then Some b else first_basis n bs

-- the first of these
abbrev pub first_of_three : Option ℕ → Option ℕ → Option BasisName → Option Fo
first_of_three (Some i) t b = Some (bound i)
first_of_three None (Some i) b = Some (top i)
first_of_three None None (Some b) = Some (basis b)
first_of_three None None None = None

abbrev pub first_value : Here → Cn → Option Fo
first_value h n = first_of_three
    (first_bound h.names.values n 0 h.names.values h.types.locals)
    (first_top h.names.values h.names.declared h.types.tops n h.names.declared.values)
    (first_basis n instance_names)
