-- What a call inserts for parameters that are folders or instances of classes.
-- The Ur/Web Manual, "Type Inference", "Folders" and "Type Classes".
use Rattle.std.specs.Prelude.{◌≡◌, ℕ, suc, ◌==◌, Bool, true, false, ◌&&◌, ◌||◌, List, [], ◌∷◌, ◌++◌, length, Option, Some, None, slice_get, if◌then◌else◌}
use Rattle.std.specs.List.{Contains}
use Rattle.con_terms.specs.Trees.{Kd, Cn, basic, app, Prs}
use Rattle.con_terms.specs.declared.place.Place.{Place}
use Rattle.core_terms.specs.declared.basis.BasisName.{BasisName}
use Rattle.core_terms.specs.declared.basis.BasisName.TheVariants.{NumInt, ShowInt, ShowString, ShowBool, EqInt, EqString, EqBool, OrdInt, OrdString, OrdBool, SqlInt, SqlString, SqlBool}
use Rattle.core_terms.specs.Basis.{basis_type}
use Rattle.core_terms.specs.Names.{show_name, eq_name, ord_name, num_name, sql_injectable_name}
use Rattle.core_terms.specs.Trees.{Ex, node, Fo, bound, top, basis, folder}
use Rattle.core_typing.specs.Scopes.{normal_of}
use Rattle.row_normal.specs.SameTree.{cn_eq}
use Rattle.source_names.specs.Scopes.{Words, DeclaredValue, Declared, last_home}
use Rattle.source_names.specs.Standing.{binder_of, value_in}
use Rattle.guided_terms.specs.Forms.{head_of, pieces_of, literal_fields}
use Rattle.guided_terms.specs.Heres.{Here}

-- whether a symbol is that of a class
abbrev pub is_class : ℕ → Bool
is_class s = s == show_name || s == eq_name || s == ord_name || s == num_name || s == sql_injectable_name

-- a parameter of this type is inserted
pub data IsImplied (h : Here) : Cn → Type 0 where
  -- an instance, as of show t
  an_instance : {a t : Cn} {s : ℕ}
      (form : head_of a ≡ Some (app (basic s) t))
      (class : is_class s ≡ true)
      → IsImplied h a
  -- folder r
  a_folder : {a r : Cn} {s : ℕ} {k : Kd}
      (form : head_of a ≡ Some (app (basic s) r))
      (of_kind : Contains h.types.folders (k, s))
      → IsImplied h a

-- Instances: a value in scope with its type. The last that is declared comes first.

-- what a name of a list stands for there: the innermost binder of the name
abbrev pub is_innermost : Words → List Words → ℕ → Bool
is_innermost x xs i = elim (binder_of x xs) [ None ↦ false | Some j ↦ i == j ]

-- what binders bind, from the inside outwards, of which this one has this number; what another of its name hides
-- doesn't count
abbrev pub bound_from : List Words → ℕ → List Words → List Cn → List (Fo × Cn)
bound_from all i [] ts = []
bound_from all i (x ∷ xs) [] = []
bound_from all i (x ∷ xs) (t ∷ ts) =
    if is_innermost x all i then (bound i, t) ∷ bound_from all (suc i) xs ts else bound_from all (suc i) xs ts

-- whether a binder has a name
abbrev pub is_bound : Words → List Words → Bool
is_bound x xs = elim (binder_of x xs) [ None ↦ false | Some j ↦ true ]

-- whether a value of a module is the last of its name there, and isn't hidden by a binder where it is one of the module
-- that is read
abbrev pub is_last : Option ℕ → ℕ → Bool
is_last None i = false
is_last (Some j) i = i == j

abbrev pub is_seen : List Words → Declared → DeclaredValue → ℕ → Bool
is_seen xs d v i =
    is_last (value_in v.name d.values v.home) i
    && (if v.home == last_home d.modules then (if is_bound v.name xs then false else true) else true)

-- with a top-level value before others, where it has a type
abbrev pub with_top : ℕ → Option Cn → List (Fo × Cn) → List (Fo × Cn)
with_top i None more = more
with_top i (Some t) more = (top i, t) ∷ more

-- top-level values, the latest first
abbrev pub tops_from : List Words → Declared → List DeclaredValue → List Cn → List (Fo × Cn)
tops_from xs d [] ts = []
tops_from xs d (v ∷ vs) ts =
    if is_seen xs d v (length vs) then with_top (length vs) (slice_get ts (length vs)) (tops_from xs d vs ts)
    else tops_from xs d vs ts

-- the instances that every program has
abbrev pub with_types : List BasisName → List (Fo × Cn)
with_types [] = []
with_types (b ∷ bs) = (basis b, basis_type b) ∷ with_types bs

abbrev pub basis_instances : List (Fo × Cn)
basis_instances = with_types (NumInt ∷ ShowInt ∷ ShowString ∷ ShowBool ∷ EqInt ∷ EqString ∷ EqBool ∷ OrdInt
    ∷ OrdString ∷ OrdBool ∷ SqlInt ∷ SqlString ∷ SqlBool ∷ [])

-- all values that may be instances: those of binders, then earlier declarations, then those of the basis
abbrev pub candidates : Here → List (Fo × Cn)
candidates h =
    bound_from h.names.values 0 h.names.values h.types.locals
    ++ tops_from h.names.values h.names.declared h.names.declared.values h.types.tops
    ++ basis_instances

-- whether a type has this normal form
abbrev pub has_form : Option Cn → Cn → Bool
has_form None n = false
has_form (Some m) n = cn_eq m n

-- the first whose type has this normal form
abbrev pub first_of_form : Cn → List (Fo × Cn) → Option Fo
first_of_form n [] = None
first_of_form n (c ∷ cs) = if has_form (normal_of c.1) n then Some c.0 else first_of_form n cs

-- an inserted term for a parameter of this type
pub data Inserts (h : Here) : Cn → Ex → Type 0 where
  -- of folder r: the fields of r, which is a literal or a ++ of literals, in the written order
  the_folder : {t r : Cn} {s : ℕ} {k : Kd} {pieces : List Cn} {ps : Prs} {p : Place}
      (form : head_of t ≡ Some (app (basic s) r))
      (of_kind : Contains h.types.folders (k, s))
      (row : pieces_of r ≡ Some pieces)
      (literals : literal_fields pieces ≡ Some ps)
      → Inserts h t (node p true (folder k ps))
  -- of a class at a type: the last declared value whose type has the normal form
  the_instance : {t u n : Cn} {s : ℕ} {f : Fo} {p : Place}
      (form : head_of t ≡ Some (app (basic s) u))
      (class : is_class s ≡ true)
      (normal : normal_of t ≡ Some n)
      (last_declared : first_of_form n (candidates h) ≡ Some f)
      → Inserts h t (node p true f)
