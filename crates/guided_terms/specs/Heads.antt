-- What a call begins with: an identifier, what it stands for, and its type.
-- The Ur/Web Manual, "Type Inference".
use Rattle.std.specs.Prelude.{◌≡◌, ◌≢◌, ℕ, ◌+◌, Bool, true, false, List, [], ◌∷◌}
use Rattle.con_terms.specs.Trees.{Kd, types, row_of, to, Cn, unit_con}
use Rattle.con_terms.specs.Kinded.{Kinded}
use Rattle.core_terms.specs.declared.exp.Sigil.{Sigil}
use Rattle.core_terms.specs.declared.exp.Sigil.TheVariants.{Plain}
use Rattle.core_terms.specs.Datatypes.{nowhere}
use Rattle.core_terms.specs.Trees.{node, Fo, fold_over}
use Rattle.core_typing.specs.Found.{Found}
use Rattle.plain_tree.specs.declared.names.Basis.{Basis}
use Rattle.plain_tree.specs.declared.names.Path.{Path}
use Rattle.plain_tree.specs.declared.names.Sigil as source
use Rattle.plain_tree.specs.Trees.{ConTree, ExpTree, exp, exp_name, exp_builder, exp_basis, item_term, item_con, item_guard, ItemsTree, no_items, more_items}
use Rattle.source_names.specs.Standing.{names_value}
use Rattle.source_names.specs.Reading.{reads_con}
use Rattle.guided_terms.specs.Heres.{Here}
use Rattle.guided_terms.specs.Leaves.{is_sigil, builds, is_sugar}

-- what a call is applied to: terms by their number among its terms, constructors, guards' proofs
pub data Given : Type 0 where
  a_term : ℕ → Given
  a_con : ConTree → Given
  a_guard : Given

abbrev pub givens_from : ℕ → ItemsTree → List Given
givens_from n no_items = []
givens_from n (more_items (item_term e) is) = a_term n ∷ givens_from (n + 1) is
givens_from n (more_items (item_con at c) is) = a_con c ∷ givens_from n is
givens_from n (more_items (item_guard at) is) = a_guard ∷ givens_from n is

-- whether a term is an identifier
abbrev pub is_identifier : ExpTree → Bool
is_identifier (exp at (exp_name g p)) = true
is_identifier (exp at (exp_builder g p)) = true
is_identifier (exp at (exp_basis b)) = true
is_identifier _ = false

-- A form without parts has this type. The type of a function in its own group may be open.
pub record HasType (h : Here) (f : Fo) (t : Cn) : Type 0 where
  pub typed : Found h.types (node nowhere false f) t
  pub told : t ≢ unit_con

-- fold is over rows of the kind that its first argument takes
pub data Folds (h : Here) (k : Kd) : List Given → Type 0 where
  -- fold [c] .., where c :: {k} -> Type
  folds : {c : ConTree} {d : Cn} {gs : List Given}
      (reads : reads_con h.names c d ≡ true)
      (kind : Kinded h.types.kinds d (to (row_of k) types))
      → Folds h k (a_con c ∷ gs)

-- a form is fold only over rows of that kind
abbrev pub IfFold : Here → Fo → List Given → Type 0
IfFold h (fold_over k) gs = Folds h k gs
IfFold h f gs = Unit {0}

-- an identifier that is applied to these, behind this sigil, stands for this form, which has this type
pub data Heads (h : Here) : ExpTree → List Given → Sigil → Fo → Cn → Type 0 where
  -- M.x, @M.x, @@M.x
  a_value : {at : ℕ} {g : source.Sigil} {p : Path} {gs : List Given} {s : Sigil} {f : Fo} {t : Cn}
      (sigil : is_sigil g s ≡ true)
      (name : names_value h.names p f ≡ true)
      (fold : IfFold h f gs)
      (type : HasType h f t)
      → Heads h (exp at (exp_name g p)) gs s f t
  -- M.X, @M.X, @@M.X
  a_constructor : {at : ℕ} {g : source.Sigil} {p : Path} {gs : List Given} {s : Sigil} {f : Fo} {t : Cn}
      (sigil : is_sigil g s ≡ true)
      (name : builds h.names p f ≡ true)
      (type : HasType h f t)
      → Heads h (exp at (exp_builder g p)) gs s f t
  -- what sugar stands for
  some_sugar : {at : ℕ} {b : Basis} {gs : List Given} {f : Fo} {t : Cn}
      (sugar : is_sugar h.names b f ≡ true)
      (type : HasType h f t)
      → Heads h (exp at (exp_basis b)) gs Plain f t
