-- The datatypes that links carry: the greatest set of those that hold only what the set carries.
use Rattle.std.specs.Prelude.{◌≡◌, ℕ, ◌<◌, get_or, length, Bool, true, false, List, Some, slice_get}
use Rattle.std.specs.List.{Contains}
use Rattle.core_terms.specs.Trees.{Dt}
use Rattle.core_typing.specs.Carried.{IsClosed}
use Rattle.carried_types.specs.Built.{carriers_in, is_carrier, stays}

-- no closed set has another datatype
abbrev pub NoneElse : List Dt → List Bool → Type 0
NoneElse ds bs = (S : List ℕ) → IsClosed ds S → (s : ℕ) → Contains S s → is_carrier ds bs s ≡ true

-- the marked ones are a closed set, and the greatest
pub record AreCarriers (ds : List Dt) (bs : List Bool) : Type 0 where
  pub closed : IsClosed ds (carriers_in ds bs)
  pub greatest : NoneElse ds bs

-- those of the first n datatypes are marked anew that hold only what the old marks carry
abbrev pub MarkedAnew : List Dt → List Bool → ℕ → List Bool → Type 0
MarkedAnew ds old n new = (j : ℕ) (d : Dt) → j < n → slice_get ds j ≡ Some d
    → stays ds old (get_or old j false) d ≡ Some (get_or new j false)

-- the marks of the first n are the same
abbrev pub SameMarks : ℕ → List Bool → List Bool → Type 0
SameMarks n old new = (j : ℕ) → j < n → get_or new j false ≡ get_or old j false

-- the first n are marked
abbrev pub AllMarked : ℕ → List Bool → Type 0
AllMarked n bs = (j : ℕ) → j < n → get_or bs j false ≡ true
