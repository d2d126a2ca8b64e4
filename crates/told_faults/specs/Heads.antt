-- What a comparison, a kinding and a head are, beside what is computed for them.
use Rattle.std.specs.Prelude.{◌≡◌, Bool, Option, Some, None, Result, Ok, Err}
use Rattle.con_terms.specs.Trees.{Kd, Cn, arrow, poly, guarded, record_of}
use Rattle.con_terms.specs.declared.place.Place.{Place}
use Rattle.kind_rules.specs.Flaws.{Flw}
use Rattle.kind_rules.specs.Kinding.{judged_at}
use Rattle.core_typing.specs.Scopes.{Sc}
use Rattle.core_typing.specs.Compared.{Alike}
use Rattle.core_typing.specs.Judged.{HasKind}
use Rattle.core_typing.specs.Faults.{Fault}
use Rattle.core_typing.specs.Own.{Wants, IsFunction, IsPoly, IsGuarded, IsRecord}

-- a type is as wanted, or a fault is told of it
pub data Wanted (G : Sc) (p : Place) (t u : Cn) : Option Fault → Type 0 where
  agree : Alike t u → Wanted G p t u None
  disagree : {f : Fault}
      → Wants G p t u f
      → Wanted G p t u (Some f)

-- a constructor has a kind, or a flaw
pub data Kindly (G : Sc) (c : Cn) (k : Kd) : Result Kd Flw → Type 0 where
  kindly : {l : Kd}
      → HasKind G c k
      → Kindly G c k (Ok l)
  unkind : {w : Flw}
      → judged_at G.kinds c k ≡ Err w
      → Kindly G c k (Err w)

-- a normal form is of a form with these parts, or it isn't of it
pub data Function : Cn → Option (Cn × Cn) → Type 0 where
  function : (a b : Cn) → Function (arrow a b) (Some (a, b))
  no_function : {n : Cn}
      → (IsFunction n → ⊥)
      → Function n None

pub data Poly : Cn → Option (Kd × Cn) → Type 0 where
  a_poly : (i : Bool) (k : Kd) (b : Cn) → Poly (poly i k b) (Some (k, b))
  no_poly : {n : Cn}
      → (IsPoly n → ⊥)
      → Poly n None

pub data Guarded : Cn → Option (Cn × Cn × Cn) → Type 0 where
  a_guarded : (a b c : Cn) → Guarded (guarded a b c) (Some (a, b, c))
  no_guarded : {n : Cn}
      → (IsGuarded n → ⊥)
      → Guarded n None

pub data Rec : Cn → Option Cn → Type 0 where
  a_record : (r : Cn) → Rec (record_of r) (Some r)
  no_rec : {n : Cn}
      → (IsRecord n → ⊥)
      → Rec n None
