-- What one item of a call does: it leads from a type to another, or the call ends there, with a fault or without a type.
use Rattle.std.proofs.Common.{◌≡◌, Option, sym, subst}
use Rattle.con_terms.specs.Trees.{Cn}
use Rattle.con_terms.specs.declared.place.Place.{Place}
use Rattle.core_terms.specs.Trees.{Its}
use Rattle.core_typing.specs.Scopes.{Sc}
use Rattle.core_typing.specs.Asks.{no_cover}
use Rattle.core_typing.specs.Faults.{Fault}
use Rattle.core_typing.specs.Found.{Leads}
use Rattle.core_typing.specs.Own.{ItemFault}
pub use Rattle.core_typing.proofs.Excluded.{form_out}
use Rattle.told_faults.specs.Told.{Picks}
use Rattle.told_faults.proofs.Verdict.{picks_as}
use Rattle.node_rules.specs.Calls.{Ft, fits, stuck}

-- the items lead from a type to another and none is at fault; or they lead nowhere, and the first fault is picked
pub data FitIs (G : Sc) (p : Place) (t : Cn) (is : Its) : Ft → Type 0 where
  leads : {u : Cn}
      → Leads no_cover G t is u
      → ((f : Fault) → ItemFault G p t is f → ⊥)
      → FitIs G p t is (fits u)
  ends : {o : Option Fault}
      → ((u : Cn) → Leads no_cover G t is u → ⊥)
      → Picks (ItemFault G p t is) o
      → FitIs G p t is (stuck o)

-- from one type through all items is from another through the items behind the first
pub record LeadsOn (G : Sc) (p : Place) (t d : Cn) (is rest : Its) : Type 0 where
  pub there : (u : Cn) → Leads no_cover G d rest u → Leads no_cover G t is u
  pub back : (u : Cn) → Leads no_cover G t is u → Leads no_cover G d rest u
  pub fault_there : (f : Fault) → ItemFault G p d rest f → ItemFault G p t is f
  pub fault_back : (f : Fault) → ItemFault G p t is f → ItemFault G p d rest f

-- the first item leads on, or the call ends there
pub data ItemIs (G : Sc) (p : Place) (t : Cn) (is rest : Its) : Ft → Type 0 where
  goes : {d : Cn}
      → LeadsOn G p t d is rest
      → ItemIs G p t is rest (fits d)
  halts : {o : Option Fault}
      → ((u : Cn) → Leads no_cover G t is u → ⊥)
      → Picks (ItemFault G p t is) o
      → ItemIs G p t is rest (stuck o)

-- what is computed of the items behind the first, from what the first leaves
pub record Rest (G : Sc) (p : Place) (rest : Its) (F : Ft → Ft) : Type 0 where
  pub stays : (o : Option Fault) → F (stuck o) ≡ stuck o
  pub fit : (d : Cn) → FitIs G p d rest (F (fits d))

fit_from : (G : Sc) (p : Place) (t d : Cn) (is rest : Its) (x : Ft) → LeadsOn G p t d is rest → FitIs G p d rest x → FitIs G p t is x
fit_from G p t d is rest (fits u) l (leads h n) = leads (l.there u h) (λ f x. n f (l.fault_back f x))
fit_from G p t d is rest (stuck o) l (ends n k) =
    ends (λ u x. n u (l.back u x)) (picks_as (ItemFault G p d rest) (ItemFault G p t is) o l.fault_there l.fault_back k)

pub stepped : (G : Sc) (p : Place) (t : Cn) (is rest : Its) (F : Ft → Ft) → Rest G p rest F → (x : Ft) → ItemIs G p t is rest x → FitIs G p t is (F x)
stepped G p t is rest F r (fits d) (goes l) = fit_from G p t d is rest (F (fits d)) l (r.fit d)
stepped G p t is rest F r (stuck o) (halts n k) = subst (λ (z : Ft). FitIs G p t is z) (sym (r.stays o)) (ends n k)
