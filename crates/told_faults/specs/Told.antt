-- What a judgement promises, and what is told of sets of faults and of sets of nodes.
use Rattle.std.specs.Prelude.{Option, Some, None}
use Rattle.con_terms.specs.Trees.{Cn}
use Rattle.core_terms.specs.Trees.{Ex}
use Rattle.core_typing.specs.Scopes.{Sc}
use Rattle.core_typing.specs.Found.{Found}
use Rattle.core_typing.specs.Tells.{Fails, Tells}
use Rattle.core_typing.specs.Faults.{Fault, at, Earlier}
use Rattle.told_faults.specs.Computed.{Jd}

-- the type is the one that is found, and there is none where none is
abbrev pub TypeIs : Sc → Ex → Option Cn → Type 0
TypeIs G e None = (t : Cn) → Found G e t → ⊥
TypeIs G e (Some t) = Found G e t

-- the fault is the one that is told, before which none fails, and there is none where none does
abbrev pub ToldIs : Sc → Ex → Option Fault → Type 0
ToldIs G e None = (f : Fault) → Fails G e f → ⊥
ToldIs G e (Some f) = Tells G e f × ((g : Fault) → Fails G e g → Earlier (at g) (at f) → ⊥)

pub record Verdict (G : Sc) (e : Ex) (j : Jd) : Type 0 where
  pub type : TypeIs G e j.type
  pub told : ToldIs G e j.told

-- one of the first of some faults, or there is none
abbrev pub Picks : (Fault → Type 0) → Option Fault → Type 0
Picks P None = (f : Fault) → P f → ⊥
Picks P (Some f) = P f × ((g : Fault) → P g → Earlier (at g) (at f) → ⊥)

-- a set of nodes with their scopes
abbrev pub Nodes : Type 1
Nodes = Sc → Ex → Type 0

-- the first that is told in a set of nodes, or none fails there
abbrev pub Least : Nodes → Option Fault → Type 0
Least N None = (H : Sc) (c : Ex) (g : Fault) → N H c → Fails H c g → ⊥
Least N (Some f) =
    ((H : Sc) × (c : Ex) × N H c × Tells H c f)
    × ((H : Sc) (c : Ex) (g : Fault) → N H c → Fails H c g → Earlier (at g) (at f) → ⊥)

-- two sets of faults, and two sets of nodes
pub data Or (P Q : Fault → Type 0) : Fault → Type 0 where
  or_first : {f : Fault}
      → P f
      → Or P Q f
  or_second : {f : Fault}
      → Q f
      → Or P Q f

pub data Either (N M : Nodes) : Sc → Ex → Type 0 where
  in_first : {H : Sc} {c : Ex}
      → N H c
      → Either N M H c
  in_second : {H : Sc} {c : Ex}
      → M H c
      → Either N M H c

-- one node alone, none, no fault, one fault alone
pub data Only (G : Sc) (e : Ex) : Sc → Ex → Type 0 where
  only : Only G e G e

pub data Nowhere : Sc → Ex → Type 0 where

pub data Never : Fault → Type 0 where

pub data Just (g : Fault) : Fault → Type 0 where
  just : Just g g

-- what has a value, or none
abbrev pub Holds : (Cn → Type 0) → Option Cn → Type 0
Holds P None = (t : Cn) → P t → ⊥
Holds P (Some t) = P t

-- of a term's type
abbrev pub OfType : Sc → Ex → (Cn → Fault → Type 0) → Fault → Type 0
OfType G e P f = (t : Cn) × Found G e t × P t f
