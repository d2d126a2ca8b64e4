-- What a call's items are while they are found: unknowns, what was written, and arguments with or without a type.
use Rattle.std.specs.Prelude.{ℕ, zero, suc, ◌-◌, ◌==◌, Bool, true, false, List, [], ◌∷◌, Option, Some, None, if◌then◌else◌}
use Rattle.con_terms.specs.Trees.{Cn, arrow, app, basic}
use Rattle.con_terms.specs.Substitution.{shift}
use Rattle.core_terms.specs.declared.exp.ConOrigin.{ConOrigin}
use Rattle.core_terms.specs.Names.{xml_name}
use Rattle.core_terms.specs.Trees.{Ex}
use Rattle.unknowns.specs.Unknowns.{Fd, slot, count_of, answer_of, known, told}
use Rattle.unknowns.specs.Unknowns as unknown
use Rattle.guided_terms.specs.Heres.{Here}
use Rattle.guided_terms.specs.Wanted.{Want, nothing_yet, whole, takes, stands_in, Judge}

-- a type of the walk, as it is seen under so many unknowns
pub record Pattern : Type 0 where
  pub con : Cn
  pub under : ℕ

-- what an argument is judged: a term and its type
pub record Told : Type 0 where
  pub term : Ex
  pub type : Cn

pub data Part : Type 0 where
  -- the constructor that is found for an unknown, before which so many were bound
  a_found : ConOrigin → ℕ → Part
  -- [c]
  a_written : Cn → Part
  -- a guard's proof, with the guard's sides, and whether it is inserted
  a_proof : Bool → Pattern → Pattern → Part
  -- a folder or an instance of this type
  an_implied : Pattern → Part
  -- an argument with its type, at a parameter of this type, and whether these were matched
  a_told : Told → Pattern → Bool → Part
  -- the argument with this number, which has no type yet, at a parameter of this type
  a_later : ℕ → Pattern → Part

-- a type of the walk, as it is seen under all unknowns so far
abbrev pub raised : Fd → Pattern → Cn
raised f p = shift (count_of f - p.under) p.con 0

abbrev pub seen_under : Fd → Cn → Pattern
seen_under f c = record { con = c; under = count_of f }

-- what is found for the unknown before which so many were bound
abbrev pub found_at : Fd → ℕ → Option Cn
found_at f n = answer_of f (count_of f - suc n)

-- something is found for each unknown
abbrev pub AllFound : Fd → Type 0
AllFound unknown.nothing = Unit {0}
AllFound (slot k None f) = ⊥
AllFound (slot k (Some a) f) = AllFound f

-- a type, where nothing of it is open
abbrev pub if_known : Fd → Cn → Option Cn
if_known f c = if known f c 0 then Some (told f c) else None

-- What is known of the type that is wanted of an argument, by its parameter's type: all of it, where no unknown is
-- left; of a function the types of its leading parameters; of a page where it stands.
abbrev pub function_want : Fd → Cn → Want
function_want f (arrow a b) =
    if known f (arrow a b) 0 then whole (told f (arrow a b)) else
    (if known f a 0 then takes (told f a) (function_want f b) else nothing_yet)
function_want f c = if known f c 0 then whole (told f c) else nothing_yet

abbrev pub open_want : Fd → Cn → Want
open_want f (arrow a b) = function_want f (arrow a b)
open_want f (app (app (app (basic s) c) u) b) =
    if s == xml_name then (if known f c 0 then stands_in (told f c) (if_known f u) else nothing_yet) else nothing_yet
open_want f c = nothing_yet

abbrev pub want_of : Fd → Cn → Want
want_of f c = if known f c 0 then whole (told f c) else open_want f (unknown.filled f c)

-- what is judged of the argument with this number
abbrev pub gives : List Judge → ℕ → Here → Want → Ex → Cn → Type 0
gives [] i h w e t = ⊥
gives (j ∷ js) zero h w e t = j h w e t
gives (j ∷ js) (suc i) h w e t = gives js i h w e t

-- whether the argument waits for its type, or has one that isn't matched
abbrev pub is_later : Part → Bool
is_later (a_later i p) = true
is_later _ = false

abbrev pub is_unmatched : Part → Bool
is_unmatched (a_told e p false) = true
is_unmatched _ = false

-- no argument waits
abbrev pub none_waits : List Part → Bool
none_waits [] = true
none_waits (p ∷ ps) = if is_later p then false else none_waits ps

-- the argument with this number has its type
abbrev pub told_at : ℕ → Told → Part → Part
told_at i e (a_later j p) = if i == j then a_told e p false else a_later j p
told_at i e p = p

abbrev pub with_told : ℕ → Told → List Part → List Part
with_told i e [] = []
with_told i e (p ∷ ps) = told_at i e p ∷ with_told i e ps
