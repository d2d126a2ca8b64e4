-- What is found for a case from what is found for its branches, as it is computed, and what is told of patterns that
-- don't cover a type.
use Rattle.std.specs.Prelude.{Bool, true, false, List, Option, Some, None, option_map}
use Rattle.con_terms.specs.Trees.{Cn}
use Rattle.con_terms.specs.declared.place.Place.{Place}
use Rattle.core_terms.specs.Trees.{Pt}
use Rattle.core_typing.specs.Scopes.{Sc}
use Rattle.core_typing.specs.Cover.{Shp, TooLargeIn, levels, Misses, Covers}
use Rattle.core_typing.specs.Faults.{Fault, too_large, inexhaustive}
use Rattle.told_faults.specs.Computed.{Jd, first, wants}
use Rattle.match_cover.specs.Why.{Why, is_large, is_missed, why_not}

-- why patterns don't cover a type, as a fault
abbrev pub told_why : Sc → Place → Why → Fault
told_why G p is_large = too_large p
told_why G p (is_missed s) = inexhaustive p G.called s

-- what keeps patterns from covering a type
abbrev pub uncovered : Sc → Place → List Pt → Cn → Option Fault
uncovered G p ps t = option_map (told_why G p) (why_not G.datatypes ps t)

-- what may be told of patterns that don't cover a type
pub data Misfit (G : Sc) (p : Place) (ps : List Pt) (t : Cn) : Fault → Type 0 where
  -- the type, or that of a part that the patterns look at
  large : TooLargeIn G.datatypes (levels ps) t → Misfit G p ps t (too_large p)
  shape : {s : Shp}
      → (TooLargeIn G.datatypes (levels ps) t → ⊥)
      → Misses G.datatypes ps t s
      → Misfit G p ps t (inexhaustive p G.called s)

-- nothing is told where patterns cover the type, and what is told is so
abbrev pub Uncovered : Sc → Place → List Pt → Cn → Option Fault → Type 0
Uncovered G p ps t None = Covers G.datatypes ps t
Uncovered G p ps t (Some f) = Misfit G p ps t f

-- a branch: its pattern is at fault, or its body is judged
pub data Br : Type 0 where
  bad_branch : Fault → Br
  judged_branch : Jd → Br

-- the type of the first branch, whether the later ones are found to have it, whether all patterns are found, what is
-- told of the bodies, and what is told of the case itself
pub record Cs : Type 0 where
  pub type : Option Cn
  pub alike : Bool
  pub bound : Bool
  pub kids : Option Fault
  pub own : Option Fault

abbrev pub first_case : Br → Cs
first_case (bad_branch f) = record { type = None; alike = true; bound = false; kids = None; own = Some f }
first_case (judged_branch j) = record { type = j.type; alike = true; bound = true; kids = j.told; own = None }

-- what a later branch's type tells, beside that of the first
abbrev pub differs : Sc → Place → Option Cn → Option Cn → Option Fault
differs G q (Some u) (Some v) = wants G q u v
differs G q _ _ = None

-- whether all have the type of the first, where a later branch is behind others: both have a type, and nothing is told
abbrev pub stays_alike : Bool → Option Cn → Option Cn → Option Fault → Bool
stays_alike alike (Some u) (Some v) None = alike
stays_alike alike _ _ _ = false

-- one more branch, whose body stands at a place
abbrev pub with_case : Sc → Place → Br → Cs → Cs
with_case G q (bad_branch f) c = record {
  type = c.type;
  alike = false;
  bound = false;
  kids = c.kids;
  own = first c.own (Some f);
}
with_case G q (judged_branch j) c = record {
  type = c.type;
  alike = stays_alike c.alike c.type j.type (differs G q c.type j.type);
  bound = c.bound;
  kids = first c.kids j.told;
  own = first c.own (differs G q c.type j.type);
}

abbrev pub if_true : Bool → Option Cn → Option Cn
if_true true o = o
if_true false o = None

-- the whole, where what cover tells counts if all patterns are found
abbrev pub of_case : Option Fault → Cs → Option Fault → Jd
of_case matched c told = record {
  type = if_true c.alike c.type;
  told = first (first matched c.kids) (first c.own told);
}
