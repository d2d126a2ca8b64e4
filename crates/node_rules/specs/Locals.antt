-- What is found for the declarations of a let, as it is computed, one after another.
use Rattle.std.specs.Prelude.{Bool, true, false, Option, Some, None, Result, Ok, Err}
use Rattle.con_terms.specs.Trees.{Kd, types, Cn}
use Rattle.con_terms.specs.declared.place.Place.{Place}
use Rattle.kind_rules.specs.Flaws.{Flw}
use Rattle.kind_rules.specs.Kinding.{judged_at}
use Rattle.core_typing.specs.Scopes.{Sc}
use Rattle.core_typing.specs.Faults.{Fault}
use Rattle.core_typing.specs.Judged.{flaw_at}
use Rattle.told_faults.specs.Computed.{Jd, first, wants, on_type}

-- whether all declarations so far are found, what is told of their terms, and what is told of themselves
pub record Ls : Type 0 where
  pub found : Bool
  pub kids : Option Fault
  pub own : Option Fault

abbrev pub none_yet : Ls
none_yet = record { found = true; kids = None; own = None }

-- whether a term of a type is found to have the wanted one
abbrev pub is_silent : Option Fault → Bool
is_silent None = true
is_silent (Some f) = false

abbrev pub is_as_wanted : Sc → Place → Cn → Option Cn → Bool
is_as_wanted G q t None = false
is_as_wanted G q t (Some u) = is_silent (wants G q t u)

abbrev pub both_true : Bool → Bool → Bool
both_true true b = b
both_true false b = false

-- a declaration of a type, from its kind: where its type and its term stand, and what is found for the term
abbrev pub of_declared : Sc → Place → Place → Cn → Result Kd Flw → Jd → Ls
of_declared G p q t (Err w) j = record { found = false; kids = j.told; own = Some (flaw_at p G.called w) }
of_declared G p q t (Ok k) j = record {
  found = is_as_wanted G q t j.type;
  kids = j.told;
  own = on_type j.type (wants G q t);
}

abbrev pub and_then_found : Ls → Ls → Ls
and_then_found r s = record {
  found = both_true r.found s.found;
  kids = first r.kids s.kids;
  own = first r.own s.own;
}

-- one more declaration
abbrev pub with_declared : Sc → Place → Place → Cn → Jd → Ls → Ls
with_declared G p q t j r = and_then_found r (of_declared G p q t (judged_at G.kinds t types) j)

-- let d in e end
abbrev pub if_found : Bool → Option Cn → Option Cn
if_found true o = o
if_found false o = None

abbrev pub of_let : Ls → Jd → Jd
of_let r j = record { type = if_found r.found j.type; told = first (first r.kids j.told) r.own }
