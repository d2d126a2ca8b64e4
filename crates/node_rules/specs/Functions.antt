-- What is found for functions and for terms with their types, as it is computed.
use Rattle.std.specs.Prelude.{Bool, List, Option, Some, None, option_map, Result, Ok, Err}
use Rattle.con_terms.specs.Trees.{Kd, types, Cn, arrow, poly, guarded}
use Rattle.con_terms.specs.declared.place.Place.{Place}
use Rattle.kind_rules.specs.Flaws.{Flw}
use Rattle.core_typing.specs.Scopes.{Sc}
use Rattle.core_typing.specs.Faults.{Fault}
use Rattle.core_typing.specs.Judged.{flaw_at}
use Rattle.told_faults.specs.Computed.{Jd, faulty, first, flawed, wants, on_type}
use Rattle.judgements.specs.Bindings.{Bd, bind_these, bad_pattern}

-- fn p => e, from what its body has, and what cover tells
abbrev pub of_body : Cn → Option Fault → Jd → Jd
of_body t own body = record { type = option_map (arrow t) body.type; told = first body.told own }

-- from the parameter's kind, what its pattern binds, and what cover tells
abbrev pub of_bound : Cn → Bd → Option Fault → (List Cn → Jd) → Jd
of_bound t (bad_pattern f) own go = faulty f
of_bound t (bind_these l) own go = of_body t own (go l)

abbrev pub of_fn : Sc → Place → Cn → Result Kd Flw → Bd → Option Fault → (List Cn → Jd) → Jd
of_fn G p t (Err w) b own go = faulty (flaw_at p G.called w)
of_fn G p t (Ok k) b own go = of_bound t b own go

-- fn [x :: k] => e
abbrev pub of_fn_con : Bool → Kd → Jd → Jd
of_fn_con i k body = record { type = option_map (poly i k) body.type; told = body.told }

-- fn [c ~ d] => e
abbrev pub of_assuming : Cn → Cn → Jd → Jd
of_assuming c d body = record { type = option_map (guarded c d) body.type; told = body.told }

abbrev pub of_fn_guard : Sc → Place → Cn → Cn → Result (Cn × Cn) Flw → (Cn → Cn → Jd) → Jd
of_fn_guard G p c d (Err w) go = faulty (flaw_at p G.called w)
of_fn_guard G p c d (Ok mn) go = of_assuming c d (go mn.0 mn.1)

-- (e : t)
abbrev pub unless_told : Cn → Option Fault → Option Cn
unless_told t None = Some t
unless_told t (Some f) = None

abbrev pub written : Sc → Place → Cn → Option Cn → Option Cn
written G q t None = None
written G q t (Some u) = unless_told t (wants G q t u)

abbrev pub of_ascribed : Sc → Place → Place → Cn → Result Kd Flw → Jd → Jd
of_ascribed G p q t (Err w) j = record { type = None; told = first j.told (Some (flaw_at p G.called w)) }
of_ascribed G p q t (Ok k) j = record {
  type = written G q t j.type;
  told = first j.told (on_type j.type (wants G q t));
}
