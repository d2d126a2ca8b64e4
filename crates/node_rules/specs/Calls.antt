-- What is found for calls, as it is computed, item by item.
use Rattle.std.specs.Prelude.{Option, Some, None, Result, Ok, Err}
use Rattle.con_terms.specs.Trees.{Kd, Cn}
use Rattle.con_terms.specs.Substitution.{subst}
use Rattle.con_terms.specs.declared.place.Place.{Place}
use Rattle.kind_rules.specs.Flaws.{Flw}
use Rattle.kind_rules.specs.Kinding.{judged_at}
use Rattle.core_terms.specs.declared.exp.ConOrigin.{ConOrigin}
use Rattle.core_typing.specs.Scopes.{Sc, normal_of}
use Rattle.core_typing.specs.Faults.{Fault, mismatch, too_large}
use Rattle.core_typing.specs.Judged.{flaw_at}
use Rattle.core_typing.specs.Own.{any_function, any_poly, any_guarded, is_implicit}
use Rattle.told_faults.specs.Computed.{Jd, first, wants, function_parts, poly_parts, guarded_parts}
use Rattle.judgements.specs.Comparisons.{meets}

-- the type behind some items; or none, with the fault of an item where there is one
pub data Ft : Type 0 where
  fits : Cn → Ft
  stuck : Option Fault → Ft

-- with what is told of the terms up to there
pub record Pa : Type 0 where
  pub fit : Ft
  pub kids : Option Fault

abbrev pub fit_of : Option Cn → Ft
fit_of None = stuck None
fit_of (Some t) = fits t

-- f
abbrev pub starts : Jd → Pa
starts j = record { fit = fit_of j.type; kids = j.told }

abbrev pub fits_unless : Cn → Option Fault → Ft
fits_unless d None = fits d
fits_unless d (Some f) = stuck (Some f)

-- behind a term: where the function and the term stand, the function's type in normal form, and the term's type
abbrev pub past_argument : Sc → Place → Cn → Cn → Option Cn → Ft
past_argument G q u d None = stuck None
past_argument G q u d (Some c) = fits_unless d (wants G q u c)

abbrev pub past_function : Sc → Place → Place → Cn → Option (Cn × Cn) → Option Cn → Ft
past_function G p q n None c = stuck (Some (mismatch p G.called any_function n))
past_function G p q n (Some ud) c = past_argument G q ud.0 ud.1 c

abbrev pub past_head : Sc → Place → Place → Option Cn → Option Cn → Ft
past_head G p q None c = stuck (Some (too_large p))
past_head G p q (Some n) c = past_function G p q n (function_parts n) c

abbrev pub past_term : Sc → Place → Place → Option Cn → Ft → Ft
past_term G p q c (stuck f) = stuck f
past_term G p q c (fits t) = past_head G p q (normal_of t) c

-- behind a constructor
abbrev pub past_kind : Sc → Place → Cn → Cn → Result Kd Flw → Ft
past_kind G q d c (Err w) = stuck (Some (flaw_at q G.called w))
past_kind G q d c (Ok k) = fits (subst d c)

abbrev pub past_body : Sc → Place → Place → ConOrigin → Cn → Cn → Option (Kd × Cn) → Ft
past_body G p q o c n None = stuck (Some (mismatch p G.called (any_poly (is_implicit o)) n))
past_body G p q o c n (Some kd) = past_kind G q kd.1 c (judged_at G.kinds c kd.0)

abbrev pub past_poly : Sc → Place → Place → ConOrigin → Cn → Option Cn → Ft
past_poly G p q o c None = stuck (Some (too_large p))
past_poly G p q o c (Some n) = past_body G p q o c n (poly_parts n)

abbrev pub past_con : Sc → Place → Place → ConOrigin → Cn → Ft → Ft
past_con G p q o c (stuck f) = stuck f
past_con G p q o c (fits t) = past_poly G p q o c (normal_of t)

-- behind a guard's proof
abbrev pub past_sides : Sc → Place → Place → Cn → Option (Cn × Cn × Cn) → Ft
past_sides G p q n None = stuck (Some (mismatch p G.called any_guarded n))
past_sides G p q n (Some cdb) = fits_unless cdb.2 (meets G q cdb.0 cdb.1)

abbrev pub past_assumed : Sc → Place → Place → Option Cn → Ft
past_assumed G p q None = stuck (Some (too_large p))
past_assumed G p q (Some n) = past_sides G p q n (guarded_parts n)

abbrev pub past_guard : Sc → Place → Place → Ft → Ft
past_guard G p q (stuck f) = stuck f
past_guard G p q (fits t) = past_assumed G p q (normal_of t)

-- items, with what is told of terms
abbrev pub with_term_item : Sc → Place → Place → Jd → Pa → Pa
with_term_item G p q j r = record { fit = past_term G p q j.type r.fit; kids = first r.kids j.told }

abbrev pub with_con_item : Sc → Place → Place → ConOrigin → Cn → Pa → Pa
with_con_item G p q o c r = record { fit = past_con G p q o c r.fit; kids = r.kids }

abbrev pub with_guard_item : Sc → Place → Place → Pa → Pa
with_guard_item G p q r = record { fit = past_guard G p q r.fit; kids = r.kids }

-- f e [c] !
abbrev pub of_fit : Ft → Option Fault → Jd
of_fit (fits t) kids = record { type = Some t; told = kids }
of_fit (stuck o) kids = record { type = None; told = first kids o }

abbrev pub of_call : Pa → Jd
of_call r = of_fit r.fit r.kids
