-- What comparisons and heads of types tell, as it is computed.
use Rattle.std.specs.Prelude.{Bool, false, Option, Some, None, Result, Ok, Err}
use Rattle.con_terms.specs.Trees.{Cn}
use Rattle.con_terms.specs.declared.place.Place.{Place}
use Rattle.row_normal.specs.SameTree.{cn_eq}
use Rattle.kind_rules.specs.Flaws.{Flw}
use Rattle.kind_rules.specs.Compared.{comparison_units, normal_forms, not_apart}
use Rattle.core_typing.specs.Scopes.{Sc}
use Rattle.core_typing.specs.Faults.{Fault, mismatch, too_large}
use Rattle.core_typing.specs.Judged.{flaw_at}
use Rattle.core_typing.specs.Own.{any_record}
use Rattle.told_faults.specs.Computed.{record_row}

-- whether two normal forms are there and are one
abbrev pub same_forms : Result (Cn × Cn) Flw → Bool
same_forms (Err w) = false
same_forms (Ok mn) = cn_eq mn.0 mn.1

abbrev pub are_alike : Cn → Cn → Bool
are_alike a b = same_forms (normal_forms comparison_units a b)

-- the fault of a flaw, where there is one
abbrev pub flaw_told : Sc → Place → Option Flw → Option Fault
flaw_told G p None = None
flaw_told G p (Some w) = Some (flaw_at p G.called w)

-- what keeps two rows from being apart
abbrev pub meets : Sc → Place → Cn → Cn → Option Fault
meets G p a b = flaw_told G p (not_apart G.kinds.guards a b)

-- the head of a type isn't a record's
abbrev pub unless_record : Sc → Place → Cn → Option Cn → Option Fault
unless_record G q n None = Some (mismatch q G.called any_record n)
unless_record G q n (Some r) = None

abbrev pub no_record : Sc → Place → Option Cn → Option Fault
no_record G q None = Some (too_large q)
no_record G q (Some n) = unless_record G q n (record_row n)
