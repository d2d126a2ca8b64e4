-- What the refusals of `kind_of` tell.
use Rattle.std.specs.Prelude.{◌≡◌, ◌≢◌, Result, Ok, Err, MatchResult}
use Rattle.con_terms.specs.Trees.{Kd}
use Rattle.con_terms.specs.View.{kind_tree, con_tree}
use Rattle.con_terms.specs.declared.place.Place.{Place}
use Rattle.con_terms.specs.declared.kind.Kind.{Kind}
use Rattle.kind_rules.specs.Flaws.{Flw, unbound_variable, unbound_basic, kinds_differ, pieces_touch, too_large}
use Rattle.kind_rules.specs.declared.fault.KindFault.{KindFault}
use Rattle.kind_rules.specs.declared.fault.KindFault.TheVariants.{Unbound, KindMismatch, NotDisjoint, TooLarge, Memory}

-- a variable or a basic name isn't bound
abbrev pub IsUnbound : Result Kd Flw → Type 0
IsUnbound (Err (unbound_variable i)) = Unit {0}
IsUnbound (Err (unbound_basic s)) = Unit {0}
IsUnbound _ = ⊥

-- the fault stands at this place and tells what is told; want of memory tells nothing
abbrev pub Refuses : Place → KindFault → Result Kd Flw → Type 0
Refuses at (Unbound p) told = (p ≡ at) × IsUnbound told
Refuses at (KindMismatch p wanted found) told =
    (p ≡ at) × (told ≡ Err (kinds_differ (kind_tree wanted) (kind_tree found)))
Refuses at (NotDisjoint p pieces) told =
    (p ≡ at) × (told ≡ Err (pieces_touch (con_tree pieces.left) (con_tree pieces.right)))
Refuses at (TooLarge p) told = (p ≡ at) × (told ≡ Err too_large)
Refuses at Memory told = Unit {0}

-- the call answers what is told: a kind, or its fault at this place; or it wants memory
abbrev pub Gives : Place → Result Kind KindFault → Result Kd Flw → Type 0
Gives at result told = MatchResult result (λ k. told ≡ Ok (kind_tree k)) (λ fault. Refuses at fault told)

-- the kinds of a mismatch differ
abbrev pub KeepsTwoKinds : KindFault → Type 0
KeepsTwoKinds (KindMismatch p wanted found) = kind_tree wanted ≢ kind_tree found
KeepsTwoKinds _ = Unit {0}

-- what keeps two rows from being apart
abbrev pub IsOfComparison : Flw → Type 0
IsOfComparison (pieces_touch p q) = Unit {0}
IsOfComparison too_large = Unit {0}
IsOfComparison _ = ⊥

-- neither an unbound name nor a mismatch
abbrev pub TellsComparison : KindFault → Type 0
TellsComparison (Unbound p) = ⊥
TellsComparison (KindMismatch p wanted found) = ⊥
TellsComparison _ = Unit {0}
