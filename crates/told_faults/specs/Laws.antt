-- The laws by which a checker's faults are the told ones.
use Rattle.std.specs.Prelude.{◌≡◌, true, false, List, ◌++◌, Option, None}
use Rattle.std.specs.List.{Contains}
use Rattle.con_terms.specs.Trees.{Kd, Cn}
use Rattle.con_terms.specs.declared.place.Place.{Place}
use Rattle.core_terms.specs.Trees.{Ex}
use Rattle.core_typing.specs.Scopes.{Sc}
use Rattle.core_typing.specs.Cover.{Covers}
use Rattle.core_typing.specs.Found.{FoundBy}
use Rattle.core_typing.specs.Judged.{LacksKind}
use Rattle.core_typing.specs.Own.{Own, Wants}
use Rattle.core_typing.specs.Tells.{Sub}
use Rattle.core_typing.specs.Faults.{Fault, Earlier}
use Rattle.core_typing.specs.FaultLaws.{CoverIsDecided, LinksAreDecided}
use Rattle.kind_rules.specs.Kinding.{judged_at}
use Rattle.told_faults.specs.Computed.{sooner, first, flawed, wants, on_type, function_parts, poly_parts, guarded_parts, record_row}
use Rattle.told_faults.specs.Told.{TypeIs, ToldIs, Picks, Nodes, Least, OfType}
use Rattle.told_faults.specs.Heads.{Wanted, Kindly, Function, Poly, Guarded, Rec}

-- The computed order is that of places.
abbrev pub SoonerIsEarlier : Type 0
SoonerIsEarlier = (p q : Place) → (sooner p q ≡ true → Earlier p q) × (sooner p q ≡ false → Earlier p q → ⊥)

-- What a node tells: what its parts tell, unless one of its own faults stands strictly before.
abbrev pub Settles : Type 0
Settles = (G : Sc) (e : Ex) (k o : Option Fault) → Least (Sub G e) k → Picks (Own G e) o → ToldIs G e (first k o)

-- The nodes of a list, and the faults of one.
abbrev pub Among : List (Sc × Ex) → Nodes
Among xs H c = Contains xs (H, c)

abbrev pub OneOf : List Fault → Fault → Type 0
OneOf fs f = Contains fs f

-- Of the nodes of two lists, and of the faults of two lists, the earlier counts.
abbrev pub TwoSets : Type 0
TwoSets = (xs ys : List (Sc × Ex)) (k l : Option Fault)
    → Least (Among xs) k
    → Least (Among ys) l
    → Least (Among (xs ++ ys)) (first k l)

abbrev pub TwoFaults : Type 0
TwoFaults = (fs gs : List Fault) (k l : Option Fault)
    → Picks (OneOf fs) k
    → Picks (OneOf gs) l
    → Picks (OneOf (fs ++ gs)) (first k l)

-- A comparison and a kinding tell their faults.
abbrev pub ComparisonTells : Type 0
ComparisonTells = (G : Sc) (p : Place) (t u : Cn)
    → Wanted G p t u (wants G p t u) × Picks (Wants G p t u) (wants G p t u)

abbrev pub KindingTells : Type 0
KindingTells = (G : Sc) (p : Place) (c : Cn) (k : Kd)
    → Kindly G c k (judged_at G.kinds c k) × Picks (LacksKind G p c k) (flawed G p (judged_at G.kinds c k))

-- What is wanted of a term's type is told where the type is found.
abbrev pub TypesTell : Type 0
TypesTell = (G : Sc) (e : Ex) (p : Place) (w : Cn) (o : Option Cn)
    → TypeIs G e o
    → Picks (OfType G e (λ t. Wants G p w t)) (on_type o (λ t. wants G p w t))

-- The head of a normal form.
abbrev pub HeadsAre : Type 0
HeadsAre = (n : Cn)
    → Function n (function_parts n) × Poly n (poly_parts n) × Guarded n (guarded_parts n) × Rec n (record_row n)

-- Where nothing is told, the term is found with cover, so that no premise fails untold.
abbrev pub SilentIsFound : Type 0
SilentIsFound = CoverIsDecided
    → LinksAreDecided
    → (G : Sc) (e : Ex)
    → ToldIs G e None
    → (t : Cn) × FoundBy Covers G e t
