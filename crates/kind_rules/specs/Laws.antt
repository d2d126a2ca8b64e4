-- Laws of kinds.
use Rattle.std.specs.Prelude.{◌≡◌, Ok, MatchResult}
use Rattle.con_terms.specs.Trees.{Kd, Cn}
use Rattle.con_terms.specs.Equal.{Equal}
use Rattle.con_terms.specs.Kinded.{Scope, Kinded, assume}
use Rattle.kind_rules.specs.Faults.{IsOfComparison}
use Rattle.kind_rules.specs.Causes.{Caused}
use Rattle.kind_rules.specs.Kinding.{kinding}

-- a constructor has one kind only
abbrev pub OneKindOnly : Type 0
OneKindOnly = (G : Scope) (c : Cn) (k l : Kd) → Kinded G c k → Kinded G c l → k ≡ l

-- it keeps its kind under a guard whose sides are equal to those of the one before
abbrev pub EqualGuardKeepsKind : Type 0
EqualGuardKeepsKind =
    (G : Scope) (a b m n c : Cn) (k : Kd)
    → Equal a m
    → Equal b n
    → Kinded (assume m n G) c k
    → Kinded (assume a b G) c k

-- it has the kind that is found for it
abbrev pub FoundIsKinded : Type 0
FoundIsKinded = (G : Scope) (c : Cn) (k : Kd) → kinding G c ≡ Ok k → Kinded G c k

-- where it has a kind, this kind is found, or what keeps two rows from being apart, with its cause
abbrev pub KindIsFound : Type 0
KindIsFound =
    (G : Scope) (c : Cn) (k : Kd)
    → Kinded G c k
    → MatchResult (kinding G c) (λ l. l ≡ k) (λ flaw. IsOfComparison flaw × Caused G c flaw)
