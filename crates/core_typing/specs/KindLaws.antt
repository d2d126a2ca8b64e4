-- Laws of kinds: what stays when constructors are seen from under further binders and guards, and when a
-- constructor is put for a binder.
use Rattle.std.specs.Prelude.{◌≡◌, ℕ, List, ◌∷◌, ◌++◌, Some, length, map}
use Rattle.std.specs.List.{Contains}
use Rattle.con_terms.specs.Trees.{Kd, types, Cn}
use Rattle.con_terms.specs.Substitution.{shift, subst, subst_at}
use Rattle.con_terms.specs.Apart.{Guards}
use Rattle.con_terms.specs.Kinded.{Scope, bind, Kinded}
use Rattle.row_normal.specs.Contracted.{contracted}
use Rattle.row_normal.specs.Steps.{step, reduced}
use Rattle.core_terms.specs.declared.basis.BasisName.{BasisName}
use Rattle.core_terms.specs.declared.basis.TypeName.{TypeName}
use Rattle.core_terms.specs.Basis.{basis_type}
use Rattle.core_terms.specs.BasisTexts.{named_type, named_kind}
use Rattle.core_typing.specs.Scopes.{Sc}
use Rattle.core_typing.specs.Grounded.{HasTypes}

-- guards seen from under so many more binders, from a number on
abbrev pub guards_shifted : ℕ → ℕ → Guards → Guards
guards_shifted by from gs = map (λ (g : Cn × Cn). (shift by g.0 from, shift by g.1 from)) gs

-- guards with a constructor for a number
abbrev pub guards_with : Cn → ℕ → Guards → Guards
guards_with a n gs = map (λ (g : Cn × Cn). (subst_at a g.0 n, subst_at a g.1 n)) gs

-- A constructor has its kind under further binders, put in anywhere among those that are there.
abbrev pub KindsStayUnderBinders : Type 0
KindsStayUnderBinders = (inner outer new : List Kd) (gs : Guards) (basics : List (ℕ × Kd)) (c : Cn) (k : Kd)
    → Kinded (record { binders = inner ++ outer; guards = gs; basics = basics }) c k
    → Kinded (record {
      binders = inner ++ new ++ outer;
      guards = guards_shifted (length new) (length inner) gs;
      basics = basics;
    }) (shift (length new) c (length inner)) k

-- a scope with the same binders and basic names, and at least the guards
pub record Widens (G H : Scope) : Type 0 where
  pub binders : H.binders ≡ G.binders
  pub guards : (g : Cn × Cn) → Contains G.guards g → Contains H.guards g
  pub basics : H.basics ≡ G.basics

-- A constructor has its kind where more guards are assumed.
abbrev pub KindsStayUnderGuards : Type 0
KindsStayUnderGuards = (binders : List Kd) (gs hs : Guards) (basics : List (ℕ × Kd)) (c : Cn) (k : Kd)
    → ((g : Cn × Cn) → Contains gs g → Contains hs g)
    → Kinded (record { binders = binders; guards = gs; basics = basics }) c k
    → Kinded (record { binders = binders; guards = hs; basics = basics }) c k

-- A constructor may be put for a binder of its kind, anywhere among those that are there.
abbrev pub ConstructorsSubstitute : Type 0
ConstructorsSubstitute = (inner outer : List Kd) (l : Kd) (gs : Guards) (basics : List (ℕ × Kd)) (a c : Cn) (k : Kd)
    → Kinded (record { binders = inner ++ outer; guards = guards_with a (length inner) gs; basics = basics }) (shift
    (length inner) a 0) l
    → Kinded (record { binders = inner ++ l ∷ outer; guards = gs; basics = basics }) c k
    → Kinded (record { binders = inner ++ outer; guards = guards_with a (length inner) gs; basics = basics })
    (subst_at a c (length inner)) k

-- So one may be put for the innermost binder.
abbrev pub KindsSubstitute : Type 0
KindsSubstitute = (G : Scope) (l : Kd) (a c : Cn) (k : Kd)
    → Kinded G a l
    → Kinded (bind l G) c k
    → Kinded G (subst c a) k

-- The values of the basis have types, and the types of the basis have their kinds, in every scope of an accepted
-- program.
abbrev pub BasisHasKinds : Type 0
BasisHasKinds = (G : Sc) → HasTypes G
    → ((b : BasisName) → Kinded G.kinds (basis_type b) types) × ((t : TypeName) → Kinded G.kinds (named_type t)
    (named_kind t))

-- A step keeps a constructor's kind.
abbrev pub StepsKeepKinds : Type 0
StepsKeepKinds = (G : Scope) (c d : Cn) (k : Kd) → Kinded G c k → step c ≡ Some d → Kinded G d k

-- So does removing eta redexes.
abbrev pub EtaKeepsKinds : Type 0
EtaKeepsKinds = (G : Scope) (c : Cn) (k : Kd) → Kinded G c k → Kinded G (contracted c) k

-- So what steps leave at last, without eta redexes, has the kind: a normal form before the pieces of its rows are put
-- in order. Of putting them in order this isn't claimed. What a ++ (b ++ c) has is that a is apart from b ++ c, or
-- from a row equal to it; that a is then apart from b would ask that equal rows have equal pieces, which isn't
-- proved.
abbrev pub ReducedKeepsKinds : Type 0
ReducedKeepsKinds = (G : Scope) (c d : Cn) (k : Kd) (room left now : ℕ)
    → Kinded G c k
    → reduced room left c ≡ Some (d, now)
    → Kinded G (contracted d) k
