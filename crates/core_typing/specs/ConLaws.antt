-- Laws of constructors in typings: a typing seen from under further constructor binders, and with a constructor put
-- for a binder.
-- The Ur/Web Manual, "Expression Typing".
use Rattle.std.specs.Prelude.{◌≡◌, ℕ, List, ◌∷◌, ◌++◌, length, map}
use Rattle.con_terms.specs.Trees.{Kd, types, Cn}
use Rattle.con_terms.specs.Substitution.{replaced, shift, moved, subst, subst_at, put}
use Rattle.con_terms.specs.Kinded.{Kinded}
use Rattle.core_terms.specs.Trees.{Ex, De, Pg}
use Rattle.core_typing.specs.Asks.{Asks, nothing_asked, kinds_asked}
use Rattle.core_typing.specs.Scopes.{Sc, under_con}
use Rattle.core_typing.specs.ConSubstitution.{shift_in, subst_in, subst_in_at}
use Rattle.core_typing.specs.Grounded.{Grounded, HasTypes}
use Rattle.core_typing.specs.Typed.{Typed}
use Rattle.core_typing.specs.Declarations.{values, value_types, datatypes, scope_with}
use Rattle.core_typing.specs.Accepts.{Accepts}

-- the scope with these binders, called so, whose guards and types of variables are walked
abbrev pub scope_replaced : (ℕ → ℕ → Cn) → ℕ → List Kd → List ℕ → Sc → Sc
scope_replaced f n binders called G = record {
  kinds = record {
    binders = binders;
    guards = map (λ (g : Cn × Cn). (replaced f g.0 n, replaced f g.1 n))
        G.kinds.guards;
    basics = G.kinds.basics;
  };
  called = called;
  locals = map (λ t. replaced f t n) G.locals;
  tops = G.tops;
  datatypes = G.datatypes;
  folders = G.folders;
  effects = G.effects;
}

-- of the typings that don't ask for cover
abbrev pub WithoutCover : (Asks → Type 0) → Type 0
WithoutCover F = F nothing_asked × F kinds_asked

-- A typing stays under further constructor binders, put in anywhere among those that are there.
abbrev pub TypingsStayUnderBinders : Type 0
TypingsStayUnderBinders = WithoutCover (λ A. (G : Sc) (inner outer new : List Kd) (called : List ℕ) (e : Ex) (t :
    Cn)
    → Grounded G
    → G.kinds.binders ≡ inner ++ outer
    → Typed A G e t
    → Typed A (scope_replaced (moved (length new)) (length inner) (inner ++ new ++ outer) called G) (shift_in
    (length new) e (length inner)) (shift (length new) t (length inner)))

-- A constructor may be put for a binder of its kind, anywhere among those that are there, in a term and its type.
abbrev pub ConstructorsSubstituteInTerms : Type 0
ConstructorsSubstituteInTerms = WithoutCover (λ A. (G : Sc) (inner outer : List Kd) (called : List ℕ) (l : Kd) (a :
    Cn) (e : Ex) (t : Cn)
    → Grounded G
    → G.kinds.binders ≡ inner ++ l ∷ outer
    → Kinded (scope_replaced (put a) (length inner) (inner ++ outer) called G).kinds (shift (length inner) a 0) l
    → Typed A G e t
    → Typed A (scope_replaced (put a) (length inner) (inner ++ outer) called G) (subst_in_at a e (length inner))
    (subst_at a t (length inner)))

-- So one may be put for the innermost binder: the body of fn [x :: k] => e, at a constructor of kind k, has its
-- type there.
abbrev pub TypingsSubstitute : Type 0
TypingsSubstitute = WithoutCover (λ A. (G : Sc) (x : ℕ) (k : Kd) (c : Cn) (e : Ex) (t : Cn)
    → Grounded G
    → Kinded G.kinds c k
    → Typed A (under_con x k G) e t
    → Typed A G (subst_in e c) (subst t c))

-- The type of a typed term has kind Type, where each type that another is exchanged for has it. Without that it
-- wouldn't: the relation of equality knows no kinds. And for a type that a proved guard is taken off it would ask
-- that equal rows have pieces that are equal one by one, which isn't proved.
abbrev pub TypesHaveKindType : Type 0
TypesHaveKindType = (G : Sc) (e : Ex) (t : Cn) → HasTypes G → Typed kinds_asked G e t → Kinded G.kinds t types

-- The scope behind any front of an accepted program's declarations is grounded, and has no variables; so these laws
-- hold of its values.
abbrev pub AcceptedScopesHaveTypes : Type 0
AcceptedScopesHaveTypes = (p : Pg) (front rest : List De)
    → Accepts p
    → p.decls ≡ front ++ rest
    → HasTypes (scope_with p (value_types (values front)) (datatypes front))
