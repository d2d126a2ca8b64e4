-- What is told of names, literals and constructors.
use Rattle.std.proofs.Common.{◌≡◌, ℕ, ◌<◌, ℤ, Bool, true, false, List, Option, Some, None, nat_lt, slice_get, if◌then◌else◌, refl, arith, ap, ◌∙◌}
use Rattle.std.proofs.lemmas.Bool.{ltb-true, ltb-false}
use Rattle.con_terms.specs.Trees.{Kd, Cn, arrow}
use Rattle.con_terms.specs.declared.place.Place.{Place}
use Rattle.core_terms.specs.declared.basis.BasisName.{BasisName}
use Rattle.core_terms.specs.Trees.{Ex, node, bound, top, foreign, basis, fold_over, number, text, built, Cd, Dt}
use Rattle.core_terms.specs.Types.{int_type, string_type, unit_type, transaction_of}
use Rattle.core_terms.specs.Basis.{basis_type, fold_type}
use Rattle.core_terms.specs.Datatypes.{datatype_of, constructor_type}
use Rattle.core_typing.specs.Scopes.{Sc, folder_of}
use Rattle.core_typing.specs.Faults.{Fault, at, unbound, a_variable, a_value, an_effect, a_constructor, a_folder}
use Rattle.core_typing.specs.Found.{Found, bound_has, top_has, foreign_has, basis_has, fold_has, number_has, text_has, built_has}
use Rattle.core_typing.specs.Own.{Own, no_variable, no_value, no_effect, no_fold, no_constructor}
use Rattle.core_typing.specs.Tells.{Sub}
use Rattle.core_typing.proofs.OneType.{one_value}
use Rattle.told_faults.specs.Computed.{typed, faulty}
use Rattle.told_faults.specs.Told.{Verdict}
use Rattle.told_faults.proofs.Parts.{at_one}
use Rattle.judgements.specs.Bindings.{of_name}
use Rattle.node_rules.specs.Names.{of_variable, of_top, of_foreign, of_basis, of_number, of_text, of_fold_at, of_fold, of_constructor, of_datatype, of_built}
use Rattle.told_terms.proofs.Verdicts.{no_part, only_faulty}
use Rattle.told_terms.proofs.Tests as tests

-- a node without parts that has a type and no fault, or a fault and no type
leaf_typed : (G : Sc) (e : Ex) (t : Cn) → Found G e t → ((H : Sc) (c : Ex) → Sub G e H c → ⊥) → ((f : Fault) → Own G e f → ⊥) → Verdict G e (typed t)
leaf_typed G e t x n o = no_part G e (Some t) None x n o

leaf_faulty : (G : Sc) (e : Ex) (p : Place) (f : Fault) → ((t : Cn) → Found G e t → ⊥) → ((H : Sc) (c : Ex) → Sub G e H c → ⊥) → ((g : Fault) → Own G e g → at g ≡ p) → Own G e f → Verdict G e (faulty f)
leaf_faulty G e p f x n a o = only_faulty G e f x n (at_one (Own G e) p f a o)

-- x
variable_told_by : (G : Sc) (p : Place) (a : Bool) (i : ℕ) (o : Option Cn) → slice_get G.locals i ≡ o → Verdict G (node p a (bound i)) (of_name (unbound p (a_variable i)) o)
variable_told_by G p a i None k = leaf_faulty G (node p a (bound i)) p (unbound p (a_variable i)) untyped no_sub stands (no_variable k)
  where
    untyped : (t : Cn) → Found G (node p a (bound i)) t → ⊥
    untyped t (bound_has h) = tests.no_value k h

    no_sub : (H : Sc) (c : Ex) → Sub G (node p a (bound i)) H c → ⊥
    no_sub H c s = elim s [ ]

    stands : (g : Fault) → Own G (node p a (bound i)) g → at g ≡ p
    stands g (no_variable h) = refl
variable_told_by G p a i (Some t) k = leaf_typed G (node p a (bound i)) t (bound_has k) no_sub silent
  where
    no_sub : (H : Sc) (c : Ex) → Sub G (node p a (bound i)) H c → ⊥
    no_sub H c s = elim s [ ]

    silent : (g : Fault) → Own G (node p a (bound i)) g → ⊥
    silent g (no_variable h) = tests.no_value h k

pub variable_told : (G : Sc) (p : Place) (a : Bool) (i : ℕ) → Verdict G (node p a (bound i)) (of_variable G p i)
variable_told G p a i = variable_told_by G p a i (slice_get G.locals i) refl

-- M.x
top_told_by : (G : Sc) (p : Place) (a : Bool) (i : ℕ) (o : Option Cn) → slice_get G.tops i ≡ o → Verdict G (node p a (top i)) (of_name (unbound p (a_value i)) o)
top_told_by G p a i None k = leaf_faulty G (node p a (top i)) p (unbound p (a_value i)) untyped no_sub stands (no_value k)
  where
    untyped : (t : Cn) → Found G (node p a (top i)) t → ⊥
    untyped t (top_has h) = tests.no_value k h

    no_sub : (H : Sc) (c : Ex) → Sub G (node p a (top i)) H c → ⊥
    no_sub H c s = elim s [ ]

    stands : (g : Fault) → Own G (node p a (top i)) g → at g ≡ p
    stands g (no_value h) = refl
top_told_by G p a i (Some t) k = leaf_typed G (node p a (top i)) t (top_has k) no_sub silent
  where
    no_sub : (H : Sc) (c : Ex) → Sub G (node p a (top i)) H c → ⊥
    no_sub H c s = elim s [ ]

    silent : (g : Fault) → Own G (node p a (top i)) g → ⊥
    silent g (no_value h) = tests.no_value h k

pub top_told : (G : Sc) (p : Place) (a : Bool) (i : ℕ) → Verdict G (node p a (top i)) (of_top G p i)
top_told G p a i = top_told_by G p a i (slice_get G.tops i) refl

-- M.f
foreign_told_by : (G : Sc) (p : Place) (a : Bool) (i : ℕ) (b : Bool) → nat_lt i G.effects ≡ b → Verdict G (node p a (foreign i)) (if b then typed (arrow string_type (transaction_of unit_type)) else faulty (unbound p (an_effect i)))
foreign_told_by G p a i true k = leaf_typed G (node p a (foreign i)) (arrow string_type (transaction_of unit_type)) (foreign_has (ltb-true i G.effects k)) no_sub silent
  where
    no_sub : (H : Sc) (c : Ex) → Sub G (node p a (foreign i)) H c → ⊥
    no_sub H c s = elim s [ ]

    silent : (g : Fault) → Own G (node p a (foreign i)) g → ⊥
    silent g (no_effect h) = h (ltb-true i G.effects k)
foreign_told_by G p a i false k = leaf_faulty G (node p a (foreign i)) p (unbound p (an_effect i)) untyped no_sub stands (no_effect none)
  where
    none : i < G.effects → ⊥
    none h = let l = ltb-false i G.effects k in omega (arith, h, l)

    untyped : (t : Cn) → Found G (node p a (foreign i)) t → ⊥
    untyped t (foreign_has h) = none h

    no_sub : (H : Sc) (c : Ex) → Sub G (node p a (foreign i)) H c → ⊥
    no_sub H c s = elim s [ ]

    stands : (g : Fault) → Own G (node p a (foreign i)) g → at g ≡ p
    stands g (no_effect h) = refl

pub foreign_told : (G : Sc) (p : Place) (a : Bool) (i : ℕ) → Verdict G (node p a (foreign i)) (of_foreign G p i)
foreign_told G p a i = foreign_told_by G p a i (nat_lt i G.effects) refl

-- a name of the basis, and literals
pub basis_told : (G : Sc) (p : Place) (a : Bool) (b : BasisName) → Verdict G (node p a (basis b)) (of_basis b)
basis_told G p a b = leaf_typed G (node p a (basis b)) (basis_type b) basis_has no_sub silent
  where
    no_sub : (H : Sc) (c : Ex) → Sub G (node p a (basis b)) H c → ⊥
    no_sub H c s = elim s [ ]

    silent : (g : Fault) → Own G (node p a (basis b)) g → ⊥
    silent g o = elim o [ ]

pub number_told : (G : Sc) (p : Place) (a : Bool) (z : ℤ) → Verdict G (node p a (number z)) of_number
number_told G p a z = leaf_typed G (node p a (number z)) int_type number_has no_sub silent
  where
    no_sub : (H : Sc) (c : Ex) → Sub G (node p a (number z)) H c → ⊥
    no_sub H c s = elim s [ ]

    silent : (g : Fault) → Own G (node p a (number z)) g → ⊥
    silent g o = elim o [ ]

pub text_told : (G : Sc) (p : Place) (a : Bool) (w : List ℕ) → Verdict G (node p a (text w)) of_text
text_told G p a w = leaf_typed G (node p a (text w)) string_type text_has no_sub silent
  where
    no_sub : (H : Sc) (c : Ex) → Sub G (node p a (text w)) H c → ⊥
    no_sub H c s = elim s [ ]

    silent : (g : Fault) → Own G (node p a (text w)) g → ⊥
    silent g o = elim o [ ]

-- fold
fold_told_by : (G : Sc) (p : Place) (a : Bool) (k : Kd) (o : Option ℕ) → folder_of G.folders k ≡ o → Verdict G (node p a (fold_over k)) (of_fold_at p k o)
fold_told_by G p a k None e = leaf_faulty G (node p a (fold_over k)) p (unbound p (a_folder k)) untyped no_sub stands (no_fold e)
  where
    untyped : (t : Cn) → Found G (node p a (fold_over k)) t → ⊥
    untyped t (fold_has h) = tests.no_value e h

    no_sub : (H : Sc) (c : Ex) → Sub G (node p a (fold_over k)) H c → ⊥
    no_sub H c s = elim s [ ]

    stands : (g : Fault) → Own G (node p a (fold_over k)) g → at g ≡ p
    stands g (no_fold h) = refl
fold_told_by G p a k (Some s) e = leaf_typed G (node p a (fold_over k)) (fold_type k s) (fold_has e) no_sub silent
  where
    no_sub : (H : Sc) (c : Ex) → Sub G (node p a (fold_over k)) H c → ⊥
    no_sub H c s = elim s [ ]

    silent : (g : Fault) → Own G (node p a (fold_over k)) g → ⊥
    silent g (no_fold h) = tests.no_value h e

pub fold_told : (G : Sc) (p : Place) (a : Bool) (k : Kd) → Verdict G (node p a (fold_over k)) (of_fold G p k)
fold_told G p a k = fold_told_by G p a k (folder_of G.folders k) refl

-- C: no datatype of this symbol has a constructor of this number
abbrev NoneBuilt : Sc → ℕ → ℕ → Type 0
NoneBuilt G s j = (d : Dt) (c : Cd) → datatype_of G.datatypes s ≡ Some d → slice_get d.constructors j ≡ Some c → ⊥

none_built : (G : Sc) (p : Place) (a : Bool) (s j : ℕ) → NoneBuilt G s j → Verdict G (node p a (built s j)) (faulty (unbound p (a_constructor s j)))
none_built G p a s j n = leaf_faulty G (node p a (built s j)) p (unbound p (a_constructor s j)) untyped no_sub stands (no_constructor n)
  where
    untyped : (t : Cn) → Found G (node p a (built s j)) t → ⊥
    untyped t (built_has {d = d} {c = c} h k) = n d c h k

    no_sub : (H : Sc) (c : Ex) → Sub G (node p a (built s j)) H c → ⊥
    no_sub H c x = elim x [ ]

    stands : (g : Fault) → Own G (node p a (built s j)) g → at g ≡ p
    stands g (no_constructor h) = refl

one_built : (G : Sc) (p : Place) (a : Bool) (s j : ℕ) (d : Dt) (c : Cd) → datatype_of G.datatypes s ≡ Some d → slice_get d.constructors j ≡ Some c → Verdict G (node p a (built s j)) (typed (constructor_type d c))
one_built G p a s j d c h k = leaf_typed G (node p a (built s j)) (constructor_type d c) (built_has h k) no_sub silent
  where
    no_sub : (H : Sc) (b : Ex) → Sub G (node p a (built s j)) H b → ⊥
    no_sub H b x = elim x [ ]

    silent : (g : Fault) → Own G (node p a (built s j)) g → ⊥
    silent g (no_constructor n) = n d c h k

constructor_told : (G : Sc) (p : Place) (a : Bool) (s j : ℕ) (d : Dt) (o : Option Cd) → datatype_of G.datatypes s ≡ Some d → slice_get d.constructors j ≡ o → Verdict G (node p a (built s j)) (of_constructor (unbound p (a_constructor s j)) d o)
constructor_told G p a s j d None e k = none_built G p a s j none
  where
    none : NoneBuilt G s j
    none b c h l = tests.no_value k (ap (λ (x : Dt). slice_get x.constructors j) (one_value e h) ∙ l)
constructor_told G p a s j d (Some c) e k = one_built G p a s j d c e k

datatype_told : (G : Sc) (p : Place) (a : Bool) (s j : ℕ) (o : Option Dt) → datatype_of G.datatypes s ≡ o → Verdict G (node p a (built s j)) (of_datatype (unbound p (a_constructor s j)) j o)
datatype_told G p a s j None e = none_built G p a s j (λ d c h k. tests.no_value e h)
datatype_told G p a s j (Some d) e = constructor_told G p a s j d (slice_get d.constructors j) e refl

pub built_told : (G : Sc) (p : Place) (a : Bool) (s j : ℕ) → Verdict G (node p a (built s j)) (of_built G p s j)
built_told G p a s j = datatype_told G p a s j (datatype_of G.datatypes s) refl
