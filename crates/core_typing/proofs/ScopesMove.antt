-- Scopes of terms under a walk over constructors, and what of them stays.
use Rattle.std.proofs.Common.{◌≡◌, ℕ, zero, suc, ◌+◌, ◌≤◌, List, ◌∷◌, ◌++◌, length, map, Option, Some, option_map, slice_get, Bool, true, false, if◌then◌else◌, refl, ap, sym, subst, ◌∙◌, arith, []}
use Rattle.std.proofs.lemmas.Option.{slice_get-map}
use Rattle.std.proofs.lemmas.List.{length-map, length-append}
use Rattle.con_terms.specs.Trees.{Kd, types, Cn, app}
use Rattle.con_terms.specs.Substitution.{replaced, shift}
use Rattle.con_terms.specs.Substitution as walk
use Rattle.con_terms.specs.Kinded.{Scope, basic_kind, Kinded}
use Rattle.core_terms.specs.declared.basis.BasisName.{BasisName}
use Rattle.core_terms.specs.Trees.{Pt, Cd, Dt, arity}
use Rattle.core_typing.specs.Asks.{Asks}
use Rattle.core_terms.specs.Types.{at_types, type_taking}
use Rattle.core_terms.specs.Basis.{basis_type, fold_type}
use Rattle.core_terms.specs.Datatypes.{datatype_of, put_all, reversed, held_at, constructor_type}
use Rattle.core_typing.specs.Scopes.{Sc, under, under_con, under_guard}
use Rattle.core_typing.specs.ConSubstitution.{pattern_replaced}
use Rattle.core_typing.specs.Grounded.{Grounded, so_many_types, at_top}
use Rattle.std.specs.List.{Contains}
use Rattle.core_typing.proofs.Moving.{Walks, Images, Moves, moves_deeper, moves_assumed}
use Rattle.core_typing.proofs.Closed.{closed}
use Rattle.core_typing.proofs.BasisKinds.{basis_kind, fold_kind, constructor_kind}
use Rattle.std.proofs.lemmas.List.{map-append}
pub use Rattle.core_typing.proofs.Matched.{symbol_of as found_symbol}

-- a walk that keeps what a typing asks
pub record Goes (A : Asks) (I : Scope → Cn → Kd → Type 0) (f : ℕ → ℕ → Cn) : Type 0 where
  pub images : Images I
  pub walks : Walks f
  pub exchange : {n : ℕ} {G H : Scope} {t : Cn} → Moves I f n G H → A.exchange G t → A.exchange H (replaced f t n)
  pub cover : (n : ℕ) (ds : List Dt) (ps : List Pt) (t : Cn) → A.cover ds ps t → A.cover ds (map (λ p. pattern_replaced f p n) ps) (replaced f t n)

-- a scope, and what the walk makes of it
pub record Walked (I : Scope → Cn → Kd → Type 0) (f : ℕ → ℕ → Cn) (n : ℕ) (G H : Sc) : Type 0 where
  pub kinds : Moves I f n G.kinds H.kinds
  pub locals : H.locals ≡ map (λ t. replaced f t n) G.locals
  pub tops : H.tops ≡ G.tops
  pub datatypes : H.datatypes ≡ G.datatypes
  pub folders : H.folders ≡ G.folders
  pub effects : H.effects ≡ G.effects
  pub grounded : Grounded G

-- what is grounded stays so under variables, constructor variables and guards
pub grounded_under : {G : Sc} (ts : List Cn) → Grounded G → Grounded (under ts G)
grounded_under ts g = record { tops = g.tops; held = g.held; datatypes = g.datatypes; folders = g.folders; basis = g.basis; bools = g.bools; options = g.options; lists = g.lists }

pub grounded_con : {G : Sc} {x : ℕ} (k : Kd) → Grounded G → Grounded (under_con x k G)
grounded_con k g = record { tops = g.tops; held = g.held; datatypes = g.datatypes; folders = g.folders; basis = g.basis; bools = g.bools; options = g.options; lists = g.lists }

pub grounded_guard : {G : Sc} (c d : Cn) → Grounded G → Grounded (under_guard c d G)
grounded_guard c d g = record { tops = g.tops; held = g.held; datatypes = g.datatypes; folders = g.folders; basis = g.basis; bools = g.bools; options = g.options; lists = g.lists }

pub walked_under : {I : Scope → Cn → Kd → Type 0} {f : ℕ → ℕ → Cn} {n : ℕ} {G H : Sc} (ts : List Cn) → Walked I f n G H → Walked I f n (under ts G) (under (map (λ t. replaced f t n) ts) H)
walked_under {I} {f} {n} {G} {H} ts w = record {
  kinds = w.kinds;
  locals = ap (λ xs. map (λ t. replaced f t n) ts ++ xs) w.locals ∙ sym (map-append (λ t. replaced f t n) ts G.locals);
  tops = w.tops;
  datatypes = w.datatypes;
  folders = w.folders;
  effects = w.effects;
  grounded = grounded_under ts w.grounded;
}

locals_meet : {f : ℕ → ℕ → Cn} → Walks f → (n : ℕ) (ts : List Cn) → map (λ t. shift 1 t 0) (map (λ t. replaced f t n) ts) ≡ map (λ t. replaced f t (n + 1)) (map (λ t. shift 1 t 0) ts)
locals_meet w n [] = refl
locals_meet {f} w n (t ∷ ts) = ap (λ x. x ∷ map (λ t. shift 1 t 0) (map (λ t. replaced f t n) ts)) (w.raised 1 t n) ∙ ap (λ xs. replaced f (shift 1 t 0) (n + 1) ∷ xs) (locals_meet w n ts)

pub walked_con : {I : Scope → Cn → Kd → Type 0} {f : ℕ → ℕ → Cn} {n x : ℕ} {G H : Sc} (k : Kd) → Images I → Walks f → Walked I f n G H → Walked I f (n + 1) (under_con x k G) (under_con x k H)
walked_con {I} {f} {n} {G} {H} k im s w = record {
  kinds = moves_deeper k im s w.kinds;
  locals = ap (map (λ t. shift 1 t 0)) w.locals ∙ locals_meet s n G.locals;
  tops = w.tops;
  datatypes = w.datatypes;
  folders = w.folders;
  effects = w.effects;
  grounded = grounded_con k w.grounded;
}

pub walked_guard : {I : Scope → Cn → Kd → Type 0} {f : ℕ → ℕ → Cn} {n : ℕ} {G H : Sc} (c d : Cn) → Images I → Walked I f n G H → Walked I f n (under_guard c d G) (under_guard (replaced f c n) (replaced f d n) H)
walked_guard c d im w = record { kinds = moves_assumed c d im w.kinds; locals = w.locals; tops = w.tops; datatypes = w.datatypes; folders = w.folders; effects = w.effects; grounded = grounded_guard c d w.grounded }

pub local_moved : {I : Scope → Cn → Kd → Type 0} {f : ℕ → ℕ → Cn} {n : ℕ} {G H : Sc} → Walked I f n G H → (i : ℕ) (t : Cn) → slice_get G.locals i ≡ Some t → slice_get H.locals i ≡ Some (replaced f t n)
local_moved {f = f} {n = n} {G = G} w i t e = ap (λ xs. slice_get xs i) w.locals ∙ slice_get-map (λ x. replaced f x n) G.locals i ∙ ap (option_map (λ x. replaced f x n)) e

-- the symbol of a datatype that is found
test_of : {X : Type 0} (b : Bool) (x y : X) (o : Option X) (P : X → Type 0) → (b ≡ true → P x) → (o ≡ Some y → P y) → (if b then Some x else o) ≡ Some y → P y
test_of true x y o P h k e = let same : x ≡ y = cc in subst P same (h refl)
test_of false x y o P h k e = k e

-- the types of what stands at the top
pub constructor_type_kind : {G : Sc} → Grounded G → (s j : ℕ) (d : Dt) (c : Cd) → datatype_of G.datatypes s ≡ Some d → slice_get d.constructors j ≡ Some c → Kinded (at_top 0 G.kinds.basics) (constructor_type d c) types
constructor_type_kind {G} g s j d c h k =
    constructor_kind d c G.kinds.basics (subst (λ x. basic_kind G.kinds.basics x ≡ Some (type_taking (arity d))) (sym (found_symbol G.datatypes s d h)) (g.datatypes s d h)) (λ held e. g.held s j d c held h k e)

pub top_closed : {f : ℕ → ℕ → Cn} {G : Sc} → Walks f → Grounded G → (n i : ℕ) (t : Cn) → slice_get G.tops i ≡ Some t → replaced f t n ≡ t
top_closed w g n i t e = closed w n (omega arith) (g.tops i t e)

pub basis_closed : {f : ℕ → ℕ → Cn} {G : Sc} → Walks f → Grounded G → (n : ℕ) (b : BasisName) → replaced f (basis_type b) n ≡ basis_type b
basis_closed {G = G} w g n b = closed {G = at_top 0 G.kinds.basics} w n (omega arith) (basis_kind (record { basis = g.basis; bools = g.bools; options = g.options; lists = g.lists }) b)

pub fold_closed : {f : ℕ → ℕ → Cn} {G : Sc} → Walks f → Grounded G → (n : ℕ) (k : Kd) (s : ℕ) → Contains G.folders (k, s) → replaced f (fold_type k s) n ≡ fold_type k s
fold_closed {G = G} w g n k s h = closed {G = at_top 0 G.kinds.basics} w n (omega arith) (fold_kind (g.folders k s h))

pub built_closed : {f : ℕ → ℕ → Cn} {G : Sc} → Walks f → Grounded G → (n s j : ℕ) (d : Dt) (c : Cd) → datatype_of G.datatypes s ≡ Some d → slice_get d.constructors j ≡ Some c → replaced f (constructor_type d c) n ≡ constructor_type d c
built_closed w g n s j d c h k = closed w n (omega arith) (constructor_type_kind g s j d c h k)

-- what a constructor holds, at walked types
types_length : (p : ℕ) → length (so_many_types p) ≡ p
types_length zero = refl
types_length (suc p) = ap (λ (n : ℕ). suc n) (types_length p)

reversed_moved : (φ : Cn → Cn) (ts : List Cn) → map φ (reversed ts) ≡ reversed (map φ ts)
reversed_moved φ [] = refl
reversed_moved φ (t ∷ ts) = map-append φ (reversed ts) (t ∷ []) ∙ ap (λ xs. xs ++ φ t ∷ []) (reversed_moved φ ts)

reversed_length : (ts : List Cn) → length (reversed ts) ≡ length ts
reversed_length [] = refl
reversed_length (t ∷ ts) = length-append (reversed ts) (t ∷ []) ∙ (let e : length (reversed ts) + 1 ≡ suc (length ts) = omega (arith, reversed_length ts) in e)

put_raised : {f : ℕ → ℕ → Cn} → Walks f → (n k : ℕ) (a c : Cn) → replaced f (walk.subst c (shift k a 0)) (n + k) ≡ walk.subst (replaced f c (n + k + 1)) (shift k (replaced f a n) 0)
put_raised {f} w n k a c = w.put c (shift k a 0) (n + k) ∙ ap (walk.subst (replaced f c (n + k + 1))) (sym (w.raised k a n))

put_all_moved : {f : ℕ → ℕ → Cn} → Walks f → (n : ℕ) (ts : List Cn) (c : Cn) → replaced f (put_all ts c) n ≡ put_all (map (λ t. replaced f t n) ts) (replaced f c (n + length ts))
put_all_moved {f} w n [] c = let e : n ≡ n + 0 = omega arith in ap (replaced f c) e
put_all_moved {f} w n (t ∷ ts) c =
    let deeper : n + length ts + 1 ≡ n + suc (length ts) = omega arith in
    let many : length ts ≡ length (map (λ x. replaced f x n) ts) = sym (length-map ts (λ x. replaced f x n)) in
    put_all_moved w n ts (walk.subst c (shift (length ts) t 0))
    ∙ ap (put_all (map (λ x. replaced f x n) ts)) (put_raised w n (length ts) t c)
    ∙ ap (λ m. put_all (map (λ x. replaced f x n) ts) (walk.subst (replaced f c m) (shift (length ts) (replaced f t n) 0))) deeper
    ∙ ap (λ k. put_all (map (λ x. replaced f x n) ts) (walk.subst (replaced f c (n + suc (length ts))) (shift k (replaced f t n) 0))) many

pub held_moved : {f : ℕ → ℕ → Cn} {bs : List (ℕ × Kd)} {k : Kd} → Walks f → (n p : ℕ) (ts : List Cn) (held : Cn) → length ts ≡ p → Kinded (at_top p bs) held k → replaced f (held_at ts held) n ≡ held_at (map (λ t. replaced f t n) ts) held
held_moved {f} w n p ts held e h =
    let far : length (so_many_types p) ≤ n + length (reversed ts) = omega (arith, types_length p, reversed_length ts, e) in
    put_all_moved w n (reversed ts) held
    ∙ ap (put_all (map (λ t. replaced f t n) (reversed ts))) (closed w (n + length (reversed ts)) far h)
    ∙ ap (λ xs. put_all xs held) (reversed_moved (λ t. replaced f t n) ts)

pub at_types_moved : (f : ℕ → ℕ → Cn) (n : ℕ) (c : Cn) (ts : List Cn) → replaced f (at_types c ts) n ≡ at_types (replaced f c n) (map (λ t. replaced f t n) ts)
at_types_moved f n c [] = refl
at_types_moved f n c (t ∷ ts) = at_types_moved f n (app c t) ts
