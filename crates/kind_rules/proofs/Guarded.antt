-- A constructor keeps its kind where the sides of guards are replaced by equal ones.
use Rattle.std.proofs.Common.{◌≡◌, zero, suc, arith, List, [], ◌∷◌, map, slice_get, refl, ap, sym, ◌∙◌, subst, Contains, All}
use Rattle.std.proofs.lemmas.List.Elements.{All-weaker}
use Rattle.con_terms.specs.Trees.{Kd, Cn, Cns, Prs, Kds, names_of}
use Rattle.con_terms.specs.Substitution.{shift}
use Rattle.con_terms.specs.Equal.{Equal, same, back, step}
use Rattle.con_terms.specs.Apart.{Guards, pieces, HasPiece, has_piece, Separated, names_differ, by_guard, by_guard_turned, Apart, apart, PairwiseApart}
use Rattle.con_terms.specs.Kinded.{Scope, basic_kind, bind, assume, Kinded, of_var, of_basic, of_arrow, of_poly, of_guarded, of_record, of_app, of_lambda, of_unit, of_name, of_row, of_cat, of_map, of_tuple, of_proj, KindedAll, no_components, a_component, KindedPairs, no_fields, a_field}
use Rattle.con_terms.proofs.Equals.{Equal_shift}
use Rattle.disjoint_prover.proofs.Sound.{contains_head, contains_tail}

-- guard by guard, each side equal to the other's
pub data EqualGuards : Guards → Guards → Type 0 where
  no_guards : EqualGuards [] []
  one_guard : {g h : Cn × Cn} {gs hs : Guards} → Equal g.0 h.0 → Equal g.1 h.1 → EqualGuards gs hs → EqualGuards (g ∷ gs) (h ∷ hs)

pub all_equal : (gs : Guards) → EqualGuards gs gs
all_equal [] = no_guards
all_equal (g ∷ gs) = one_guard same same (all_equal gs)

-- an equation at the left side
start : {c d e : Cn} → c ≡ d → Equal c e → Equal d e
start {e = e} p h = let P : Cn → Type 0 = λ x. Equal x e in subst P p h

-- a piece of a row is one of an equal row
piece_along : {c d p : Cn} → Equal c d → HasPiece c p → HasPiece d p
piece_along h (has_piece e m) = has_piece (step (back h) e) m

-- one of the guards, with its sides equal to these
record Answers (hs : Guards) (a b : Cn) : Type 0 where
  c : Cn
  d : Cn
  there : Contains hs (c, d)
  left : Equal a c
  right : Equal b d

answered : {gs hs : Guards} (a b : Cn) → EqualGuards gs hs → Contains gs (a, b) → Answers hs a b
answered a b no_guards (k, lt, e) = absurd (omega (arith, lt))
answered a b (one_guard {g} {h} {gs} {hs} p q r) (zero, lt, e) =
    record { c = h.0; d = h.1; there = contains_head h hs; left = start (ap (λ (x : Cn × Cn). x.0) e) p; right = start (ap (λ (x : Cn × Cn). x.1) e) q }
answered a b (one_guard {g} {h} {gs} {hs} p q r) (suc k, lt, e) =
    let rest = answered a b r (k, omega (arith, lt), e) in
    record { c = rest.c; d = rest.d; there = contains_tail (rest.c, rest.d) h hs rest.there; left = rest.left; right = rest.right }

separated_too : {gs hs : Guards} {p q : Cn} → EqualGuards gs hs → Separated gs p q → Separated hs p q
separated_too s (names_differ n) = names_differ n
separated_too s (by_guard {a = a} {b = b} m l r) = let w = answered a b s m in by_guard w.there (piece_along w.left l) (piece_along w.right r)
separated_too s (by_guard_turned {a = a} {b = b} m l r) = let w = answered a b s m in by_guard_turned w.there (piece_along w.left l) (piece_along w.right r)

pub apart_too : {gs hs : Guards} {c d : Cn} → EqualGuards gs hs → Apart gs c d → Apart hs c d
apart_too {gs} {hs} s (apart {c' = c} {d' = d} h k m) =
    apart h k (All-weaker (λ p. All (Separated gs p) (pieces d)) (λ p. All (Separated hs p) (pieces d)) (λ p each. All-weaker (Separated gs p) (Separated hs p) (λ q. separated_too s) (pieces d) each) (pieces c) m)

pairwise_too : {gs hs : Guards} (ns : List Cn) → EqualGuards gs hs → PairwiseApart gs ns → PairwiseApart hs ns
pairwise_too [] s h = tt
pairwise_too {gs} {hs} (n ∷ ns) s (h, rest) = (All-weaker (Apart gs n) (Apart hs n) (λ m. apart_too s) ns h, pairwise_too ns s rest)

-- from under one more binder
pub raised : {gs hs : Guards} → EqualGuards gs hs → EqualGuards (map (λ (g : Cn × Cn). (shift 1 g.0 0, shift 1 g.1 0)) gs) (map (λ (g : Cn × Cn). (shift 1 g.0 0, shift 1 g.1 0)) hs)
raised no_guards = no_guards
raised (one_guard p q r) = one_guard (Equal_shift p 1 0) (Equal_shift q 1 0) (raised r)

-- the same scope, but for guards that are equal one by one
pub record Alike (G H : Scope) : Type 0 where
  pub binders : G.binders ≡ H.binders
  pub guards : EqualGuards G.guards H.guards
  pub basics : G.basics ≡ H.basics

pub under : {G H : Scope} (k : Kd) → Alike G H → Alike (bind k G) (bind k H)
under k s = record { binders = ap (λ ks. k ∷ ks) s.binders; guards = raised s.guards; basics = s.basics }

pub assuming : {G H : Scope} (a b : Cn) → Alike G H → Alike (assume a b G) (assume a b H)
assuming a b s = record { binders = s.binders; guards = one_guard same same s.guards; basics = s.basics }

mutual
  pub kinded_too : {G H : Scope} {c : Cn} {k : Kd} → Alike G H → Kinded G c k → Kinded H c k
  kinded_too s (of_var {i = i} e) = of_var (ap (λ ks. slice_get ks i) (sym s.binders) ∙ e)
  kinded_too s (of_basic {s = x} e) = of_basic (ap (λ bs. basic_kind bs x) (sym s.basics) ∙ e)
  kinded_too s (of_arrow h k) = of_arrow (kinded_too s h) (kinded_too s k)
  kinded_too s (of_poly {k = k} h) = of_poly (kinded_too (under k s) h)
  kinded_too s (of_guarded {a = a} {b = b} h k l) = of_guarded (kinded_too s h) (kinded_too s k) (kinded_too (assuming a b s) l)
  kinded_too s (of_record h) = of_record (kinded_too s h)
  kinded_too s (of_app h k) = of_app (kinded_too s h) (kinded_too s k)
  kinded_too s (of_lambda {k = k} h) = of_lambda (kinded_too (under k s) h)
  kinded_too s of_unit = of_unit
  kinded_too s of_name = of_name
  kinded_too s (of_row {ps = ps} h m) = of_row (fields_too s h) (pairwise_too (names_of ps) s.guards m)
  kinded_too s (of_cat h k m) = of_cat (kinded_too s h) (kinded_too s k) (apart_too s.guards m)
  kinded_too s of_map = of_map
  kinded_too s (of_tuple h) = of_tuple (all_too s h)
  kinded_too s (of_proj h e) = of_proj (kinded_too s h) e

  all_too : {G H : Scope} {cs : Cns} {ks : Kds} → Alike G H → KindedAll G cs ks → KindedAll H cs ks
  all_too s no_components = no_components
  all_too s (a_component h k) = a_component (kinded_too s h) (all_too s k)

  fields_too : {G H : Scope} {ps : Prs} {k : Kd} → Alike G H → KindedPairs G ps k → KindedPairs H ps k
  fields_too s no_fields = no_fields
  fields_too s (a_field h k l) = a_field (kinded_too s h) (kinded_too s k) (fields_too s l)

-- under a guard with equal sides
pub kinded_under : {G : Scope} {a b m n c : Cn} {k : Kd} → Equal a m → Equal b n → Kinded (assume m n G) c k → Kinded (assume a b G) c k
kinded_under {G} h k x = kinded_too (record { binders = refl; guards = one_guard (back h) (back k) (all_equal G.guards); basics = refl }) x
