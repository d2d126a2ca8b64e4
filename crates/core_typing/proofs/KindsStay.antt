-- Kinds under further binders and guards, and with constructors put for binders.
use Rattle.std.proofs.Common.{◌≡◌, ℕ, zero, suc, ◌+◌, ◌<◌, List, [], ◌∷◌, ◌++◌, map, length, Some, slice_get, refl, ap, sym, subst, ◌∙◌, arith, get_or}
use Rattle.std.specs.List.{Contains}
use Rattle.std.proofs.lemmas.List.{length-map}
use Rattle.std.proofs.lemmas.List as lists
use Rattle.con_terms.specs.Trees.{Kd, Kds, Cn, var, Cns, Prs, names_of}
use Rattle.con_terms.specs.Substitution.{shift, moved, subst_at, put}
use Rattle.con_terms.specs.Substitution as walk
use Rattle.con_terms.specs.Apart.{Guards, Separated, names_differ, by_guard, by_guard_turned, Apart, apart, PairwiseApart}
use Rattle.con_terms.specs.Kinded.{Scope, bind, assume, basic_kind, Kinded, of_var, of_basic, of_arrow, of_poly, of_guarded, of_record, of_app, of_lambda, of_unit, of_name, of_row, of_cat, of_map, of_tuple, of_proj, KindedAll, no_components, a_component, KindedPairs, no_fields, a_field}
use Rattle.con_terms.proofs.Walks.{shift_shift, shift_sum, shift_subst, subst_shift, subst_gone, subst_subst}
use Rattle.con_terms.proofs.Equals.{Equal_shift, Equal_subst_at}
use Rattle.core_typing.specs.KindLaws.{Widens, guards_with, guards_shifted}
use Rattle.core_typing.proofs.Moving.{Walks, Images, Moves, kinded_moved}
use Rattle.core_typing.proofs.Containing.{contains_map, at_place}
pub use Rattle.kind_rules.proofs.Layers.{shift_none}

-- shifts
moved_next : (by n i : ℕ) → moved by (n + 1) (suc i) ≡ shift 1 (moved by n i) 0
moved_next by n i = grind arith

pub shift_walks : (by : ℕ) → Walks (moved by)
shift_walks by = record {
  first = λ n. grind arith;
  next = λ n i. moved_next by n i;
  raised = λ k c n. sym (shift_shift by k 0 (n + k) n c refl (omega arith));
  put = λ b a n. shift_subst by 0 n n a b (omega arith);
  equal = λ h n. Equal_shift h by n;
}

-- a variable of a kind
abbrev pub IsBound : Scope → Cn → Kd → Type 0
IsBound H c k = (i : ℕ) × (c ≡ var i) × (slice_get H.binders i ≡ Some k)

pub var_shifted : (i : ℕ) → shift 1 (var i) 0 ≡ var (suc i)
var_shifted i = grind arith

bound_kinded : {H : Scope} {c : Cn} {k : Kd} → IsBound H c k → Kinded H c k
bound_kinded {H} {c} {k} b = subst (λ x. Kinded H x k) (sym b.1) (of_var b.2)

pub bound_images : Images IsBound
bound_images = record {
  kinded = bound_kinded;
  here = λ H l. (0, refl, refl);
  deeper = λ b. (suc b.0, ap (λ x. shift 1 x 0) b.1 ∙ var_shifted b.0, b.2);
  assumed = λ b. b;
}

behind_new : {X : Type 0} (new outer : List X) (i : ℕ) → slice_get (new ++ outer) (i + length new) ≡ slice_get outer i
behind_new [] outer i = let e : i + 0 ≡ i = omega arith in ap (slice_get outer) e
behind_new (x ∷ new) outer i = let e : i + suc (length new) ≡ suc (i + length new) = omega arith in ap (slice_get (x ∷ (new ++ outer))) e ∙ behind_new new outer i

moved_none : (by i : ℕ) → moved by 0 i ≡ var (i + by)
moved_none by i = grind arith

moved_first : (by n : ℕ) → moved by (suc n) 0 ≡ var 0
moved_first by n = grind arith

moved_suc : (by n i : ℕ) → moved by (suc n) (suc i) ≡ shift 1 (moved by n i) 0
moved_suc by n i = grind arith

pub still_bound : (inner new outer : List Kd) (i : ℕ) (k : Kd) → slice_get (inner ++ outer) i ≡ Some k → (j : ℕ) × (moved (length new) (length inner) i ≡ var j) × (slice_get (inner ++ new ++ outer) j ≡ Some k)
still_bound [] new outer i k e = (i + length new, moved_none (length new) i, behind_new new outer i ∙ e)
still_bound (l ∷ inner) new outer zero k e = (0, moved_first (length new) (length inner), e)
still_bound (l ∷ inner) new outer (suc i) k e =
    let (j, h, g) = still_bound inner new outer i k e in
    (suc j, moved_suc (length new) (length inner) i ∙ ap (λ x. shift 1 x 0) h ∙ var_shifted j, g)

pub kinds_stay : (inner outer new : List Kd) (gs : Guards) (basics : List (ℕ × Kd)) (c : Cn) (k : Kd) → Kinded (record { binders = inner ++ outer; guards = gs; basics = basics }) c k → Kinded (record { binders = inner ++ new ++ outer; guards = guards_shifted (length new) (length inner) gs; basics = basics }) (shift (length new) c (length inner)) k
kinds_stay inner outer new gs basics c k h =
    let G : Scope = record { binders = inner ++ outer; guards = gs; basics = basics } in
    let H : Scope = record { binders = inner ++ new ++ outer; guards = guards_shifted (length new) (length inner) gs; basics = basics } in
    let m : Moves IsBound (moved (length new)) (length inner) G H = record { image = λ i l e. still_bound inner new outer i l e; guards = refl; basics = refl } in
    kinded_moved bound_images (shift_walks (length new)) m h

-- under one more binder
pub under_one : {H : Scope} {c : Cn} {k l : Kd} → Kinded H c k → Kinded (bind l H) (shift 1 c 0) k
under_one {H} {c} {k} {l} h =
    let m : Moves IsBound (moved 1) 0 H (bind l H) = record { image = λ i j e. (suc i, moved_none 1 i ∙ ap var (let s : i + 1 ≡ suc i = omega arith in s), e); guards = refl; basics = refl } in
    kinded_moved bound_images (shift_walks 1) m h

-- more guards
abbrev pub Wider : Guards → Guards → Type 0
Wider gs hs = (g : Cn × Cn) → Contains gs g → Contains hs g

wider_map : (f : Cn × Cn → Cn × Cn) (gs hs : Guards) → Wider gs hs → Wider (map f gs) (map f hs)
wider_map f gs hs w g c =
    let within : c.0 < length gs = omega (arith, c.1, length-map gs f) in
    let from : f (get_or gs c.0 (var 0, var 0)) ≡ g = sym (lists.get_or-map f gs c.0 (var 0, var 0) g within) ∙ c.2 in
    subst (Contains (map f hs)) from (contains_map f hs (get_or gs c.0 (var 0, var 0)) (w (get_or gs c.0 (var 0, var 0)) (at_place gs c.0 (var 0, var 0) within)))

separated_wider : {gs hs : Guards} {p q : Cn} → Wider gs hs → Separated gs p q → Separated hs p q
separated_wider w (names_differ h) = names_differ h
separated_wider w (by_guard {a = a} {b = b} c x y) = by_guard (w (a, b) c) x y
separated_wider w (by_guard_turned {a = a} {b = b} c x y) = by_guard_turned (w (a, b) c) x y

pub apart_wider : {gs hs : Guards} {c d : Cn} → Wider gs hs → Apart gs c d → Apart hs c d
apart_wider w (apart a b h) = apart a b (λ k d i j e l. separated_wider w (h k d i j e l))

pairwise_wider : (gs hs : Guards) (ns : List Cn) → Wider gs hs → PairwiseApart gs ns → PairwiseApart hs ns
pairwise_wider gs hs [] w h = tt
pairwise_wider gs hs (n ∷ ns) w h = ((λ k d i. apart_wider w (h.0 k d i)), pairwise_wider gs hs ns w h.1)

pub widens_bind : {G H : Scope} (l : Kd) → Widens G H → Widens (bind l G) (bind l H)
widens_bind {G} {H} l w = record { binders = ap (λ bs. l ∷ bs) w.binders; guards = wider_map (λ g. (shift 1 g.0 0, shift 1 g.1 0)) G.guards H.guards w.guards; basics = w.basics }

wider_cons : (x : Cn × Cn) (gs hs : Guards) → Wider gs hs → Wider (x ∷ gs) (x ∷ hs)
wider_cons x gs hs w g (zero, h, e) = (0, omega arith, e)
wider_cons x gs hs w g (suc i, h, e) = let (j, k, d) = w g (i, omega (arith, h), e) in (suc j, omega (arith, k), d)

pub widens_assume : {G H : Scope} (a b : Cn) → Widens G H → Widens (assume a b G) (assume a b H)
widens_assume {G} {H} a b w = record { binders = w.binders; guards = wider_cons (a, b) G.guards H.guards w.guards; basics = w.basics }

mutual
  pub kinded_wider : {G H : Scope} {c : Cn} {k : Kd} → Widens G H → Kinded G c k → Kinded H c k
  kinded_wider w (of_var {i = i} e) = of_var (ap (λ bs. slice_get bs i) w.binders ∙ e)
  kinded_wider w (of_basic {s = s} e) = of_basic (ap (λ bs. basic_kind bs s) w.basics ∙ e)
  kinded_wider w (of_arrow a b) = of_arrow (kinded_wider w a) (kinded_wider w b)
  kinded_wider w (of_poly {k = k} b) = of_poly (kinded_wider (widens_bind k w) b)
  kinded_wider w (of_guarded {a = a} {b = b} p q c) = of_guarded (kinded_wider w p) (kinded_wider w q) (kinded_wider (widens_assume a b w) c)
  kinded_wider w (of_record a) = of_record (kinded_wider w a)
  kinded_wider w (of_app f a) = of_app (kinded_wider w f) (kinded_wider w a)
  kinded_wider w (of_lambda {k = k} b) = of_lambda (kinded_wider (widens_bind k w) b)
  kinded_wider w of_unit = of_unit
  kinded_wider w of_name = of_name
  kinded_wider {G} {H} w (of_row {ps = ps} p h) = of_row (pairs_wider w p) (pairwise_wider G.guards H.guards (names_of ps) w.guards h)
  kinded_wider w (of_cat p q h) = of_cat (kinded_wider w p) (kinded_wider w q) (apart_wider w.guards h)
  kinded_wider w of_map = of_map
  kinded_wider w (of_tuple cs) = of_tuple (all_wider w cs)
  kinded_wider w (of_proj c e) = of_proj (kinded_wider w c) e

  all_wider : {G H : Scope} {cs : Cns} {ks : Kds} → Widens G H → KindedAll G cs ks → KindedAll H cs ks
  all_wider w no_components = no_components
  all_wider w (a_component c cs) = a_component (kinded_wider w c) (all_wider w cs)

  pairs_wider : {G H : Scope} {ps : Prs} {k : Kd} → Widens G H → KindedPairs G ps k → KindedPairs H ps k
  pairs_wider w no_fields = no_fields
  pairs_wider w (a_field x v ps) = a_field (kinded_wider w x) (kinded_wider w v) (pairs_wider w ps)

pub kinds_stay_with_guards : (binders : List Kd) (gs hs : Guards) (basics : List (ℕ × Kd)) (c : Cn) (k : Kd) → Wider gs hs → Kinded (record { binders = binders; guards = gs; basics = basics }) c k → Kinded (record { binders = binders; guards = hs; basics = basics }) c k
kinds_stay_with_guards binders gs hs basics c k w h = kinded_wider (record { binders = refl; guards = w; basics = refl }) h

pub assumed_too : {H : Scope} {a b c : Cn} {k : Kd} → Kinded H c k → Kinded (assume a b H) c k
assumed_too h = kinded_wider (record { binders = refl; guards = λ g x. (suc x.0, omega (arith, x.1), x.2); basics = refl }) h

-- substitutions
put_first : (a : Cn) (n : ℕ) → put a (n + 1) 0 ≡ var 0
put_first a n = grind arith

put_next : (a : Cn) (n i : ℕ) → put a (n + 1) (suc i) ≡ shift 1 (put a n i) 0
put_next a n i = grind (arith, shift_sum n 1 0 (n + 1) a (omega arith) (omega arith))

pub put_walks : (a : Cn) → Walks (put a)
put_walks a = record {
  first = λ n. put_first a n;
  next = λ n i. put_next a n i;
  raised = λ k c n. sym (subst_shift k 0 (n + k) n a c refl (omega arith));
  put = λ b x n. subst_subst 0 n n x a b (omega arith);
  equal = λ e n. Equal_subst_at e a n;
}

pub kinded_images : Images Kinded
kinded_images = record { kinded = λ h. h; here = λ H l. of_var refl; deeper = under_one; assumed = assumed_too }

-- where a number is: the one that is put for, or another one
pub data Found (a : Cn) (inner outer : List Kd) (l : Kd) (i : ℕ) (k : Kd) : Type 0 where
  this : put a (length inner) i ≡ shift (length inner) a 0 → l ≡ k → Found a inner outer l i k
  other : (j : ℕ) → put a (length inner) i ≡ var j → slice_get (inner ++ outer) j ≡ Some k → Found a inner outer l i k

put_suc : (a : Cn) (n i : ℕ) → put a (suc n) (suc i) ≡ shift 1 (put a n i) 0
put_suc a n i = let e : suc n ≡ n + 1 = omega arith in ap (λ m. put a m (suc i)) e ∙ put_next a n i

put_at_none : (a : Cn) (i : ℕ) → put a 0 (suc i) ≡ var i
put_at_none a i = grind arith

put_here : (a : Cn) → put a 0 0 ≡ shift 0 a 0
put_here a = refl

put_zero : (a : Cn) (n : ℕ) → put a (suc n) 0 ≡ var 0
put_zero a n = grind arith

one_deeper : {a : Cn} {inner outer : List Kd} {x l : Kd} {i : ℕ} {k : Kd} → Found a inner outer l i k → Found a (x ∷ inner) outer l (suc i) k
one_deeper {a} {inner} {i = i} (this h e) = this (put_suc a (length inner) i ∙ ap (λ y. shift 1 y 0) h ∙ shift_sum (length inner) 1 0 (suc (length inner)) a (omega arith) (omega arith)) e
one_deeper {a} {inner} {i = i} (other j h e) = other (suc j) (put_suc a (length inner) i ∙ ap (λ y. shift 1 y 0) h ∙ var_shifted j) e

pub find : (a : Cn) (inner outer : List Kd) (l : Kd) (i : ℕ) (k : Kd) → slice_get (inner ++ l ∷ outer) i ≡ Some k → Found a inner outer l i k
find a [] outer l zero k e = this (put_here a) cc
find a [] outer l (suc i) k e = other i (put_at_none a i) e
find a (x ∷ inner) outer l zero k e = other 0 (put_zero a (length inner)) e
find a (x ∷ inner) outer l (suc i) k e = one_deeper (find a inner outer l i k e)

pub image_kinded : {a : Cn} {inner outer : List Kd} {l : Kd} {i : ℕ} {k : Kd} {H : Scope} → H.binders ≡ inner ++ outer → Kinded H (shift (length inner) a 0) l → Found a inner outer l i k → Kinded H (put a (length inner) i) k
image_kinded {a} {inner} {outer} {l} {i} {k} {H} bs h (this e q) = subst (λ x. Kinded H x k) (sym e) (subst (λ j. Kinded H (shift (length inner) a 0) j) q h)
image_kinded {a} {inner} {outer} {l} {i} {k} {H} bs h (other j e g) = subst (λ x. Kinded H x k) (sym e) (of_var (ap (λ ys. slice_get ys j) bs ∙ g))

pub constructors_substitute : (inner outer : List Kd) (l : Kd) (gs : Guards) (basics : List (ℕ × Kd)) (a c : Cn) (k : Kd) → Kinded (record { binders = inner ++ outer; guards = guards_with a (length inner) gs; basics = basics }) (shift (length inner) a 0) l → Kinded (record { binders = inner ++ l ∷ outer; guards = gs; basics = basics }) c k → Kinded (record { binders = inner ++ outer; guards = guards_with a (length inner) gs; basics = basics }) (subst_at a c (length inner)) k
constructors_substitute inner outer l gs basics a c k h g =
    let G : Scope = record { binders = inner ++ l ∷ outer; guards = gs; basics = basics } in
    let H : Scope = record { binders = inner ++ outer; guards = guards_with a (length inner) gs; basics = basics } in
    let m : Moves Kinded (put a) (length inner) G H = record { image = λ i j e. image_kinded refl h (find a inner outer l i j e); guards = refl; basics = refl } in
    kinded_moved kinded_images (put_walks a) m g

pub put_back : (a : Cn) (gs : Guards) → guards_with a 0 (map (λ (g : Cn × Cn). (shift 1 g.0 0, shift 1 g.1 0)) gs) ≡ gs
put_back a [] = refl
put_back a (g ∷ gs) =
    let first : subst_at a (shift 1 g.0 0) 0 ≡ g.0 = subst_gone a g.0 0 0 (omega arith) ∙ shift_none g.0 in
    let second : subst_at a (shift 1 g.1 0) 0 ≡ g.1 = subst_gone a g.1 0 0 (omega arith) ∙ shift_none g.1 in
    rw (first, second) (ap (λ rest. g ∷ rest) (put_back a gs))

pub kinds_substitute : (G : Scope) (l : Kd) (a c : Cn) (k : Kd) → Kinded G a l → Kinded (bind l G) c k → Kinded G (walk.subst c a) k
kinds_substitute G l a c k h g =
    let same = put_back a G.guards in
    let H : Guards → Scope = λ gs. record { binders = G.binders; guards = gs; basics = G.basics } in
    let here : Kinded (H (guards_with a 0 (bind l G).guards)) (shift 0 a 0) l = subst (λ gs. Kinded (H gs) (shift 0 a 0) l) (sym same) (subst (λ x. Kinded G x l) (sym (shift_none a)) h) in
    subst (λ gs. Kinded (H gs) (walk.subst c a) k) same (constructors_substitute [] G.binders l (bind l G).guards G.basics a c k here g)
