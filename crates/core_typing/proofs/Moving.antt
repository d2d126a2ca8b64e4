-- Kinds under a walk that puts constructors for variables.
use Rattle.std.proofs.Common.{◌≡◌, ℕ, zero, suc, ◌+◌, inl, inr, List, [], ◌∷◌, ◌++◌, map, Some, slice_get, refl, ap, sym, subst, ◌∙◌, arith, append_assoc}
use Rattle.std.specs.List.{Contains, All}
use Rattle.std.proofs.lemmas.List.{append-nil}
use Rattle.std.proofs.lemmas.List.Elements.{All-map, All-contains, Contains-append_left, Contains-append_right, Contains-append_cases}
use Rattle.con_terms.specs.Trees.{Kd, Kds, Cn, var, app, name, row, cat, map_of, Cns, Prs, no_pairs, pair, names_of}
use Rattle.con_terms.specs.Substitution.{replaced, replaced_all, replaced_pairs, shift}
use Rattle.con_terms.specs.Substitution as walk
use Rattle.con_terms.specs.Equal.{Equal}
use Rattle.con_terms.specs.Apart.{Guards, pieces, name_pieces, HasPiece, has_piece, Separated, names_differ, by_guard, by_guard_turned, AllSeparated, Apart, apart, PairwiseApart}
use Rattle.con_terms.specs.Kinded.{Scope, bind, assume, basic_kind, Kinded, of_var, of_basic, of_arrow, of_poly, of_guarded, of_record, of_app, of_lambda, of_unit, of_name, of_row, of_cat, of_map, of_tuple, of_proj, KindedAll, no_components, a_component, KindedPairs, no_fields, a_field}
use Rattle.std.proofs.lemmas.List.{map-append}
use Rattle.disjoint_prover.proofs.Sound.{contains_head, contains_tail}
use Rattle.core_typing.proofs.Containing.{nothing_in, contains_map, all_of}

-- a walk that goes under binders as constructors do, and that meets shifts, substitutions and equality
pub record Walks (f : ℕ → ℕ → Cn) : Type 0 where
  pub first : (n : ℕ) → f (n + 1) 0 ≡ var 0
  pub next : (n i : ℕ) → f (n + 1) (suc i) ≡ shift 1 (f n i) 0
  pub raised : (k : ℕ) (c : Cn) (n : ℕ) → shift k (replaced f c n) 0 ≡ replaced f (shift k c 0) (n + k)
  pub put : (b a : Cn) (n : ℕ) → replaced f (walk.subst b a) n ≡ walk.subst (replaced f b (n + 1)) (replaced f a n)
  pub equal : {c d : Cn} → Equal c d → (n : ℕ) → Equal (replaced f c n) (replaced f d n)

-- all pieces of some constructors
abbrev pieces_of : List Cn → List Cn
pieces_of [] = []
pieces_of (c ∷ cs) = pieces c ++ pieces_of cs

pieces_of_append : (cs ds : List Cn) → pieces_of (cs ++ ds) ≡ pieces_of cs ++ pieces_of ds
pieces_of_append [] ds = refl
pieces_of_append (c ∷ cs) ds = ap (λ xs. pieces c ++ xs) (pieces_of_append cs ds) ∙ sym (append_assoc (pieces c) (pieces_of cs) (pieces_of ds))

-- the pieces of two parts, walked
two_parts : (f : Cn → Cn) (ps qs xs ys : List Cn) → xs ≡ pieces_of (map f ps) → ys ≡ pieces_of (map f qs) → xs ++ ys ≡ pieces_of (map f (ps ++ qs))
two_parts f ps qs xs ys h g =
    ap (λ z. z ++ ys) h ∙ ap (λ z. pieces_of (map f ps) ++ z) g
    ∙ sym (ap pieces_of (map-append f ps qs) ∙ pieces_of_append (map f ps) (map f qs))

mutual
  -- what is walked has the pieces of its pieces, walked
  pieces_replaced : (f : ℕ → ℕ → Cn) (c : Cn) (n : ℕ) → pieces (replaced f c n) ≡ pieces_of (map (λ p. replaced f p n) (pieces c))
  pieces_replaced f (row k ps) n = names_replaced f ps n
  pieces_replaced f (cat a b) n = two_parts (λ p. replaced f p n) (pieces a) (pieces b) _ _ (pieces_replaced f a n) (pieces_replaced f b n)
  pieces_replaced f (app (app (map_of k l) h) r) n = pieces_replaced f r n
  pieces_replaced f c n = sym (append-nil (pieces (replaced f c n)))

  names_replaced : (f : ℕ → ℕ → Cn) (ps : Prs) (n : ℕ) → name_pieces (replaced_pairs f ps n) ≡ pieces_of (map (λ p. replaced f p n) (name_pieces ps))
  names_replaced f no_pairs n = refl
  names_replaced f (pair x v ps) n = two_parts (λ p. replaced f p n) (pieces x) (name_pieces ps) _ _ (pieces_replaced f x n) (names_replaced f ps n)

-- where a piece comes from, and where it goes
record Source (f : Cn → Cn) (ps : List Cn) (x : Cn) : Type 0 where
  piece : Cn
  there : Contains ps piece
  here : Contains (pieces (f piece)) x

source : (f : Cn → Cn) (ps : List Cn) (x : Cn) → Contains (pieces_of (map f ps)) x → Source f ps x
source f [] x c = nothing_in x c
source f (p ∷ ps) x c = elim (Contains-append_cases (pieces (f p)) (pieces_of (map f ps)) x c) [
  | inl h ↦ record { piece = p; there = contains_head p ps; here = h }
  | inr h ↦ let s = source f ps x h in record { piece = s.piece; there = contains_tail s.piece p ps s.there; here = s.here }
]

target : (ps : List Cn) (p x : Cn) → Contains ps p → Contains (pieces p) x → Contains (pieces_of ps) x
target [] p x c h = nothing_in p c
target (q ∷ ps) p x (zero, lt, e) h = Contains-append_left (pieces q) (pieces_of ps) x (subst (λ y. Contains (pieces y) x) (sym e) h)
target (q ∷ ps) p x (suc i, lt, e) h = Contains-append_right (pieces q) (pieces_of ps) x (target ps p x (i, omega (arith, lt), e) h)

-- guards under a walk
abbrev pub guards_replaced : (ℕ → ℕ → Cn) → ℕ → Guards → Guards
guards_replaced f n gs = map (λ (g : Cn × Cn). (replaced f g.0 n, replaced f g.1 n)) gs

piece_moved : {f : ℕ → ℕ → Cn} {a p x : Cn} → Walks f → (n : ℕ) → HasPiece a p → Contains (pieces (replaced f p n)) x → HasPiece (replaced f a n) x
piece_moved {f} {a} {p} {x} w n (has_piece {d = d} e c) h =
    has_piece (w.equal e n) (subst (λ xs. Contains xs x) (sym (pieces_replaced f d n)) (target (map (λ q. replaced f q n) (pieces d)) (replaced f p n) x (contains_map (λ q. replaced f q n) (pieces d) p c) h))

guard_moved : (f : ℕ → ℕ → Cn) (gs : Guards) {a b : Cn} (n : ℕ) → Contains gs (a, b) → Contains (guards_replaced f n gs) (replaced f a n, replaced f b n)
guard_moved f gs {a} {b} n c = contains_map (λ (g : Cn × Cn). (replaced f g.0 n, replaced f g.1 n)) gs (a, b) c

-- the one element of a list
only_one : (P : Cn → Type 0) (c x : Cn) → P c → Contains (c ∷ []) x → P x
only_one P c x h (zero, lt, e) = subst P e h
only_one P c x h (suc i, lt, e) = absurd (omega (arith, lt))

separated_moved : {f : ℕ → ℕ → Cn} {gs : Guards} {p q x y : Cn} → Walks f → (n : ℕ) → Separated gs p q → Contains (pieces (replaced f p n)) x → Contains (pieces (replaced f q n)) y → Separated (guards_replaced f n gs) x y
separated_moved {f} {gs} {x = x} {y = y} w n (names_differ {s = s} {t = t} h) i j =
    only_one (λ z. Separated (guards_replaced f n gs) z y) (name s) x (only_one (λ z. Separated (guards_replaced f n gs) (name s) z) (name t) y (names_differ h) j) i
separated_moved {f} {gs} w n (by_guard c a b) i j = by_guard (guard_moved f gs n c) (piece_moved w n a i) (piece_moved w n b j)
separated_moved {f} {gs} w n (by_guard_turned c a b) i j = by_guard_turned (guard_moved f gs n c) (piece_moved w n a j) (piece_moved w n b i)

all_moved : {f : ℕ → ℕ → Cn} {gs : Guards} (ps qs : List Cn) → Walks f → (n : ℕ) → AllSeparated gs ps qs → AllSeparated (guards_replaced f n gs) (pieces_of (map (λ p. replaced f p n) ps)) (pieces_of (map (λ p. replaced f p n) qs))
all_moved {f} {gs} ps qs w n h =
    all_of (λ x. All (Separated (guards_replaced f n gs) x) (pieces_of (map (λ p. replaced f p n) qs))) (pieces_of (map (λ p. replaced f p n) ps))
    (λ x i. all_of (Separated (guards_replaced f n gs) x) (pieces_of (map (λ p. replaced f p n) qs)) (λ y j.
    let s = source (λ p. replaced f p n) ps x i in
    let t = source (λ p. replaced f p n) qs y j in
    let each : All (Separated gs s.piece) qs = All-contains (λ p. All (Separated gs p) qs) ps s.piece h s.there in
    separated_moved w n (All-contains (Separated gs s.piece) qs t.piece each t.there) s.here t.here))

pub apart_moved : {f : ℕ → ℕ → Cn} {gs : Guards} {c d : Cn} → Walks f → (n : ℕ) → Apart gs c d → Apart (guards_replaced f n gs) (replaced f c n) (replaced f d n)
apart_moved {f} {gs} w n (apart {c' = c'} {d' = d'} a b h) =
    let qs = guards_replaced f n gs in
    apart (w.equal a n) (w.equal b n)
    (subst (λ xs. AllSeparated qs xs (pieces (replaced f d' n))) (sym (pieces_replaced f c' n))
    (subst (λ ys. AllSeparated qs (pieces_of (map (λ p. replaced f p n) (pieces c'))) ys) (sym (pieces_replaced f d' n)) (all_moved (pieces c') (pieces d') w n h)))

pairwise_moved : {f : ℕ → ℕ → Cn} (gs : Guards) → Walks f → (n : ℕ) (ns : List Cn) → PairwiseApart gs ns → PairwiseApart (guards_replaced f n gs) (map (λ p. replaced f p n) ns)
pairwise_moved gs w n [] h = tt
pairwise_moved {f} gs w n (x ∷ xs) h = (All-map (Apart (guards_replaced f n gs) (replaced f x n)) (λ p. replaced f p n) xs (λ k d i. apart_moved w n (h.0 k d i)), pairwise_moved gs w n xs h.1)

fields_names : (f : ℕ → ℕ → Cn) (ps : Prs) (n : ℕ) → names_of (replaced_pairs f ps n) ≡ map (λ p. replaced f p n) (names_of ps)
fields_names f no_pairs n = refl
fields_names f (pair x v ps) n = ap (λ xs. replaced f x n ∷ xs) (fields_names f ps n)

-- what variables become, with its kind
pub record Images (I : Scope → Cn → Kd → Type 0) : Type 0 where
  pub kinded : {H : Scope} {c : Cn} {k : Kd} → I H c k → Kinded H c k
  pub here : (H : Scope) (l : Kd) → I (bind l H) (var 0) l
  pub deeper : {H : Scope} {c : Cn} {k l : Kd} → I H c k → I (bind l H) (shift 1 c 0) k
  pub assumed : {H : Scope} {a b c : Cn} {k : Kd} → I H c k → I (assume a b H) c k

-- a scope, and what a walk makes of it
pub record Moves (I : Scope → Cn → Kd → Type 0) (f : ℕ → ℕ → Cn) (n : ℕ) (G H : Scope) : Type 0 where
  pub image : (i : ℕ) (k : Kd) → slice_get G.binders i ≡ Some k → I H (f n i) k
  pub guards : H.guards ≡ guards_replaced f n G.guards
  pub basics : H.basics ≡ G.basics

guards_meet : {f : ℕ → ℕ → Cn} → Walks f → (n : ℕ) (gs : Guards) → map (λ (g : Cn × Cn). (shift 1 g.0 0, shift 1 g.1 0)) (guards_replaced f n gs) ≡ guards_replaced f (n + 1) (map (λ (g : Cn × Cn). (shift 1 g.0 0, shift 1 g.1 0)) gs)
guards_meet w n [] = refl
guards_meet {f} w n (g ∷ gs) =
    rw (w.raised 1 g.0 n, w.raised 1 g.1 n) (ap (λ rest. (replaced f (shift 1 g.0 0) (n + 1), replaced f (shift 1 g.1 0) (n + 1)) ∷ rest) (guards_meet w n gs))

pub moves_deeper : {I : Scope → Cn → Kd → Type 0} {f : ℕ → ℕ → Cn} {n : ℕ} {G H : Scope} (l : Kd) → Images I → Walks f → Moves I f n G H → Moves I f (n + 1) (bind l G) (bind l H)
moves_deeper {I} {f} {n} {G} {H} l im w m = record { image = image; guards = ap (map (λ (g : Cn × Cn). (shift 1 g.0 0, shift 1 g.1 0))) m.guards ∙ guards_meet w n G.guards; basics = m.basics }
  where
    image : (i : ℕ) (k : Kd) → slice_get (l ∷ G.binders) i ≡ Some k → I (bind l H) (f (n + 1) i) k
    image zero k e = let same : l ≡ k = cc in subst (λ j. I (bind l H) (f (n + 1) 0) j) same (subst (λ x. I (bind l H) x l) (sym (w.first n)) (im.here H l))
    image (suc i) k e = subst (λ x. I (bind l H) x k) (sym (w.next n i)) (im.deeper (m.image i k e))

pub moves_assumed : {I : Scope → Cn → Kd → Type 0} {f : ℕ → ℕ → Cn} {n : ℕ} {G H : Scope} (a b : Cn) → Images I → Moves I f n G H → Moves I f n (assume a b G) (assume (replaced f a n) (replaced f b n) H)
moves_assumed {I} {f} {n} {G} {H} a b im m = record {
  image = λ i k e. im.assumed (m.image i k e);
  guards = ap (λ gs. (replaced f a n, replaced f b n) ∷ gs) m.guards;
  basics = m.basics;
}

mutual
  pub kinded_moved : {I : Scope → Cn → Kd → Type 0} {f : ℕ → ℕ → Cn} {n : ℕ} {G H : Scope} {c : Cn} {k : Kd} → Images I → Walks f → Moves I f n G H → Kinded G c k → Kinded H (replaced f c n) k
  kinded_moved im w m (of_var {i = i} {k = k} e) = im.kinded (m.image i k e)
  kinded_moved im w m (of_basic {s = s} {k = k} e) = of_basic (ap (λ bs. basic_kind bs s) m.basics ∙ e)
  kinded_moved im w m (of_arrow a b) = of_arrow (kinded_moved im w m a) (kinded_moved im w m b)
  kinded_moved im w m (of_poly {k = k} b) = of_poly (kinded_moved im w (moves_deeper k im w m) b)
  kinded_moved im w m (of_guarded {a = a} {b = b} p q c) = of_guarded (kinded_moved im w m p) (kinded_moved im w m q) (kinded_moved im w (moves_assumed a b im m) c)
  kinded_moved im w m (of_record a) = of_record (kinded_moved im w m a)
  kinded_moved im w m (of_app f a) = of_app (kinded_moved im w m f) (kinded_moved im w m a)
  kinded_moved im w m (of_lambda {k = k} b) = of_lambda (kinded_moved im w (moves_deeper k im w m) b)
  kinded_moved im w m of_unit = of_unit
  kinded_moved im w m of_name = of_name
  kinded_moved {f = f} {n = n} {G = G} {H = H} im w m (of_row {ps = ps} p h) =
      of_row (pairs_moved im w m p) (subst (λ xs. PairwiseApart H.guards xs) (sym (fields_names f ps n)) (subst (λ gs. PairwiseApart gs (map (λ x. replaced f x n) (names_of ps))) (sym m.guards) (pairwise_moved G.guards w n (names_of ps) h)))
  kinded_moved {f = f} {n = n} {H = H} im w m (of_cat {a = a} {b = b} p q h) =
      of_cat (kinded_moved im w m p) (kinded_moved im w m q) (subst (λ gs. Apart gs (replaced f a n) (replaced f b n)) (sym m.guards) (apart_moved w n h))
  kinded_moved im w m of_map = of_map
  kinded_moved im w m (of_tuple cs) = of_tuple (all_kinded_moved im w m cs)
  kinded_moved im w m (of_proj c e) = of_proj (kinded_moved im w m c) e

  all_kinded_moved : {I : Scope → Cn → Kd → Type 0} {f : ℕ → ℕ → Cn} {n : ℕ} {G H : Scope} {cs : Cns} {ks : Kds} → Images I → Walks f → Moves I f n G H → KindedAll G cs ks → KindedAll H (replaced_all f cs n) ks
  all_kinded_moved im w m no_components = no_components
  all_kinded_moved im w m (a_component c cs) = a_component (kinded_moved im w m c) (all_kinded_moved im w m cs)

  pairs_moved : {I : Scope → Cn → Kd → Type 0} {f : ℕ → ℕ → Cn} {n : ℕ} {G H : Scope} {ps : Prs} {k : Kd} → Images I → Walks f → Moves I f n G H → KindedPairs G ps k → KindedPairs H (replaced_pairs f ps n) k
  pairs_moved im w m no_fields = no_fields
  pairs_moved im w m (a_field x v ps) = a_field (kinded_moved im w m x) (kinded_moved im w m v) (pairs_moved im w m ps)
