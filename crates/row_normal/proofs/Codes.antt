-- A tree's numbers tell the tree.
use Rattle.std.proofs.Common.{◌≡◌, ℕ, suc, ◌==◌, Bool, true, false, if◌then◌else◌, List, [], ◌∷◌, ◌++◌, refl, sym, ap, ◌∙◌, append_assoc, append-nil, arith}
use Rattle.con_terms.specs.Trees.{Kd, types, units, names, row_of, to, tuple_of, Kds, no_kinds, kind, Cn, var, basic, arrow, poly, guarded, record_of, app, lambda, unit_con, name, row, cat, map_of, tuple, proj, Cns, no_cons, con, Prs, no_pairs, pair}
use Rattle.row_normal.specs.Ordered.{kind_code, kinds_code, kinds_count, flag_code, con_code, cons_code, cons_count, pairs_code, pairs_count, piece_key}

abbrev first : List ℕ → ℕ
first [] = 0
first (x ∷ xs) = x

abbrev others : List ℕ → List ℕ
others [] = []
others (x ∷ xs) = xs

two : (a b c d x y : List ℕ) → (a ++ b) ++ x ≡ (c ++ d) ++ y → a ++ (b ++ x) ≡ c ++ (d ++ y)
two a b c d x y h = sym (append_assoc a b x) ∙ h ∙ append_assoc c d y

before_suc : (m n : ℕ) → suc m ≡ suc n → m ≡ n
before_suc m n h = omega (arith, h)

mutual
  kind_told : (k l : Kd) (x y : List ℕ) → kind_code k ++ x ≡ kind_code l ++ y → (k ≡ l) × (x ≡ y)
  kind_told types types x y h = (refl, ap others h)
  kind_told units units x y h = (refl, ap others h)
  kind_told names names x y h = (refl, ap others h)
  kind_told (row_of k) (row_of l) x y h = let (p, q) = kind_told k l x y (ap others h) in (ap row_of p, q)
  kind_told (to k l) (to m n) x y h =
      let (p, r) = kind_told k m (kind_code l ++ x) (kind_code n ++ y) (two (kind_code k) (kind_code l) (kind_code m) (kind_code n) x y (ap others h)) in
      let (q, s) = kind_told l n x y r in
      (ap (λ z. to z l) p ∙ ap (λ z. to m z) q, s)
  kind_told (tuple_of ks) (tuple_of ls) x y h =
      let (p, q) = kinds_told ks ls x y (ap first (ap others h)) (ap others (ap others h)) in (ap tuple_of p, q)
  kind_told _ _ x y h = absurd (omega (arith, ap first h))

  kinds_told : (ks ls : Kds) (x y : List ℕ) → kinds_count ks ≡ kinds_count ls → kinds_code ks ++ x ≡ kinds_code ls ++ y → (ks ≡ ls) × (x ≡ y)
  kinds_told no_kinds no_kinds x y e h = (refl, h)
  kinds_told (kind k ks) (kind l ls) x y e h =
      let (p, r) = kind_told k l (kinds_code ks ++ x) (kinds_code ls ++ y) (two (kind_code k) (kinds_code ks) (kind_code l) (kinds_code ls) x y h) in
      let (q, s) = kinds_told ks ls x y (before_suc _ _ e) r in
      (ap (λ z. kind z ks) p ∙ ap (λ z. kind l z) q, s)
  kinds_told no_kinds (kind l ls) x y e h = absurd (omega (arith, e))
  kinds_told (kind k ks) no_kinds x y e h = absurd (omega (arith, e))

flag_told : (x y : Bool) → flag_code x ≡ flag_code y → x ≡ y
flag_told true true h = refl
flag_told false false h = refl
flag_told true false h = absurd (omega (arith, h))
flag_told false true h = absurd (omega (arith, h))

mutual
  con_told : (a b : Cn) (x y : List ℕ) → con_code a ++ x ≡ con_code b ++ y → (a ≡ b) × (x ≡ y)
  con_told (var i) (var j) x y h = (ap var (ap first (ap others h)), ap others (ap others h))
  con_told (basic i) (basic j) x y h = (ap basic (ap first (ap others h)), ap others (ap others h))
  con_told (arrow a b) (arrow c d) x y h =
      let (p, r) = con_told a c (con_code b ++ x) (con_code d ++ y) (two (con_code a) (con_code b) (con_code c) (con_code d) x y (ap others h)) in
      let (q, s) = con_told b d x y r in
      (ap (λ z. arrow z b) p ∙ ap (λ z. arrow c z) q, s)
  con_told (poly e k a) (poly f l b) x y h =
      let (p, r) = kind_told k l (con_code a ++ x) (con_code b ++ y) (two (kind_code k) (con_code a) (kind_code l) (con_code b) x y (ap others (ap others h))) in
      let (q, s) = con_told a b x y r in
      (ap (λ z. poly z k a) (flag_told e f (ap first (ap others h))) ∙ ap (λ z. poly f z a) p ∙ ap (λ z. poly f l z) q, s)
  con_told (guarded a b c) (guarded d e f) x y h =
      let g = two (con_code a ++ con_code b) (con_code c) (con_code d ++ con_code e) (con_code f) x y (ap others h) in
      let (p, r) = con_told a d (con_code b ++ (con_code c ++ x)) (con_code e ++ (con_code f ++ y)) (two (con_code a) (con_code b) (con_code d) (con_code e) (con_code c ++ x) (con_code f ++ y) g) in
      let (q, s) = con_told b e (con_code c ++ x) (con_code f ++ y) r in
      let (o, t) = con_told c f x y s in
      (ap (λ z. guarded z b c) p ∙ ap (λ z. guarded d z c) q ∙ ap (λ z. guarded d e z) o, t)
  con_told (record_of a) (record_of b) x y h = let (p, q) = con_told a b x y (ap others h) in (ap record_of p, q)
  con_told (app a b) (app c d) x y h =
      let (p, r) = con_told a c (con_code b ++ x) (con_code d ++ y) (two (con_code a) (con_code b) (con_code c) (con_code d) x y (ap others h)) in
      let (q, s) = con_told b d x y r in
      (ap (λ z. app z b) p ∙ ap (λ z. app c z) q, s)
  con_told (lambda k a) (lambda l b) x y h =
      let (p, r) = kind_told k l (con_code a ++ x) (con_code b ++ y) (two (kind_code k) (con_code a) (kind_code l) (con_code b) x y (ap others h)) in
      let (q, s) = con_told a b x y r in
      (ap (λ z. lambda z a) p ∙ ap (λ z. lambda l z) q, s)
  con_told unit_con unit_con x y h = (refl, ap others h)
  con_told (name i) (name j) x y h = (ap name (ap first (ap others h)), ap others (ap others h))
  con_told (row k ps) (row l qs) x y h =
      let (p, r) = kind_told k l (pairs_count ps ∷ pairs_code ps ++ x) (pairs_count qs ∷ pairs_code qs ++ y) (two (kind_code k) (pairs_count ps ∷ pairs_code ps) (kind_code l) (pairs_count qs ∷ pairs_code qs) x y (ap others h)) in
      let (q, s) = pairs_told ps qs x y (ap first r) (ap others r) in
      (ap (λ z. row z ps) p ∙ ap (λ z. row l z) q, s)
  con_told (cat a b) (cat c d) x y h =
      let (p, r) = con_told a c (con_code b ++ x) (con_code d ++ y) (two (con_code a) (con_code b) (con_code c) (con_code d) x y (ap others h)) in
      let (q, s) = con_told b d x y r in
      (ap (λ z. cat z b) p ∙ ap (λ z. cat c z) q, s)
  con_told (map_of k l) (map_of m n) x y h =
      let (p, r) = kind_told k m (kind_code l ++ x) (kind_code n ++ y) (two (kind_code k) (kind_code l) (kind_code m) (kind_code n) x y (ap others h)) in
      let (q, s) = kind_told l n x y r in
      (ap (λ z. map_of z l) p ∙ ap (λ z. map_of m z) q, s)
  con_told (tuple cs) (tuple ds) x y h =
      let (p, q) = cons_told cs ds x y (ap first (ap others h)) (ap others (ap others h)) in (ap tuple p, q)
  con_told (proj a m) (proj b n) x y h =
      let (p, r) = con_told a b (m ∷ x) (n ∷ y) (two (con_code a) (m ∷ []) (con_code b) (n ∷ []) x y (ap others h)) in
      (ap (λ z. proj z m) p ∙ ap (λ z. proj b z) (ap first r), ap others r)
  con_told _ _ x y h = absurd (omega (arith, ap first h))

  cons_told : (cs ds : Cns) (x y : List ℕ) → cons_count cs ≡ cons_count ds → cons_code cs ++ x ≡ cons_code ds ++ y → (cs ≡ ds) × (x ≡ y)
  cons_told no_cons no_cons x y e h = (refl, h)
  cons_told (con c cs) (con d ds) x y e h =
      let (p, r) = con_told c d (cons_code cs ++ x) (cons_code ds ++ y) (two (con_code c) (cons_code cs) (con_code d) (cons_code ds) x y h) in
      let (q, s) = cons_told cs ds x y (before_suc _ _ e) r in
      (ap (λ z. con z cs) p ∙ ap (λ z. con d z) q, s)
  cons_told no_cons (con d ds) x y e h = absurd (omega (arith, e))
  cons_told (con c cs) no_cons x y e h = absurd (omega (arith, e))

  pairs_told : (ps qs : Prs) (x y : List ℕ) → pairs_count ps ≡ pairs_count qs → pairs_code ps ++ x ≡ pairs_code qs ++ y → (ps ≡ qs) × (x ≡ y)
  pairs_told no_pairs no_pairs x y e h = (refl, h)
  pairs_told (pair n v ps) (pair m w qs) x y e h =
      let g = two (con_code n ++ con_code v) (pairs_code ps) (con_code m ++ con_code w) (pairs_code qs) x y h in
      let (p, r) = con_told n m (con_code v ++ (pairs_code ps ++ x)) (con_code w ++ (pairs_code qs ++ y)) (two (con_code n) (con_code v) (con_code m) (con_code w) (pairs_code ps ++ x) (pairs_code qs ++ y) g) in
      let (q, s) = con_told v w (pairs_code ps ++ x) (pairs_code qs ++ y) r in
      let (o, t) = pairs_told ps qs x y (before_suc _ _ e) s in
      (ap (λ z. pair z v ps) p ∙ ap (λ z. pair m z ps) q ∙ ap (λ z. pair m w z) o, t)
  pairs_told no_pairs (pair m w qs) x y e h = absurd (omega (arith, e))
  pairs_told (pair n v ps) no_pairs x y e h = absurd (omega (arith, e))

-- what follows the rank of a key
abbrev after_rank : List ℕ → List ℕ
after_rank [] = []
after_rank (n ∷ ns) = if n == 2 then ns else others ns

after_rank_is : (c : Cn) → after_rank (piece_key c) ≡ con_code c
after_rank_is (row k (pair (name s) v no_pairs)) = refl
after_rank_is (var i) = refl
after_rank_is _ = refl

-- pieces of one key are one
pub key_told : (p q : Cn) → piece_key p ≡ piece_key q → p ≡ q
key_told p q h =
    let e : con_code p ≡ con_code q = sym (after_rank_is p) ∙ ap after_rank h ∙ after_rank_is q in
    (con_told p q [] [] (append-nil (con_code p) ∙ e ∙ sym (append-nil (con_code q)))).0
