-- What is computed to be separated is separated: rows of which each pair of pieces is are apart.
use Rattle.std.proofs.Common.{◌≡◌, ℕ, suc, List, [], ◌∷◌, refl, ap, arith, ◌∙◌, sym, subst, Bool, ◌&&◌, not, true, false, Option, Some, None, if◌then◌else◌, inl, inr}
use Rattle.std.specs.List.{All, Contains}
use Rattle.std.specs.Option.{option_or}
use Rattle.std.proofs.lemmas.Bool.{eq-eqb, or_cases}
use Rattle.std.proofs.lemmas.List.Elements.{All-cons, All-nil, All-weaker}
use Rattle.con_terms.specs.Trees.{Cn, name}
use Rattle.con_terms.specs.Equal.{same}
use Rattle.con_terms.specs.Apart.{Guards, pieces, both_literal, has_piece, Separated, names_differ, by_guard, by_guard_turned, AllSeparated, Apart, apart}
use Rattle.row_normal.specs.SameTree.{cn_eq}
use Rattle.disjoint_prover.specs.Separation.{among, separated_by, separated_by_some, separates, with_each, pairs_of, first_of, first_touch}
use Rattle.disjoint_prover.specs.Touching.{AllKeptApart, KeptApart, different_names, on_both_sides, on_both_sides_turned}
use Rattle.row_normal.proofs.Options.{both_from}
use Rattle.row_normal.proofs.SameTrees.{cn_eq_same}
use Rattle.disjoint_prover.proofs.Pieces.{first_append}

pub contains_head : {X : Type 0} (x : X) (xs : List X) → Contains (x ∷ xs) x
contains_head x xs = (0, omega arith, refl)

pub contains_tail : {X : Type 0} (x y : X) (xs : List X) → Contains xs x → Contains (y ∷ xs) x
contains_tail x y xs (k, h, e) = (suc k, omega arith, e)

-- what is among some is one of them
among_contains : (p : Cn) (xs : List Cn) → among p xs ≡ true → Contains xs p
among_contains p [] h = cc
among_contains p (x ∷ xs) h =
    elim (or_cases (cn_eq x p) (among p xs) h) [
      | inl e ↦ let P : Cn → Type 0 = λ y. Contains (y ∷ xs) p in subst P (sym (cn_eq_same x p e)) (contains_head p xs)
      | inr e ↦ contains_tail p x xs (among_contains p xs e)
    ]

guarded_one : (gs : Guards) (g : Cn × Cn) (p q : Cn) → Contains gs g → separated_by g p q ≡ true → KeptApart gs p q
guarded_one gs g p q m h =
    elim (or_cases (among p (pieces g.0) && among q (pieces g.1)) _ h) [
      | inl e ↦ let (l, r) = both_from (among p (pieces g.0)) (among q (pieces g.1)) e in on_both_sides m (record { left = among_contains p (pieces g.0) l; right = among_contains q (pieces g.1) r })
      | inr e ↦ let (l, r) = both_from (among q (pieces g.0)) (among p (pieces g.1)) e in on_both_sides_turned m (record { left = among_contains q (pieces g.0) l; right = among_contains p (pieces g.1) r })
    ]

guarded_some : (gs hs : Guards) (p q : Cn) → ((g : Cn × Cn) → Contains hs g → Contains gs g) → separated_by_some hs p q ≡ true → KeptApart gs p q
guarded_some gs [] p q sub h = cc
guarded_some gs (g ∷ hs) p q sub h =
    elim (or_cases (separated_by g p q) (separated_by_some hs p q) h) [
      | inl e ↦ guarded_one gs g p q (sub g (contains_head g hs)) e
      | inr e ↦ guarded_some gs hs p q (λ k m. sub k (contains_tail k g hs m)) e
    ]

-- literal names
second_name : (s : ℕ) (q : Cn) → both_literal (name s) q ≡ true → (t : ℕ) × (q ≡ name t)
second_name s (name t) h = (t, refl)
second_name s _ h = cc

both_names : (p q : Cn) → both_literal p q ≡ true → (s : ℕ) × (t : ℕ) × (p ≡ name s) × (q ≡ name t)
both_names (name s) q h = let (t, e) = second_name s q h in (s, t, refl, e)
both_names _ q h = cc

names_apart : (gs : Guards) (s t : ℕ) → not (cn_eq (name s) (name t)) ≡ true → KeptApart gs (name s) (name t)
names_apart gs s t h = different_names (λ e. let b = eq-eqb s t e in absurd (cc (ap not b)))

literals_apart : (gs : Guards) (p q : Cn) → both_literal p q ≡ true → not (cn_eq p q) ≡ true → KeptApart gs p q
literals_apart gs p q e g =
    let (s, t, i, j) = both_names p q e in
    let P : Cn → Type 0 = λ x. KeptApart gs x q in
    let Q : Cn → Type 0 = λ y. KeptApart gs (name s) y in
    let g' : not (cn_eq (name s) (name t)) ≡ true = ap (λ x. not (cn_eq x (name t))) (sym i) ∙ ap (λ y. not (cn_eq p y)) (sym j) ∙ g in
    subst P (sym i) (subst Q (sym j) (names_apart gs s t g'))

-- what is computed to be separated is kept apart
pub separates_keeps : (gs : Guards) (p q : Cn) → separates gs p q ≡ true → KeptApart gs p q
separates_keeps gs p q h =
    elim (or_cases (both_literal p q && not (cn_eq p q)) (separated_by_some gs p q) h) [
      | inl e ↦ let (l, r) = both_from (both_literal p q) (not (cn_eq p q)) e in literals_apart gs p q l r
      | inr e ↦ guarded_some gs gs p q (λ k m. m) e
    ]

-- what is kept apart is separated
pub kept_separated : (gs : Guards) (p q : Cn) → KeptApart gs p q → Separated gs p q
kept_separated gs p q (different_names h) = names_differ h
kept_separated gs p q (on_both_sides m s) = by_guard m (has_piece same s.left) (has_piece same s.right)
kept_separated gs p q (on_both_sides_turned m s) = by_guard_turned m (has_piece same s.left) (has_piece same s.right)

pub separates_sound : (gs : Guards) (p q : Cn) → separates gs p q ≡ true → Separated gs p q
separates_sound gs p q h = kept_separated gs p q (separates_keeps gs p q h)

pub none_or : {X : Type 0} (o p : Option X) → option_or o p ≡ None → (o ≡ None) × (p ≡ None)
none_or None p h = (refl, h)
none_or (Some x) p h = cc

one_keeps : (gs : Guards) (p q : Cn) → first_of gs ((p, q) ∷ []) ≡ None → KeptApart gs p q
one_keeps gs p q h = separates_keeps gs p q (tested (separates gs p q) (p, q) h)
  where
    tested : (b : Bool) (pq : Cn × Cn) → (if not b then Some pq else None) ≡ None → b ≡ true
    tested true pq g = refl
    tested false pq g = cc

-- where no pair is first all are kept apart
pub each_keeps : (gs : Guards) (p : Cn) (qs : List Cn) → first_of gs (with_each p qs) ≡ None → All (KeptApart gs p) qs
each_keeps gs p [] h = All-nil (KeptApart gs p)
each_keeps gs p (q ∷ qs) h =
    let (l, r) = none_or _ _ (sym (first_append gs ((p, q) ∷ []) (with_each p qs)) ∙ h) in
    All-cons (KeptApart gs p) q qs (one_keeps gs p q l) (each_keeps gs p qs r)

pub all_keep : (gs : Guards) (ps qs : List Cn) → first_of gs (pairs_of ps qs) ≡ None → AllKeptApart gs ps qs
all_keep gs [] qs h = All-nil (λ p. All (KeptApart gs p) qs)
all_keep gs (p ∷ ps) qs h =
    let (l, r) = none_or _ _ (sym (first_append gs (with_each p qs) (pairs_of ps qs)) ∙ h) in
    All-cons (λ p. All (KeptApart gs p) qs) p ps (each_keeps gs p qs l) (all_keep gs ps qs r)

all_sound : (gs : Guards) (ps qs : List Cn) → first_of gs (pairs_of ps qs) ≡ None → AllSeparated gs ps qs
all_sound gs ps qs h =
    All-weaker (λ p. All (KeptApart gs p) qs) (λ p. All (Separated gs p) qs) (λ p k. All-weaker (KeptApart gs p) (Separated gs p) (λ q l. kept_separated gs p q l) qs k) ps (all_keep gs ps qs h)

pub touch_sound : (gs : Guards) (c d : Cn) → first_touch gs c d ≡ None → Apart gs c d
touch_sound gs c d h = apart same same (all_sound gs (pieces c) (pieces d) h)
