-- How often a number stands among those of the passes.
use Rattle.std.proofs.Common.{◌≡◌, ◌≢◌, ℕ, zero, suc, ◌+◌, ◌<◌, ◌≤◌, ◌==◌, cond, List, [], ◌∷◌, ◌++◌, map, set, Option, Some, None, All, refl, sym, ap, ◌∙◌, arith, eq-eqb, ne_eqb}
use mathlib.Core.Option.{some, some-ne-none, some-injective}
use lib.ListN.{get_elem?}
use Rattle.std.specs.List.{flat_map}
use Rattle.std.proofs.lemmas.List.Sums.{sum_by-append}
use Rattle.atomic_table.proofs.Lists.{set_else}
use Rattle.commit_cell.specs.declared.view.Known.{Known}
use Rattle.commit_cell.specs.History.{times}
use Rattle.commit_cell.specs.World.{numbers_of}

pub times-append : (n : ℕ) (ms ns : List ℕ) → times n (ms ++ ns) ≡ times n ms + times n ns
times-append n ms ns = sum_by-append (λ m. cond (m == n) 1 0) ms ns

times-cons : (n m : ℕ) (ns : List ℕ) → times n (m ∷ ns) ≡ cond (m == n) 1 0 + times n ns
times-cons n m ns =
    let a : times n (m ∷ ns) ≡ times n (m ∷ []) + times n ns = times-append n (m ∷ []) ns in
    let b : times n (m ∷ []) ≡ 0 + cond (m == n) 1 0 = refl in omega arith

pub times-same : (n m : ℕ) (ns : List ℕ) → m ≡ n → times n (m ∷ ns) ≡ 1 + times n ns
times-same n m ns is = times-cons n m ns ∙ ap (λ b. cond b 1 0 + times n ns) (eq-eqb m n is)

pub times-other : (n m : ℕ) (ns : List ℕ) → m ≢ n → times n (m ∷ ns) ≡ times n ns
times-other n m ns ne =
    let h : times n (m ∷ ns) ≡ 0 + times n ns = times-cons n m ns ∙ ap (λ b. cond b 1 0 + times n ns) (ne_eqb m n ne) in omega (arith, h)

pub times-none : (n m : ℕ) (ns : List ℕ) → times n (m ∷ ns) ≡ 0 → (m ≢ n) × (times n ns ≡ 0)
times-none n m ns none = (
  (λ e. let h = times-same n m ns e in omega arith),
  (let h = times-cons n m ns in omega arith),
)

module _ {E : Type 0} where
  -- the gathered numbers
  abbrev pub firsts : List (ℕ × List E) → List ℕ
  firsts gs = map (λ (g : ℕ × List E). g.0) gs

  -- how often the number stands among those of the passes
  abbrev pub tally : ℕ → List (Option (Known E)) → ℕ
  tally n ps = times n (flat_map numbers_of ps)

  pub times-firsts-append : (n : ℕ) (gs hs : List (ℕ × List E)) → times n (firsts (gs ++ hs)) ≡ times n (firsts gs) + times n (firsts hs)
  times-firsts-append n [] hs = omega arith
  times-firsts-append n (g ∷ gs) hs =
      let h = times-firsts-append n gs hs in
      let a = times-cons n g.0 (firsts (gs ++ hs)) in
      let b = times-cons n g.0 (firsts gs) in
      omega arith

  -- a number that doesn't stand in the list is none of its numbers
  pub none_is : (n : ℕ) (gs : List (ℕ × List E)) → times n (firsts gs) ≡ 0 → All (λ (g : ℕ × List E). g.0 ≢ n) gs
  none_is n [] none k d lt = absurd (omega arith)
  none_is n (g ∷ gs) none zero d lt = (times-none n g.0 (firsts gs) none).0
  none_is n (g ∷ gs) none (suc k) d lt = none_is n gs (times-none n g.0 (firsts gs) none).1 k d (omega arith)

  below_none : (n : ℕ) (gs : List (ℕ × List E)) → All (λ (g : ℕ × List E). g.0 < n) gs → times n (firsts gs) ≡ 0
  below_none n [] below = refl
  below_none n (g ∷ gs) below =
      let here : g.0 < n = below 0 g (omega arith) in
      times-other n g.0 (firsts gs) (λ e. omega arith) ∙ below_none n gs (λ k d lt. below (suc k) d (omega arith))

  tally-cons : (n : ℕ) (p : Option (Known E)) (ps : List (Option (Known E))) → tally n (p ∷ ps) ≡ times n (numbers_of p) + tally n ps
  tally-cons n p ps = times-append n (numbers_of p) (flat_map numbers_of ps)

  pub tally-append : (n : ℕ) (ps : List (Option (Known E))) (p : Option (Known E)) → tally n (ps ++ p ∷ []) ≡ tally n ps + times n (numbers_of p)
  tally-append n [] p = let h = tally-cons n p [] in let z : tally n [] ≡ 0 = refl in omega arith
  tally-append n (q ∷ ps) p =
      let a = tally-cons n q (ps ++ p ∷ []) in
      let b = tally-cons n q ps in
      let h = tally-append n ps p in omega arith

  -- a place is filled anew
  pub tally-set : (n : ℕ) (ps : List (Option (Known E))) (i : ℕ) (p q : Option (Known E)) → get_elem? ps i ≡ some p → tally n (set ps i q) + times n (numbers_of p) ≡ tally n ps + times n (numbers_of q)
  tally-set n [] i p q e = absurd (some-ne-none p (sym e))
  tally-set n (x ∷ ps) zero p q e =
      let a = tally-cons n q ps in
      let b = tally-cons n x ps in
      let same : times n (numbers_of x) ≡ times n (numbers_of p) = ap (λ z. times n (numbers_of z)) (some-injective x p e) in omega arith
  tally-set n (x ∷ ps) (suc i) p q e =
      let a = tally-cons n x (set ps i q) in
      let b = tally-cons n x ps in
      let h = tally-set n ps i p q e in omega arith

  -- where no number stands twice, a pass has none of the numbers that another has, and its own is none that it has gathered
  pub apart : (ps : List (Option (Known E))) (i j : ℕ) (p q : Known E) → ((n : ℕ) → tally n ps ≤ 1) → get_elem? ps i ≡ some (Some p) → get_elem? ps j ≡ some (Some q) → j ≢ i → (q.number ≢ p.number) × All (λ (g : ℕ × List E). g.0 ≢ p.number) q.gathered
  apart ps i j p q once at there ne =
      let n = p.number in
      let most : tally n ps ≤ 1 = once n in
      let a : tally n (set ps i None) + times n (numbers_of (Some p)) ≡ tally n ps + 0 = tally-set n ps i (Some p) None at in
      let b : tally n (set (set ps i None) j None) + times n (numbers_of (Some q)) ≡ tally n (set ps i None) + 0 = tally-set n (set ps i None) j (Some q) None (set_else ps i j None ne ∙ there) in
      let own : times n (numbers_of (Some p)) ≡ 1 + times n (firsts p.gathered) = times-same n n (firsts p.gathered) refl in
      let none : times n (numbers_of (Some q)) ≡ 0 = omega arith in
      let t = times-none n q.number (firsts q.gathered) none in
      (t.0, none_is n q.gathered t.1)

  pub own_apart : (ps : List (Option (Known E))) (i : ℕ) (p : Known E) → ((n : ℕ) → tally n ps ≤ 1) → get_elem? ps i ≡ some (Some p) → All (λ (g : ℕ × List E). g.0 ≢ p.number) p.gathered
  own_apart ps i p once at =
      let n = p.number in
      let most : tally n ps ≤ 1 = once n in
      let a : tally n (set ps i None) + times n (numbers_of (Some p)) ≡ tally n ps + 0 = tally-set n ps i (Some p) None at in
      let own : times n (numbers_of (Some p)) ≡ 1 + times n (firsts p.gathered) = times-same n n (firsts p.gathered) refl in
      none_is n p.gathered (omega arith)

  -- and no number was gathered twice
  pub gathered_once : (ps : List (Option (Known E))) (i : ℕ) (p : Known E) → ((n : ℕ) → tally n ps ≤ 1) → get_elem? ps i ≡ some (Some p) → (n : ℕ) → times n (firsts p.gathered) ≤ 1
  gathered_once ps i p once at n =
      let most : tally n ps ≤ 1 = once n in
      let a : tally n (set ps i None) + times n (numbers_of (Some p)) ≡ tally n ps + 0 = tally-set n ps i (Some p) None at in
      let own : times n (numbers_of (Some p)) ≡ cond (p.number == n) 1 0 + times n (firsts p.gathered) = times-cons n p.number (firsts p.gathered) in
      omega arith

  -- a number above all that were given stands nowhere
  pub tally_new : (n : ℕ) (ps : List (Option (Known E))) → ((i : ℕ) (p : Known E) → get_elem? ps i ≡ some (Some p) → (p.number < n) × All (λ (g : ℕ × List E). g.0 < n) p.gathered) → tally n ps ≡ 0
  tally_new n [] below = refl
  tally_new n (None ∷ ps) below = tally_new n ps (λ i p e. below (suc i) p e)
  tally_new n (Some p ∷ ps) below =
      let h = below 0 p refl in
      let small = h.0 in
      let a = tally-cons n (Some p) ps in
      let b : times n (numbers_of (Some p)) ≡ 0 = times-other n p.number (firsts p.gathered) (λ e. omega arith) ∙ below_none n p.gathered h.1 in
      let c = tally_new n ps (λ i q e. below (suc i) q e) in omega arith
