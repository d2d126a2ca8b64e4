-- Histories and their beginnings, entries by number, and serials.
use Rattle.std.proofs.Common.{◌≡◌, ◌≢◌, ℕ, zero, suc, ◌+◌, ◌<◌, ◌≤◌, ◌==◌, Bool, cond, List, [], ◌∷◌, ◌++◌, length, refl, sym, ap, ◌∙◌, subst, arith, append-nil, append_assoc, length-append, ne_eqb, eq-eqb, le-ltb, lt-ltb, lt_of_not-le}
use mathlib.Core.Option.{some, some-ne-none}
use mathlib.Core.Logic.{dite}
use native.Mathlib.Decide.{dec_le}
use lib.ListN.{get_elem?}
use Rattle.std.proofs.lemmas.List.{nil_from_length}
use Rattle.std.proofs.lemmas.List.Elements.{filter-append}
use Rattle.std.proofs.lemmas.List.Sums.{length-filter, count_by-le-length}
use Rattle.commit_cell.specs.History.{StartsWith, of_number, CountsFrom, longer}

module _ {A : Type 0} where
  pub at_bound : (l : List A) (i : ℕ) (a : A) → get_elem? l i ≡ some a → i < length l
  at_bound [] i a e = absurd (some-ne-none a (sym e))
  at_bound (x ∷ xs) zero a e = omega arith
  at_bound (x ∷ xs) (suc i) a e = let h = at_bound xs i a e in omega arith

  pub starts_self : (log : List A) → StartsWith log log
  starts_self log = ([], sym (append-nil log))

  pub starts_later : (log seen es : List A) → StartsWith log seen → StartsWith (log ++ es) seen
  starts_later log seen es p = (p.0 ++ es, ap (λ l. l ++ es) p.1 ∙ append_assoc seen p.0 es)

  -- of two beginnings of one list the shorter begins the longer
  pub begins : (log xs ys : List A) → StartsWith log xs → StartsWith log ys → length xs ≤ length ys → StartsWith ys xs
  begins log [] ys p q le = (ys, refl)
  begins log (x ∷ xs) [] p q le = absurd (omega arith)
  begins [] (x ∷ xs) (y ∷ ys) p q le = absurd (let h = ap length p.1 in omega (arith, h))
  begins (l ∷ log) (x ∷ xs) (y ∷ ys) p q le =
      let t = begins log xs ys (p.0, ap tail_of p.1) (q.0, ap tail_of q.1) (omega arith) in
      let same : y ≡ x = ap (λ z. head_or l z) (sym q.1 ∙ p.1) in
      (t.0, λ i. same i ∷ t.1 i)
    where
      tail_of : List A → List A
      tail_of [] = []
      tail_of (z ∷ zs) = zs

      head_or : A → List A → A
      head_or a [] = a
      head_or a (z ∷ zs) = z

  -- what holds of both holds of the longer
  pub longer_is : (P : List A → Type 0) (xs ys : List A) → P xs → (length xs ≤ length ys → P ys) → P (longer xs ys)
  longer_is P xs ys p q = dite (dec_le (length ys) (length xs))
      (λ le. subst (λ (b : Bool). P (cond b ys xs)) (sym (le-ltb _ _ le)) p)
      (λ no. subst (λ (b : Bool). P (cond b ys xs)) (sym (lt-ltb _ _ (lt_of_not-le no))) (q (let h = lt_of_not-le no in omega arith)))

  pub first_le_longer : (xs ys : List A) → length xs ≤ length (longer xs ys)
  first_le_longer xs ys = longer_is (λ l. length xs ≤ length l) xs ys (omega arith) (λ le. le)

  pub second_le_longer : (xs ys : List A) → length ys ≤ length (longer xs ys)
  second_le_longer xs ys = dite (dec_le (length ys) (length xs))
      (λ le. subst (λ (b : Bool). length ys ≤ length (cond b ys xs)) (sym (le-ltb _ _ le)) le)
      (λ no. subst (λ (b : Bool). length ys ≤ length (cond b ys xs)) (sym (lt-ltb _ _ (lt_of_not-le no))) (omega arith))

module _ {E : Type 0} (number : E → ℕ) where
  -- an entry of another number
  pub of_number-other : (n : ℕ) (log : List E) (e : E) → n ≢ number e → of_number number n (log ++ e ∷ []) ≡ of_number number n log
  of_number-other n log e ne =
      filter-append (λ x. number x == n) log (e ∷ [])
      ∙ ap (λ b. of_number number n log ++ cond b (e ∷ []) []) (ne_eqb (number e) n (λ h. ne (sym h)))
      ∙ append-nil (of_number number n log)

  -- an entry of this number
  pub of_number-own : (n : ℕ) (log : List E) (e : E) → number e ≡ n → of_number number n (log ++ e ∷ []) ≡ of_number number n log ++ e ∷ []
  of_number-own n log e is =
      filter-append (λ x. number x == n) log (e ∷ [])
      ∙ ap (λ b. of_number number n log ++ cond b (e ∷ []) []) (eq-eqb (number e) n is)

  -- a list between two has the entries that both have
  pub of_number-between : (n : ℕ) (log mid seen own : List E) → StartsWith log mid → StartsWith mid seen → of_number number n seen ≡ own → of_number number n log ≡ own → of_number number n mid ≡ own
  of_number-between n log mid seen own p q first last =
      let f = of_number number n in
      let a : f mid ≡ own ++ f q.0 = ap f q.1 ∙ filter-append (λ x. number x == n) seen q.0 ∙ ap (λ (l : List E). l ++ f q.0) first in
      let b : own ≡ f mid ++ f p.0 = sym last ∙ ap f p.1 ∙ filter-append (λ x. number x == n) mid p.0 in
      let la : length (f mid) ≡ length own + length (f q.0) = ap length a ∙ length-append own (f q.0) in
      let lb : length own ≡ length (f mid) + length (f p.0) = ap length b ∙ length-append (f mid) (f p.0) in
      let none : f q.0 ≡ [] = nil_from_length (f q.0) (omega arith) in
      a ∙ ap (λ (l : List E). own ++ l) none ∙ append-nil own

  -- a beginning of a history with no such entry has none
  pub of_number-none : (n : ℕ) (log seen : List E) → StartsWith log seen → of_number number n log ≡ [] → of_number number n seen ≡ []
  of_number-none n log seen p none =
      let f = of_number number n in
      let a : [] ≡ f seen ++ f p.0 = sym none ∙ ap f p.1 ∙ filter-append (λ x. number x == n) seen p.0 in
      let b : 0 ≡ length (f seen) + length (f p.0) = ap length a ∙ length-append (f seen) (f p.0) in
      nil_from_length (f seen) (omega arith)

  -- the entries of one number are no more than all
  pub own_fits : (n : ℕ) (log own : List E) → of_number number n log ≡ own → length own ≤ length log
  own_fits n log own is =
      let f = length-filter (λ x. number x == n) log in
      let c = count_by-le-length (λ x. number x == n) log in
      let same : length (of_number number n log) ≡ length own = ap length is in
      omega (arith, f, c, same)

module _ {E : Type 0} (serial : E → ℕ) where
  pub counts-append : (es : List E) (e : E) (n : ℕ) → CountsFrom serial n es → serial e ≡ n + length es → CountsFrom serial n (es ++ e ∷ [])
  counts-append [] e n c is = (omega arith, tt)
  counts-append (x ∷ xs) e n c is = (c.0, counts-append xs e (n + 1) c.1 (omega arith))
