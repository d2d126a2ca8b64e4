-- Bytes have lines, and only these.
use Rattle.std.proofs.Common.{◌≡◌, ◌≢◌, ℕ, zero, suc, ◌<◌, ◌+◌, ◌⊎◌, inl, inr, ⊎_elim, List, [], ◌∷◌, ◌++◌, length, get_or, refl, sym, ap, ap₂, ◌∙◌, subst, arith}
use Rattle.std.proofs.lemmas.Bool.{cases_eq}
use Rattle.project_files.specs.Lines.{Line, HasLines, no_lines, last_line, line_and, IsOneLine, without_return}

no_length : {n : ℕ} → suc n ≡ 0 → ⊥
no_length e = omega (arith, e)

filled : (b : ℕ) (bs : List ℕ) → b ∷ bs ≢ []
filled b bs e = no_length (ap length e)

-- one byte more before what has no line feed
one_more : (b : ℕ) (bs : List ℕ) → b ≢ 10 → IsOneLine bs → IsOneLine (b ∷ bs)
one_more b bs other one zero inside e = other e
one_more b bs other one (suc k) inside e = one k (omega (arith, inside)) e

empty_line : IsOneLine []
empty_line k inside e = omega (arith, inside)

before : (b : ℕ) (bs : List ℕ) (lines : List Line) → b ≢ 10 → HasLines bs lines → (more : List Line) × HasLines (b ∷ bs) more
before b bs lines other no_lines = ((b ∷ []) ∷ [], last_line (one_more b [] other empty_line) (filled b []))
before b bs lines other (last_line one full) = ((b ∷ bs) ∷ [], last_line (one_more b bs other one) (filled b bs))
before b bs lines other (line_and front rest {lines = more} one is h) =
    (without_return (b ∷ front) ∷ more, line_and (b ∷ front) rest (one_more b front other one) (ap (λ l. b ∷ l) is) h)

-- all bytes have lines
pub lines_of : (bytes : List ℕ) → (lines : List Line) × HasLines bytes lines
lines_of [] = ([], no_lines)
lines_of (b ∷ bs) = let rest = lines_of bs in
    ⊎_elim
    (λ feed. (without_return [] ∷ rest.0, line_and [] bs empty_line (ap (λ x. x ∷ bs) feed) rest.1))
    (λ other. before b bs rest.0 other rest.1)
    (cases_eq b 10)

-- where a line feed stands, bytes aren't one line
feed_inside : (front rest : List ℕ) → IsOneLine (front ++ 10 ∷ rest) → ⊥
feed_inside [] rest one = one 0 (omega arith) refl
feed_inside (x ∷ front) rest one = feed_inside front rest (λ k inside e. one (suc k) (omega (arith, inside)) e)

tail_line : (x : ℕ) (front : List ℕ) → IsOneLine (x ∷ front) → IsOneLine front
tail_line x front one k inside e = one (suc k) (omega (arith, inside)) e

abbrev first : List ℕ → ℕ
first [] = 0
first (x ∷ xs) = x

abbrev rest_of : List ℕ → List ℕ
rest_of [] = []
rest_of (x ∷ xs) = xs

-- the first line feed cuts bytes in one way
pub one_cut : (front rest other behind : List ℕ) → IsOneLine front → IsOneLine other
    → front ++ 10 ∷ rest ≡ other ++ 10 ∷ behind → (front ≡ other) × (rest ≡ behind)
one_cut [] rest [] behind p q e = (refl, ap rest_of e)
one_cut [] rest (y ∷ other) behind p q e = absurd (q 0 (omega arith) (sym (ap first e)))
one_cut (x ∷ front) rest [] behind p q e = absurd (p 0 (omega arith) (ap first e))
one_cut (x ∷ front) rest (y ∷ other) behind p q e =
    let h = one_cut front rest other behind (tail_line x front p) (tail_line y other q) (ap rest_of e)
    in (ap₂ (λ z zs. z ∷ zs) (ap first e) h.0, h.1)

no_front : (front rest : List ℕ) → front ++ 10 ∷ rest ≢ []
no_front [] rest e = no_length (ap length e)
no_front (x ∷ front) rest e = no_length (ap length e)

-- and have only these
pub same_lines : (bytes : List ℕ) (lines others : List Line) → HasLines bytes lines → HasLines bytes others → lines ≡ others
same_lines bytes lines others no_lines no_lines = refl
same_lines bytes lines others no_lines (last_line one full) = absurd (full refl)
same_lines bytes lines others no_lines (line_and front rest one is h) = absurd (no_front front rest (sym is))
same_lines bytes lines others (last_line one full) no_lines = absurd (full refl)
same_lines bytes lines others (last_line one full) (last_line one' full') = refl
same_lines bytes lines others (last_line one full) (line_and front rest one' is h) = absurd (feed_inside front rest (subst IsOneLine is one))
same_lines bytes lines others (line_and front rest one is h) no_lines = absurd (no_front front rest (sym is))
same_lines bytes lines others (line_and front rest one is h) (last_line one' full) = absurd (feed_inside front rest (subst IsOneLine is one'))
same_lines bytes lines others (line_and front rest {lines = ls} one is h) (line_and other behind {lines = ms} one' is' h') =
    let cut = one_cut front rest other behind one one' (sym is ∙ is')
    in ap₂ (λ l more. l ∷ more) (ap without_return cut.0) (same_lines behind ls ms (subst (λ r. HasLines r ls) cut.1 h) h')
