-- The lines of project files: bytes have lines, and only these; the first that is this one (for `first_like` and
-- `line_of`); a module's line has one number.
use Rattle.std.proofs.Common.{◌≡◌, ◌≢◌, ℕ, zero, suc, ◌+◌, ⊎_elim, List, [], ◌∷◌, ◌++◌, length, refl, sym, ap, ap₂, ◌∙◌, subst, append_assoc, length-append, arith}
use Rattle.std.specs.Prelude.{All}
use Rattle.std.proofs.lemmas.Bool.{cases_eq}
use Rattle.std.proofs.lemmas.List.Elements.{All-nil, All-push, All-head, All-tail}
use Rattle.project_files.specs.Lines.{Line, HasLines, no_lines, last_line, line_and, IsOneLine, without_return}
use Rattle.site_build.specs.Causes.{IsFirst, IsLineOf}
use Rattle.site_build.specs.Faults.{IsFirstIn}

-- ---- bytes have lines

no_length : {n : ℕ} → suc n ≡ 0 → ⊥
no_length e = omega (arith, e)

first_more : (b : ℕ) (bs : List ℕ) → b ≢ 10 → IsOneLine bs → IsOneLine (b ∷ bs)
first_more b bs other one zero inside e = other e
first_more b bs other one (suc k) inside e = one k (omega (arith, inside)) e

nothing_inside : IsOneLine []
nothing_inside k inside e = omega (arith, inside)

with_first : (b : ℕ) (bs : List ℕ) (lines : List Line) → b ≢ 10 → HasLines bs lines → (more : List Line) × HasLines (b ∷ bs) more
with_first b bs lines other no_lines = ((b ∷ []) ∷ [], last_line (first_more b [] other nothing_inside) (λ e. no_length (ap length e)))
with_first b bs lines other (last_line one full) = ((b ∷ bs) ∷ [], last_line (first_more b bs other one) (λ e. no_length (ap length e)))
with_first b bs lines other (line_and front rest {lines = more} one is h) =
    (without_return (b ∷ front) ∷ more, line_and (b ∷ front) rest (first_more b front other one) (ap (λ l. b ∷ l) is) h)

lines_of : (bytes : List ℕ) → (lines : List Line) × HasLines bytes lines
lines_of [] = ([], no_lines)
lines_of (b ∷ bs) = let rest = lines_of bs in
    ⊎_elim
    (λ feed. (without_return [] ∷ rest.0, line_and [] bs nothing_inside (ap (λ x. x ∷ bs) feed) rest.1))
    (λ other. with_first b bs rest.0 other rest.1)
    (cases_eq b 10)

-- ---- and only these

feed_inside : (front rest : List ℕ) → IsOneLine (front ++ 10 ∷ rest) → ⊥
feed_inside [] rest one = one 0 (omega arith) refl
feed_inside (x ∷ front) rest one = feed_inside front rest (λ k inside e. one (suc k) (omega (arith, inside)) e)

behind_first : (x : ℕ) (front : List ℕ) → IsOneLine (x ∷ front) → IsOneLine front
behind_first x front one k inside e = one (suc k) (omega (arith, inside)) e

abbrev head_of : List ℕ → ℕ
head_of [] = 0
head_of (x ∷ xs) = x

abbrev tail_of : {X : Type 0} → List X → List X
tail_of [] = []
tail_of (x ∷ xs) = xs

one_cut : (front rest other behind : List ℕ) → IsOneLine front → IsOneLine other → front ++ 10 ∷ rest ≡ other ++ 10 ∷ behind → (front ≡ other) × (rest ≡ behind)
one_cut [] rest [] behind p q e = (refl, ap tail_of e)
one_cut [] rest (y ∷ other) behind p q e = absurd (q 0 (omega arith) (sym (ap head_of e)))
one_cut (x ∷ front) rest [] behind p q e = absurd (p 0 (omega arith) (ap head_of e))
one_cut (x ∷ front) rest (y ∷ other) behind p q e =
    let h = one_cut front rest other behind (behind_first x front p) (behind_first y other q) (ap tail_of e)
    in (ap₂ (λ z zs. z ∷ zs) (ap head_of e) h.0, h.1)

no_front : (front rest : List ℕ) → front ++ 10 ∷ rest ≢ []
no_front [] rest e = no_length (ap length e)
no_front (x ∷ front) rest e = no_length (ap length e)

pub same_lines : (bytes : List ℕ) (lines others : List Line) → HasLines bytes lines → HasLines bytes others → lines ≡ others
same_lines bytes lines others no_lines no_lines = refl
same_lines bytes lines others no_lines (last_line one full) = absurd (full refl)
same_lines bytes lines others no_lines (line_and front rest one is h) = absurd (no_front front rest (sym is))
same_lines bytes lines others (last_line one full) no_lines = absurd (full refl)
same_lines bytes lines others (last_line one full) (last_line one' full') = refl
same_lines bytes lines others (last_line one full) (line_and front rest one' is h) = absurd (feed_inside front rest (subst IsOneLine is one))
same_lines bytes lines others (line_and front rest one is h) no_lines = absurd (no_front front rest (sym is))
same_lines bytes lines others (line_and front rest one is h) (last_line one' full) = absurd (feed_inside front rest (subst IsOneLine is one'))
same_lines bytes lines others (line_and front rest {lines = ls} one is h) (line_and other behind {lines = ms} one' is' h') =
    let cut = one_cut front rest other behind one one' (sym is ∙ is')
    in ap₂ (λ l more. l ∷ more) (ap without_return cut.0) (same_lines behind ls ms (subst (λ r. HasLines r ls) cut.1 h) h')

-- ---- line by line

-- what `first_line` promises of a line and the bytes behind it
abbrev pub Cuts : List ℕ → Line → List ℕ → Type 0
Cuts bytes line behind = (lines : List Line) → HasLines behind lines → HasLines bytes (line ∷ lines)

-- so the line is the first of all
cut : (bytes : List ℕ) (line : Line) (behind : List ℕ) (lines : List Line) → Cuts bytes line behind → HasLines bytes lines
    → (more : List Line) × (lines ≡ line ∷ more) × HasLines behind more
cut bytes line behind lines cuts h = let more = lines_of behind in (more.0, same_lines bytes lines (line ∷ more.0) h (cuts more.0 more.1), more.1)

-- so many lines were passed, none of them this one, and those of the rest stand behind them
abbrev pub Passed : List ℕ → Line → ℕ → List ℕ → Type 0
Passed bytes line number rest = (lines : List Line) → HasLines bytes lines
    → (front : List Line) × (more : List Line) × (lines ≡ front ++ more) × All (λ (other : Line). other ≢ line) front × (number ≡ length front) × HasLines rest more

pub none_passed : (bytes : List ℕ) (line : Line) → Passed bytes line 0 bytes
none_passed bytes line lines h = ([], lines, refl, All-nil (λ (other : Line). other ≢ line), refl, h)

pub one_passed : (bytes : List ℕ) (line : Line) (number : ℕ) (rest : List ℕ) (next : Line) (behind : List ℕ) → Passed bytes line number rest → Cuts rest next behind
    → next ≢ line → Passed bytes line (number + 1) behind
one_passed bytes line number rest next behind passed cuts other lines h =
    let p = passed lines h in
    let q = cut rest next behind p.1 cuts p.5 in (
      p.0 ++ next ∷ [],
      q.0,
      p.2 ∙ ap (λ l. p.0 ++ l) q.1 ∙ sym (append_assoc p.0 (next ∷ []) q.0),
      All-push (λ (x : Line). x ≢ line) p.0 next p.3 other,
      ap (λ n. n + 1) p.4 ∙ sym (length-append p.0 (next ∷ [])),
      q.2,
    )

pub first_found : (bytes : List ℕ) (line : Line) (number : ℕ) (rest : List ℕ) (next : Line) (behind : List ℕ) → Passed bytes line number rest → Cuts rest next behind
    → next ≡ line → IsFirstIn bytes line number behind
first_found bytes line number rest next behind passed cuts same lines h =
    let p = passed lines h in
    let q = cut rest next behind p.1 cuts p.5 in
    (p.0, q.0, record { lines_are = p.2 ∙ ap (λ l. p.0 ++ l) (q.1 ∙ ap (λ x. x ∷ q.0) same); first = p.3 }, p.4, q.2)

-- behind the first empty line the first that names the module
pub line_behind : (bytes modules : List ℕ) (name : Line) (directives before : ℕ) (rest : List ℕ) → IsFirstIn bytes [] directives modules → IsFirstIn modules name before rest
    → (lines : List Line) → HasLines bytes lines → IsLineOf lines name (directives + 1 + before + 1)
line_behind bytes modules name directives before rest empty named lines h =
    let p = empty lines h in
    let q = named p.1 p.4 in
    record { directives = p.0; modules = p.1; empty_line = p.2; before = q.0; after = q.1; named = q.2; number_is = ap₂ (λ (i j : ℕ). i + 1 + j + 1) p.3 q.3 }

-- ---- one number

abbrev head_line : List Line → Line
head_line [] = []
head_line (x ∷ xs) = x

one_first : (before after other behind : List Line) (line : Line) → before ++ line ∷ after ≡ other ++ line ∷ behind
    → All (λ (x : Line). x ≢ line) before → All (λ (x : Line). x ≢ line) other → (before ≡ other) × (after ≡ behind)
one_first [] after [] behind line e p q = (refl, ap tail_of e)
one_first [] after (y ∷ other) behind line e p q = absurd (All-head (λ (x : Line). x ≢ line) y other q (sym (ap head_line e)))
one_first (x ∷ before) after [] behind line e p q = absurd (All-head (λ (z : Line). z ≢ line) x before p (ap head_line e))
one_first (x ∷ before) after (y ∷ other) behind line e p q =
    let h = one_first before after other behind line (ap tail_of e) (All-tail (λ (z : Line). z ≢ line) x before p) (All-tail (λ (z : Line). z ≢ line) y other q)
    in (ap₂ (λ z zs. z ∷ zs) (ap head_line e) h.0, h.1)

same_first : (lines before other : List Line) (line : Line) (after behind : List Line) → IsFirst lines before line after → IsFirst lines other line behind
    → (before ≡ other) × (after ≡ behind)
same_first lines before other line after behind p q = one_first before after other behind line (sym p.lines_are ∙ q.lines_are) p.first q.first

-- a module stands at one line
pub same_number : (lines : List Line) (name : Line) (number other : ℕ) → IsLineOf lines name number → IsLineOf lines name other → number ≡ other
same_number lines name number other p q =
    let empty = same_first lines p.directives q.directives [] p.modules q.modules p.empty_line q.empty_line in
    let named = same_first q.modules p.before q.before name p.after q.after (subst (λ (ls : List Line). IsFirst ls p.before name p.after) empty.1 p.named) q.named in
    p.number_is ∙ ap₂ (λ (i j : ℕ). i + 1 + j + 1) (ap length empty.0) (ap length named.0) ∙ sym q.number_is
