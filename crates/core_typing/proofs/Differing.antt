-- Lists without repeats, by a test.
use Rattle.std.proofs.Common.{◌≡◌, ◌≢◌, ℕ, zero, suc, Bool, true, false, ◌==◌, ◌||◌, ◌&&◌, not, List, [], ◌∷◌, Some, slice_get, refl, ap, ◌∙◌, arith, length, ◌++◌}
use Rattle.std.specs.Str.{bytes_eq}
use Rattle.std.specs.List.{AllByRecursion}
use Rattle.std.proofs.lemmas.List.Elements.{All-from_recursion}
use Rattle.std.proofs.lemmas.Bool.Decides.{Decides-eqb}
use Rattle.std.proofs.lemmas.Slice.Eq.{bytes_eq-Decides}
use Rattle.row_normal.proofs.Options.{both_from, neither_from}
use Rattle.link_router.specs.RouteLaws.{IsPlain}
use Rattle.core_typing.specs.Declarations.{Distinct}
use Rattle.core_typing.specs.Accepts.{TextsDiffer}
use Rattle.std.proofs.lemmas.Bool.{not-true as not_true}

abbrev is_among : ℕ → List ℕ → Bool
is_among x [] = false
is_among x (y ∷ ys) = (x == y) || is_among x ys

abbrev pub all_differ : List ℕ → Bool
all_differ [] = true
all_differ (x ∷ xs) = not (is_among x xs) && all_differ xs

different : (x y : ℕ) → (x == y) ≡ false → x ≡ y → ⊥
different x y h e = let yes : (x == y) ≡ true = (Decides-eqb x y).1 e in cc

elsewhere : (x : ℕ) (ys : List ℕ) → is_among x ys ≡ false → AllByRecursion (λ y. x ≢ y) ys
elsewhere x [] h = tt
elsewhere x (y ∷ ys) h = let (p, q) = neither_from (x == y) (is_among x ys) h in ((λ e. different x y p e), elsewhere x ys q)

pub distinct_by_test : (xs : List ℕ) → all_differ xs ≡ true → Distinct xs
distinct_by_test [] h = tt
distinct_by_test (x ∷ xs) h = let (p, q) = both_from (not (is_among x xs)) (all_differ xs) h in (All-from_recursion (λ y. x ≢ y) xs (elsewhere x xs (not_true (is_among x xs) p)), distinct_by_test xs q)

abbrev has_text : List ℕ → List (List ℕ) → Bool
has_text t [] = false
has_text t (u ∷ us) = bytes_eq t u || has_text t us

abbrev pub texts_differ : List (List ℕ) → Bool
texts_differ [] = true
texts_differ (t ∷ ts) = not (has_text t ts) && texts_differ ts

text_at : (t : List ℕ) (us : List (List ℕ)) (j : ℕ) → has_text t us ≡ false → slice_get us j ≡ Some t → ⊥
text_at t [] j h e = cc
text_at t (u ∷ us) zero h e =
    let (p, q) = neither_from (bytes_eq t u) (has_text t us) h in
    let is : t ≡ u = cc in
    let found : bytes_eq t u ≡ true = (bytes_eq-Decides t u).1 is in
    cc
text_at t (u ∷ us) (suc j) h e = let (p, q) = neither_from (bytes_eq t u) (has_text t us) h in text_at t us j q e

first_text : (t u : List ℕ) (us : List (List ℕ)) (j : ℕ) → has_text t us ≡ false → Some t ≡ Some u → slice_get us j ≡ Some u → ⊥
first_text t u us j h e g = let is : u ≡ t = cc in text_at t us j h (g ∙ ap (λ x. Some x) is)

pub differ_by_test : (ts : List (List ℕ)) → texts_differ ts ≡ true → TextsDiffer ts
differ_by_test [] h i j t e g = cc
differ_by_test (t ∷ ts) h zero zero u e g = refl
differ_by_test (t ∷ ts) h zero (suc j) u e g = let (p, q) = both_from (not (has_text t ts)) (texts_differ ts) h in absurd (first_text t u ts j (not_true (has_text t ts) p) e g)
differ_by_test (t ∷ ts) h (suc i) zero u e g = let (p, q) = both_from (not (has_text t ts)) (texts_differ ts) h in absurd (first_text t u ts i (not_true (has_text t ts) p) g e)
differ_by_test (t ∷ ts) h (suc i) (suc j) u e g = let (p, q) = both_from (not (has_text t ts)) (texts_differ ts) h in ap suc (differ_by_test ts q i j u e g)

-- texts without / and %
abbrev no_mark : List ℕ → Bool
no_mark [] = true
no_mark (b ∷ bs) = not (b == 47) && (not (b == 37) && no_mark bs)

plain_by_test : (t : List ℕ) → no_mark t ≡ true → IsPlain t
plain_by_test [] h = tt
plain_by_test (b ∷ bs) h =
    let (p, r) = both_from (not (b == 47)) (not (b == 37) && no_mark bs) h in
    let (q, s) = both_from (not (b == 37)) (no_mark bs) r in
    ((different b 47 (not_true (b == 47) p), different b 37 (not_true (b == 37) q)), plain_by_test bs s)

abbrev pub no_marks : List (List ℕ) → Bool
no_marks [] = true
no_marks (t ∷ ts) = no_mark t && no_marks ts

pub all_plain_by_test : (ts : List (List ℕ)) → no_marks ts ≡ true → AllByRecursion IsPlain ts
all_plain_by_test [] h = tt
all_plain_by_test (t ∷ ts) h = let (p, q) = both_from (no_mark t) (no_marks ts) h in (plain_by_test t p, all_plain_by_test ts q)

-- of two lists of one length, the one that begins the other is it
longer_by : {X : Type 0} (xs more ys : List X) → length xs ≡ length ys → xs ++ more ≡ ys → length more ≡ 0
longer_by [] more [] h e = ap length e
longer_by [] more (y ∷ ys) h e = absurd (omega (arith, h))
longer_by (x ∷ xs) more [] h e = absurd (omega (arith, h))
longer_by (x ∷ xs) more (y ∷ ys) h e = let rest : xs ++ more ≡ ys = cc in longer_by xs more ys (omega (arith, h)) rest

pub none_more : {X : Type 0} (xs ys more : List X) → length xs ≡ length ys → xs ++ more ≡ ys → more ≡ []
none_more xs ys [] h e = refl
none_more xs ys (z ∷ more) h e = absurd (omega (arith, longer_by xs (z ∷ more) ys h e))
