-- Whatever a piece is, it has a value of a form or has none.
use Rattle.std.proofs.Common.{◌≡◌, ℕ, zero, suc, pred, ◌==◌, ℤ, pos, negsuc, Bool, true, false}
use Rattle.std.proofs.Common.{List, [], ◌∷◌, drop, Option, Decides, IsUtf8, FitsSigned, bytes_eq, w64, codes}
use Rattle.std.proofs.Common.{refl, ap, sym, subst, ◌∙◌, ◌⊎◌, inl, inr, arith}
use Rattle.std.specs.Int.{int_wrap}
use Rattle.std.specs.List.{Contains}
use Rattle.std.specs.Ordering.{int_eq}
use Rattle.std.specs.Str.{is_utf8}
use Rattle.std.specs.Str.Parse.{digits_value}
use Rattle.std.specs.Fmt.{signed_decimal}
use Rattle.std.proofs.lemmas.Bool.Decides.{Decides-eqb, Decides-int_eq}
use Rattle.std.proofs.lemmas.Fmt.{decimal_is_IsNumeral}
use Rattle.std.proofs.lemmas.Int.{int_wrap_fits, SFits-int_wrap}
use Rattle.std.proofs.lemmas.Slice.Eq.{bytes_eq-Decides}
use Rattle.std.proofs.lemmas.Str.{IsUtf8-from_is_utf8, is_utf8-from_IsUtf8}
use Rattle.table_rows.specs.Shapes.{Sh, Cases}
use Rattle.link_router.specs.Reading.{IsNumber, IsWords, IsTruth, Names}
use Rattle.link_router.proofs.Listed.{listed_head, listed_later, none_listed}
use Rattle.link_router.proofs.Sent.{fits_mag}

-- what holds or doesn't
abbrev pub Settled : Type 0 → Type 0
Settled P = P ⊎ (P → ⊥)

pub by_test : {P : Type 0} (b : Bool) → Decides b P → Settled P
by_test true d = inl (d.0 refl)
by_test false d = inr (λ p. let e : false ≡ true = d.1 p in cc)

pub settled_as : {P Q : Type 0} → (P → Q) → (Q → P) → Settled P → Settled Q
settled_as f g (inl p) = inl (f p)
settled_as f g (inr n) = inr (λ q. n (g q))

pub both_settled : {P Q : Type 0} → Settled P → Settled Q → Settled (P × Q)
both_settled (inr n) q = inr (λ h. n h.0)
both_settled (inl p) (inr n) = inr (λ h. n h.1)
both_settled (inl p) (inl q) = inl (p, q)

pub either_settled : {P Q : Type 0} → Settled P → Settled Q → Settled (P ⊎ Q)
either_settled (inl p) q = inl (inl p)
either_settled (inr n) (inl q) = inl (inr q)
either_settled (inr n) (inr m) = inr (λ h. elim h [ inl p ↦ n p | inr q ↦ m q ])

-- what is listed is the first, or is listed behind it
pub first_or_behind : {X : Type 0} (x y : X) (xs : List X) → Contains (x ∷ xs) y → (x ≡ y) ⊎ Contains xs y
first_or_behind x y xs (zero, h, e) = inl e
first_or_behind x y xs (suc k, h, e) = inr (k, omega (arith, h), e)

-- a piece is this number or isn't
number_fits : (z : ℤ) → Settled (FitsSigned w64 z)
number_fits z =
    settled_as (λ e. subst (FitsSigned w64) e (SFits-int_wrap w64 z)) (int_wrap_fits w64 z)
    (by_test (int_eq (int_wrap w64 z) z) (Decides-int_eq (int_wrap w64 z) z))

this_number : (p : List ℕ) (z : ℤ) → Settled (IsNumber p z)
this_number p z =
    settled_as (λ h. record { fits = h.0; decimal = h.1 }) (λ n. (n.fits, n.decimal))
    (both_settled (number_fits z) (by_test (bytes_eq p (signed_decimal z)) (bytes_eq-Decides p (signed_decimal z))))

-- only these two numbers can have this decimal form
abbrev without_sign : List ℕ → ℤ
without_sign p = pos (digits_value 10 p)

abbrev behind_sign : List ℕ → ℤ
behind_sign p = negsuc (pred (digits_value 10 (drop 1 p)))

one_of_two : (p : List ℕ) (z : ℤ) → IsNumber p z → (without_sign p ≡ z) ⊎ (behind_sign p ≡ z)
one_of_two p (pos n) h =
    let back = (decimal_is_IsNumeral n (omega (arith, fits_mag (pos n) h.fits))).1 in
    inl (ap without_sign h.decimal ∙ ap pos back)
one_of_two p (negsuc n) h =
    let back = (decimal_is_IsNumeral (suc n) (omega (arith, fits_mag (negsuc n) h.fits))).1 in
    inr (ap behind_sign h.decimal ∙ ap (λ m. negsuc (pred m)) back)

-- a piece is a number or isn't
pub a_number : (p : List ℕ) → Settled ((z : ℤ) × IsNumber p z)
a_number p =
    settled_as as_one as_either (either_settled (this_number p (without_sign p)) (this_number p (behind_sign p)))
  where
    as_one : IsNumber p (without_sign p) ⊎ IsNumber p (behind_sign p) → (z : ℤ) × IsNumber p z
    as_one (inl n) = (without_sign p, n)
    as_one (inr n) = (behind_sign p, n)

    as_either : (z : ℤ) × IsNumber p z → IsNumber p (without_sign p) ⊎ IsNumber p (behind_sign p)
    as_either (z, n) = elim (one_of_two p z n) [
      | inl e ↦ inl (subst (IsNumber p) (sym e) n)
      | inr e ↦ inr (subst (IsNumber p) (sym e) n)
    ]

-- a piece is a text or isn't
no_mark : (t : List ℕ) → [] ≡ 95 ∷ t → ⊥
no_mark t h = cc

mark_is : (b : ℕ) (bs t : List ℕ) → b ∷ bs ≡ 95 ∷ t → b ≡ 95
mark_is b bs t h = cc

behind_mark : (b : ℕ) (bs t : List ℕ) → b ∷ bs ≡ 95 ∷ t → t ≡ bs
behind_mark b bs t h = cc

pub some_words : (p : List ℕ) → Settled ((t : List ℕ) × IsWords p t)
some_words [] = inr (λ w. no_mark w.0 w.1.behind)
some_words (b ∷ bs) =
    settled_as (λ h. (bs, record { utf8 = h.1; behind = ap (λ x. x ∷ bs) h.0 }))
    (λ w. (mark_is b bs w.0 w.1.behind, subst IsUtf8 (behind_mark b bs w.0 w.1.behind) w.1.utf8))
    (both_settled (by_test (b == 95) (Decides-eqb b 95))
    (by_test (is_utf8 bs) (IsUtf8-from_is_utf8 bs, is_utf8-from_IsUtf8 bs)))

-- a piece is a truth value or isn't
pub a_truth_value : (p : List ℕ) → Settled (IsTruth p)
a_truth_value p =
    either_settled (by_test (bytes_eq p (codes "True")) (bytes_eq-Decides p (codes "True")))
    (by_test (bytes_eq p (codes "False")) (bytes_eq-Decides p (codes "False")))

-- a piece is a constructor's name or isn't
pub some_name : (cs : Cases) (p : List ℕ) → Settled (Names cs p)
some_name [] p = inr (λ n. none_listed (p, n.0) n.1)
some_name ((m, held) ∷ cs) p =
    settled_as as_name as_either (either_settled (by_test (bytes_eq m p) (bytes_eq-Decides m p)) (some_name cs p))
  where
    as_name : (m ≡ p) ⊎ Names cs p → Names ((m, held) ∷ cs) p
    as_name (inl e) =
        (held, subst (λ (x : List ℕ). Contains ((m, held) ∷ cs) (x, held)) e (listed_head (m, held) cs))
    as_name (inr n) = (n.0, listed_later (m, held) (p, n.0) cs n.1)

    as_either : Names ((m, held) ∷ cs) p → (m ≡ p) ⊎ Names cs p
    as_either (k, i) = elim (first_or_behind (m, held) (p, k) cs i) [
      | inl e ↦ inl (ap (λ (x : List ℕ × Option Sh). x.0) e)
      | inr j ↦ inr (k, j)
    ]
