-- Lists that are taken from their ends.
use Rattle.std.proofs.Common.{◌≡◌, ℕ, zero, suc, ◌<◌, List, [], ◌∷◌, ◌++◌, length, take, Some, slice_get, refl, ap, sym, ◌∙◌, arith}
use Rattle.con_terms.specs.Trees.{Cn}
use Rattle.con_terms.specs.Substitution.{shift, subst}
use Rattle.core_terms.specs.Datatypes.{reversed, put_all}

behind : (xs : List Cn) (x : Cn) → reversed (xs ++ x ∷ []) ≡ x ∷ reversed xs
behind [] x = refl
behind (y ∷ ys) x = ap (λ zs. zs ++ y ∷ []) (behind ys x)

-- one more from the front is one more in front, seen from the end
one_more : (xs : List Cn) (i : ℕ) (x : Cn) → slice_get xs i ≡ Some x → reversed (take (suc i) xs) ≡ x ∷ reversed (take i xs)
one_more [] i x e = cc
one_more (y ∷ ys) zero x e = let same : y ≡ x = cc in ap (λ z. z ∷ []) same
one_more (y ∷ ys) (suc i) x e = ap (λ zs. zs ++ y ∷ []) (one_more ys i x e)

append_length : (xs : List Cn) (x : Cn) → length (xs ++ x ∷ []) ≡ suc (length xs)
append_length [] x = refl
append_length (y ∷ ys) x = ap suc (append_length ys x)

reversed_length : (xs : List Cn) → length (reversed xs) ≡ length xs
reversed_length [] = refl
reversed_length (x ∷ xs) = append_length (reversed xs) x ∙ ap suc (reversed_length xs)

taken_length : (xs : List Cn) (i : ℕ) → i < suc (length xs) → length (take i xs) ≡ i
taken_length xs zero h = refl
taken_length [] (suc i) h = absurd (omega (arith, h))
taken_length (x ∷ xs) (suc i) h = ap suc (taken_length xs i (omega (arith, h)))

-- the last of so many arguments is put first
pub put_last : (args : List Cn) (i : ℕ) (a body : Cn) → i < length args → slice_get args i ≡ Some a
    → put_all (reversed (take i args)) (subst body (shift i a 0)) ≡ put_all (reversed (take (suc i) args)) body
put_last args i a body h e =
    let count : length (reversed (take i args)) ≡ i = reversed_length (take i args) ∙ taken_length args i (omega (arith, h)) in
    ap (λ n. put_all (reversed (take i args)) (subst body (shift n a 0))) (sym count)
    ∙ ap (λ xs. put_all xs body) (sym (one_more args i a e))
