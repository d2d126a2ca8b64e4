-- Texts at the same places.
use Rattle.std.proofs.Common.{◌≡◌, ℕ, suc, ◌<◌, ◌+◌, Bool, true, false, not, cond, nat_lt, ◌||◌, if◌then◌else◌, List, [], ◌∷◌, ◌++◌, length, take, get_or, Some, None, is_some, refl, ap, sym, subst, ◌∙◌, arith}
use Rattle.std.specs.List.{list_any, IsDistinct, position_or_len}
use Rattle.std.specs.Str.{bytes_eq}
use Rattle.std.proofs.Math.Seq.{take-suc}
use Rattle.con_terms.specs.Laws.{SymbolsAreTexts}
use Rattle.con_terms.specs.Symbols.{Table, put_text, symbol_of}
use Rattle.core_typing.specs.Accepts.{TextsDiffer}
use Rattle.con_terms.proofs.Tables.{any_place}
use Rattle.program_forms.proofs.Lists.{plus_one}

pub taken : (xs ys : List (List ℕ)) (i : ℕ) (x y : List ℕ) → take i xs ≡ take i ys → i < length xs → i < length ys
    → x ≡ get_or xs i x → y ≡ get_or ys i y → x ≡ y → take (i + 1) xs ≡ take (i + 1) ys
taken xs ys i x y e a b p q s =
    let one_more =
    take-suc xs i x a ∙ ap (λ z. take i xs ++ z ∷ []) (sym p) ∙ ap (λ zs. zs ++ x ∷ []) e
    ∙ ap (λ z. take i ys ++ z ∷ []) (s ∙ q) ∙ sym (take-suc ys i y b) in
    subst (λ n. take n xs ≡ take n ys) (plus_one i) one_more

is_some_cond : {X : Type 0} (b : Bool) (x : X) → is_some (cond b (Some x) None) ≡ b
is_some_cond true x = refl
is_some_cond false x = refl

further : (b c : Bool) (n m : ℕ) → nat_lt n m ≡ c → nat_lt (cond (not b) (1 + n) 0) (suc m) ≡ (b || c)
further true c n m h = grind arith
further false c n m h = grind (arith, h)

within_any : {X : Type 0} (p : X → Bool) (xs : List X) → nat_lt (position_or_len p xs) (length xs) ≡ list_any p xs
within_any p [] = refl
within_any p (x ∷ xs) = further (p x) (list_any p xs) (position_or_len p xs) (length xs) (within_any p xs)

-- a text that isn't there goes last
put_last : (t : Table) (text : List ℕ) → symbol_of t text ≡ None → put_text t text ≡ t ++ text ∷ []
put_last t text e = ap (λ b. if b then t else t ++ text ∷ []) (sym (any_place (bytes_eq text) t) ∙ ap is_some e)

pub added : (texts t new : List (List ℕ)) (i : ℕ) (x text : List ℕ) → t ≡ take i texts → i < length texts
    → x ≡ get_or texts i x → text ≡ x → symbol_of t text ≡ None → new ≡ put_text t text → new ≡ take (i + 1) texts
added texts t new i x text e a p same absent grown =
    let one_more =
    grown ∙ put_last t text absent ∙ ap (λ zs. zs ++ text ∷ []) e
    ∙ ap (λ z. take i texts ++ z ∷ []) (same ∙ p) ∙ sym (take-suc texts i x a) in
    subst (λ n. new ≡ take n texts) (plus_one i) one_more

pub differ : SymbolsAreTexts → (t : List (List ℕ)) → IsDistinct bytes_eq t → TextsDiffer t
differ law t d i j x a b = (law t i j x x d a b).1 refl
