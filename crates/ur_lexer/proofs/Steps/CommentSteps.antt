-- Steps inside comments.
use Rattle.std.proofs.Common.{◌≡◌, ◌<◌, ℕ, zero, suc, ◌+◌, ◌-◌, true, false, [], ◌∷◌, length, drop, refl, ap, sym, ◌∙◌, Option, Some, None, option_map, arith, add_assoc, add-one}
use Rattle.ur_lexer.specs.Bytes.{Bytes}
use Rattle.ur_lexer.specs.Comments.{opens, closes, inside}

pub inside_opens : (depth : ℕ) (bs : Bytes) → 0 < depth → opens bs ≡ true → inside depth bs ≡ option_map (λ n. 2 + n) (inside (depth + 1) (drop 2 bs))
unfolding inside
inside_opens zero bs h e = absurd (omega arith)
inside_opens (suc depth) [] h e = cc
inside_opens (suc depth) (a ∷ []) h e = cc
inside_opens (suc depth) (a ∷ b ∷ bs) h e = rw e (ap (λ d. option_map (λ n. 2 + n) (inside d bs)) (sym (add-one (suc depth))))

pub inside_closes : (depth : ℕ) (bs : Bytes) → 0 < depth → opens bs ≡ false → closes bs ≡ true → inside depth bs ≡ option_map (λ n. 2 + n) (inside (depth - 1) (drop 2 bs))
unfolding inside
inside_closes zero bs h e c = absurd (omega arith)
inside_closes (suc depth) [] h e c = cc
inside_closes (suc depth) (a ∷ []) h e c = cc
inside_closes (suc depth) (a ∷ b ∷ bs) h e c = rw (e, c) (let s : depth ≡ suc depth - 1 = omega arith in ap (λ d. option_map (λ n. 2 + n) (inside d bs)) s)

pub inside_other : (depth : ℕ) (bs : Bytes) → 0 < depth → opens bs ≡ false → closes bs ≡ false → 0 < length bs → inside depth bs ≡ option_map (λ n. 1 + n) (inside depth (drop 1 bs))
unfolding inside
inside_other zero bs h e c l = absurd (omega arith)
inside_other (suc depth) [] h e c l = absurd (omega arith)
inside_other (suc depth) (a ∷ []) h e c l = refl
inside_other (suc depth) (a ∷ b ∷ bs) h e c l = search (arith, e, c)

pub inside_end : (depth : ℕ) (bs : Bytes) → 0 < depth → length bs ≡ 0 → inside depth bs ≡ None
unfolding inside
inside_end zero bs h l = absurd (omega arith)
inside_end (suc depth) [] h l = refl
inside_end (suc depth) (a ∷ bs) h l = absurd (omega arith)

pub inside_out : (bs : Bytes) → inside 0 bs ≡ Some 0
unfolding inside
inside_out bs = refl

-- the same, further on by n bytes
pub on : (all : Option ℕ) (n k : ℕ) (a b : Option ℕ) → all ≡ option_map (λ m. n + m) a → a ≡ option_map (λ m. k + m) b → all ≡ option_map (λ m. (n + k) + m) b
on all n k a None e f = e ∙ ap (option_map (λ m. n + m)) f
on all n k a (Some x) e f = e ∙ ap (option_map (λ m. n + m)) f ∙ ap Some (sym (add_assoc n k x))
