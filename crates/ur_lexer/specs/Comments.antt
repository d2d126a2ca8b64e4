-- Comments, which nest.
use Rattle.std.specs.Prelude.{ℕ, zero, suc, ◌+◌, Bool, false, [], ◌∷◌, drop, Option, Some, None, ◌==◌, ◌&&◌, if◌then◌else◌, option_map}
use Rattle.ur_lexer.specs.Bytes.{Bytes}

-- the bytes begin with `(*`
abbrev pub opens : Bytes → Bool
opens [] = false
opens (a ∷ []) = false
opens (a ∷ b ∷ bs) = (a == 40) && (b == 42)

-- the bytes begin with `*)`
abbrev pub closes : Bytes → Bool
closes [] = false
closes (a ∷ []) = false
closes (a ∷ b ∷ bs) = (a == 42) && (b == 41)

-- where the comments that are open here, depth of them, all end: so many bytes on, or nowhere
unfoldable pub inside : ℕ → Bytes → Option ℕ
inside zero bs = Some 0
inside (suc depth) [] = None
inside (suc depth) (a ∷ []) = None
inside (suc depth) (a ∷ b ∷ bs) =
    if opens (a ∷ b ∷ bs) then option_map (λ n. 2 + n) (inside (suc (suc depth)) bs)
    else (if closes (a ∷ b ∷ bs) then option_map (λ n. 2 + n) (inside depth bs)
    else option_map (λ n. 1 + n) (inside (suc depth) (b ∷ bs)))

-- the length of the comment whose `(*` stands at the front, or none where the text ends in it
abbrev pub comment : Bytes → Option ℕ
comment bs = option_map (λ n. 2 + n) (inside 1 (drop 2 bs))
