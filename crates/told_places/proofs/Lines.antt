-- A line begins where a character does.
use Rattle.std.proofs.Common.{◌≡◌, ℕ, zero, suc, ◌-◌, ◌<◌, ◌≤◌, List, length, slice_index, IsUtf8, IsCharBoundary, arith, sym, ap, subst, ◌∙◌}
use Rattle.std.proofs.lemmas.Str.{IsCharBoundary-start, IsCharBoundary-after_ascii}

-- behind a line feed
behind : (bs : List ℕ) (n : ℕ) → IsUtf8 bs → n < length bs → slice_index bs n ≡ 10 → IsCharBoundary bs (suc n)
behind bs n utf8 le e = subst (IsCharBoundary bs) (omega arith) (IsCharBoundary-after_ascii bs n utf8 le (omega (arith, e)))

pub line_begins : (bs others : List ℕ) (start : ℕ) → IsUtf8 bs → others ≡ bs → start ≤ length bs → (0 < start → slice_index others (start - 1) ≡ 10) → IsCharBoundary bs start
line_begins bs others zero utf8 same le feed = IsCharBoundary-start bs utf8
line_begins bs others (suc n) utf8 same le feed =
    let before : suc n - 1 ≡ n = omega arith in
    behind bs n utf8 (omega arith) (sym (ap (λ (l : List ℕ). slice_index l n) same) ∙ sym (ap (slice_index others) before) ∙ feed (omega arith))
