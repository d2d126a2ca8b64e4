-- Steps inside strings.
use Rattle.std.proofs.Common.{◌≡◌, ◌<◌, ◌≤◌, ℕ, suc, ◌+◌, Bool, true, false, [], ◌∷◌, ◌++◌, length, take, drop, get_or, refl, ap, sym, ◌∙◌, Some, arith, add_assoc, append_assoc, zero-add, subst}
use Rattle.std.specs.Prelude.{◌==◌, IsUtf8, IsCharBoundary}
use Rattle.std.specs.List.{prefix_len}
use Rattle.std.specs.Char.{encode_utf8}
use Rattle.std.proofs.lemmas.Bool.Decides.{nat_tests}
use Rattle.std.proofs.lemmas.List.Sums.{prefix_len_stops}
use Rattle.ur_lexer.proofs.Readings.Cuts.{cut_behind}
use Rattle.ur_lexer.specs.Bytes.{Bytes, is_in_string}
use Rattle.ur_lexer.specs.Strings.{Quoted, closed, unknown, open_, behind, escaped, quoted}

closed_same : (a b : Bytes) (n m : ℕ) → a ≡ b → n ≡ m → closed a n ≡ closed b m
closed_same a b n m p q = ap (λ (x : Bytes). closed x n) p ∙ ap (λ (k : ℕ). closed b k) q

behind_none : (q : Quoted) → behind [] 0 q ≡ q
behind_none (closed content m) = closed_same content content (0 + m) m refl (zero-add m)
behind_none (unknown m) = ap unknown (zero-add m)
behind_none open_ = refl

behind_again : (a b : Bytes) (n m : ℕ) (q : Quoted) → behind a n (behind b m q) ≡ behind (a ++ b) (n + m) q
behind_again a b n m (closed content k) = closed_same _ _ _ _ (sym (append_assoc a b content)) (sym (add_assoc n m k))
behind_again a b n m (unknown k) = ap unknown (sym (add_assoc n m k))
behind_again a b n m open_ = refl

-- the same, further on
pub behind_on : (all : Quoted) (a b : Bytes) (k n j : ℕ) (q r : Quoted) → all ≡ behind a k q → q ≡ behind b n r → j ≡ k + n → all ≡ behind (a ++ b) j r
behind_on all a b k n j q r e f g = e ∙ ap (behind a k) f ∙ behind_again a b k n r ∙ ap (λ (i : ℕ). behind (a ++ b) i r) (sym g)

pub behind_first : (q : Quoted) (n : ℕ) → n ≡ 0 → q ≡ behind [] n q
behind_first q n e = sym (ap (λ (i : ℕ). behind [] i q) e ∙ behind_none q)

is_quote : (b : ℕ) → is_in_string b ≡ true → (b == 34) ≡ false
is_quote b h = grind (arith, nat_tests)

is_backslash : (b : ℕ) → is_in_string b ≡ true → (b == 92) ≡ false
is_backslash b h = grind (arith, nat_tests)

one_plain : (b : ℕ) (bs : Bytes) → is_in_string b ≡ true → quoted (b ∷ bs) ≡ behind (b ∷ []) 1 (quoted bs)
one_plain b [] h = let q = is_quote b h in rw q refl
one_plain b (c ∷ bs) h = let q = is_quote b h in let r = is_backslash b h in rw (q, r) refl

abbrev Plainly : Bytes → ℕ → Type 0
Plainly bs n = quoted bs ≡ behind (take n bs) n (quoted (drop n bs))

plain_at : (b : ℕ) (bs : Bytes) (p : Bool) → is_in_string b ≡ p → Plainly bs (prefix_len is_in_string bs) → Plainly (b ∷ bs) (prefix_len is_in_string (b ∷ bs))
plain_at b bs true h more =
    let m = prefix_len is_in_string bs in
    let e : prefix_len is_in_string (b ∷ bs) ≡ suc m = rw h (omega arith) in
    subst (λ (n : ℕ). Plainly (b ∷ bs) n) (sym e) (behind_on (quoted (b ∷ bs)) (b ∷ []) (take m bs) 1 m (suc m) (quoted bs) (quoted (drop m bs)) (one_plain b bs h) more (omega arith))
plain_at b bs false h more =
    let e : prefix_len is_in_string (b ∷ bs) ≡ 0 = rw h refl in
    subst (λ (n : ℕ). Plainly (b ∷ bs) n) (sym e) (behind_first (quoted (b ∷ bs)) 0 refl)

plain_from : (bs : Bytes) → Plainly bs (prefix_len is_in_string bs)
plain_from [] = refl
plain_from (b ∷ bs) = plain_at b bs (is_in_string b) refl (plain_from bs)

-- behind the bytes at the front that stand for themselves
pub quoted_plain : (bs : Bytes) (n : ℕ) → n ≡ prefix_len is_in_string bs → quoted bs ≡ behind (take n bs) n (quoted (drop n bs))
quoted_plain bs n e = subst (λ (k : ℕ). Plainly bs k) (sym e) (plain_from bs)

escaped_ascii : (b c : ℕ) → escaped b ≡ Some c → b < 128
escaped_ascii b c e = grind (arith, nat_tests)

not_in : (b : ℕ) → is_in_string b ≡ false → (b ≡ 34 → ⊥) → b ≡ 92
not_in b h n = grind (arith, nat_tests)

-- at an escape that is known
pub quoted_escape : (bs : Bytes) (c : ℕ) → IsUtf8 bs → prefix_len is_in_string bs ≡ 0 → (get_or bs 0 0 ≡ 34 → ⊥) → 2 ≤ length bs → escaped (get_or bs 1 0) ≡ Some c
    → IsCharBoundary bs 2 × (quoted bs ≡ behind (encode_utf8 c) 2 (quoted (drop 2 bs)))
quoted_escape [] c u p q l e = absurd (omega arith)
quoted_escape (b ∷ []) c u p q l e = absurd (omega arith)
quoted_escape (b ∷ d ∷ bs) c u p q l e =
    let stops : is_in_string b ≡ false = subst (λ (i : ℕ). is_in_string (get_or (b ∷ d ∷ bs) i 0) ≡ false) p (prefix_len_stops is_in_string (b ∷ d ∷ bs) 0 (omega (arith, p, l))) in
    let slash : b ≡ 92 = not_in b stops q in
    (cut_behind (b ∷ d ∷ bs) 2 u (omega arith) l (escaped_ascii d c e), rw (slash, e) refl)
