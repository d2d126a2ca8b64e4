-- Steps in runs of text.
use Rattle.std.proofs.Common.{◌≡◌, ◌<◌, ◌≤◌, ℕ, zero, suc, ◌+◌, ◌-◌, Bool, true, false, [], ◌∷◌, ◌++◌, length, take, drop, get_or, refl, ap, sym, ◌∙◌, Some, arith, add_assoc, append_assoc, append-nil, subst}
use Rattle.std.specs.Prelude.{◌==◌, ◌||◌, IsUtf8, IsCharBoundary}
use Rattle.std.specs.List.{prefix_len}
use Rattle.std.specs.Char.{encode_utf8}
use Rattle.std.proofs.lemmas.Bool.Decides.{nat_tests}
use Rattle.ur_lexer.proofs.Readings.Cuts.{cut_behind}
use Rattle.ur_lexer.proofs.Steps.EntitySteps.{entity_ends}
use Rattle.ur_lexer.specs.Bytes.{Bytes, is_in_text}
use Rattle.ur_lexer.specs.Comments.{opens}
use Rattle.ur_lexer.specs.Entities.{entity}
use Rattle.ur_lexer.specs.Markup.{joined, run_from}

abbrev Run : Type 0
Run = Bytes × ℕ

same_run : (a b : Bytes) (n m : ℕ) → a ≡ b → n ≡ m → ◌≡◌ {A = Run} (a, n) (b, m)
same_run a b n m p q = ap (λ (x : Bytes). (x, n)) p ∙ ap (λ (k : ℕ). (b, k)) q

joined_again : (a b : Bytes) (n m : ℕ) (r : Run) → joined a n (joined b m r) ≡ joined (a ++ b) (n + m) r
joined_again a b n m r = same_run _ _ _ _ (sym (append_assoc a b r.0)) (sym (add_assoc n m r.1))

-- the same, further on
pub joined_on : (all : Run) (a b : Bytes) (k n j : ℕ) (q r : Run) → all ≡ joined a k q → q ≡ joined b n r → j ≡ k + n → all ≡ joined (a ++ b) j r
joined_on all a b k n j q r e f g = e ∙ ap (joined a k) f ∙ joined_again a b k n r ∙ ap (λ (i : ℕ). joined (a ++ b) i r) (sym g)

pub joined_first : (r : Run) (n : ℕ) → n ≡ 0 → r ≡ joined [] n r
joined_first r n e = same_run r.0 r.0 r.1 (n + r.1) refl (omega (arith, e))

-- a byte that stands for itself
one_byte : (b : ℕ) (bs : Bytes) → ((b == 60) || (b == 123) || opens (b ∷ bs)) ≡ false → (b == 38) ≡ false → run_from 0 (b ∷ bs) ≡ joined (b ∷ []) 1 (run_from 0 bs)
one_byte b bs h k = rw (h, k) refl

no_mark : (b : ℕ) → is_in_text b ≡ true → ((b == 60) ≡ false) × ((b == 123) ≡ false) × ((b == 38) ≡ false) × ((b == 40) ≡ false)
no_mark b h = (grind (arith, nat_tests), grind (arith, nat_tests), grind (arith, nat_tests), grind (arith, nat_tests))

no_comment : (b : ℕ) (bs : Bytes) → (b == 40) ≡ false → opens (b ∷ bs) ≡ false
no_comment b [] h = refl
no_comment b (c ∷ bs) h = rw h refl

one_plain : (b : ℕ) (bs : Bytes) → is_in_text b ≡ true → run_from 0 (b ∷ bs) ≡ joined (b ∷ []) 1 (run_from 0 bs)
one_plain b bs h =
    let n = no_mark b h in
    let o = no_comment b bs n.3 in one_byte b bs (rw (n.0, n.1, o) refl) n.2

abbrev Plainly : Bytes → ℕ → Type 0
Plainly bs n = run_from 0 bs ≡ joined (take n bs) n (run_from 0 (drop n bs))

plain_at : (b : ℕ) (bs : Bytes) (p : Bool) → is_in_text b ≡ p → Plainly bs (prefix_len is_in_text bs) → Plainly (b ∷ bs) (prefix_len is_in_text (b ∷ bs))
plain_at b bs true h more =
    let m = prefix_len is_in_text bs in
    let e : prefix_len is_in_text (b ∷ bs) ≡ suc m = rw h (omega arith) in
    subst (λ (n : ℕ). Plainly (b ∷ bs) n) (sym e) (joined_on (run_from 0 (b ∷ bs)) (b ∷ []) (take m bs) 1 m (suc m) (run_from 0 bs) (run_from 0 (drop m bs)) (one_plain b bs h) more (omega arith))
plain_at b bs false h more =
    let e : prefix_len is_in_text (b ∷ bs) ≡ 0 = rw h refl in
    subst (λ (n : ℕ). Plainly (b ∷ bs) n) (sym e) (joined_first (run_from 0 (b ∷ bs)) 0 refl)

plain_from : (bs : Bytes) → Plainly bs (prefix_len is_in_text bs)
plain_from [] = refl
plain_from (b ∷ bs) = plain_at b bs (is_in_text b) refl (plain_from bs)

-- behind the bytes at the front that stand for themselves
pub run_plain : (bs : Bytes) (n : ℕ) → n ≡ prefix_len is_in_text bs → run_from 0 bs ≡ joined (take n bs) n (run_from 0 (drop n bs))
run_plain bs n e = subst (λ (k : ℕ). Plainly bs k) (sym e) (plain_from bs)

-- behind a `(` that begins no comment
pub run_bracket : (bs : Bytes) → IsUtf8 bs → 0 < length bs → get_or bs 0 0 ≡ 40 → opens bs ≡ false → (0 < 1) × IsCharBoundary bs 1 × (run_from 0 bs ≡ joined (take 1 bs) 1 (run_from 0 (drop 1 bs)))
run_bracket [] u l h o = absurd (omega arith)
run_bracket (b ∷ bs) u l h o = (omega arith, cut_behind (b ∷ bs) 1 u (omega arith) (omega arith) (omega (arith, h)), one_byte b bs (rw (h, o) refl) (rw h refl))

-- behind bytes that are skipped
run_skips : (k : ℕ) (bs : Bytes) → k ≤ length bs → run_from k bs ≡ joined [] k (run_from 0 (drop k bs))
run_skips zero bs h = joined_first (run_from 0 bs) 0 refl
run_skips (suc k) [] h = absurd (omega arith)
run_skips (suc k) (b ∷ bs) h = joined_on (run_from (suc k) (b ∷ bs)) [] [] 1 k (suc k) (run_from k bs) (run_from 0 (drop k bs)) refl (run_skips k bs (omega arith)) (omega arith)

entity_step : (bs : Bytes) (c n : ℕ) → entity (38 ∷ bs) ≡ Some (c, n) → opens (38 ∷ bs) ≡ false → run_from 0 (38 ∷ bs) ≡ joined (encode_utf8 c) 1 (run_from (n - 1) bs)
entity_step bs c n e o = rw (o, e) refl

entity_at : (b : ℕ) (bs : Bytes) (c n : ℕ) → 38 ≡ b → entity (b ∷ bs) ≡ Some (c, n) → opens (b ∷ bs) ≡ false → run_from 0 (b ∷ bs) ≡ joined (encode_utf8 c) 1 (run_from (n - 1) bs)
entity_at b bs c n h = subst (λ (x : ℕ). entity (x ∷ bs) ≡ Some (c, n) → opens (x ∷ bs) ≡ false → run_from 0 (x ∷ bs) ≡ joined (encode_utf8 c) 1 (run_from (n - 1) bs)) h (entity_step bs c n)

-- behind an entity
pub run_entity : (bs : Bytes) (c n : ℕ) → IsUtf8 bs → get_or bs 0 0 ≡ 38 → 0 < length bs → opens bs ≡ false → entity bs ≡ Some (c, n) → (0 < n) × IsCharBoundary bs n × (run_from 0 bs ≡ joined (encode_utf8 c) n (run_from 0 (drop n bs)))
run_entity [] c n u h l o e = absurd (omega arith)
run_entity (b ∷ bs) c zero u h l o e = absurd (omega (arith, (entity_ends (b ∷ bs) (c, zero) e).some))
run_entity (b ∷ bs) c (suc m) u h l o e =
    let ends = entity_ends (b ∷ bs) (c, suc m) e in
    let one : suc m - 1 ≡ m = omega arith in
    let step : run_from 0 (b ∷ bs) ≡ joined (encode_utf8 c) 1 (run_from m bs) = subst (λ (k : ℕ). run_from 0 (b ∷ bs) ≡ joined (encode_utf8 c) 1 (run_from k bs)) one (entity_at b bs c (suc m) (sym h) e o) in (
      ends.some,
      cut_behind (b ∷ bs) (suc m) u ends.some ends.within (omega (arith, ends.last)),
      subst (λ (x : Bytes). run_from 0 (b ∷ bs) ≡ joined x (suc m) (run_from 0 (drop m bs))) (append-nil (encode_utf8 c)) (joined_on (run_from 0 (b ∷ bs)) (encode_utf8 c) [] 1 m (suc m) (run_from m bs) (run_from 0 (drop m bs)) step (run_skips m bs (omega (arith, ends.within))) (omega arith)),
    )
