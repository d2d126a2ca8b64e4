-- Where a text may be cut.
use Rattle.std.proofs.Common.{◌≡◌, ◌<◌, ◌≤◌, ℕ, zero, suc, ◌-◌, Bool, true, false, length, get_or, arith, subst, sym, add-one}
use Rattle.std.specs.Prelude.{IsUtf8, IsCharBoundary}
use Rattle.std.specs.List.{prefix_len}
use Rattle.std.proofs.lemmas.Str.{IsCharBoundary-start, IsCharBoundary-after_ascii}
use Rattle.std.proofs.lemmas.List.Sums.{prefix_len-le-length, prefix_len_passes, prefix_len_stops}
use Rattle.std.proofs.lemmas.Bool.Decides.{nat_tests}
use Rattle.ur_lexer.specs.declared.classes.Class.{Class}
use Rattle.ur_lexer.specs.declared.classes.Class.TheVariants.{Name, TagName, AttributeName, Digit, Space, InString, InText}
use Rattle.ur_lexer.specs.Bytes.{Bytes, has, IsNarrow, is_name_byte, is_tag_name_byte, is_attribute_name_byte, is_space, is_in_string, is_in_text}
use Rattle.std.specs.Char.{is_ascii_digit}

pub name_ascii : (b : ℕ) → is_name_byte b ≡ true → b < 128
name_ascii b h = grind (arith, nat_tests)

pub tag_ascii : (b : ℕ) → is_tag_name_byte b ≡ true → b < 128
tag_ascii b h = grind (arith, nat_tests)

pub attribute_ascii : (b : ℕ) → is_attribute_name_byte b ≡ true → b < 128
attribute_ascii b h = grind (arith, nat_tests)

pub digit_ascii : (b : ℕ) → is_ascii_digit b ≡ true → b < 128
digit_ascii b h = grind (arith, nat_tests)

space_ascii : (b : ℕ) → is_space b ≡ true → b < 128
space_ascii b h = grind (arith, nat_tests)

string_ascii : (b : ℕ) → is_in_string b ≡ false → b < 128
string_ascii b h = grind (arith, nat_tests)

text_ascii : (b : ℕ) → is_in_text b ≡ false → b < 128
text_ascii b h = grind (arith, nat_tests)

pub narrow_ascii : (class : Class) → IsNarrow class → (b : ℕ) → has class b ≡ true → b < 128
narrow_ascii Name h b e = name_ascii b e
narrow_ascii TagName h b e = tag_ascii b e
narrow_ascii AttributeName h b e = attribute_ascii b e
narrow_ascii Digit h b e = digit_ascii b e
narrow_ascii Space h b e = space_ascii b e
narrow_ascii InString h b e = absurd h
narrow_ascii InText h b e = absurd h

-- behind some bytes of which the last is ASCII
pub cut_behind : (bs : Bytes) (n : ℕ) → IsUtf8 bs → 0 < n → n ≤ length bs → get_or bs (n - 1) 0 < 128 → IsCharBoundary bs n
cut_behind bs zero u h l a = absurd (omega arith)
cut_behind bs (suc k) u h l a =
    let here : get_or bs k 0 < 128 = subst (λ (i : ℕ). get_or bs i 0 < 128) (omega arith) a in
    subst (λ (i : ℕ). IsCharBoundary bs i) (add-one k) (IsCharBoundary-after_ascii bs k u (omega arith) here)

cut_narrow_at : (class : Class) (bs : Bytes) (n : ℕ) → prefix_len (has class) bs ≡ n → IsUtf8 bs → IsNarrow class → IsCharBoundary bs n
cut_narrow_at class bs zero e u h = IsCharBoundary-start bs u
cut_narrow_at class bs (suc k) e u h =
    let le = prefix_len-le-length (has class) bs in
    let passes = prefix_len_passes (has class) bs k 0 (omega (arith, e)) in
    subst (λ (i : ℕ). IsCharBoundary bs i) (add-one k) (IsCharBoundary-after_ascii bs k u (omega (arith, e, le)) (narrow_ascii class h (get_or bs k 0) passes))

-- behind a run of a narrow class
pub cut_narrow : (class : Class) (bs : Bytes) (n : ℕ) → n ≡ prefix_len (has class) bs → IsUtf8 bs → IsNarrow class → IsCharBoundary bs n
cut_narrow class bs n e u h = cut_narrow_at class bs n (sym e) u h

cut_wide : (p : ℕ → Bool) → ((b : ℕ) → p b ≡ false → b < 128) → (bs : Bytes) (n : ℕ) → n ≡ prefix_len p bs → IsCharBoundary bs n
cut_wide p ascii bs n e =
    let le = prefix_len-le-length p bs in (
      omega (arith, e, le),
      λ (lt : n < length bs) (h : 128 ≤ get_or bs n 0).
          let stops : p (get_or bs n 0) ≡ false = subst (λ (i : ℕ). p (get_or bs i 0) ≡ false) (sym e) (prefix_len_stops p bs 0 (omega (arith, e))) in
          let small = ascii (get_or bs n 0) stops in absurd (omega (arith, small, h)),
    )

-- behind what stands for itself in a string, and between tags
pub cut_string : (bs : Bytes) (n : ℕ) → n ≡ prefix_len (has InString) bs → IsCharBoundary bs n
cut_string bs n e = cut_wide is_in_string string_ascii bs n e

pub cut_text : (bs : Bytes) (n : ℕ) → n ≡ prefix_len (has InText) bs → IsCharBoundary bs n
cut_text bs n e = cut_wide is_in_text text_ascii bs n e
