-- Where blanks and tokens end, a text may be cut.
use Rattle.std.proofs.Common.{◌≡◌, ◌<◌, ◌≤◌, ◌+◌, ◌-◌, ℕ, zero, suc, Bool, true, false, [], ◌∷◌, length, take, drop, get_or, refl, sym, ap, ◌∙◌, subst, arith, Option, Some, None, length-drop, get_or-drop, eqb-true}
use Rattle.std.specs.Prelude.{◌==◌, ◌&&◌, ◌||◌, not, if◌then◌else◌, nat_lt, nat_eq, IsUtf8, IsCharBoundary, codes}
use Rattle.std.specs.List.{list_all, prefix_len}
use Rattle.std.specs.Cmp.Lexicographic.{pointwise}
use Rattle.std.specs.Char.{is_ascii_lowercase, is_ascii_digit, encode_utf8}
use Rattle.std.proofs.lemmas.Bool.Decides.{nat_tests}
use Rattle.std.proofs.lemmas.List.Folds.{length-prefix_len}
use Rattle.std.proofs.lemmas.Bool.{and_parts}
use Rattle.ur_lexer.specs.declared.pieces.Found.{Found}
use Rattle.ur_lexer.specs.declared.state.Mode.{Mode}
use Rattle.ur_lexer.specs.declared.state.Mode.TheVariants.{Code, Tag, Text}
use Rattle.ur_lexer.specs.Bytes.{Bytes, is_name_byte, is_tag_name_byte, is_attribute_name_byte, is_space}
use Rattle.ur_lexer.specs.Words.{symbols, tag_symbols}
use Rattle.ur_lexer.specs.Comments.{opens, closes, inside, comment}
use Rattle.ur_lexer.specs.Strings.{Quoted, quoted, closed, unknown, open_, behind, behind_escape, escaped}
use Rattle.ur_lexer.specs.Entities.{entity}
use Rattle.ur_lexer.specs.Markup.{run, run_from, closing, closing_of, closing_end}
use Rattle.ur_lexer.specs.Ahead.{at_space}
use Rattle.ur_lexer.specs.Where.{Where}
use Rattle.ur_lexer.specs.Lexing.{IsBlank, a_comment, a_space, IsToken, Stands, lower_name, upper_name, attribute_name, integer, string, symbol, tag_symbol, opening, closing_tag, brace, run_of_text}
use Rattle.ur_lexer.proofs.Front.Choices.{either, mapped, by_test, by_option}
use Rattle.ur_lexer.proofs.Readings.Cuts.{cut_behind, name_ascii, tag_ascii, attribute_ascii, digit_ascii}
use Rattle.ur_lexer.proofs.Steps.EntitySteps.{entity_ends}
use Rattle.ur_lexer.proofs.Front.Runs.{passes_at}
use Rattle.ur_lexer.proofs.Front.Symbols.{symbol_last}

-- so many bytes stand there, of which the last is this one
pub record EndsAt (last : ℕ) (bs : Bytes) (n : ℕ) : Type 0 where
  pub some : 0 < n
  pub within : n ≤ length bs
  pub byte : get_or bs (n - 1) 0 ≡ last

cut_at : (last : ℕ) (bs : Bytes) (n : ℕ) → last < 128 → IsUtf8 bs → EndsAt last bs n → (0 < n) × IsCharBoundary bs n
cut_at last bs n a u e = (e.some, cut_behind bs n u e.some e.within (omega (arith, e.byte, a)))

one_more : (last b : ℕ) (bs : Bytes) (n k : ℕ) → EndsAt last bs n → k ≡ 1 + n → EndsAt last (b ∷ bs) k
one_more last b bs n zero e h = absurd (omega arith)
one_more last b bs n (suc k) e h = record {
  some = omega arith;
  within = omega (arith, e.within);
  byte = at_byte n k e.some (omega arith) e.byte;
}
  where
    at_byte : (n k : ℕ) → 0 < n → k ≡ n → get_or bs (n - 1) 0 ≡ last → get_or (b ∷ bs) (suc k - 1) 0 ≡ last
    at_byte zero k s e h = absurd (omega arith)
    at_byte (suc n) k s e h =
        let here : suc n ≡ suc k - 1 = omega (arith, e) in
        let there : get_or bs n 0 ≡ last = subst (λ (i : ℕ). get_or bs i 0 ≡ last) (omega arith) h in
        subst (λ (i : ℕ). get_or (b ∷ bs) i 0 ≡ last) here there

two_more : (last a b : ℕ) (bs : Bytes) (n k : ℕ) → EndsAt last bs n → k ≡ 2 + n → EndsAt last (a ∷ b ∷ bs) k
two_more last a b bs n k e h = one_more last a (b ∷ bs) (1 + n) k (one_more last b bs n (1 + n) e refl) (omega (arith, h))

-- ---- comments

abbrev Inside : ℕ → Bytes → ℕ → Type 0
Inside zero bs n = n ≡ 0
Inside (suc depth) bs n = EndsAt 41 bs n

closes_on : (depth a b : ℕ) (bs : Bytes) (m n : ℕ) → b ≡ 41 → Inside depth bs m → 2 + m ≡ n → EndsAt 41 (a ∷ b ∷ bs) n
closes_on zero a b bs m n e i h =
    let two : 2 ≡ n = omega (arith, i, h) in
    subst (λ (k : ℕ). EndsAt 41 (a ∷ b ∷ bs) k) two (record { some = omega arith; within = omega arith; byte = e })
closes_on (suc depth) a b bs m n e i h = two_more 41 a b bs m n i (sym h)

closes_byte : (a b : ℕ) → ((a == 42) && (b == 41)) ≡ true → b ≡ 41
closes_byte a b h = grind (arith, nat_tests)

inside_ends : (depth : ℕ) (bs : Bytes) (n : ℕ) → inside depth bs ≡ Some n → Inside depth bs n
unfolding inside
inside_ends zero bs n h = cc
inside_ends (suc depth) [] n h = cc
inside_ends (suc depth) (a ∷ []) n h = cc
inside_ends (suc depth) (a ∷ b ∷ bs) n h =
    either (opens (a ∷ b ∷ bs)) _ _ n h
    (λ t q. mapped (λ (k : ℕ). 2 + k) (inside (suc (suc depth)) bs) n q (λ m e same. two_more 41 a b bs m n (inside_ends (suc (suc depth)) bs m e) (sym same)))
    (λ t q. either (closes (a ∷ b ∷ bs)) _ _ n q
    (λ t q. mapped (λ (k : ℕ). 2 + k) (inside depth bs) n q (λ m e same. closes_on depth a b bs m n (closes_byte a b t) (inside_ends depth bs m e) same))
    (λ t q. mapped (λ (k : ℕ). 1 + k) (inside (suc depth) (b ∷ bs)) n q (λ m e same. one_more 41 a (b ∷ bs) m n (inside_ends (suc depth) (b ∷ bs) m e) (sym same))))

comment_ends : (bs : Bytes) (n : ℕ) → opens bs ≡ true → comment bs ≡ Some n → EndsAt 41 bs n
comment_ends [] n o h = cc
comment_ends (a ∷ []) n o h = cc
comment_ends (a ∷ b ∷ bs) n o h = mapped (λ (k : ℕ). 2 + k) (inside 1 bs) n h (λ m e same. two_more 41 a b bs m n (inside_ends 1 bs m e) (sym same))

space_byte : (b : ℕ) → is_space b ≡ true → b < 128
space_byte b h = grind (arith, nat_tests)

first_space : (now : Mode) (bs : Bytes) → at_space now bs ≡ true → (0 < length bs) × (is_space (get_or bs 0 0) ≡ true)
first_space now [] h = absurd (none now h)
  where
    none : (now : Mode) → at_space now [] ≡ true → ⊥
    none Code h = cc
    none Tag h = cc
    none Text h = cc
first_space now (b ∷ bs) h = (omega arith, (and_parts _ _ h).1)

pub blank_cut : (now : Mode) (bs : Bytes) (n : ℕ) → IsUtf8 bs → IsBlank now bs n → (0 < n) × IsCharBoundary bs n
blank_cut now bs n u (a_comment c e) = cut_at 41 bs n (omega arith) u (comment_ends bs n (and_parts _ (opens bs) c).1 e)
blank_cut now bs n u (a_space c s e) =
    let f = first_space now bs s in
    let a = space_byte (get_or bs 0 0) f.1 in
    subst (λ (k : ℕ). (0 < k) × IsCharBoundary bs k) (sym e) (omega arith, cut_behind bs 1 u (omega arith) f.0 a)

-- ---- strings

chosen : {A P : Type 0} (t : Bool) (l r e : A) → (if t then l else r) ≡ e → (t ≡ true → l ≡ e → P) → (t ≡ false → r ≡ e → P) → P
chosen true l r e h left right = left refl h
chosen false l r e h left right = right refl h

behind_closed : {P : Type 0} (front : Bytes) (k : ℕ) (q : Quoted) (c : Bytes) (n : ℕ) → behind front k q ≡ closed c n → ((d : Bytes) (m : ℕ) → q ≡ closed d m → n ≡ k + m → P) → P
behind_closed front k (closed d m) c n h go = go d m refl (cc)
behind_closed front k (unknown m) c n h go = cc
behind_closed front k open_ c n h go = cc

escape_closed : {P : Type 0} (o : Option ℕ) (q : Quoted) (c : Bytes) (n : ℕ) → behind_escape o q ≡ closed c n → ((d : Bytes) (m : ℕ) → q ≡ closed d m → n ≡ 2 + m → P) → P
escape_closed None q c n h go = cc
escape_closed (Some x) q c n h go = behind_closed (encode_utf8 x) 2 q c n h go

one_closed : (c : Bytes) (n : ℕ) → closed [] 1 ≡ closed c n → 1 ≡ n
one_closed c n h = cc

quoted_ends : (bs : Bytes) (c : Bytes) (n : ℕ) → quoted bs ≡ closed c n → EndsAt 34 bs n
quoted_ends [] c n h = cc
quoted_ends (b ∷ []) c n h =
    chosen (b == 34) (closed [] 1) open_ (closed c n) h
    (λ t q. subst (λ (k : ℕ). EndsAt 34 (b ∷ []) k) (one_closed c n q) (record { some = omega arith; within = omega arith; byte = eqb-true b 34 t }))
    (λ t q. cc)
quoted_ends (b ∷ d ∷ bs) c n h =
    chosen (b == 34) _ _ (closed c n) h
    (λ t q. subst (λ (k : ℕ). EndsAt 34 (b ∷ d ∷ bs) k) (one_closed c n q) (record { some = omega arith; within = omega arith; byte = eqb-true b 34 t }))
    (λ t q. chosen (b == 92) _ _ (closed c n) q
    (λ t q. escape_closed (escaped d) (quoted bs) c n q (λ f m e same. two_more 34 b d bs m n (quoted_ends bs f m e) same))
    (λ t q. behind_closed (b ∷ []) 1 (quoted (d ∷ bs)) c n q (λ f m e same. one_more 34 b (d ∷ bs) m n (quoted_ends (d ∷ bs) f m e) same)))

string_ends : (bs : Bytes) (c : Bytes) (n : ℕ) → 0 < length bs → quoted (drop 1 bs) ≡ closed c n → EndsAt 34 bs (1 + n)
string_ends [] c n l h = absurd (omega arith)
string_ends (b ∷ bs) c n l h = one_more 34 b bs n (1 + n) (quoted_ends bs c n h) refl

-- ---- closing tags

closing_end_at : {P : Type 0} (bs : Bytes) (end : ℕ) → closing_end bs ≡ Some end → ((k : ℕ) → end ≡ k + 1 → k < length bs → get_or bs k 0 ≡ 62 → P) → P
closing_end_at bs end h go =
    let k = prefix_len is_space bs in
    either (nat_lt k (length bs) && (get_or bs k 0 == 62)) _ _ end h
    (λ t q. go k (some_number (k + 1) end q) (below k (length bs) (and_parts _ _ t).0) (eqb-true (get_or bs k 0) 62 (and_parts (nat_lt k (length bs)) _ t).1))
    (λ t q. cc)
  where
    below : (a b : ℕ) → nat_lt a b ≡ true → a < b
    below a b h = grind (arith, nat_tests)

    some_number : (a b : ℕ) → ◌≡◌ {A = Option ℕ} (Some a) (Some b) → b ≡ a
    some_number a b h = cc

closing_of_len : (literal : Bool) (name : Bytes) (end : ℕ) (token : Found) → closing_of literal name (Some end) ≡ Some token → token.len ≡ length name + end + 2
closing_of_len literal name end token h =
    either (literal && pointwise nat_eq name (codes "xml")) _ _ token h (λ t q. sym (ap (λ (o : Option Found). len_of o) q)) (λ t q. sym (ap (λ (o : Option Found). len_of o) q))
  where
    len_of : Option Found → ℕ
    len_of None = 0
    len_of (Some x) = x.len

closing_none : (literal : Bool) (name : Bytes) (token : Found) → closing_of literal name None ≡ Some token → ⊥
closing_none literal name token h = cc

closing_at : (bs : Bytes) (n k len : ℕ) → k < length (drop n (drop 2 bs)) → get_or (drop n (drop 2 bs)) k 0 ≡ 62 → len ≡ n + k + 3 → EndsAt 62 bs len
closing_at bs n k len lt byte e =
    let one = length-drop n (drop 2 bs) in
    let two = length-drop 2 bs in
    let there : get_or (drop n (drop 2 bs)) k 0 ≡ get_or bs (2 + (n + k)) 0 = get_or-drop n (drop 2 bs) k 0 ∙ get_or-drop 2 bs (n + k) 0 in
    let place : 2 + (n + k) ≡ len - 1 = omega (arith, e) in
    record {
      some = omega (arith, e);
      within = omega (arith, e, lt, one, two);
      byte = subst (λ (i : ℕ). get_or bs i 0 ≡ 62) place (sym there ∙ byte);
    }

closing_ends : (literal : Bool) (bs : Bytes) (token : Found) → closing literal (drop 2 bs) ≡ Some token → EndsAt 62 bs token.len
closing_ends literal bs token h =
    let rest = drop 2 bs in
    let n = prefix_len is_tag_name_byte rest in
    either ((n == 0) || not (is_ascii_lowercase (get_or rest 0 0))) None (closing_of literal (take n rest) (closing_end (drop n rest))) token h
    (λ t q. cc)
    (λ t q. by_option (closing_end (drop n rest))
    (λ e. absurd (closing_none literal (take n rest) token (ap (closing_of literal (take n rest)) (sym e) ∙ q)))
    (λ end e. closing_end_at (drop n rest) end e (λ k same lt byte. closing_at bs n k token.len lt byte (
    let long = closing_of_len literal (take n rest) end token (ap (closing_of literal (take n rest)) (sym e) ∙ q) in
    let size = length-prefix_len is_tag_name_byte rest in
    omega (arith, long, size, same)))))

-- ---- runs

-- a run of so many bytes ends with the text, or before an ASCII byte
abbrev Stop : Bytes → ℕ → Type 0
Stop bs n = (n ≤ length bs) × (n < length bs → get_or bs n 0 < 128)

stop_here : (b : ℕ) (bs : Bytes) (n : ℕ) → b < 128 → n ≡ 0 → Stop (b ∷ bs) n
stop_here b bs n a e = subst (λ (k : ℕ). Stop (b ∷ bs) k) (sym e) (omega arith, λ lt. a)

stop_later : (b : ℕ) (bs : Bytes) (n k : ℕ) → Stop bs n → k ≡ suc n → Stop (b ∷ bs) k
stop_later b bs n k s e = subst (λ (i : ℕ). Stop (b ∷ bs) i) (sym e) (omega (arith, s.0), λ lt. s.1 (omega (arith, lt)))

stop_byte : (b : ℕ) (bs : Bytes) → ((b == 60) || (b == 123) || opens (b ∷ bs)) ≡ true → b < 128
stop_byte b [] h = grind (arith, nat_tests)
stop_byte b (c ∷ bs) h = grind (arith, nat_tests)

amp_byte : (b : ℕ) → (b == 38) ≡ true → b < 128
amp_byte b h = grind (arith, nat_tests)

run_ends : (k : ℕ) (bs : Bytes) → k ≤ length bs → Stop bs (run_from k bs).1
run_ends k [] h = (omega arith, λ lt. absurd (omega (arith, lt)))
run_ends (suc k) (b ∷ bs) h = stop_later b bs (run_from k bs).1 (1 + (run_from k bs).1) (run_ends k bs (omega arith)) (omega arith)
run_ends zero (b ∷ bs) h =
    by_test ((b == 60) || (b == 123) || opens (b ∷ bs))
    (λ t. let e : (run_from 0 (b ∷ bs)).1 ≡ 0 = rw t refl in stop_here b bs (run_from 0 (b ∷ bs)).1 (stop_byte b bs t) e)
    (λ t. by_test (b == 38)
    (λ f. by_option (entity (b ∷ bs))
    (λ e. let none : (run_from 0 (b ∷ bs)).1 ≡ 0 = rw (t, f, e) refl in stop_here b bs (run_from 0 (b ∷ bs)).1 (amp_byte b f) none)
    (λ x e. (
    let ends = entity_ends (b ∷ bs) x e in
    let more : (run_from 0 (b ∷ bs)).1 ≡ 1 + (run_from (x.1 - 1) bs).1 = rw (t, f, e) refl in
    stop_later b bs (run_from (x.1 - 1) bs).1 (run_from 0 (b ∷ bs)).1 (run_ends (x.1 - 1) bs (omega (arith, ends.within))) (omega (arith, more)))))
    (λ f. let more : (run_from 0 (b ∷ bs)).1 ≡ 1 + (run_from 0 bs).1 = rw (t, f) refl in stop_later b bs (run_from 0 bs).1 (run_from 0 (b ∷ bs)).1 (run_ends 0 bs (omega arith)) (omega (arith, more))))

run_stops : (bs : Bytes) → Stop bs (run bs).1
unfolding run
run_stops bs = run_ends 0 bs (omega arith)

run_cut : (bs : Bytes) (n : ℕ) → n ≡ (run bs).1 → IsCharBoundary bs n
run_cut bs n e =
    let stop : Stop bs n = subst (λ (k : ℕ). Stop bs k) (sym e) (run_stops bs) in
    (stop.0, λ (lt : n < length bs) (h : 128 ≤ get_or bs n 0). absurd (omega (arith, stop.1 lt, h)))

-- ---- tokens

cut_all : (p : ℕ → Bool) → ((b : ℕ) → p b ≡ true → b < 128) → (bs : Bytes) (n : ℕ) → IsUtf8 bs → 0 < n → n ≤ length bs → list_all p (take n bs) ≡ true → (0 < n) × IsCharBoundary bs n
cut_all p ascii bs n u s w all = (s, cut_behind bs n u s w (ascii (get_or bs (n - 1) 0) (passes_at p n bs (n - 1) w all (omega (arith, s)))))

below_ascii : (b : ℕ) → nat_lt b 128 ≡ true → b < 128
below_ascii b h = grind (arith, nat_tests)

symbol_cut : (bs : Bytes) (token : Found) → IsUtf8 bs → (0 < token.len) × (token.len ≤ length bs) × (nat_lt (get_or bs (token.len - 1) 0) 128 ≡ true) → (0 < token.len) × IsCharBoundary bs token.len
symbol_cut bs token u p = (p.0, cut_behind bs token.len u p.0 p.1 (below_ascii (get_or bs (token.len - 1) 0) p.2))

opening_cut : (bs : Bytes) (n : ℕ) → IsUtf8 bs → 0 < n → 1 + n ≤ length bs → list_all is_tag_name_byte (take n (drop 1 bs)) ≡ true → (0 < n + 1) × IsCharBoundary bs (n + 1)
opening_cut bs n u s w all =
    let rest = length-drop 1 bs in
    let passes = passes_at is_tag_name_byte n (drop 1 bs) (n - 1) (omega (arith, rest, w)) all (omega (arith, s)) in
    let small = tag_ascii (get_or (drop 1 bs) (n - 1) 0) passes in
    let there : get_or (drop 1 bs) (n - 1) 0 ≡ get_or bs (1 + (n - 1)) 0 = get_or-drop 1 bs (n - 1) 0 in
    let place : 1 + (n - 1) ≡ n + 1 - 1 = omega (arith, s) in
    let last : get_or bs (n + 1 - 1) 0 < 128 = subst (λ (i : ℕ). get_or bs i 0 < 128) place (omega (arith, there, small)) in
    (omega arith, cut_behind bs (n + 1) u (omega arith) (omega (arith, w)) last)

pub stands_cut : (here : Where) (bs : Bytes) (token : Found) → IsUtf8 bs → 0 < length bs → Stands here bs token → (0 < token.len) × IsCharBoundary bs token.len
stands_cut here bs token u l (lower_name e is) = cut_all is_name_byte name_ascii bs token.len u is.some is.within is.all
stands_cut here bs token u l (upper_name e is) = cut_all is_name_byte name_ascii bs token.len u is.some is.within is.all
stands_cut here bs token u l (attribute_name e is) = cut_all is_attribute_name_byte attribute_ascii bs token.len u is.some is.within is.all
stands_cut here bs token u l (integer e is) = cut_all is_ascii_digit digit_ascii bs token.len u is.some is.within is.all
stands_cut here bs token u l (string e is) =
    let long : 1 + is.size ≡ token.len = sym (ap (λ (x : Found). x.len) is.is) in
    subst (λ (k : ℕ). (0 < k) × IsCharBoundary bs k) long (cut_at 34 bs (1 + is.size) (omega arith) u (string_ends bs is.characters is.size l is.closes))
stands_cut here bs token u l (symbol e is) = symbol_cut bs token u (symbol_last (λ (b : ℕ). nat_lt b 128) symbols bs token refl is)
stands_cut here bs token u l (tag_symbol e is) = symbol_cut bs token u (symbol_last (λ (b : ℕ). nat_lt b 128) tag_symbols bs token refl is)
stands_cut here bs token u l (opening e is) =
    let long : is.size + 1 ≡ token.len = sym (ap (λ (x : Found). x.len) is.is) in
    subst (λ (k : ℕ). (0 < k) × IsCharBoundary bs k) long (opening_cut bs is.size u is.some is.within is.all)
stands_cut here bs token u l (closing_tag e is) = cut_at 62 bs token.len (omega arith) u (closing_ends _ bs token is.is)
stands_cut here bs token u l (brace e f is) =
    let long : 1 ≡ token.len = sym (ap (λ (x : Found). x.len) is) in
    subst (λ (k : ℕ). (0 < k) × IsCharBoundary bs k) long (omega arith, cut_behind bs 1 u (omega arith) l (omega (arith, f)))
stands_cut here bs token u l (run_of_text e is) =
    let long : token.len ≡ (run bs).1 = ap (λ (x : Found). x.len) is.is in
    (omega (arith, long, is.some), run_cut bs token.len long)

pub token_cut : (here : Where) (bs : Bytes) (token : Found) → IsUtf8 bs → IsToken here bs token → (0 < token.len) × IsCharBoundary bs token.len
token_cut here bs token u is = stands_cut here bs token u is.longest.some is.longest.stands

-- ---- nothing empty is read

pub blank_some : (now : Mode) (bs : Bytes) (n : ℕ) → IsBlank now bs n → 0 < n
blank_some now bs n (a_comment c e) = (comment_ends bs n (and_parts _ (opens bs) c).1 e).some
blank_some now bs n (a_space c s e) = omega (arith, e)

pub stands_some : (here : Where) (bs : Bytes) (token : Found) → Stands here bs token → 0 < token.len
stands_some here bs token (lower_name e is) = is.some
stands_some here bs token (upper_name e is) = is.some
stands_some here bs token (attribute_name e is) = is.some
stands_some here bs token (integer e is) = is.some
stands_some here bs token (string e is) = omega (arith, ap (λ (x : Found). x.len) is.is)
stands_some here bs token (symbol e is) = (symbol_last (λ (b : ℕ). nat_lt b 128) symbols bs token refl is).0
stands_some here bs token (tag_symbol e is) = (symbol_last (λ (b : ℕ). nat_lt b 128) tag_symbols bs token refl is).0
stands_some here bs token (opening e is) = omega (arith, ap (λ (x : Found). x.len) is.is)
stands_some here bs token (closing_tag e is) = (closing_ends _ bs token is.is).some
stands_some here bs token (brace e f is) = omega (arith, ap (λ (x : Found). x.len) is)
stands_some here bs token (run_of_text e is) = omega (arith, ap (λ (x : Found). x.len) is.is, is.some)
