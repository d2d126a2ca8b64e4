-- The longest token at the front of a text, whatever number it holds.
use Rattle.std.proofs.Common.{◌≡◌, ◌<◌, ◌+◌, ℕ, Bool, true, false, List, [], ◌∷◌, length, take, drop, get_or, refl, sym, ap, ◌∙◌, subst, arith, Option, Some, None, length-drop}
use Rattle.std.specs.Prelude.{◌||◌, ◌==◌, not, if◌then◌else◌}
use Rattle.std.specs.List.{list_all, prefix_len}
use Rattle.std.specs.Char.{is_ascii_lowercase, is_ascii_uppercase, is_ascii_digit}
use Rattle.std.proofs.lemmas.Bool.Decides.{nat_tests}
use Rattle.std.proofs.lemmas.List.Folds.{length-prefix_len}
use Rattle.std.proofs.lemmas.List.Sums.{prefix_len-le-length}
use Rattle.std.proofs.lemmas.Bool.{or_parts, not-true, false_from_ne_true}
use Rattle.surface_tree.specs.declared.kind.Kind.{Kind}
use Rattle.surface_tree.specs.declared.kind.Kind.TheVariants.{LowerName, UpperName, AttributeName, Integer, StringLiteral, TagOpen, TextRun, LeftBrace}
use Rattle.surface_tree.specs.declared.token.Content.TheVariants.{Nothing, Number, Characters}
use Rattle.ur_lexer.specs.declared.pieces.Found.{Found}
use Rattle.ur_lexer.specs.declared.state.Mode.{Mode}
use Rattle.ur_lexer.specs.declared.state.Mode.TheVariants.{Code, Tag, Text}
use Rattle.ur_lexer.specs.declared.state.Turn.TheVariants.{Stay, EnterBrace, EnterTag}
use Rattle.ur_lexer.specs.Bytes.{Bytes, begins_lower, is_name_byte, is_tag_name_byte, is_attribute_name_byte}
use Rattle.ur_lexer.specs.Words.{keywords, upper_words, symbols, tag_symbols, word_kind, symbol_at}
use Rattle.ur_lexer.specs.Numbers.{value_of}
use Rattle.ur_lexer.specs.Strings.{Quoted, quoted, closed, unknown, open_}
use Rattle.ur_lexer.specs.Code.{named_token}
use Rattle.ur_lexer.specs.Markup.{run, closing}
use Rattle.ur_lexer.specs.Ahead.{has_spaces}
use Rattle.ur_lexer.specs.Modes.{in_literal}
use Rattle.ur_lexer.specs.Where.{Where}
use Rattle.ur_lexer.specs.Lexing.{IsName, IsInteger, IsString, IsSymbol, IsOpening, IsRun, Stands, lower_name, upper_name, attribute_name, integer, string, symbol, tag_symbol, opening, closing_tag, brace, run_of_text}
use Rattle.ur_lexer.proofs.Front.Choices.{either}
use Rattle.ur_lexer.proofs.Front.Runs.{all_within, run_passes, run_some, passes_at}
use Rattle.ur_lexer.proofs.Front.Symbols.{Best, best_from, symbol_found, symbol_stands, symbol_longest, symbol_first, falls}

-- ---- the longest of each form

abbrev pub best_name : (ℕ → Bool) → List (Bytes × Kind) → Kind → Bytes → Found
best_name goes_on table kind bs = named_token (word_kind table (take (prefix_len goes_on bs) bs)) kind (take (prefix_len goes_on bs) bs)

abbrev pub integer_token : ℕ → ℕ → Found
integer_token len value = record { kind = Integer; content = Number value; len = len; turn = Stay }

abbrev pub best_integer : Bytes → Found
best_integer bs = integer_token (prefix_len is_ascii_digit bs) (value_of (take (prefix_len is_ascii_digit bs) bs))

abbrev pub string_found : Quoted → Option Found
string_found (closed characters n) = Some (record { kind = StringLiteral; content = Characters characters; len = 1 + n; turn = Stay })
string_found (unknown n) = None
string_found open_ = None

abbrev pub opening_of : ℕ → Bytes → Found
opening_of n bs = record { kind = TagOpen; content = Characters (take n bs); len = n + 1; turn = EnterTag }

abbrev pub best_opening : Bytes → Found
best_opening bs = opening_of (prefix_len is_tag_name_byte bs) bs

abbrev pub brace_token : Found
brace_token = record { kind = LeftBrace; content = Nothing; len = 1; turn = EnterBrace }

abbrev pub run_token_of : Bytes × ℕ → Found
run_token_of run = record { kind = TextRun; content = Characters run.0; len = run.1; turn = Stay }

abbrev pub run_found : Bytes × ℕ → Option Found
run_found run = if run.1 == 0 then None else Some (run_token_of run)

abbrev pub best_code : Bytes → Option Found
best_code bs =
    if begins_lower (get_or bs 0 0) then Some (best_name is_name_byte keywords LowerName bs)
    else (if is_ascii_uppercase (get_or bs 0 0) then Some (best_name is_name_byte upper_words UpperName bs)
    else (if is_ascii_digit (get_or bs 0 0) then Some (best_integer bs)
    else (if get_or bs 0 0 == 34 then string_found (quoted (drop 1 bs))
    else symbol_found (symbol_at symbols bs))))

abbrev pub best_tag : Bytes → Option Found
best_tag bs =
    if is_ascii_lowercase (get_or bs 0 0) then Some (best_name is_attribute_name_byte [] AttributeName bs)
    else (if is_ascii_digit (get_or bs 0 0) then Some (best_integer bs)
    else (if get_or bs 0 0 == 34 then string_found (quoted (drop 1 bs))
    else symbol_found (symbol_at tag_symbols bs)))

abbrev pub best_text : Bool → Bytes → Option Found
best_text literal bs =
    if get_or bs 0 0 == 60 then (if get_or bs 1 0 == 47 then closing literal (drop 2 bs)
    else (if is_ascii_lowercase (get_or bs 1 0) then Some (best_opening (drop 1 bs)) else None))
    else (if get_or bs 0 0 == 123 then Some brace_token
    else run_found (run bs))

abbrev pub best_in : Mode → Bool → Bytes → Option Found
best_in Code literal bs = best_code bs
best_in Tag literal bs = best_tag bs
best_in Text literal bs = best_text literal bs

abbrev pub best : Where → Bytes → Option Found
best here bs = best_in here.mode (in_literal here) bs

-- ---- names

named_len : (o : Option Kind) (kind : Kind) (spelling : Bytes) → (named_token o kind spelling).len ≡ length spelling
named_len None kind spelling = refl
named_len (Some word) kind spelling = refl

name_len : (goes_on : ℕ → Bool) (table : List (Bytes × Kind)) (kind : Kind) (bs : Bytes) → (best_name goes_on table kind bs).len ≡ prefix_len goes_on bs
name_len goes_on table kind bs = named_len (word_kind table (take (prefix_len goes_on bs) bs)) kind (take (prefix_len goes_on bs) bs) ∙ length-prefix_len goes_on bs

name_stands : (begins goes_on : ℕ → Bool) (table : List (Bytes × Kind)) (kind : Kind) (bs : Bytes) → 0 < length bs → begins (get_or bs 0 0) ≡ true → goes_on (get_or bs 0 0) ≡ true
    → IsName begins goes_on table kind bs (best_name goes_on table kind bs)
name_stands begins goes_on table kind bs l f g =
    let token = best_name goes_on table kind bs in
    let long = name_len goes_on table kind bs in
    let some = run_some goes_on bs l g in
    let le = prefix_len-le-length goes_on bs in
    record {
      some = omega (arith, long, some);
      within = omega (arith, long, le);
      first = f;
      all = subst (λ (k : ℕ). list_all goes_on (take k bs) ≡ true) (sym long) (run_passes goes_on bs);
      is = subst (λ (k : ℕ). token ≡ named_token (word_kind table (take k bs)) kind (take k bs)) (sym long) refl;
    }

name_best : (begins goes_on : ℕ → Bool) (table : List (Bytes × Kind)) (kind : Kind) (bs : Bytes) (other : Found) (found : Option Found) → found ≡ Some (best_name goes_on table kind bs)
    → IsName begins goes_on table kind bs other → Best found other
name_best begins goes_on table kind bs other found e is =
    let long = name_len goes_on table kind bs in
    let le = all_within goes_on other.len bs is.within is.all in
    record {
      token = best_name goes_on table kind bs;
      is = e;
      longer = omega (arith, long, le);
      same = λ same. is.is ∙ ap (λ (k : ℕ). named_token (word_kind table (take k bs)) kind (take k bs)) (same ∙ long);
    }

-- ---- integers

integer_stands : (bs : Bytes) → 0 < length bs → is_ascii_digit (get_or bs 0 0) ≡ true → IsInteger bs (best_integer bs)
integer_stands bs l f = record {
  some = run_some is_ascii_digit bs l f;
  within = prefix_len-le-length is_ascii_digit bs;
  all = run_passes is_ascii_digit bs;
  is = refl;
}

integer_best : (bs : Bytes) (other : Found) (found : Option Found) → found ≡ Some (best_integer bs) → IsInteger bs other → Best found other
integer_best bs other found e is = record {
  token = best_integer bs;
  is = e;
  longer = all_within is_ascii_digit other.len bs is.within is.all;
  same = λ same. is.is ∙ ap (λ (k : ℕ). integer_token k (value_of (take k bs))) same;
}

-- ---- tests of first bytes

not_zero : (n : ℕ) → (n == 0) ≡ false → 0 < n
not_zero n h = grind (arith, nat_tests)

zero_not : (n : ℕ) → 0 < n → (n == 0) ≡ false
zero_not n h = grind (arith, nat_tests)

brace_no_mark : (b : ℕ) → (b == 123) ≡ true → (b == 60) ≡ false
brace_no_mark b h = grind (arith, nat_tests)

letter_no_slash : (b : ℕ) → is_ascii_lowercase b ≡ true → (b == 47) ≡ false
letter_no_slash b h = grind (arith, nat_tests)

module _ (b : ℕ) where
  lower_goes_on : begins_lower b ≡ true → is_name_byte b ≡ true
  lower_goes_on h = grind (arith, nat_tests)

  upper_goes_on : is_ascii_uppercase b ≡ true → is_name_byte b ≡ true
  upper_goes_on h = grind (arith, nat_tests)

  attribute_goes_on : is_ascii_lowercase b ≡ true → is_attribute_name_byte b ≡ true
  attribute_goes_on h = grind (arith, nat_tests)

  tag_goes_on : is_ascii_lowercase b ≡ true → is_tag_name_byte b ≡ true
  tag_goes_on h = grind (arith, nat_tests)

  upper_no_lower : is_ascii_uppercase b ≡ true → begins_lower b ≡ false
  upper_no_lower h = grind (arith, nat_tests)

  digit_no_lower : is_ascii_digit b ≡ true → begins_lower b ≡ false
  digit_no_lower h = grind (arith, nat_tests)

  digit_no_letter : is_ascii_digit b ≡ true → is_ascii_lowercase b ≡ false
  digit_no_letter h = grind (arith, nat_tests)

  digit_no_upper : is_ascii_digit b ≡ true → is_ascii_uppercase b ≡ false
  digit_no_upper h = grind (arith, nat_tests)

  pub eq_true : (n : ℕ) → b ≡ n → (b == n) ≡ true
  eq_true n h = grind (arith, nat_tests)

  pub true_eq : (n : ℕ) → (b == n) ≡ true → b ≡ n
  true_eq n h = grind (arith, nat_tests)

  -- a byte that begins neither a name, a number nor a string
  abbrev is_plain : Bool
  is_plain = not (begins_lower b || is_ascii_uppercase b || is_ascii_digit b || (b == 34))

  plain_tests : is_plain ≡ true → (begins_lower b ≡ false) × (is_ascii_uppercase b ≡ false) × (is_ascii_digit b ≡ false) × ((b == 34) ≡ false) × (is_ascii_lowercase b ≡ false)
  plain_tests h =
      let one = or_parts (begins_lower b || is_ascii_uppercase b || is_ascii_digit b) (b == 34) (not-true _ h) in
      let two = or_parts (begins_lower b || is_ascii_uppercase b) (is_ascii_digit b) one.0 in
      let three = or_parts (begins_lower b) (is_ascii_uppercase b) two.0 in
      let four = or_parts (is_ascii_lowercase b) (b == 95) three.0 in
      (three.0, three.1, two.1, one.1, four.0)

-- ---- strings, tags and runs

exact_best : (found : Option Found) (other : Found) → found ≡ Some other → Best found other
exact_best found other e = record { token = other; is = e; longer = omega arith; same = λ same. refl }

some_is : (a b : Found) → ◌≡◌ {A = Option Found} (Some a) (Some b) → b ≡ a
some_is a b e = cc

string_stands : (bs : Bytes) (token : Found) (q : Quoted) → get_or bs 0 0 ≡ 34 → quoted (drop 1 bs) ≡ q → string_found q ≡ Some token → IsString bs token
string_stands bs token (closed characters n) f e h = record { first = f; characters = characters; size = n; closes = e; is = some_is _ token h }
string_stands bs token (unknown n) f e h = cc
string_stands bs token open_ f e h = cc

opening_stands : (bs : Bytes) → 0 < length bs → get_or bs 0 0 ≡ 60 → is_ascii_lowercase (get_or bs 1 0) ≡ true → IsOpening bs (best_opening (drop 1 bs))
opening_stands [] l f g = absurd (omega arith)
opening_stands (b ∷ []) l f g = cc
opening_stands (b ∷ c ∷ bs) l f g = record {
  mark = f;
  first = g;
  size = prefix_len is_tag_name_byte (c ∷ bs);
  some = run_some is_tag_name_byte (c ∷ bs) (omega arith) (tag_goes_on c g);
  within = omega (arith, prefix_len-le-length is_tag_name_byte (c ∷ bs));
  all = run_passes is_tag_name_byte (c ∷ bs);
  is = refl;
}

opening_best : (bs : Bytes) (other : Found) (found : Option Found) → found ≡ Some (best_opening (drop 1 bs)) → IsOpening bs other → Best found other
opening_best bs other found e is =
    let rest = length-drop 1 bs in
    let le = all_within is_tag_name_byte is.size (drop 1 bs) (omega (arith, rest, is.within)) is.all in
    let long : other.len ≡ is.size + 1 = ap (λ (x : Found). x.len) is.is in
    record {
      token = best_opening (drop 1 bs);
      is = e;
      longer = omega (arith, long, le);
      same = λ same. is.is ∙ ap (λ (k : ℕ). opening_of k (drop 1 bs)) (omega (arith, long, same));
    }

run_stands : (bs : Bytes) (token : Found) (t : Bool) → ((run bs).1 == 0) ≡ t → run_found (run bs) ≡ Some token → IsRun bs token
run_stands bs token true e h = let no : run_found (run bs) ≡ None = rw e refl in cc (sym no ∙ h)
run_stands bs token false e h =
    let here : run_found (run bs) ≡ Some (run_token_of (run bs)) = rw e refl in
    record { some = not_zero (run bs).1 e; is = some_is _ token (sym here ∙ h) }

run_is : (bs : Bytes) (other : Found) → IsRun bs other → run_found (run bs) ≡ Some other
run_is bs other is =
    let e = zero_not (run bs).1 is.some in
    let here : run_found (run bs) ≡ Some (run_token_of (run bs)) = rw e refl in here ∙ ap Some (sym is.is)

stops_run : (bs : Bytes) → (get_or bs 0 0 == 60) ≡ true → (run bs).1 ≡ 0
unfolding run
stops_run [] h = refl
stops_run (b ∷ bs) h = rw h refl

stops_run_brace : (bs : Bytes) → (get_or bs 0 0 == 123) ≡ true → (run bs).1 ≡ 0
unfolding run
stops_run_brace [] h = refl
stops_run_brace (b ∷ bs) h = let n = brace_no_mark b h in rw (n, h) refl

run_first_at : (bs : Bytes) (other : Found) → IsRun bs other → (run bs).1 ≡ 0 → ⊥
run_first_at bs other is e = omega (arith, is.some, e)

run_first : (bs : Bytes) (other : Found) → IsRun bs other → ((get_or bs 0 0 == 60) ≡ false) × ((get_or bs 0 0 == 123) ≡ false)
run_first bs other is = (false_from_ne_true _ (λ t. run_first_at bs other is (stops_run bs t)), false_from_ne_true _ (λ t. run_first_at bs other is (stops_run_brace bs t)))

-- ---- by the mode

code_upper : (bs : Bytes) → is_ascii_uppercase (get_or bs 0 0) ≡ true → best_code bs ≡ Some (best_name is_name_byte upper_words UpperName bs)
code_upper bs h = let n = upper_no_lower (get_or bs 0 0) h in rw (n, h) refl

spaced_integer : (now : Mode) (literal : Bool) (bs : Bytes) → has_spaces now ≡ true → is_ascii_digit (get_or bs 0 0) ≡ true → best_in now literal bs ≡ Some (best_integer bs)
spaced_integer Code literal bs s h = let n = digit_no_lower (get_or bs 0 0) h in let u = digit_no_upper (get_or bs 0 0) h in rw (n, u, h) refl
spaced_integer Tag literal bs s h = let n = digit_no_letter (get_or bs 0 0) h in rw (n, h) refl
spaced_integer Text literal bs s h = cc

pub spaced_string : (now : Mode) (literal : Bool) (bs : Bytes) → has_spaces now ≡ true → get_or bs 0 0 ≡ 34 → best_in now literal bs ≡ string_found (quoted (drop 1 bs))
spaced_string Code literal bs s h = rw h refl
spaced_string Tag literal bs s h = rw h refl
spaced_string Text literal bs s h = cc

symbols_plain : list_all (λ e. is_plain (get_or e.0 0 0)) symbols ≡ true
symbols_plain = refl

tag_symbols_plain : list_all (λ e. is_plain (get_or e.0 0 0)) tag_symbols ≡ true
tag_symbols_plain = refl

symbols_fall : falls symbols ≡ true
symbols_fall = refl

tag_symbols_fall : falls tag_symbols ≡ true
tag_symbols_fall = refl

code_symbol : (bs : Bytes) (other : Found) → IsSymbol symbols bs other → best_code bs ≡ symbol_found (symbol_at symbols bs)
code_symbol bs other h =
    let t = plain_tests (get_or bs 0 0) (symbol_first is_plain symbols bs other symbols_plain h) in
    rw (t.0, t.1, t.2, t.3) refl

tag_symbol_is : (bs : Bytes) (other : Found) → IsSymbol tag_symbols bs other → best_tag bs ≡ symbol_found (symbol_at tag_symbols bs)
tag_symbol_is bs other h =
    let t = plain_tests (get_or bs 0 0) (symbol_first is_plain tag_symbols bs other tag_symbols_plain h) in
    rw (t.4, t.2, t.3) refl

text_opening : (literal : Bool) (bs : Bytes) → get_or bs 0 0 ≡ 60 → is_ascii_lowercase (get_or bs 1 0) ≡ true → best_text literal bs ≡ Some (best_opening (drop 1 bs))
text_opening literal bs f g = let n = letter_no_slash (get_or bs 1 0) g in rw (f, n, g) refl

text_closing : (literal : Bool) (bs : Bytes) → get_or bs 0 0 ≡ 60 → get_or bs 1 0 ≡ 47 → best_text literal bs ≡ closing literal (drop 2 bs)
text_closing literal bs f g = rw (f, g) refl

text_brace : (literal : Bool) (bs : Bytes) → get_or bs 0 0 ≡ 123 → best_text literal bs ≡ Some brace_token
text_brace literal bs f = rw f refl

text_run : (literal : Bool) (bs : Bytes) → (get_or bs 0 0 == 60) ≡ false → (get_or bs 0 0 == 123) ≡ false → best_text literal bs ≡ run_found (run bs)
text_run literal bs f g = rw (f, g) refl

module _ (here : Where) (bs : Bytes) where
  at_mode : (now : Mode) → here.mode ≡ now → best here bs ≡ best_in now (in_literal here) bs
  at_mode now e = ap (λ (m : Mode). best_in m (in_literal here) bs) e

  -- what is found is at least as long as any token that could begin there
  pub best_longest : (other : Found) → Stands here bs other → Best (best here bs) other
  best_longest other (lower_name e is) = name_best begins_lower is_name_byte keywords LowerName bs other (best here bs) (at_mode Code e ∙ rw is.first refl) is
  best_longest other (upper_name e is) = name_best is_ascii_uppercase is_name_byte upper_words UpperName bs other (best here bs) (at_mode Code e ∙ code_upper bs is.first) is
  best_longest other (attribute_name e is) = name_best is_ascii_lowercase is_attribute_name_byte [] AttributeName bs other (best here bs) (at_mode Tag e ∙ rw is.first refl) is
  best_longest other (integer e is) = integer_best bs other (best here bs) (spaced_integer here.mode (in_literal here) bs e (passes_at is_ascii_digit other.len bs 0 is.within is.all is.some)) is
  best_longest other (string e is) = exact_best (best here bs) other (spaced_string here.mode (in_literal here) bs e is.first ∙ ap string_found is.closes ∙ ap Some (sym is.is))
  best_longest other (symbol e is) = best_from (best here bs) (symbol_found (symbol_at symbols bs)) other (at_mode Code e ∙ code_symbol bs other is) (symbol_longest symbols bs other symbols_fall is)
  best_longest other (tag_symbol e is) = best_from (best here bs) (symbol_found (symbol_at tag_symbols bs)) other (at_mode Tag e ∙ tag_symbol_is bs other is) (symbol_longest tag_symbols bs other tag_symbols_fall is)
  best_longest other (opening e is) = opening_best bs other (best here bs) (at_mode Text e ∙ text_opening (in_literal here) bs is.mark is.first) is
  best_longest other (closing_tag e is) = exact_best (best here bs) other (at_mode Text e ∙ text_closing (in_literal here) bs is.mark is.slash ∙ is.is)
  best_longest other (brace e f is) = exact_best (best here bs) other (at_mode Text e ∙ text_brace (in_literal here) bs f ∙ ap Some (sym is))
  best_longest other (run_of_text e is) = let f = run_first bs other is in exact_best (best here bs) other (at_mode Text e ∙ text_run (in_literal here) bs f.0 f.1 ∙ run_is bs other is)

  stands_code : (token : Found) → 0 < length bs → here.mode ≡ Code → best_code bs ≡ Some token → Stands here bs token
  stands_code token l e h =
      either (begins_lower (get_or bs 0 0)) _ _ token h
      (λ t q. lower_name e (subst (λ (x : Found). IsName begins_lower is_name_byte keywords LowerName bs x) (sym (some_is _ token q)) (name_stands begins_lower is_name_byte keywords LowerName bs l t (lower_goes_on (get_or bs 0 0) t))))
      (λ t q. either (is_ascii_uppercase (get_or bs 0 0)) _ _ token q
      (λ t q. upper_name e (subst (λ (x : Found). IsName is_ascii_uppercase is_name_byte upper_words UpperName bs x) (sym (some_is _ token q)) (name_stands is_ascii_uppercase is_name_byte upper_words UpperName bs l t (upper_goes_on (get_or bs 0 0) t))))
      (λ t q. either (is_ascii_digit (get_or bs 0 0)) _ _ token q
      (λ t q. integer (ap has_spaces e) (subst (λ (x : Found). IsInteger bs x) (sym (some_is _ token q)) (integer_stands bs l t)))
      (λ t q. either (get_or bs 0 0 == 34) _ _ token q
      (λ t q. string (ap has_spaces e) (string_stands bs token (quoted (drop 1 bs)) (true_eq (get_or bs 0 0) 34 t) refl q))
      (λ t q. symbol e (symbol_stands symbols bs token q)))))

  stands_tag : (token : Found) → 0 < length bs → here.mode ≡ Tag → best_tag bs ≡ Some token → Stands here bs token
  stands_tag token l e h =
      either (is_ascii_lowercase (get_or bs 0 0)) _ _ token h
      (λ t q. attribute_name e (subst (λ (x : Found). IsName is_ascii_lowercase is_attribute_name_byte [] AttributeName bs x) (sym (some_is _ token q)) (name_stands is_ascii_lowercase is_attribute_name_byte [] AttributeName bs l t (attribute_goes_on (get_or bs 0 0) t))))
      (λ t q. either (is_ascii_digit (get_or bs 0 0)) _ _ token q
      (λ t q. integer (ap has_spaces e) (subst (λ (x : Found). IsInteger bs x) (sym (some_is _ token q)) (integer_stands bs l t)))
      (λ t q. either (get_or bs 0 0 == 34) _ _ token q
      (λ t q. string (ap has_spaces e) (string_stands bs token (quoted (drop 1 bs)) (true_eq (get_or bs 0 0) 34 t) refl q))
      (λ t q. tag_symbol e (symbol_stands tag_symbols bs token q))))

  stands_text : (token : Found) → 0 < length bs → here.mode ≡ Text → best_text (in_literal here) bs ≡ Some token → Stands here bs token
  stands_text token l e h =
      either (get_or bs 0 0 == 60) _ _ token h
      (λ f q. either (get_or bs 1 0 == 47) _ _ token q
      (λ t q. closing_tag e (record { mark = true_eq (get_or bs 0 0) 60 f; slash = true_eq (get_or bs 1 0) 47 t; is = q }))
      (λ t q. either (is_ascii_lowercase (get_or bs 1 0)) _ _ token q
      (λ t q. opening e (subst (λ (x : Found). IsOpening bs x) (sym (some_is _ token q)) (opening_stands bs l (true_eq (get_or bs 0 0) 60 f) t)))
      (λ t q. cc)))
      (λ f q. either (get_or bs 0 0 == 123) _ _ token q
      (λ t q. brace e (true_eq (get_or bs 0 0) 123 t) (some_is _ token q))
      (λ t q. run_of_text e (run_stands bs token ((run bs).1 == 0) refl q)))

  stands_in : (token : Found) (now : Mode) → 0 < length bs → here.mode ≡ now → best_in now (in_literal here) bs ≡ Some token → Stands here bs token
  stands_in token Code l e h = stands_code token l e h
  stands_in token Tag l e h = stands_tag token l e h
  stands_in token Text l e h = stands_text token l e h

  -- what is found could begin there
  pub best_stands : (token : Found) → 0 < length bs → best here bs ≡ Some token → Stands here bs token
  best_stands token l h = stands_in token here.mode l refl h
