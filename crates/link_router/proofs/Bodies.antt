-- Bodies of forms: each is one form at most, and some worked by hand.
use Rattle.std.proofs.Common.{◌≡◌, ℕ, Bool, true, false, List, [], ◌∷◌, Option, Some, None, refl, ap, ap₂, sym, ◌∙◌, subst}
use Rattle.std.specs.Prelude.{IsUtf8, codes}
use Rattle.std.specs.Str.{is_utf8, chars}
use Rattle.std.specs.Str.Lossy.{utf8_lossy, utf8_valid_len, utf8_error_len}
use Rattle.std.proofs.lemmas.Str.{IsUtf8-from_is_utf8, is_utf8-from_IsUtf8}
use Rattle.percent_encoding.specs.Percent.{percent_decode}
use Rattle.form_urlencoded.specs.Form.{raw_pairs, split, decode}
use Rattle.table_rows.specs.Wires.{Wr, words, unit, rec_of, bare, Wrs, no_wires, wire}
use Rattle.table_rows.specs.Shapes.{Sh, an_int, a_text, a_unit, a_truth, a_record, a_data, parameter, Pts, no_parts, part}
use Rattle.link_router.specs.Forms.{first_value, Form, filled, lacks, spoils, ReadsField, reads_text, checked, unchecked, FailsField, no_pair, no_text, ReadsFields, no_more, one_more, FailsFields, here, later, ReadsForm, of_nothing, of_fields, of_failure, OneFormAtMost, IsFieldShape, AreFieldShapes, EachBodyIsForm}
use Rattle.link_router.specs.Worked.{WorkedForms, e_acute}
use Rattle.link_router.proofs.Listed.{no_value, one_value}

-- one value, or none
one_field : {ps : List (List ℕ × List ℕ)} {n : List ℕ} {s : Sh} {v w : Wr} → ReadsField ps n s v → ReadsField ps n s w → v ≡ w
one_field (reads_text h u) (reads_text k z) = ap (λ x. words (decode x)) (one_value h k)
one_field (checked h) (checked k) = refl
one_field (checked h) (unchecked k) = absurd (no_value h k)
one_field (unchecked h) (checked k) = absurd (no_value k h)
one_field (unchecked h) (unchecked k) = refl

one_failure : {ps : List (List ℕ × List ℕ)} {n : List ℕ} {s : Sh} {x y : Form} → FailsField ps n s x → FailsField ps n s y → x ≡ y
one_failure (no_pair h) (no_pair k) = refl
one_failure (no_pair h) (no_text k z) = absurd (no_value k h)
one_failure (no_text h z) (no_pair k) = absurd (no_value h k)
one_failure (no_text h z) (no_text k y) = refl

not_both : {ps : List (List ℕ × List ℕ)} {n : List ℕ} {s : Sh} {w : Wr} {x : Form} → ReadsField ps n s w → FailsField ps n s x → ⊥
not_both (reads_text h u) (no_pair k) = no_value h k
not_both (reads_text h u) (no_text k z) = z (subst (λ v. IsUtf8 (decode v)) (one_value h k) u)
not_both (checked h) x = elim x [ ]
not_both (unchecked h) x = elim x [ ]

all_fields : {ps : List (List ℕ × List ℕ)} {fs : Pts} {vs ws : Wrs} → ReadsFields ps fs vs → ReadsFields ps fs ws → vs ≡ ws
all_fields no_more no_more = refl
all_fields (one_more h hs) (one_more k ks) = ap₂ wire (one_field h k) (all_fields hs ks)

first_failure : {ps : List (List ℕ × List ℕ)} {fs : Pts} {x y : Form} → FailsFields ps fs x → FailsFields ps fs y → x ≡ y
first_failure (here h) (here k) = one_failure h k
first_failure (here h) (later k ks) = absurd (not_both k h)
first_failure (later h hs) (here k) = absurd (not_both h k)
first_failure (later h hs) (later k ks) = first_failure hs ks

none_fails : {ps : List (List ℕ × List ℕ)} {fs : Pts} {ws : Wrs} {x : Form} → ReadsFields ps fs ws → FailsFields ps fs x → ⊥
none_fails no_more x = elim x [ ]
none_fails (one_more h hs) (here k) = not_both h k
none_fails (one_more h hs) (later k ks) = none_fails hs ks

one_form : {s : Sh} {body : List ℕ} {x y : Form} → ReadsForm s body x → ReadsForm s body y → x ≡ y
one_form of_nothing of_nothing = refl
one_form (of_fields h) (of_fields k) = ap (λ ws. filled (rec_of ws)) (all_fields h k)
one_form (of_fields h) (of_failure k) = absurd (none_fails h k)
one_form (of_failure h) (of_fields k) = absurd (none_fails k h)
one_form (of_failure h) (of_failure k) = first_failure h k

pub one_form_at_most : OneFormAtMost
one_form_at_most s body x y h k = one_form h k

-- a body is some form
data FieldRead (ps : List (List ℕ × List ℕ)) (n : List ℕ) (s : Sh) : Type 0 where
  is_read : (w : Wr) → ReadsField ps n s w → FieldRead ps n s
  is_failed : (x : Form) → FailsField ps n s x → FieldRead ps n s

no_test : (b : Bool) → b ≡ false → b ≡ true → ⊥
no_test b h k = let e = sym h ∙ k in cc

text_read : (ps : List (List ℕ × List ℕ)) (n : List ℕ) (o : Option (List ℕ)) → first_value n ps ≡ o → FieldRead ps n a_text
text_read ps n None e = is_failed (lacks n) (no_pair e)
text_read ps n (Some v) e = by_test (is_utf8 (decode v)) refl
  where
    by_test : (b : Bool) → is_utf8 (decode v) ≡ b → FieldRead ps n a_text
    by_test true h = is_read (words (decode v)) (reads_text e (IsUtf8-from_is_utf8 (decode v) h))
    by_test false h = is_failed (spoils n) (no_text e (λ u. no_test (is_utf8 (decode v)) h (is_utf8-from_IsUtf8 (decode v) u)))

truth_read : (ps : List (List ℕ × List ℕ)) (n : List ℕ) (o : Option (List ℕ)) → first_value n ps ≡ o → FieldRead ps n a_truth
truth_read ps n None e = is_read (bare (codes "False")) (unchecked e)
truth_read ps n (Some v) e = is_read (bare (codes "True")) (checked e)

field_read : (ps : List (List ℕ × List ℕ)) (n : List ℕ) (s : Sh) → IsFieldShape s → FieldRead ps n s
field_read ps n a_text h = text_read ps n (first_value n ps) refl
field_read ps n a_truth h = truth_read ps n (first_value n ps) refl
field_read ps n an_int h = absurd h
field_read ps n a_unit h = absurd h
field_read ps n (a_record fs) h = absurd h
field_read ps n (a_data d ss) h = absurd h
field_read ps n (parameter i) h = absurd h

data FieldsRead (ps : List (List ℕ × List ℕ)) (fs : Pts) : Type 0 where
  are_read : (ws : Wrs) → ReadsFields ps fs ws → FieldsRead ps fs
  are_failed : (x : Form) → FailsFields ps fs x → FieldsRead ps fs

after_field : {ps : List (List ℕ × List ℕ)} {n : List ℕ} {s : Sh} {fs : Pts} → FieldRead ps n s → FieldsRead ps fs → FieldsRead ps (part n s fs)
after_field (is_failed x h) rest = are_failed x (here h)
after_field (is_read w h) (are_read ws hs) = are_read (wire w ws) (one_more h hs)
after_field (is_read w h) (are_failed x hs) = are_failed x (later h hs)

fields_read : (ps : List (List ℕ × List ℕ)) (fs : Pts) → AreFieldShapes fs → FieldsRead ps fs
fields_read ps no_parts h = are_read no_wires no_more
fields_read ps (part n s fs) h = after_field (field_read ps n s h.0) (fields_read ps fs h.1)

record_read : (fs : Pts) (body : List ℕ) → FieldsRead (raw_pairs body) fs → (x : Form) × ReadsForm (a_record fs) body x
record_read fs body (are_read ws h) = (filled (rec_of ws), of_fields h)
record_read fs body (are_failed x h) = (x, of_failure h)

pub each_body_is_form : EachBodyIsForm
each_body_is_form a_unit body h = (filled unit, of_nothing)
each_body_is_form (a_record fs) body h = record_read fs body (fields_read (raw_pairs body) fs h)
each_body_is_form an_int body h = absurd h
each_body_is_form a_text body h = absurd h
each_body_is_form a_truth body h = absurd h
each_body_is_form (a_data d ss) body h = absurd h
each_body_is_form (parameter i) body h = absurd h

-- texts that are UTF-8, and a byte that isn't
digit_utf8 : IsUtf8 (codes "1")
unfolding is_utf8 chars lib.Utf8.encode
digit_utf8 = IsUtf8-from_is_utf8 (codes "1") refl

words_utf8 : IsUtf8 (codes "x y!")
unfolding is_utf8 chars lib.Utf8.encode
words_utf8 = IsUtf8-from_is_utf8 (codes "x y!") refl

nothing_utf8 : IsUtf8 []
unfolding is_utf8 chars lib.Utf8.encode
nothing_utf8 = IsUtf8-from_is_utf8 [] refl

e_utf8 : IsUtf8 e_acute
unfolding is_utf8 chars lib.Utf8.encode
e_utf8 = IsUtf8-from_is_utf8 e_acute refl

byte_no_text : IsUtf8 (255 ∷ []) → ⊥
unfolding is_utf8 chars lib.Utf8.encode
byte_no_text h = let e = is_utf8-from_IsUtf8 (255 ∷ []) h in cc

pub worked_forms : WorkedForms
unfolding raw_pairs split percent_decode utf8_lossy utf8_valid_len utf8_error_len is_utf8 chars lib.Utf8.encode
worked_forms = (
  of_fields (one_more (reads_text refl digit_utf8) (one_more (reads_text refl words_utf8) (one_more (checked refl) (one_more (unchecked refl) no_more)))),
  of_fields (one_more (reads_text refl nothing_utf8) (one_more (reads_text refl e_utf8) no_more)),
  of_failure (here (no_pair refl)),
  of_failure (later (reads_text refl digit_utf8) (here (no_text refl byte_no_text))),
)
