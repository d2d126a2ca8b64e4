-- What the body of a request is as a form.
-- The URL Standard, section 5, "application/x-www-form-urlencoded".
use Rattle.std.specs.Prelude.{◌≡◌, ℕ, List, [], ◌∷◌, Option, Some, None, IsUtf8, codes, if◌then◌else◌}
use Rattle.std.specs.Str.{bytes_eq}
use Rattle.std.specs.Str.Lossy.{utf8_lossy}
use Rattle.form_urlencoded.specs.Form.{raw_pairs, decode}
use Rattle.table_rows.specs.Wires.{Wr, words, unit, rec_of, bare, Wrs, no_wires, wire}
use Rattle.table_rows.specs.Shapes.{Sh, a_text, a_unit, a_truth, a_record, Pts, no_parts, part}

-- the value of the first pair of a name, still encoded; a pair's name is text, with U+FFFD for what isn't UTF-8
abbrev pub first_value : List ℕ → List (List ℕ × List ℕ) → Option (List ℕ)
first_value n [] = None
first_value n (p ∷ ps) = if bytes_eq (utf8_lossy (decode p.0)) n then Some p.1 else first_value n ps

-- a form's value, or the field that it lacks or spoils
pub data Form : Type 0 where
  filled : Wr → Form
  lacks : List ℕ → Form
  spoils : List ℕ → Form

-- the value of a field among the pairs: a text is what the first value of its name stands for, which must be UTF-8; a
-- checkbox is checked where there is a pair
pub data ReadsField : List (List ℕ × List ℕ) → List ℕ → Sh → Wr → Type 0 where
  reads_text : {ps : List (List ℕ × List ℕ)} {n v : List ℕ}
      → first_value n ps ≡ Some v
      → IsUtf8 (decode v)
      → ReadsField ps n a_text (words (decode v))
  checked : {ps : List (List ℕ × List ℕ)} {n v : List ℕ}
      → first_value n ps ≡ Some v
      → ReadsField ps n a_truth (bare (codes "True"))
  unchecked : {ps : List (List ℕ × List ℕ)} {n : List ℕ}
      → first_value n ps ≡ None
      → ReadsField ps n a_truth (bare (codes "False"))

-- or why it has none
pub data FailsField : List (List ℕ × List ℕ) → List ℕ → Sh → Form → Type 0 where
  no_pair : {ps : List (List ℕ × List ℕ)} {n : List ℕ} → first_value n ps ≡ None → FailsField ps n a_text (lacks n)
  no_text : {ps : List (List ℕ × List ℕ)} {n v : List ℕ}
      → first_value n ps ≡ Some v
      → (IsUtf8 (decode v) → ⊥)
      → FailsField ps n a_text (spoils n)

-- the values of all fields, in their order
pub data ReadsFields : List (List ℕ × List ℕ) → Pts → Wrs → Type 0 where
  no_more : {ps : List (List ℕ × List ℕ)} → ReadsFields ps no_parts no_wires
  one_more : {ps : List (List ℕ × List ℕ)} {n : List ℕ} {s : Sh} {w : Wr} {fs : Pts} {ws : Wrs}
      → ReadsField ps n s w
      → ReadsFields ps fs ws
      → ReadsFields ps (part n s fs) (wire w ws)

-- or the first that has none
pub data FailsFields : List (List ℕ × List ℕ) → Pts → Form → Type 0 where
  here : {ps : List (List ℕ × List ℕ)} {n : List ℕ} {s : Sh} {fs : Pts} {x : Form}
      → FailsField ps n s x
      → FailsFields ps (part n s fs) x
  later : {ps : List (List ℕ × List ℕ)} {n : List ℕ} {s : Sh} {w : Wr} {fs : Pts} {x : Form}
      → ReadsField ps n s w
      → FailsFields ps fs x
      → FailsFields ps (part n s fs) x

-- a body as a form of a shape, whose fields stand in byte order of their names; other pairs than those of fields
-- don't count
pub data ReadsForm : Sh → List ℕ → Form → Type 0 where
  of_nothing : {body : List ℕ} → ReadsForm a_unit body (filled unit)
  of_fields : {fs : Pts} {body : List ℕ} {ws : Wrs}
      → ReadsFields (raw_pairs body) fs ws
      → ReadsForm (a_record fs) body (filled (rec_of ws))
  of_failure : {fs : Pts} {body : List ℕ} {x : Form}
      → FailsFields (raw_pairs body) fs x
      → ReadsForm (a_record fs) body x

-- A body is one form at most.
abbrev pub OneFormAtMost : Type 0
OneFormAtMost = (s : Sh) (body : List ℕ) (x y : Form) → ReadsForm s body x → ReadsForm s body y → x ≡ y

-- the shapes that forms have: records of texts and checkboxes, or of nothing
abbrev pub IsFieldShape : Sh → Type 0
IsFieldShape a_text = Unit {0}
IsFieldShape a_truth = Unit {0}
IsFieldShape _ = ⊥

abbrev pub AreFieldShapes : Pts → Type 0
AreFieldShapes no_parts = Unit {0}
AreFieldShapes (part n s fs) = IsFieldShape s × AreFieldShapes fs

abbrev pub IsFormShape : Sh → Type 0
IsFormShape a_unit = Unit {0}
IsFormShape (a_record fs) = AreFieldShapes fs
IsFormShape _ = ⊥

-- And of such a shape it is one.
abbrev pub EachBodyIsForm : Type 0
EachBodyIsForm = (s : Sh) (body : List ℕ) → IsFormShape s → (x : Form) × ReadsForm s body x
