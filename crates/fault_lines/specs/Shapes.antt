-- What is printed of shapes of values: patterns of these, word by word; and texts with them behind.
use Rattle.std.specs.Prelude.{ℕ, ℤ, ◌==◌, Bool, true, false, not, List, [], ◌∷◌, ◌++◌, codes, decimal, unsigned_abs, if◌then◌else◌}
use Rattle.std.specs.Int.{is_negative}
use Rattle.con_terms.specs.Trees.{Cn}
use Rattle.core_typing.specs.Cover.{Shp, leaf, number_shape, text_shape, bare_shape, holding_shape, record_shape, Shf, no_shape_fields, shape_field}
use Rattle.shown_types.specs.Names.{Known, nameless, builder_words}
use Rattle.shown_types.specs.Printed.{put_con, put_name}
use Rattle.shown_types.specs.Shown.{con_words, field_name_words, literal, literal_text}
use Rattle.shown_types.specs.Words.{put_word, put_words, put_wanted, where_wanted, within}

-- A text as sources write it, between quotes: a backslash before a quote and a backslash, and `\n`, `\r` and `\t` for
-- what ends lines and for a tab.
abbrev pub escaped_byte : ℕ → List ℕ
escaped_byte b =
    if b == 34 then 92 ∷ 34 ∷ []
    else if b == 92 then 92 ∷ 92 ∷ []
    else if b == 10 then 92 ∷ 110 ∷ []
    else if b == 13 then 92 ∷ 114 ∷ []
    else if b == 9 then 92 ∷ 116 ∷ []
    else b ∷ []

abbrev pub escaped : List ℕ → List ℕ
escaped [] = []
escaped (b ∷ bs) = escaped_byte b ++ escaped bs

abbrev pub quoted : List ℕ → List ℕ
quoted text = (34 ∷ escaped text) ++ 34 ∷ []

-- a number, the sign of a negative one apart
abbrev pub number_words : ℤ → List (List ℕ)
number_words z = where_wanted (is_negative z) (codes "-") ++ decimal (unsigned_abs z) ∷ []

-- shapes; the flag says whether a constructor with what it holds stands without brackets
abbrev mutual
  pub shape_words : Known → List (List ℕ) → Bool → Shp → List (List ℕ)
  shape_words g called bare leaf = nameless ∷ []
  shape_words g called bare (number_shape z) = number_words z
  shape_words g called bare (text_shape t) = quoted t ∷ []
  shape_words g called bare (bare_shape s j) = builder_words g s j
  shape_words g called bare (holding_shape s j h) =
      within (not bare) (builder_words g s j ++ shape_words g called false h)
  shape_words g called bare (record_shape fs) = codes "{" ∷ shape_fields_words g called true fs ++ codes "}" ∷ []

  -- fields; the flag says whether they begin with the first
  pub shape_fields_words : Known → List (List ℕ) → Bool → Shf → List (List ℕ)
  shape_fields_words g called first no_shape_fields = []
  shape_fields_words g called first (shape_field n s fs) =
      where_wanted (not first) (codes ",")
      ++ (field_name_words (literal_text g (literal n)) (con_words g called 3 n)
      ++ (codes "=" ∷ shape_words g called true s ++ shape_fields_words g called false fs))

-- the same, said of a text as it grows; a field by its name and by what puts its shape
abbrev pub put_number : ℤ → List ℕ → List ℕ
put_number z text = put_word (decimal (unsigned_abs z)) (put_wanted (is_negative z) (codes "-") text)

abbrev pub put_shape_field : Known → List (List ℕ) → Cn → (List ℕ → List ℕ) → List ℕ → List ℕ
put_shape_field g called n f text =
    f (put_word (codes "=") (put_name (literal_text g (literal n)) (put_con g called 3 n) text))

abbrev mutual
  pub put_shape : Known → List (List ℕ) → Bool → Shp → List ℕ → List ℕ
  put_shape g called bare leaf text = put_word nameless text
  put_shape g called bare (number_shape z) text = put_number z text
  put_shape g called bare (text_shape t) text = put_word (quoted t) text
  put_shape g called bare (bare_shape s j) text = put_words (builder_words g s j) text
  put_shape g called bare (holding_shape s j h) text =
      put_wanted (not bare) (codes ")") (put_shape g called false h (put_words (builder_words g s j)
      (put_wanted (not bare) (codes "(") text)))
  put_shape g called bare (record_shape fs) text =
      put_word (codes "}") (put_shape_fields g called true fs (put_word (codes "{") text))

  pub put_shape_fields : Known → List (List ℕ) → Bool → Shf → List ℕ → List ℕ
  put_shape_fields g called first no_shape_fields text = text
  put_shape_fields g called first (shape_field n s fs) text =
      put_shape_fields g called false fs
      (put_shape_field g called n (put_shape g called true s) (put_wanted (not first) (codes ",") text))
