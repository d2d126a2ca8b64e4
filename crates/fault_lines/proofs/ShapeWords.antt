-- What is put behind a text of a shape is the words that are shown, each behind a space.
use Rattle.std.proofs.Common.{◌≡◌, ℕ, Bool, true, false, not, List, [], ◌∷◌, ◌++◌, codes, decimal, unsigned_abs}
use Rattle.std.specs.Int.{is_negative}
use Rattle.core_typing.specs.Cover.{Shp, leaf, number_shape, text_shape, bare_shape, holding_shape, record_shape, Shf, no_shape_fields, shape_field}
use Rattle.shown_types.specs.Names.{Known, nameless, builder_words}
use Rattle.shown_types.specs.Printed.{put_con, put_name}
use Rattle.shown_types.specs.Shown.{con_words, field_name_words, literal, literal_text}
use Rattle.shown_types.specs.Words.{spaced, where_wanted, put_word, put_words, put_wanted}
use Rattle.shown_types.proofs.Meaning.{Puts, no_words, all_words, wanted, bracketed, word_then, in_turn, one_word, name_is, con_is}
use Rattle.fault_lines.specs.Shapes.{quoted, shape_words, shape_fields_words, put_shape, put_shape_fields}

mutual
  shape_is : (g : Known) (called : List (List ℕ)) (bare : Bool) (s : Shp) (t : List ℕ) → Puts (put_shape g called bare s t) t (shape_words g called bare s)
  shape_is g called bare leaf t = one_word nameless t
  shape_is g called bare (number_shape z) t =
      in_turn (put_wanted (is_negative z) (codes "-")) (put_word (decimal (unsigned_abs z))) (where_wanted (is_negative z) (codes "-")) (decimal (unsigned_abs z) ∷ [])
      (wanted (is_negative z) (codes "-")) (one_word (decimal (unsigned_abs z))) t
  shape_is g called bare (text_shape w) t = one_word (quoted w) t
  shape_is g called bare (bare_shape s j) t = all_words (builder_words g s j) t
  shape_is g called bare (holding_shape s j h) t =
      bracketed (not bare) (λ u. put_shape g called false h (put_words (builder_words g s j) u)) (builder_words g s j ++ shape_words g called false h)
      (in_turn (put_words (builder_words g s j)) (put_shape g called false h) (builder_words g s j) (shape_words g called false h)
      (all_words (builder_words g s j)) (shape_is g called false h)) t
  shape_is g called bare (record_shape fs) t =
      word_then (λ u. put_word (codes "}") (put_shape_fields g called true fs u)) (codes "{") (shape_fields_words g called true fs ++ codes "}" ∷ [])
      (in_turn (put_shape_fields g called true fs) (put_word (codes "}")) (shape_fields_words g called true fs) (codes "}" ∷ []) (shape_fields_are g called true fs) (one_word (codes "}"))) t

  shape_fields_are : (g : Known) (called : List (List ℕ)) (first : Bool) (fs : Shf) (t : List ℕ) → Puts (put_shape_fields g called first fs t) t (shape_fields_words g called first fs)
  shape_fields_are g called first no_shape_fields t = no_words t
  shape_fields_are g called first (shape_field n s fs) t =
      in_turn (put_wanted (not first) (codes ","))
      (λ u. put_shape_fields g called false fs (put_shape g called true s (put_word (codes "=") (put_name (literal_text g (literal n)) (put_con g called 3 n) u))))
      (where_wanted (not first) (codes ","))
      (field_name_words (literal_text g (literal n)) (con_words g called 3 n) ++ (codes "=" ∷ shape_words g called true s ++ shape_fields_words g called false fs))
      (wanted (not first) (codes ","))
      (in_turn (put_name (literal_text g (literal n)) (put_con g called 3 n)) (λ u. put_shape_fields g called false fs (put_shape g called true s (put_word (codes "=") u)))
      (field_name_words (literal_text g (literal n)) (con_words g called 3 n)) (codes "=" ∷ shape_words g called true s ++ shape_fields_words g called false fs)
      (name_is (literal_text g (literal n)) (put_con g called 3 n) (con_words g called 3 n) (con_is g called 3 n))
      (word_then (λ u. put_shape_fields g called false fs (put_shape g called true s u)) (codes "=") (shape_words g called true s ++ shape_fields_words g called false fs)
      (in_turn (put_shape g called true s) (put_shape_fields g called false fs) (shape_words g called true s) (shape_fields_words g called false fs)
      (shape_is g called true s) (shape_fields_are g called false fs)))) t

pub shape_shown : (g : Known) (called : List (List ℕ)) (s : Shp) (t : List ℕ) → put_shape g called true s t ≡ t ++ spaced (shape_words g called true s)
shape_shown g called s t = shape_is g called true s t
