-- Texts with what is printed of kinds and constructors behind them: what `Shown` says, said of the text as it grows.
use Rattle.std.specs.Prelude.{ℕ, ◌+◌, nat_lt, Bool, true, false, not, List, [], ◌∷◌, codes, decimal, Option, Some, None}
use Rattle.con_terms.specs.Trees.{Kd, types, units, names, row_of, to, tuple_of, Kds, no_kinds, kind, Cn, var, basic, arrow, poly, guarded, record_of, app, lambda, unit_con, name, row, cat, map_of, tuple, proj, Cns, no_cons, con, Prs, no_pairs, pair}
use Rattle.shown_types.specs.Words.{put_word, put_words, put_wanted}
use Rattle.shown_types.specs.Names.{Known, type_words, label_word, variable_word, new_name}
use Rattle.shown_types.specs.Order.{in_order}
use Rattle.shown_types.specs.Shown.{is_unit, is_record, literal, literal_text, colons}

-- kinds
abbrev mutual
  pub put_kind : Bool → Kd → List ℕ → List ℕ
  put_kind tight types text = put_word (codes "Type") text
  put_kind tight units text = put_word (codes "Unit") text
  put_kind tight names text = put_word (codes "Name") text
  put_kind tight (row_of k) text = put_word (codes "}") (put_kind false k (put_word (codes "{") text))
  put_kind tight (to k l) text =
      put_wanted tight (codes ")") (put_kind false l (put_word (codes "->") (put_kind true k
      (put_wanted tight (codes "(") text))))
  put_kind tight (tuple_of ks) text = put_word (codes ")") (put_kinds true ks (put_word (codes "(") text))

  pub put_kinds : Bool → Kds → List ℕ → List ℕ
  put_kinds first no_kinds text = text
  put_kinds first (kind k ks) text = put_kinds false ks (put_kind false k (put_wanted (not first) (codes "*") text))

-- the name of a field, and its value, as they are printed
abbrev pub put_name : Option (List ℕ) → (List ℕ → List ℕ) → List ℕ → List ℕ
put_name (Some t) f text = put_word t text
put_name None f text = f text

abbrev pub put_value : Bool → (List ℕ → List ℕ) → List ℕ → List ℕ
put_value true f text = text
put_value false f text = f (put_word (codes "=") text)

-- fields behind one another
abbrev pub put_fields : Bool → List (List ℕ → List ℕ) → List ℕ → List ℕ
put_fields first [] text = text
put_fields first (f ∷ fs) text = put_fields false fs (f (put_wanted (not first) (codes ",") text))

-- constructors
abbrev mutual
  pub put_con : Known → List (List ℕ) → ℕ → Cn → List ℕ → List ℕ
  put_con g called level (var i) text = put_word (variable_word called i) text
  put_con g called level (basic s) text = put_words (type_words g s) text
  put_con g called level (arrow a b) text =
      put_wanted (nat_lt 0 level) (codes ")") (put_con g called 0 b (put_word (codes "->") (put_con g called 1 a
      (put_wanted (nat_lt 0 level) (codes "(") text))))
  put_con g called level (poly x k b) text =
      put_wanted (nat_lt 0 level) (codes ")") (put_con g (new_name called k ∷ called) 0 b (put_word (codes "->")
      (put_kind true k (put_word (colons x) (put_word (new_name called k)
      (put_wanted (nat_lt 0 level) (codes "(") text))))))
  put_con g called level (guarded a b c) text =
      put_wanted (nat_lt 0 level) (codes ")") (put_con g called 0 c (put_word (codes "=>") (put_word (codes "]")
      (put_con g called 1 b (put_word (codes "~") (put_con g called 1 a (put_word (codes "[")
      (put_wanted (nat_lt 0 level) (codes "(") text))))))))
  put_con g called level (record_of a) text = put_con g called 3 a (put_word (codes "$") text)
  put_con g called level (app a b) text =
      put_wanted (nat_lt 2 level) (codes ")") (put_con g called 3 b (put_con g called 2 a
      (put_wanted (nat_lt 2 level) (codes "(") text)))
  put_con g called level (lambda k b) text =
      put_wanted (nat_lt 0 level) (codes ")") (put_con g (new_name called k ∷ called) 0 b (put_word (codes "=>")
      (put_kind false k (put_word (codes "::") (put_word (new_name called k) (put_word (codes "fn")
      (put_wanted (nat_lt 0 level) (codes "(") text)))))))
  put_con g called level unit_con text = put_word (codes ")") (put_word (codes "(") text)
  put_con g called level (name s) text = put_word (label_word g s) text
  put_con g called level (row k ps) text =
      put_word (codes "]") (put_fields true (in_order (put_row g called ps)) (put_word (codes "[") text))
  put_con g called level (cat a b) text =
      put_wanted (nat_lt 1 level) (codes ")") (put_con g called 2 b (put_word (codes "++") (put_con g called 1 a
      (put_wanted (nat_lt 1 level) (codes "(") text))))
  put_con g called level (map_of k l) text = put_word (codes "map") text
  put_con g called level (tuple cs) text = put_word (codes ")") (put_cons g called true cs (put_word (codes "(") text))
  put_con g called level (proj a n) text =
      put_word (decimal (n + 1)) (put_word (codes ".") (put_wanted (is_record a) (codes ")") (put_con g called 3 a
      (put_wanted (is_record a) (codes "(") text))))

  pub put_cons : Known → List (List ℕ) → Bool → Cns → List ℕ → List ℕ
  put_cons g called first no_cons text = text
  put_cons g called first (con c cs) text =
      put_cons g called false cs (put_con g called 0 c (put_wanted (not first) (codes ",") text))

  pub put_row : Known → List (List ℕ) → Prs → List (Option (List ℕ) × (List ℕ → List ℕ))
  put_row g called no_pairs = []
  put_row g called (pair n v ps) = (
    literal_text g (literal n),
    λ text. put_value (is_unit v) (put_con g called 0 v)
        (put_name (literal_text g (literal n)) (put_con g called 3 n) text),
  ) ∷ put_row g called ps

-- a field alone
abbrev pub put_field : Known → List (List ℕ) → Cn × Cn → List ℕ → List ℕ
put_field g called p text =
    put_value (is_unit p.1) (put_con g called 0 p.1)
    (put_name (literal_text g (literal p.0)) (put_con g called 3 p.0) text)

-- a field by its name, where that is a literal one
abbrev pub by_name : Known → Cn × Cn → Option (List ℕ) × (Cn × Cn)
by_name g p = (literal_text g (literal p.0), p)
