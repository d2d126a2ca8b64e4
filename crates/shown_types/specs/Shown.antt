-- What is printed of kinds and constructors, word by word.
--
-- A level says where a constructor stands: what binds less tightly is put in brackets there. Anything may stand at
-- level 0, rows that are put together with `++` at 1 at most, an application at 2 at most, and at 3 only what is one
-- piece.
use Rattle.std.specs.Prelude.{ℕ, ◌+◌, nat_lt, Bool, true, false, not, List, [], ◌∷◌, ◌++◌, codes, decimal, Option, Some, None}
use Rattle.con_terms.specs.Trees.{Kd, types, units, names, row_of, to, tuple_of, Kds, no_kinds, kind, Cn, var, basic, arrow, poly, guarded, record_of, app, lambda, unit_con, name, row, cat, map_of, tuple, proj, Cns, no_cons, con, Prs, no_pairs, pair}
use Rattle.shown_types.specs.Words.{where_wanted, within}
use Rattle.shown_types.specs.Names.{Known, text_of, type_words, label_word, variable_word, new_name}
use Rattle.shown_types.specs.Order.{in_order}

-- kinds; the flag says whether a kind with an arrow stands in brackets
abbrev mutual
  pub kind_words : Bool → Kd → List (List ℕ)
  kind_words tight types = codes "Type" ∷ []
  kind_words tight units = codes "Unit" ∷ []
  kind_words tight names = codes "Name" ∷ []
  kind_words tight (row_of k) = codes "{" ∷ kind_words false k ++ codes "}" ∷ []
  kind_words tight (to k l) = within tight (kind_words true k ++ codes "->" ∷ kind_words false l)
  kind_words tight (tuple_of ks) = codes "(" ∷ kinds_words true ks ++ codes ")" ∷ []

  -- the kinds of a tuple; the flag says whether they begin with the first
  pub kinds_words : Bool → Kds → List (List ℕ)
  kinds_words first no_kinds = []
  kinds_words first (kind k ks) = where_wanted (not first) (codes "*") ++ (kind_words false k ++ kinds_words false ks)

-- whether a constructor is `()`, and whether it is a record
abbrev pub is_unit : Cn → Bool
is_unit (var i) = false
is_unit (basic s) = false
is_unit (arrow a b) = false
is_unit (poly x k b) = false
is_unit (guarded a b c) = false
is_unit (record_of a) = false
is_unit (app a b) = false
is_unit (lambda k b) = false
is_unit unit_con = true
is_unit (name s) = false
is_unit (row k ps) = false
is_unit (cat a b) = false
is_unit (map_of k l) = false
is_unit (tuple cs) = false
is_unit (proj a n) = false

abbrev pub is_record : Cn → Bool
is_record (var i) = false
is_record (basic s) = false
is_record (arrow a b) = false
is_record (poly x k b) = false
is_record (guarded a b c) = false
is_record (record_of a) = true
is_record (app a b) = false
is_record (lambda k b) = false
is_record unit_con = false
is_record (name s) = false
is_record (row k ps) = false
is_record (cat a b) = false
is_record (map_of k l) = false
is_record (tuple cs) = false
is_record (proj a n) = false

-- the symbol of a literal name
abbrev pub literal : Cn → Option ℕ
literal (var i) = None
literal (basic s) = None
literal (arrow a b) = None
literal (poly x k b) = None
literal (guarded a b c) = None
literal (record_of a) = None
literal (app a b) = None
literal (lambda k b) = None
literal unit_con = None
literal (name s) = Some s
literal (row k ps) = None
literal (cat a b) = None
literal (map_of k l) = None
literal (tuple cs) = None
literal (proj a n) = None

-- the text of a literal name
abbrev pub literal_text : Known → Option ℕ → Option (List ℕ)
literal_text g (Some s) = Some (text_of g s)
literal_text g None = None

-- the name of a field: a literal one is printed without its sign
abbrev pub field_name_words : Option (List ℕ) → List (List ℕ) → List (List ℕ)
field_name_words (Some t) ws = t ∷ []
field_name_words None ws = ws

-- a field: its value isn't printed where that is `()`
abbrev pub field_words : List (List ℕ) → Bool → List (List ℕ) → List (List ℕ)
field_words named true value = named
field_words named false value = named ++ codes "=" ∷ value

-- fields behind one another; the flag says whether they begin with the first
abbrev pub fields_words : Bool → List (List (List ℕ)) → List (List ℕ)
fields_words first [] = []
fields_words first (f ∷ fs) = where_wanted (not first) (codes ",") ++ (f ++ fields_words false fs)

-- `:::` where calls leave the constructor out, else `::`
abbrev pub colons : Bool → List ℕ
colons true = codes ":::"
colons false = codes "::"

-- constructors, where a level wants them, over what variables are called
abbrev mutual
  pub con_words : Known → List (List ℕ) → ℕ → Cn → List (List ℕ)
  con_words g called level (var i) = variable_word called i ∷ []
  con_words g called level (basic s) = type_words g s
  con_words g called level (arrow a b) =
      within (nat_lt 0 level) (con_words g called 1 a ++ codes "->" ∷ con_words g called 0 b)
  con_words g called level (poly x k b) =
      within (nat_lt 0 level)
      (new_name called k ∷ colons x ∷ kind_words true k ++ codes "->" ∷ con_words g (new_name called k ∷ called) 0 b)
  con_words g called level (guarded a b c) =
      within (nat_lt 0 level)
      (codes "[" ∷ con_words g called 1 a ++ (codes "~" ∷ con_words g called 1 b
      ++ (codes "]" ∷ codes "=>" ∷ con_words g called 0 c)))
  con_words g called level (record_of a) = codes "$" ∷ con_words g called 3 a
  con_words g called level (app a b) = within (nat_lt 2 level) (con_words g called 2 a ++ con_words g called 3 b)
  con_words g called level (lambda k b) =
      within (nat_lt 0 level)
      (codes "fn" ∷ new_name called k ∷ codes "::" ∷ kind_words false k
      ++ codes "=>" ∷ con_words g (new_name called k ∷ called) 0 b)
  con_words g called level unit_con = codes "(" ∷ codes ")" ∷ []
  con_words g called level (name s) = label_word g s ∷ []
  con_words g called level (row k ps) =
      codes "[" ∷ fields_words true (in_order (row_words g called ps)) ++ codes "]" ∷ []
  con_words g called level (cat a b) =
      within (nat_lt 1 level) (con_words g called 1 a ++ codes "++" ∷ con_words g called 2 b)
  con_words g called level (map_of k l) = codes "map" ∷ []
  con_words g called level (tuple cs) = codes "(" ∷ cons_words g called true cs ++ codes ")" ∷ []
  -- behind a `$` the number would be read as that of the row, so a record stands in brackets
  con_words g called level (proj a n) =
      within (is_record a) (con_words g called 3 a) ++ codes "." ∷ decimal (n + 1) ∷ []

  -- the constructors of a tuple; the flag says whether they begin with the first
  pub cons_words : Known → List (List ℕ) → Bool → Cns → List (List ℕ)
  cons_words g called first no_cons = []
  cons_words g called first (con c cs) =
      where_wanted (not first) (codes ",") ++ (con_words g called 0 c ++ cons_words g called false cs)

  -- the fields of a row, each with its name where that is a literal one
  pub row_words : Known → List (List ℕ) → Prs → List (Option (List ℕ) × List (List ℕ))
  row_words g called no_pairs = []
  row_words g called (pair n v ps) = (
    literal_text g (literal n),
    field_words (field_name_words (literal_text g (literal n)) (con_words g called 3 n))
        (is_unit v) (con_words g called 0 v),
  ) ∷ row_words g called ps

-- what was wanted, and what was found
abbrev pub differing_words : List (List ℕ) → List (List ℕ) → List (List ℕ)
differing_words wanted found = codes "wanted" ∷ wanted ++ codes "found" ∷ found
