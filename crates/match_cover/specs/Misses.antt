-- The first shapes that no row of tests passes: columns are looked at from the left to the right, constructors in
-- the order of their declaration, numbers from 0 on, texts by their length and then by their bytes, and fields as the
-- type's normal form has them.
use Rattle.std.specs.Prelude.{ℕ, zero, suc, pos, ◌-◌, nat_lt, ◌/◌, ◌%◌, Bool, true, false, List, [], ◌∷◌, Some, None, if◌then◌else◌}
use Rattle.con_terms.specs.Trees.{Cn}
use Rattle.core_terms.specs.Trees.{Cd, Dt}
use Rattle.core_terms.specs.Datatypes.{held_at}
use Rattle.core_typing.specs.Scopes.{normal_of}
use Rattle.core_typing.specs.Seen.{Seen, a_number, a_text, a_datatype, a_record, nothing_more, seen}
use Rattle.core_typing.specs.Cover.{Shp, leaf, number_shape, text_shape, bare_shape, holding_shape, record_shape}
use Rattle.type_faults.specs.View.{shapes_from}
use Rattle.match_cover.specs.Rows.{Row, one_is_free, heads_are_free, kept, tails, inside, opened}

-- a column: how deep its values are looked at, and their type
abbrev pub Column : Type 0
Column = ℕ × Cn

-- each shape passes a row; these, one a column, pass none; or the room for looking is too small
pub data Out : Type 0 where
  covered : Out
  missed : List Shp → Out
  no_room : Out

-- a type has no shape; one is the first; or the room is too small
pub data First : Type 0 where
  no_shape : First
  the_first : Shp → First
  unknown_first : First

-- the same for several types
pub data Firsts : Type 0 where
  no_shapes : Firsts
  the_firsts : List Shp → Firsts
  unknown_firsts : Firsts

-- fields by their names
abbrev pub zipped : List (Cn × Cn) → List Shp → List (Cn × Shp)
zipped [] ss = []
zipped (f ∷ fs) [] = []
zipped (f ∷ fs) (s ∷ ss) = (f.0, s) ∷ zipped fs ss

abbrev pub behind_fields : List (Cn × Cn) → List Shp → List Shp
behind_fields [] ss = ss
behind_fields (f ∷ fs) [] = []
behind_fields (f ∷ fs) (s ∷ ss) = behind_fields fs ss

-- the first shape of a type
abbrev pub first_held : (Shp → Shp) → First → First → First
first_held f (the_first s) more = the_first (f s)
first_held f no_shape more = more
first_held f unknown_first more = unknown_first

abbrev pub first_built : (Cn → First) → ℕ → List Cn → List Cd → ℕ → First
first_built f s args [] j = no_shape
first_built f s args (c ∷ cs) j = elim c.holds [
  | None ↦ the_first (bare_shape s j)
  | Some h ↦ first_held (holding_shape s j) (f (held_at args h)) (first_built f s args cs (suc j))
]

abbrev pub first_before : First → List Shp → Firsts
first_before (the_first s) ss = the_firsts (s ∷ ss)
first_before no_shape ss = no_shapes
first_before unknown_first ss = unknown_firsts

abbrev pub first_fields : (Cn → First) → List (Cn × Cn) → Firsts
first_fields f [] = the_firsts []
first_fields f (x ∷ fs) = elim (first_fields f fs) [
  | no_shapes ↦ no_shapes
  | the_firsts ss ↦ first_before (f x.1) ss
  | unknown_firsts ↦ unknown_firsts
]

abbrev pub first_record : List (Cn × Cn) → Firsts → First
first_record fs no_shapes = no_shape
first_record fs (the_firsts ss) = the_first (record_shape (shapes_from (zipped fs ss)))
first_record fs unknown_firsts = unknown_first

abbrev pub first_seen : (Cn → First) → Seen → First
first_seen f a_number = the_first (number_shape (pos 0))
first_seen f a_text = the_first (text_shape [])
first_seen f (a_datatype x args) = first_built f x.symbol args x.constructors 0
first_seen f (a_record fs) = first_record fs (first_fields f fs)
first_seen f nothing_more = the_first leaf

abbrev pub first_shape : List Dt → ℕ → Cn → First
first_shape ds zero t = the_first leaf
first_shape ds (suc d) t = elim (normal_of t) [
  | None ↦ unknown_first
  | Some n ↦ first_seen (first_shape ds d) (seen ds n)
]

-- a shape before those of the columns behind
abbrev pub then_shape : Shp → Out → Out
then_shape s covered = covered
then_shape s (missed ss) = missed (s ∷ ss)
then_shape s no_room = no_room

-- several shapes before them
abbrev pub prepended : List Shp → Out → Out
prepended [] o = o
prepended (s ∷ ss) o = then_shape s (prepended ss o)

-- what is missed first, or else what more says
abbrev pub or_else : Out → Out → Out
or_else covered more = more
or_else (missed ss) more = missed ss
or_else no_room more = no_room

-- what the columns behind say, by the rows for one shape of the first column. Where none of these rows asks anything
-- of the first column, this holds of all its shapes
abbrev pub tried : (List Row → Out) → Shp → List Row → Out → Out
tried k s rows more =
    or_else (then_shape s (k (tails (kept s rows)))) (if heads_are_free (kept s rows) then covered else more)

-- the same for the first shape of a type: where it doesn't tell of all shapes more is looked at
abbrev pub tried_first : (List Row → Out) → First → (Shp → Shp) → List Row → Out → Out → Out
tried_first k no_shape f rows none more = none
tried_first k (the_first s) f rows none more =
    if heads_are_free (kept (f s) rows) then then_shape (f s) (k (tails (kept (f s) rows))) else more
tried_first k unknown_first f rows none more = no_room

-- the literals that are tried, by their numbers: 2^14 at most
unfoldable pub literal_count : ℕ
literal_count = 16384

-- the empty text, those of one byte, and then those of two
abbrev pub nth_bytes : ℕ → List ℕ
nth_bytes n =
    if nat_lt n 1 then [] else
    if nat_lt n 129 then (n - 1) ∷ [] else ((n - 129) / 128) ∷ (((n - 129) % 128) ∷ [])

-- texts, or numbers
abbrev pub nth_literal : Bool → ℕ → Shp
nth_literal true n = text_shape (nth_bytes n)
nth_literal false n = number_shape (pos n)

abbrev pub literals : (List Row → Out) → Bool → List Row → ℕ → ℕ → Out
literals k words rows zero z = no_room
literals k words rows (suc n) z = tried k (nth_literal words z) rows (literals k words rows n (suc z))

-- a constructor with what it holds
abbrev pub wrapped : ℕ → ℕ → Out → Out
wrapped s j covered = covered
wrapped s j (missed []) = no_room
wrapped s j (missed (h ∷ ss)) = missed (holding_shape s j h ∷ ss)
wrapped s j no_room = no_room

-- a record with its fields
abbrev pub gathered : List (Cn × Cn) → Out → Out
gathered fs covered = covered
gathered fs (missed ss) = missed (record_shape (shapes_from (zipped fs ss)) ∷ behind_fields fs ss)
gathered fs no_room = no_room

abbrev pub columns_at : ℕ → List (Cn × Cn) → List Column → List Column
columns_at d [] rest = rest
columns_at d (f ∷ fs) rest = (d, f.1) ∷ columns_at d fs rest

-- what is asked of some columns and rows
abbrev pub Ask : Type 0
Ask = List Column → List Row → Out

-- the constructors of a datatype
abbrev pub held_cases : List Dt → Ask → ℕ → ℕ → ℕ → Cn → List Column → List Row → Out → Out
held_cases ds k d s j t rest rows more =
    tried_first (k rest) (first_shape ds d t) (holding_shape s j) rows more
    (or_else (wrapped s j (k ((d, t) ∷ rest) (inside s j rows))) more)

abbrev pub built_cases : List Dt → Ask → ℕ → ℕ → List Cn → List Column → List Row → List Cd → ℕ → Out
built_cases ds k d s args rest rows [] j = covered
built_cases ds k d s args rest rows (c ∷ cs) j = elim c.holds [
  | None ↦ tried (k rest) (bare_shape s j) rows (built_cases ds k d s args rest rows cs (suc j))
  | Some h ↦ held_cases ds k d s j (held_at args h) rest rows (built_cases ds k d s args rest rows cs (suc j))
]

abbrev pub by_seen : List Dt → Ask → ℕ → List Column → List Row → Seen → Out
by_seen ds k d rest rows a_number = literals (k rest) false rows literal_count 0
by_seen ds k d rest rows a_text = literals (k rest) true rows literal_count 0
by_seen ds k d rest rows (a_datatype x args) = built_cases ds k d x.symbol args rest rows x.constructors 0
by_seen ds k d rest rows (a_record fs) = gathered fs (k (columns_at d fs rest) (opened fs rows))
by_seen ds k d rest rows nothing_more = no_room

abbrev pub split : List Dt → Ask → Column → List Column → List Row → Out
split ds k (zero, t) rest rows = no_room
split ds k (suc d, t) rest rows = elim (normal_of t) [ None ↦ no_room | Some n ↦ by_seen ds k d rest rows (seen ds n) ]

abbrev pub at_columns : List Dt → Ask → List Column → List Row → Out
at_columns ds k [] rows = missed []
at_columns ds k (c ∷ rest) rows =
    tried_first (k rest) (first_shape ds c.0 c.1) (λ s. s) rows covered (split ds k c rest rows)

-- with room for so many columns
abbrev pub misses : List Dt → ℕ → Ask
misses ds zero cols rows = no_room
misses ds (suc r) cols rows = if one_is_free rows then covered else at_columns ds (misses ds r) cols rows
