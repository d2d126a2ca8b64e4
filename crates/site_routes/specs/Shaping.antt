-- The shapes of types' values, as they are computed: with so much room for nesting, and none where the room ends. An
-- answer is a shape, or none where the type has none.
use Rattle.std.specs.Prelude.{ℕ, zero, suc, ◌-◌, ◌==◌, nat_lt, Bool, true, false, List, [], ◌∷◌, map, Option, Some, None, option_map, slice_get, if◌then◌else◌}
use Rattle.std.specs.Ordering.{is_lt, nat_cmp}
use Rattle.std.specs.Cmp.Lexicographic.{slice_cmp}
use Rattle.con_terms.specs.Trees.{Cn, var, record_of, name}
use Rattle.table_rows.specs.Shapes.{Sh, an_int, a_text, a_unit, a_truth, a_record, a_data, parameter, Cases}
use Rattle.table_rows.specs.View.{shapes_from, parts_from}
use Rattle.core_terms.specs.Names.{bool_name}
use Rattle.core_terms.specs.Trees.{Cd, Dt, arity}
use Rattle.core_typing.specs.Scopes.{normal_of}
use Rattle.core_typing.specs.Seen.{Seen, a_number, a_datatype, nothing_more, literal_fields, seen}
use Rattle.core_typing.specs.Seen as seen
use Rattle.core_typing.specs.Entries.{put_part}
use Rattle.carried_types.specs.Built.{place_of}

-- what is found, where there is room
abbrev pub Told : Type 0 → Type 0
Told A = Option (Option A)

abbrev pub told_map : {A B : Type 0} → (A → B) → Told A → Told B
told_map f o = option_map (option_map f) o

-- a shape, and those behind it
abbrev pub then_shapes : Told Sh → Told (List Sh) → Told (List Sh)
then_shapes None o = None
then_shapes (Some None) o = Some None
then_shapes (Some (Some s)) o = told_map (λ ss. s ∷ ss) o

abbrev pub shapes_by : (Cn → Told Sh) → List Cn → Told (List Sh)
shapes_by f [] = Some (Some [])
shapes_by f (t ∷ ts) = then_shapes (f t) (shapes_by f ts)

-- a parameter, the first having 0
abbrev pub parameter_of : ℕ → ℕ → Option Sh
parameter_of k i = if nat_lt i k then Some (parameter (k - suc i)) else None

-- a datatype at arguments
abbrev pub data_at : Option ℕ → Told (List Sh) → Told Sh
data_at None o = Some None
data_at (Some i) o = told_map (λ ss. a_data i (shapes_from ss)) o

abbrev pub data_by : (Cn → Told Sh) → List Dt → Dt → List Cn → Told Sh
data_by f ds d args =
    if d.symbol == bool_name then Some (Some a_truth) else data_at (place_of ds d.symbol) (shapes_by f args)

-- fields, the last first put among the others in the byte order of their names
abbrev pub FieldParts : Type 0
FieldParts = List (List ℕ × Sh)

abbrev pub part_of : Option (List ℕ) → Told Sh → Told (List ℕ × Sh)
part_of None o = Some None
part_of (Some n) o = told_map (λ s. (n, s)) o

abbrev pub put_in : Told (List ℕ × Sh) → FieldParts → Told FieldParts
put_in o ps = told_map (λ (p : List ℕ × Sh). put_part p.0 p.1 ps) o

abbrev pub with_field : Told (List ℕ × Sh) → Told FieldParts → Told FieldParts
with_field o None = None
with_field o (Some None) = Some None
with_field o (Some (Some ps)) = put_in o ps

abbrev pub fields_by : (Cn → Told Sh) → List (List ℕ) → List (ℕ × Cn) → Told FieldParts
fields_by f names [] = Some (Some [])
fields_by f names (x ∷ fs) = with_field (part_of (slice_get names x.0) (f x.1)) (fields_by f names fs)

abbrev pub record_shape : FieldParts → Sh
record_shape [] = a_unit
record_shape (p ∷ ps) = a_record (parts_from (p ∷ ps))

abbrev pub row_by : (Cn → Told Sh) → List (List ℕ) → Cn → Told Sh
row_by f names r = told_map record_shape (fields_by f names (literal_fields r))

abbrev pub seen_by : (Cn → Told Sh) → List Dt → Seen → Told Sh
seen_by f ds a_number = Some (Some an_int)
seen_by f ds seen.a_text = Some (Some a_text)
seen_by f ds (a_datatype d args) = data_by f ds d args
seen_by f ds (seen.a_record fs) = Some None
seen_by f ds nothing_more = Some None

-- a type in normal form, whose parts are looked at by `f`
abbrev pub normal_by : (Cn → Told Sh) → List (List ℕ) → List Dt → ℕ → Cn → Told Sh
normal_by f names ds k (var i) = Some (parameter_of k i)
normal_by f names ds k (record_of r) = row_by f names r
normal_by f names ds k n = seen_by f ds (seen ds n)

abbrev pub type_by : (Cn → Told Sh) → List (List ℕ) → List Dt → ℕ → Option Cn → Told Sh
type_by f names ds k None = Some None
type_by f names ds k (Some n) = normal_by f names ds k n

-- a type, in a datatype of k parameters
unfoldable pub shaped : ℕ → List (List ℕ) → List Dt → ℕ → Cn → Told Sh
shaped zero names ds k t = None
shaped (suc room) names ds k t = type_by (shaped room names ds k) names ds k (normal_of t)

-- how deep types may be nested
abbrev pub nested : ℕ
nested = 1200

-- what a constructor holds, and its case
abbrev pub held_by : (Cn → Told Sh) → Option Cn → Told (Option Sh)
held_by f None = Some (Some None)
held_by f (Some t) = told_map (λ s. Some s) (f t)

abbrev pub case_by : Option (List ℕ) → Told (Option Sh) → Told (List ℕ × Option Sh)
case_by None o = Some None
case_by (Some n) o = told_map (λ h. (n, h)) o

abbrev pub then_cases : Told (List ℕ × Option Sh) → Told Cases → Told Cases
then_cases None o = None
then_cases (Some None) o = Some None
then_cases (Some (Some c)) o = told_map (λ (cs : Cases). c ∷ cs) o

abbrev pub cases_by : (Cn → Told Sh) → List (List ℕ) → List Cd → Told Cases
cases_by f names [] = Some (Some [])
cases_by f names (c ∷ cs) = then_cases (case_by (slice_get names c.name) (held_by f c.holds)) (cases_by f names cs)

-- one that holds what links can't carry has none
abbrev pub or_no_case : Told Cases → Option Cases
or_no_case None = None
or_no_case (Some None) = Some []
or_no_case (Some (Some cs)) = Some cs

abbrev pub datatype_by : List (List ℕ) → List Dt → Dt → Option Cases
datatype_by names ds d = or_no_case (cases_by (shaped nested names ds (arity d)) names d.constructors)

-- a field with a literal name
abbrev pub literal_pair : Cn → Cn → List (ℕ × Cn)
literal_pair (name s) v = (s, v) ∷ []
literal_pair _ v = []

-- where a name stands in byte order
abbrev pub place_among : List ℕ → FieldParts → ℕ
place_among n [] = 0
place_among n (p ∷ ps) = if is_lt (slice_cmp nat_cmp p.0 n) then suc (place_among n ps) else 0
