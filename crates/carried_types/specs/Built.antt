-- Whether a type is built of what links carry, as it is computed: with so much room for its nesting, and none where
-- the room ends.
use Rattle.std.specs.Prelude.{ℕ, zero, suc, ◌==◌, nat_lt, get_or, Bool, true, false, List, [], ◌∷◌, map, Option, Some, None, option_map, if◌then◌else◌}
use Rattle.std.specs.List.{filter}
use Rattle.con_terms.specs.Trees.{Cn, var, record_of, name, row, types, Prs, no_pairs, pair}
use Rattle.con_terms.specs.Same.{kd_eq}
use Rattle.core_terms.specs.Trees.{Cd, Dt, arity}
use Rattle.core_typing.specs.Scopes.{normal_of}
use Rattle.core_typing.specs.Seen.{Seen, a_number, a_text, a_datatype, a_record, nothing_more, seen}

-- the place of the first datatype with a symbol
abbrev pub place_of : List Dt → ℕ → Option ℕ
place_of [] s = None
place_of (d ∷ ds) s = if d.symbol == s then Some 0 else option_map (λ i. suc i) (place_of ds s)

-- the mark at a place
abbrev pub mark_at : List Bool → Option ℕ → Bool
mark_at bs None = false
mark_at bs (Some i) = get_or bs i false

-- whether the datatype with a symbol is marked
abbrev pub is_carrier : List Dt → List Bool → ℕ → Bool
is_carrier ds bs s = mark_at bs (place_of ds s)

-- the symbols of the marked ones
abbrev pub symbols_in : List Dt → List ℕ
symbols_in ds = map (λ (d : Dt). d.symbol) ds

abbrev pub carriers_in : List Dt → List Bool → List ℕ
carriers_in ds bs = filter (is_carrier ds bs) (symbols_in ds)

-- the first answer, and the second where the first is yes
abbrev pub both : Option Bool → Option Bool → Option Bool
both None b = None
both (Some false) b = Some false
both (Some true) b = b

-- whether each of some types is so
abbrev pub all_by : (Cn → Option Bool) → List Cn → Option Bool
all_by f [] = Some true
all_by f (t ∷ ts) = both (f t) (all_by f ts)

abbrev pub is_name : Cn → Bool
is_name (name x) = true
is_name _ = false

-- whether each field has a literal name, and its type is so
abbrev pub field_by : (Cn → Option Bool) → Cn → Cn → Option Bool
field_by f n t = if is_name n then f t else Some false

abbrev pub fields_by : (Cn → Option Bool) → Prs → Option Bool
fields_by f no_pairs = Some true
fields_by f (pair n t ps) = both (field_by f n t) (fields_by f ps)

abbrev pub row_by : (Cn → Option Bool) → Cn → Option Bool
row_by f (row k ps) = if kd_eq k types then fields_by f ps else Some false
row_by f _ = Some false

abbrev pub seen_by : (Cn → Option Bool) → List Dt → List Bool → Seen → Option Bool
seen_by f ds bs a_number = Some true
seen_by f ds bs a_text = Some true
seen_by f ds bs (a_datatype d args) = if is_carrier ds bs d.symbol then all_by f args else Some false
seen_by f ds bs (a_record fs) = Some false
seen_by f ds bs nothing_more = Some false

-- a type in normal form, whose parts are looked at by `f`
abbrev pub normal_by : (Cn → Option Bool) → List Dt → List Bool → ℕ → Cn → Option Bool
normal_by f ds bs k (var i) = Some (nat_lt i k)
normal_by f ds bs k (record_of r) = row_by f r
normal_by f ds bs k n = seen_by f ds bs (seen ds n)

abbrev pub type_by : (Cn → Option Bool) → List Dt → List Bool → ℕ → Option Cn → Option Bool
type_by f ds bs k None = Some false
type_by f ds bs k (Some n) = normal_by f ds bs k n

-- a type, of parameters with the numbers below k
unfoldable pub built : ℕ → List Dt → List Bool → ℕ → Cn → Option Bool
built zero ds bs k t = None
built (suc room) ds bs k t = type_by (built room ds bs k) ds bs k (normal_of t)

-- what a constructor holds
abbrev pub held_by : (Cn → Option Bool) → Option Cn → Option Bool
held_by f None = Some true
held_by f (Some t) = f t

abbrev pub holds_by : (Cn → Option Bool) → List Cd → Option Bool
holds_by f [] = Some true
holds_by f (c ∷ cs) = both (held_by f c.holds) (holds_by f cs)

-- how deep types may be nested
abbrev pub nested : ℕ
nested = 2000

abbrev pub datatype_by : List Dt → List Bool → Dt → Option Bool
datatype_by ds bs d = holds_by (built nested ds bs (arity d)) d.constructors

-- whether a datatype stays marked
abbrev pub stays : List Dt → List Bool → Bool → Dt → Option Bool
stays ds bs false d = Some false
stays ds bs true d = datatype_by ds bs d

-- where the room ends, no
abbrev pub or_no : Option Bool → Bool
or_no None = false
or_no (Some b) = b

abbrev pub can_carry : List Dt → List Bool → Cn → Bool
can_carry ds bs t = or_no (built nested ds bs 0 t)
