-- The rules of kinding, one for each form of constructor, from what is found for its parts.
-- The Ur/Web Manual, "Kinding".
--
-- A flaw of a part comes before one of the whole, and that of an earlier part before that of a later one.
-- Of the whole's own premises the first that fails is told.
use Rattle.std.specs.Prelude.{ℕ, List, [], ◌∷◌, ◌++◌, Option, Some, None, Result, Ok, Err, slice_get, if◌then◌else◌}
use Rattle.std.specs.Option.{option_or}
use Rattle.con_terms.specs.Trees.{Kd, types, names, row_of, to, tuple_of, kind_list, Cn, Prs, names_of}
use Rattle.con_terms.specs.Same.{kd_eq}
use Rattle.con_terms.specs.Apart.{Guards}
use Rattle.con_terms.specs.View.{kinds_from}
use Rattle.kind_rules.specs.Flaws.{Flw, kinds_differ, closed_by}
use Rattle.kind_rules.specs.Compared.{comparison_units, normal_forms, not_apart, not_pairwise_apart}

-- what follows from what is found, or the flaw
abbrev pub and_then : {X Y : Type 0} → Result X Flw → (X → Result Y Flw) → Result Y Flw
and_then (Ok x) f = f x
and_then (Err flaw) f = Err flaw

-- what is found unless there is a flaw
abbrev pub unless : {X : Type 0} → Option Flw → X → Result X Flw
unless None x = Ok x
unless (Some flaw) x = Err flaw

-- what is there, or the flaw that it isn't
abbrev pub or_flaw : {X : Type 0} → Flw → Option X → Result X Flw
or_flaw flaw None = Err flaw
or_flaw flaw (Some x) = Ok x

-- what is found for two parts
abbrev pub both : Result Kd Flw → Result Kd Flw → Result (Kd × Kd) Flw
both a b = and_then a (λ k. and_then b (λ l. Ok (k, l)))

-- what is found for one more, before the others
abbrev pub found_first : {X : Type 0} → Result X Flw → Result (List X) Flw → Result (List X) Flw
found_first x xs = and_then x (λ y. and_then xs (λ ys. Ok (y ∷ ys)))

-- what is found under a binder of this kind, whose flaw is told outside of it
abbrev pub outside_of : {X : Type 0} → Kd → Result X Flw → Result X Flw
outside_of k (Ok x) = Ok x
outside_of k (Err flaw) = Err (closed_by k flaw)

-- the flaw that a kind isn't the one that is wanted
abbrev pub unlike : Kd → Kd → Option Flw
unlike wanted found = if kd_eq wanted found then None else Some (kinds_differ wanted found)

-- the kind that is found, which is to be the one that is wanted
abbrev pub expects : Kd → Kd → Result Kd Flw
expects wanted found = unless (unlike wanted found) found

-- the kind that is found, which is to be that of a row: where it is none, {Type} is told as wanted
abbrev pub expects_row : Kd → Result Kd Flw
expects_row (row_of k) = Ok (row_of k)
expects_row found = Err (kinds_differ (row_of types) found)

-- the body of a polymorphic or a guarded type: a type
abbrev pub type_kind : Result Kd Flw → Result Kd Flw
type_kind body = and_then body (expects types)

-- a -> b: both sides are types
abbrev pub arrow_kind : Result (Kd × Kd) Flw → Result Kd Flw
arrow_kind sides = and_then sides (λ (k : Kd × Kd). and_then (expects types k.0) (λ _. expects types k.1))

-- [a ~ b] => ..: both sides are rows
abbrev pub guard_rows : Result (Kd × Kd) Flw → Result (Kd × Kd) Flw
guard_rows sides = and_then sides (λ (k : Kd × Kd). both (expects_row k.0) (expects_row k.1))

-- and then their normal forms, within the units of one comparison, are what is assumed apart
abbrev pub guard_sides : Cn → Cn → Result (Kd × Kd) Flw → Result (Cn × Cn) Flw
guard_sides a b sides = and_then (guard_rows sides) (λ _. normal_forms comparison_units a b)

-- $a: a is a row of types
abbrev pub record_kind : Result Kd Flw → Result Kd Flw
record_kind a = and_then a (λ k. unless (unlike (row_of types) k) types)

-- f a: a has the kind that f wants; where f is no function, one from the kind of a to Type is told as wanted
abbrev pub applied_kind : Kd → Kd → Result Kd Flw
applied_kind (to k l) found = unless (unlike k found) l
applied_kind f found = Err (kinds_differ (to found types) f)

abbrev pub app_kind : Result (Kd × Kd) Flw → Result Kd Flw
app_kind parts = and_then parts (λ (k : Kd × Kd). applied_kind k.0 k.1)

-- fn x :: k => b: a function from k
abbrev pub lambda_kind : Kd → Result Kd Flw → Result Kd Flw
lambda_kind k body = and_then body (λ l. Ok (to k l))

-- a ++ b: the left side is a row, and the right side has its kind
abbrev pub same_rows : Result (Kd × Kd) Flw → Result Kd Flw
same_rows sides = and_then sides (λ (k : Kd × Kd). and_then (expects_row k.0) (λ l. expects l k.1))

-- and they are apart
abbrev pub cat_kind : Guards → Cn → Cn → Result (Kd × Kd) Flw → Result Kd Flw
cat_kind gs a b sides = and_then (same_rows sides) (unless (not_apart gs a b))

-- one field of a literal: its name is one, and its value has the kind that is written
abbrev pub field_flaw : Kd → Kd × Kd → Option Flw
field_flaw k field = option_or (unlike names field.0) (unlike k field.1)

-- the fields in order
abbrev pub fields_flaw : Kd → List (Kd × Kd) → Option Flw
fields_flaw k [] = None
fields_flaw k (f ∷ fs) = option_or (field_flaw k f) (fields_flaw k fs)

-- [n = v, ..]: the fields, and then each name is apart from each later one
abbrev pub row_flaw : Guards → Kd → Prs → List (Kd × Kd) → Option Flw
row_flaw gs k ps fields = option_or (fields_flaw k fields) (not_pairwise_apart gs (names_of ps))

abbrev pub row_kind : Guards → Kd → Prs → Result (List (Kd × Kd)) Flw → Result Kd Flw
row_kind gs k ps fields = and_then fields (λ fs. unless (row_flaw gs k ps fs) (row_of k))

-- map: from a function on kinds to one on rows
abbrev pub map_kind : Kd → Kd → Result Kd Flw
map_kind k l = Ok (to (to k l) (to (row_of k) (row_of l)))

-- (c, ..): a tuple of the kinds of its components
abbrev pub tuple_kind : Result (List Kd) Flw → Result Kd Flw
tuple_kind ks = and_then ks (λ ls. Ok (tuple_of (kinds_from ls)))

-- the kinds of a tuple; what is no tuple has none
abbrev pub components : Kd → List Kd
components (tuple_of ks) = kind_list ks
components k = []

-- a component of a tuple; where there is none with this number, a tuple with one component more, of kind Type, is
-- told as wanted
abbrev pub component_kind : ℕ → Kd → Result Kd Flw
component_kind n k =
    or_flaw (kinds_differ (tuple_of (kinds_from (components k ++ types ∷ []))) k) (slice_get (components k) n)

abbrev pub proj_kind : ℕ → Result Kd Flw → Result Kd Flw
proj_kind n c = and_then c (component_kind n)
