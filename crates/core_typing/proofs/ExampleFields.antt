-- That patterns of a field at a variable name cover.
use Rattle.std.proofs.Common.{◌≡◌, ℕ, zero, suc, true, List, [], ◌∷◌, Some, None, refl, ap, sym, ◌∙◌, subst, arith}
use Rattle.std.specs.Prelude.{Contains, slice_get}
use Rattle.con_terms.specs.Trees.{Cn, var, record_of, cat}
use Rattle.kind_rules.specs.Compared.{comparison_units}
use Rattle.core_terms.specs.Names.{option_name, none_name, some_name}
use Rattle.core_terms.specs.Datatypes.{basis_datatypes, constructor_of}
use Rattle.core_terms.specs.Types.{one_field}
use Rattle.core_terms.specs.Trees.{Pt, Cd, Dt}
use Rattle.core_typing.specs.Scopes.{normal_of}
use Rattle.core_typing.specs.Seen.{Seen, a_datatype, a_record, seen}
use Rattle.core_typing.specs.Cover.{Shp, Shf, bare_shape, holding_shape, record_shape, shape_field, no_shape_fields, leaf, ShapeOf, deeper, no_more, of_number, of_text, of_bare, of_holding, of_record, ShapesOf, of_no_fields, of_field, TooLargeIn, in_held, in_field, one_takes, Covers}
use Rattle.core_typing.specs.Cover as cover
use Rattle.core_typing.specs.ExampleTerms.{option_int, none_at_name, some_at_name, option_at_name}
use Rattle.core_typing.specs.ExampleTypings.{FieldsAtNamesAreCovered}
use Rattle.core_typing.proofs.ExampleFaults.{no_some}
use Rattle.core_typing.proofs.ExampleElements.{same_cn}

abbrev patterns : List Pt
patterns = none_at_name ∷ some_at_name ∷ []

-- the type in normal form, and what is seen of it
abbrev in_order : Cn
in_order = record_of (cat (var 0) (one_field (var 1) option_int))

normal_form : normal_of option_at_name ≡ Some in_order
unfolding comparison_units
normal_form = refl

option_form : normal_of option_int ≡ Some option_int
unfolding comparison_units
option_form = refl

name_form : normal_of (var 1) ≡ Some (var 1)
unfolding comparison_units
name_form = refl

abbrev option_constructors : List Cd
option_constructors = constructor_of none_name None ∷ constructor_of some_name (Some (var 0)) ∷ []

same_seen : (t : Cn) {n m : Cn} {s : Seen} → normal_of t ≡ Some m → normal_of t ≡ Some n → seen basis_datatypes n ≡ s → seen basis_datatypes m ≡ s
same_seen t {s = s} h k e = subst (λ x. seen basis_datatypes x ≡ s) (same_cn (sym k ∙ h)) e

-- its one field
abbrev the_field : List (Cn × Cn)
the_field = (var 1, option_int) ∷ []

-- a record is seen as nothing else, and an option too
abbrev AsRecord : Seen → Type 0
AsRecord (a_record fs) = fs ≡ the_field
AsRecord _ = ⊥

abbrev AsOption : Seen → Type 0
AsOption (a_datatype d args) = (d.symbol ≡ option_name) × (d.constructors ≡ option_constructors)
AsOption _ = ⊥

record_seen : {n : Cn} {s : Seen} → normal_of option_at_name ≡ Some n → seen basis_datatypes n ≡ s → AsRecord s
record_seen k e = subst AsRecord (same_seen option_at_name normal_form k e) refl

option_seen : {n : Cn} {s : Seen} → normal_of option_int ≡ Some n → seen basis_datatypes n ≡ s → AsOption s
option_seen k e = subst AsOption (same_seen option_int option_form k e) (refl, refl)

-- no type of a part is too large
only_field : {x u : Cn} → Contains the_field (x, u) → u ≡ option_int
only_field (zero, h, e) = sym (ap (λ (f : Cn × Cn). f.1) e)
only_field (suc k, h, e) = absurd (omega (arith, h))

option_small : {u : Cn} → u ≡ option_int → TooLargeIn basis_datatypes 1 u → ⊥
option_small i (cover.itself h) = no_some (sym h ∙ ap normal_of i ∙ option_form)
option_small i (in_held j m n o p h) = elim h [ ]
option_small i (in_field x m n o h) = elim h [ ]

record_small : TooLargeIn basis_datatypes 2 option_at_name → ⊥
record_small (cover.itself h) = no_some (sym h ∙ normal_form)
record_small (in_held j m n o p h) = record_seen m n
record_small (in_field x {u = u} m n o h) = option_small (only_field (subst (λ fs. Contains fs (x, u)) (record_seen m n) o)) h

-- which shapes an option has
data OptionShape : Shp → Type 0 where
  none_there : OptionShape (bare_shape option_name 0)
  some_there : {s : Shp} → OptionShape (holding_shape option_name 1 s)

bare_is : (d : Dt) {c : Cd} (j : ℕ) → d.symbol ≡ option_name → slice_get option_constructors j ≡ Some c → c.holds ≡ None → OptionShape (bare_shape d.symbol j)
bare_is d zero i e h = subst (λ x. OptionShape (bare_shape x 0)) (sym i) none_there
bare_is d (suc zero) i e h = cc
bare_is d (suc (suc j)) i e h = cc

holding_is : (d : Dt) {c : Cd} {held : Cn} {s : Shp} (j : ℕ) → d.symbol ≡ option_name → slice_get option_constructors j ≡ Some c → c.holds ≡ Some held → OptionShape (holding_shape d.symbol j s)
holding_is d zero i e h = cc
holding_is d {s = s} (suc zero) i e h = subst (λ x. OptionShape (holding_shape x 1 s)) (sym i) some_there
holding_is d (suc (suc j)) i e h = cc

option_shape : {s : Shp} → ShapeOf basis_datatypes 1 option_int s → OptionShape s
option_shape (no_more k e) = absurd (option_seen k e)
option_shape (of_number k e f) = absurd (option_seen k e)
option_shape (of_text k e f) = absurd (option_seen k e)
option_shape (of_record k e f) = absurd (option_seen k e)
option_shape (of_bare {j = j} {x = x} {c = c} k e f g) = let (i, l) = option_seen k e in bare_is x j i (subst (λ cs. slice_get cs j ≡ Some c) l f) g
option_shape (of_holding {j = j} {x = x} {c = c} k e f g h) = let (i, l) = option_seen k e in holding_is x j i (subst (λ cs. slice_get cs j ≡ Some c) l f) g

-- each is taken
option_taken : {s : Shp} → OptionShape s → one_takes patterns (record_shape (shape_field (var 1) s no_shape_fields)) ≡ true
unfolding comparison_units
option_taken none_there = refl
option_taken some_there = refl

fields_taken : {fs : List (Cn × Cn)} {ss : Shf} → fs ≡ the_field → ShapesOf basis_datatypes 1 fs ss → one_takes patterns (record_shape ss) ≡ true
fields_taken i of_no_fields = cc
fields_taken i (of_field h of_no_fields) = named_taken (ap (λ (f : Cn × Cn). f.0) (first_is i)) (ap (λ (f : Cn × Cn). f.1) (first_is i)) h
  where
    first_is : {f g : Cn × Cn} {fs gs : List (Cn × Cn)} → f ∷ fs ≡ g ∷ gs → f ≡ g
    first_is e = cc

    named_taken : {x t : Cn} {s : Shp} → x ≡ var 1 → t ≡ option_int → ShapeOf basis_datatypes 1 t s → one_takes patterns (record_shape (shape_field x s no_shape_fields)) ≡ true
    named_taken {s = s} a b h =
        subst (λ y. one_takes patterns (record_shape (shape_field y s no_shape_fields)) ≡ true) (sym a) (option_taken (option_shape (subst (λ u. ShapeOf basis_datatypes 1 u s) b h)))
fields_taken i (of_field h (of_field k fs)) = cc

record_taken : (s : Shp) → ShapeOf basis_datatypes 2 option_at_name s → one_takes patterns s ≡ true
record_taken s (no_more k e) = absurd (record_seen k e)
record_taken s (of_number k e f) = absurd (record_seen k e)
record_taken s (of_text k e f) = absurd (record_seen k e)
record_taken s (of_bare k e f g) = absurd (record_seen k e)
record_taken s (of_holding k e f g h) = absurd (record_seen k e)
record_taken s (of_record k e h) = fields_taken (record_seen k e) h

pub fields_at_names_are_covered : FieldsAtNamesAreCovered
fields_at_names_are_covered = record { small = record_small; taken = record_taken }
