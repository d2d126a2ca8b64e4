-- The shape of a type that a form can fill is that of a form.
use Rattle.std.proofs.Common.{◌≡◌, ℕ, zero, suc, Bool, true, false, ◌==◌, List, [], ◌∷◌, length, Option, Some, None, if◌then◌else◌, ◌⊎◌, inl, inr, refl, ap, sym, ◌∙◌}
use Rattle.std.specs.List.{AllByRecursion}
use Rattle.con_terms.specs.Trees.{Cn, var, basic, record_of, Prs}
use Rattle.row_normal.specs.NormalForm.{nf}
use Rattle.kind_rules.specs.Compared.{comparison_units}
use Rattle.table_rows.specs.Shapes.{Sh}
use Rattle.link_router.specs.Forms.{IsFieldShape, AreFieldShapes, IsFormShape}
use Rattle.core_terms.specs.Names.{bool_name}
use Rattle.core_terms.specs.Trees.{Dt, arity}
use Rattle.core_terms.specs.Types.{string_type, bool_type}
use Rattle.core_terms.specs.Datatypes.{datatype_of}
use Rattle.core_typing.specs.Scopes.{normal_of}
use Rattle.core_typing.specs.Seen.{Seen, a_number, a_datatype, nothing_more, literal_pairs, literal_fields, seen_data, seen}
use Rattle.core_typing.specs.Seen as seen
use Rattle.core_typing.specs.Carried.{FieldsFilled, no_field, a_field, Filled}
use Rattle.core_typing.specs.Entries.{parts_of, Shaped, of_int, of_text, of_truth, of_datatype, of_nothing, of_fields, of_parameter, FieldsShaped, no_field_shaped, field_shaped}
use Rattle.core_typing.proofs.Matched.{symbol_of as symbol_is}
use Rattle.core_typing.proofs.LeftOver.{inside as same_row}
use Rattle.answered_requests.proofs.Lists.{some_is, heads, tails, none_there, put_among}

-- a basic type is its own normal form
basic_form : (s left : ℕ) (r : Cn × ℕ) → nf left (basic s) ≡ Some r → basic s ≡ r.0
basic_form s zero r e = cc
basic_form s (suc left) r e = ap (λ (z : Cn × ℕ). z.0) (some_is e)

form_from : (o : Option (Cn × ℕ)) (c n : Cn) → ((r : Cn × ℕ) → o ≡ Some r → c ≡ r.0) → elim o [ None ↦ None | Some r ↦ Some r.0 ] ≡ Some n → n ≡ c
form_from None c n h e = cc
form_from (Some r) c n h e = sym (some_is e) ∙ sym (h r refl)

basic_normal : (s : ℕ) {t n : Cn} → t ≡ basic s → normal_of t ≡ Some n → n ≡ basic s
basic_normal s {t} {n} q h = form_from (nf comparison_units (basic s)) (basic s) n (basic_form s comparison_units) (ap normal_of (sym q) ∙ h)

-- what is seen of a basic type that is neither int nor string
abbrev seen_so : Option Dt → Seen
seen_so o = elim o [ None ↦ nothing_more | Some d ↦ seen_data d [] ]

counted_number : (b : Bool) (d : Dt) → (if b then a_datatype d [] else nothing_more) ≡ a_number → ⊥
counted_number true d h = cc
counted_number false d h = cc

no_number : (o : Option Dt) → seen_so o ≡ a_number → ⊥
no_number None h = cc
no_number (Some d) h = counted_number (length {A = Cn} [] == arity d) d h

counted_data : (b : Bool) (x d : Dt) (args : List Cn) → (if b then a_datatype x [] else nothing_more) ≡ a_datatype d args → x ≡ d
counted_data true x d args h = cc
counted_data false x d args h = absurd (cc)

data_found : (o : Option Dt) (d : Dt) (args : List Cn) → seen_so o ≡ a_datatype d args → o ≡ Some d
data_found None d args h = absurd (cc)
data_found (Some x) d args h = ap (λ (z : Dt). Some z) (counted_data (length {A = Cn} [] == arity x) x d args h)

-- what isn't alike
text_number : {P : Type 0} → seen.a_text ≡ a_number → P
text_number e = cc

text_data : {P : Type 0} {d : Dt} {args : List Cn} → seen.a_text ≡ a_datatype d args → P
text_data e = cc

record_number : {P : Type 0} {fs : List (Cn × Cn)} → seen.a_record fs ≡ a_number → P
record_number e = cc

record_text : {P : Type 0} {fs : List (Cn × Cn)} → seen.a_record fs ≡ seen.a_text → P
record_text e = cc

record_data : {P : Type 0} {fs : List (Cn × Cn)} {d : Dt} {args : List Cn} → seen.a_record fs ≡ a_datatype d args → P
record_data e = cc

no_record : {P : Type 0} {r : Cn} {s : ℕ} → record_of r ≡ basic s → P
no_record e = cc

no_variable : {P : Type 0} {i s : ℕ} → var i ≡ basic s → P
no_variable e = cc

no_record_variable : {P : Type 0} {i : ℕ} {r : Cn} → var i ≡ record_of r → P
no_record_variable e = cc

-- the fields of a form: texts and checkboxes
string_shape : {names : List (List ℕ)} {ds : List Dt} {k : ℕ} {t : Cn} {s : Sh} → Shaped names ds k t s → t ≡ string_type → IsFieldShape s
string_shape {ds = ds} (of_int h e) q = text_number (ap (seen ds) (sym (basic_normal _ q h)) ∙ e)
string_shape (of_text h e) q = tt
string_shape (of_truth h e b) q = tt
string_shape {ds = ds} (of_datatype h e b i as') q = text_data (ap (seen ds) (sym (basic_normal _ q h)) ∙ e)
string_shape (of_nothing h e) q = no_record (basic_normal _ q h)
string_shape (of_fields h e fs) q = no_record (basic_normal _ q h)
string_shape (of_parameter h i) q = no_variable (basic_normal _ q h)

bool_shape : {names : List (List ℕ)} {ds : List Dt} {k : ℕ} {t : Cn} {s : Sh} → Shaped names ds k t s → t ≡ bool_type → IsFieldShape s
bool_shape {ds = ds} (of_int h e) q = absurd (no_number (datatype_of ds bool_name) (ap (seen ds) (sym (basic_normal bool_name q h)) ∙ e))
bool_shape (of_text h e) q = tt
bool_shape (of_truth h e b) q = tt
bool_shape {ds = ds} (of_datatype {d = d} {args = args} h e b i as') q =
    let found : datatype_of ds bool_name ≡ Some d = data_found (datatype_of ds bool_name) d args (ap (seen ds) (sym (basic_normal bool_name q h)) ∙ e) in
    absurd (b (symbol_is ds bool_name d found))
bool_shape (of_nothing h e) q = no_record (basic_normal _ q h)
bool_shape (of_fields h e fs) q = no_record (basic_normal _ q h)
bool_shape (of_parameter h i) q = no_variable (basic_normal _ q h)

field_shape : {names : List (List ℕ)} {ds : List Dt} {k : ℕ} {t u : Cn} {s : Sh} → Shaped names ds k t s → t ≡ u → (u ≡ string_type) ⊎ (u ≡ bool_type) → IsFieldShape s
field_shape h q (inl z) = string_shape h (q ∙ z)
field_shape h q (inr z) = bool_shape h (q ∙ z)

abbrev FieldOfForm : List ℕ × Sh → Type 0
FieldOfForm p = IsFieldShape p.1

fields_shape : {names : List (List ℕ)} {ds : List Dt} {k : ℕ} {fs : List (ℕ × Cn)} {qs : List (List ℕ × Sh)} {ps : Prs} → FieldsShaped names ds k fs qs → FieldsFilled ps → fs ≡ literal_pairs ps → AllByRecursion FieldOfForm qs
fields_shape no_field_shaped f e = tt
fields_shape (field_shaped n h r) no_field e = none_there e
fields_shape (field_shaped {name = n} {s = s} {ps = qs} m h r) (a_field o f) e =
    put_among FieldOfForm n s qs (field_shape h (ap (λ (z : ℕ × Cn). z.1) (heads e)) o) (fields_shape r f (tails e))

parts_shape : (qs : List (List ℕ × Sh)) → AllByRecursion FieldOfForm qs → AreFieldShapes (parts_of qs)
parts_shape [] h = tt
parts_shape (q ∷ qs) h = (h.0, parts_shape qs h.1)

-- two normal forms of a type are one
one_form : (t : Cn) {m n : Cn} → normal_of t ≡ Some m → normal_of t ≡ Some n → m ≡ n
one_form t h g = some_is (sym h ∙ g)

pub form_shape : {names : List (List ℕ)} {ds : List Dt} {k : ℕ} {t : Cn} {s : Sh} → Filled t → Shaped names ds k t s → IsFormShape s
form_shape {ds = ds} {t = t} f (of_int h e) = record_number (ap (seen ds) (one_form t f.1 h) ∙ e)
form_shape {ds = ds} {t = t} f (of_text h e) = record_text (ap (seen ds) (one_form t f.1 h) ∙ e)
form_shape {ds = ds} {t = t} f (of_truth h e b) = record_data (ap (seen ds) (one_form t f.1 h) ∙ e)
form_shape {ds = ds} {t = t} f (of_datatype h e b i as') = record_data (ap (seen ds) (one_form t f.1 h) ∙ e)
form_shape f (of_nothing h e) = tt
form_shape {t = t} f (of_fields {ps = qs} h e fs) =
    parts_shape qs (fields_shape fs f.2 (sym e ∙ ap literal_fields (same_row (one_form t h f.1))))
form_shape {t = t} f (of_parameter h i) = no_record_variable (one_form t h f.1)
