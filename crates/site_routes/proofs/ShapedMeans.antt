-- What is computed to be a type's shape is so, and where none is computed there is none.
use Rattle.std.proofs.Common.{◌≡◌, ◌≢◌, ℕ, zero, suc, ◌-◌, ◌==◌, ◌<◌, Bool, true, false, List, [], ◌∷◌, length, map, Option, Some, None, option_map, slice_get, if◌then◌else◌, refl, ap, sym, ◌∙◌, subst, arith, ltb, ◌⊎◌, inl, inr}
use Rattle.std.proofs.lemmas.Bool.{ltb-true, lt-ltb, eqb-true, eq-eqb}
use Rattle.std.proofs.lemmas.Option.{same_Some}
use Rattle.std.specs.Ordering.{is_lt, nat_cmp}
use Rattle.std.specs.Cmp.Lexicographic.{slice_cmp}
use Rattle.con_terms.specs.Trees.{Cn, var, basic, arrow, poly, guarded, record_of, app, lambda, unit_con, name, row, cat, map_of, tuple, proj}
use Rattle.table_rows.specs.Shapes.{Sh, an_int, a_text, a_unit, a_truth, a_record, a_data, parameter, Shs, no_shapes, shape, Pts, no_parts, part}
use Rattle.table_rows.specs.View.{shapes_from, parts_from}
use Rattle.core_terms.specs.Names.{bool_name, int_name, string_name}
use Rattle.core_terms.specs.Trees.{Dt, arity}
use Rattle.core_terms.specs.Datatypes.{datatype_of}
use Rattle.core_typing.specs.Scopes.{normal_of}
use Rattle.core_typing.specs.Seen.{Seen, a_number, a_datatype, nothing_more, literal_fields, seen, seen_at, seen_basic, seen_data}
use Rattle.core_typing.specs.Seen as seen
use Rattle.core_typing.specs.Entries.{put_part, parts_of, Shaped, of_int, of_text, of_truth, of_datatype, of_nothing, of_fields, of_parameter, AllShaped, none_shaped, one_shaped, FieldsShaped, no_field_shaped, field_shaped}
use Rattle.core_typing.proofs.Matched.{symbol_of as symbol_is}
use Rattle.carried_types.specs.Built.{place_of}
use Rattle.carried_types.proofs.Places.{place_is, datatype_placed}
use Rattle.site_routes.specs.Shaping.{Told, told_map, then_shapes, shapes_by, parameter_of, data_at, data_by, FieldParts, part_of, put_in, with_field, fields_by, record_shape, row_by, seen_by, normal_by, type_by}
use Rattle.site_routes.specs.Shaping as computed
use Rattle.site_routes.proofs.Steps.{shaped_more, shaped_none}

-- a datatype that is seen is that with its symbol
counted : (b : Bool) (x d : Dt) (args more : List Cn) → (if b then a_datatype x args else nothing_more) ≡ a_datatype d more → x ≡ d
counted true x d args more h = cc
counted false x d args more h = absurd (cc)

found : (o : Option Dt) (args : List Cn) (d : Dt) (more : List Cn) → (elim o [ None ↦ nothing_more | Some x ↦ seen_data x args ]) ≡ a_datatype d more → o ≡ Some d
found None args d more h = absurd (cc)
found (Some x) args d more h = ap (λ (z : Dt). Some z) (counted (length args == arity x) x d args more h)

basic_seen : (b c : Bool) (o : Option Dt) (args : List Cn) (d : Dt) (more : List Cn) →
    (if b then a_number else if c then seen.a_text else elim o [ None ↦ nothing_more | Some x ↦ seen_data x args ]) ≡ a_datatype d more → o ≡ Some d
basic_seen true c o args d more h = absurd (cc)
basic_seen false true o args d more h = absurd (cc)
basic_seen false false o args d more h = found o args d more h

seen_is : (ds : List Dt) (n : Cn) (args : List Cn) (d : Dt) (more : List Cn) → seen_at ds n args ≡ a_datatype d more → datatype_of ds d.symbol ≡ Some d
seen_is ds (basic s) args d more h =
    let e = basic_seen (s == int_name) (s == string_name) (datatype_of ds s) args d more h in
    ap (datatype_of ds) (symbol_is ds s d e) ∙ e
seen_is ds (app f a) args d more h = seen_is ds f (a ∷ args) d more h
seen_is ds _ args d more h = absurd (cc)

place_of_seen : (ds : List Dt) (d : Dt) (i : ℕ) → datatype_of ds d.symbol ≡ Some d → place_of ds d.symbol ≡ Some i → slice_get ds i ≡ Some d
place_of_seen ds d i e p =
    let (c, is, at) = place_is ds d.symbol i p in
    at ∙ sym is ∙ e

-- answers
pub map_some : {A B : Type 0} (f : A → B) (o : Told A) (b : B) → told_map f o ≡ Some (Some b) → (a : A) × (o ≡ Some (Some a)) × (f a ≡ b)
map_some f None b h = absurd (cc)
map_some f (Some None) b h = absurd (cc)
map_some f (Some (Some a)) b h = (a, refl, same_Some (f a) b (same_Some (Some (f a)) (Some b) h))

pub map_none : {A B : Type 0} (f : A → B) (o : Told A) → told_map f o ≡ Some None → o ≡ Some None
map_none f None h = absurd (cc)
map_none f (Some None) h = refl
map_none f (Some (Some a)) h = absurd (cc)

-- the parts' list
parts_same : (ps : FieldParts) → parts_of ps ≡ parts_from ps
parts_same [] = refl
parts_same (p ∷ ps) = ap (part p.0 p.1) (parts_same ps)

put_if : (n : List ℕ) (s : Sh) (p : List ℕ × Sh) (ps : FieldParts) (b : Bool) → (q : List ℕ × Sh) × (qs : FieldParts) × ((if b then p ∷ put_part n s ps else (n, s) ∷ p ∷ ps) ≡ q ∷ qs)
put_if n s p ps true = (p, put_part n s ps, refl)
put_if n s p ps false = ((n, s), p ∷ ps, refl)

put_some : (n : List ℕ) (s : Sh) (ps : FieldParts) → (q : List ℕ × Sh) × (qs : FieldParts) × (put_part n s ps ≡ q ∷ qs)
put_some n s [] = ((n, s), [], refl)
put_some n s (p ∷ ps) = put_if n s p ps (is_lt (slice_cmp nat_cmp p.0 n))

-- yes
abbrev Yes : List (List ℕ) → List Dt → ℕ → (Cn → Told Sh) → Type 0
Yes names ds k f = (t : Cn) (s : Sh) → f t ≡ Some (Some s) → Shaped names ds k t s

shapes_then : (o : Told Sh) (p : Told (List Sh)) (ss : List Sh) → then_shapes o p ≡ Some (Some ss) → (s : Sh) × (rest : List Sh) × (o ≡ Some (Some s)) × (p ≡ Some (Some rest)) × (s ∷ rest ≡ ss)
shapes_then None p ss h = absurd (cc)
shapes_then (Some None) p ss h = absurd (cc)
shapes_then (Some (Some s)) p ss h = let (rest, e, q) = map_some (λ more. s ∷ more) p ss h in (s, rest, refl, e, q)

all_yes : (names : List (List ℕ)) (ds : List Dt) (k : ℕ) (f : Cn → Told Sh) → Yes names ds k f → (ts : List Cn) (ss : List Sh) → shapes_by f ts ≡ Some (Some ss) → AllShaped names ds k ts (shapes_from ss)
all_yes names ds k f y [] ss h =
    subst (λ (z : List Sh). AllShaped names ds k [] (shapes_from z)) (same_Some [] ss (same_Some (Some []) (Some ss) h)) none_shaped
all_yes names ds k f y (t ∷ ts) ss h =
    let (s, rest, e, p, q) = shapes_then (f t) (shapes_by f ts) ss h in
    subst (λ (z : List Sh). AllShaped names ds k (t ∷ ts) (shapes_from z)) q (one_shaped (y t s e) (all_yes names ds k f y ts rest p))

part_yes : (n : Option (List ℕ)) (o : Told Sh) (p : List ℕ × Sh) → part_of n o ≡ Some (Some p) → (n ≡ Some p.0) × (o ≡ Some (Some p.1))
part_yes None o p h = absurd (cc)
part_yes (Some m) o p h =
    let (s, e, q) = map_some (λ (z : Sh). (m, z)) o p h in
    (ap (λ (z : List ℕ × Sh). Some z.0) q, e ∙ ap (λ (z : List ℕ × Sh). Some (Some z.1)) q)

field_then : (o : Told (List ℕ × Sh)) (p : Told FieldParts) (ps : FieldParts) → with_field o p ≡ Some (Some ps) →
    (a : List ℕ × Sh) × (rest : FieldParts) × (o ≡ Some (Some a)) × (p ≡ Some (Some rest)) × (put_part a.0 a.1 rest ≡ ps)
field_then o None ps h = absurd (cc)
field_then o (Some None) ps h = absurd (cc)
field_then o (Some (Some rest)) ps h = let (a, e, q) = map_some (λ (z : List ℕ × Sh). put_part z.0 z.1 rest) o ps h in (a, rest, e, refl, q)

fields_yes : (names : List (List ℕ)) (ds : List Dt) (k : ℕ) (f : Cn → Told Sh) → Yes names ds k f → (fs : List (ℕ × Cn)) (ps : FieldParts) → fields_by f names fs ≡ Some (Some ps) → FieldsShaped names ds k fs ps
fields_yes names ds k f y [] ps h = subst (λ (z : FieldParts). FieldsShaped names ds k [] z) (same_Some [] ps (same_Some (Some []) (Some ps) h)) no_field_shaped
fields_yes names ds k f y (x ∷ fs) ps h =
    let (a, rest, e, p, q) = field_then (part_of (slice_get names x.0) (f x.1)) (fields_by f names fs) ps h in
    let (named, is) = part_yes (slice_get names x.0) (f x.1) a e in
    subst (λ (z : FieldParts). FieldsShaped names ds k (x ∷ fs) z) q (field_shaped named (y x.1 a.1 is) (fields_yes names ds k f y fs rest p))

record_yes : (names : List (List ℕ)) (ds : List Dt) (k : ℕ) (t r : Cn) → normal_of t ≡ Some (record_of r) → (fs : List (ℕ × Cn)) → literal_fields r ≡ fs → (ps : FieldParts) → FieldsShaped names ds k fs ps →
    Shaped names ds k t (record_shape ps)
record_yes names ds k t r e [] l ps no_field_shaped = of_nothing e l
record_yes names ds k t r e (x ∷ fs) l ps (field_shaped {name = n} {s = s} {ps = qs} m p q) =
    let (a, as', z) = put_some n s qs in
    let whole : Shaped names ds k t (a_record (parts_of (put_part n s qs))) = of_fields e l (field_shaped m p q) in
    subst (λ (w : FieldParts). Shaped names ds k t (record_shape w)) (sym z)
    (subst (λ (w : Pts). Shaped names ds k t (a_record w)) (ap parts_of z ∙ parts_same (a ∷ as')) whole)

differ : false ≡ true → ⊥
differ z = cc

data_yes : (names : List (List ℕ)) (ds : List Dt) (k : ℕ) (f : Cn → Told Sh) → Yes names ds k f → (t n : Cn) → normal_of t ≡ Some n → (d : Dt) (args : List Cn) → seen ds n ≡ a_datatype d args →
    (b : Bool) → (d.symbol == bool_name) ≡ b → (o : Option ℕ) → place_of ds d.symbol ≡ o → (s : Sh) →
    (if b then Some (Some a_truth) else data_at o (shapes_by f args)) ≡ Some (Some s) → Shaped names ds k t s
data_yes names ds k f y t n e d args w true b o p s h =
    subst (λ (z : Sh). Shaped names ds k t z) (same_Some a_truth s (same_Some (Some a_truth) (Some s) h)) (of_truth e w (eqb-true d.symbol bool_name b))
data_yes names ds k f y t n e d args w false b None p s h = absurd (cc)
data_yes names ds k f y t n e d args w false b (Some i) p s h =
    let (ss, q, is) = map_some (λ (z : List Sh). a_data i (shapes_from z)) (shapes_by f args) s h in
    subst (λ (z : Sh). Shaped names ds k t z) is
    (of_datatype e w (λ same. differ (sym b ∙ eq-eqb d.symbol bool_name same)) (place_of_seen ds d i (seen_is ds n [] d args w) p) (all_yes names ds k f y args ss q))

seen_yes : (names : List (List ℕ)) (ds : List Dt) (k : ℕ) (f : Cn → Told Sh) → Yes names ds k f → (t n : Cn) → normal_of t ≡ Some n → (w : Seen) → seen ds n ≡ w → (s : Sh) →
    seen_by f ds w ≡ Some (Some s) → Shaped names ds k t s
seen_yes names ds k f y t n e a_number w s h = subst (λ (z : Sh). Shaped names ds k t z) (same_Some an_int s (same_Some (Some an_int) (Some s) h)) (of_int e w)
seen_yes names ds k f y t n e seen.a_text w s h = subst (λ (z : Sh). Shaped names ds k t z) (same_Some a_text s (same_Some (Some a_text) (Some s) h)) (of_text e w)
seen_yes names ds k f y t n e (a_datatype d args) w s h = data_yes names ds k f y t n e d args w (d.symbol == bool_name) refl (place_of ds d.symbol) refl s h
seen_yes names ds k f y t n e (seen.a_record fs) w s h = absurd (cc)
seen_yes names ds k f y t n e nothing_more w s h = absurd (cc)

parameter_yes : (names : List (List ℕ)) (ds : List Dt) (k i : ℕ) (t : Cn) → normal_of t ≡ Some (var i) → (b : Bool) → ltb i k ≡ b → (s : Sh) → (if b then Some (parameter (k - suc i)) else None) ≡ Some s → Shaped names ds k t s
parameter_yes names ds k i t e true b s h = subst (λ (z : Sh). Shaped names ds k t z) (same_Some (parameter (k - suc i)) s h) (of_parameter e (ltb-true i k b))
parameter_yes names ds k i t e false b s h = absurd (cc)

normal_yes : (names : List (List ℕ)) (ds : List Dt) (k : ℕ) (f : Cn → Told Sh) → Yes names ds k f → (t n : Cn) → normal_of t ≡ Some n → (s : Sh) → normal_by f names ds k n ≡ Some (Some s) → Shaped names ds k t s
normal_yes names ds k f y t (var i) e s h = parameter_yes names ds k i t e (ltb i k) refl s (same_Some (parameter_of k i) (Some s) h)
normal_yes names ds k f y t (record_of r) e s h =
    let (ps, q, is) = map_some record_shape (fields_by f names (literal_fields r)) s h in
    subst (λ (z : Sh). Shaped names ds k t z) is (record_yes names ds k t r e (literal_fields r) refl ps (fields_yes names ds k f y (literal_fields r) ps q))
normal_yes names ds k f y t n e s h = seen_yes names ds k f y t n e (seen ds n) refl s h

type_yes : (names : List (List ℕ)) (ds : List Dt) (k : ℕ) (f : Cn → Told Sh) → Yes names ds k f → (t : Cn) (o : Option Cn) → normal_of t ≡ o → (s : Sh) → type_by f names ds k o ≡ Some (Some s) → Shaped names ds k t s
type_yes names ds k f y t None e s h = absurd (cc)
type_yes names ds k f y t (Some n) e s h = normal_yes names ds k f y t n e s h

pub shaped_yes : (names : List (List ℕ)) (ds : List Dt) (k room : ℕ) (t : Cn) (s : Sh) → computed.shaped room names ds k t ≡ Some (Some s) → Shaped names ds k t s
shaped_yes names ds k zero t s h = absurd (shaped_none names ds k t (Some s) h)
shaped_yes names ds k (suc r) t s h =
    type_yes names ds k (computed.shaped r names ds k) (shaped_yes names ds k r) t (normal_of t) refl s (sym (shaped_more r names ds k t) ∙ h)

-- no
abbrev No : List (List ℕ) → List Dt → ℕ → (Cn → Told Sh) → Type 0
No names ds k f = (t : Cn) → f t ≡ Some None → (s : Sh) → Shaped names ds k t s → ⊥

shapes_no : (P : Type 0) (o : Told Sh) (p : Told (List Sh)) → then_shapes o p ≡ Some None → (o ≡ Some None → P) → (p ≡ Some None → P) → P
shapes_no P None p h f g = absurd (cc)
shapes_no P (Some None) p h f g = f refl
shapes_no P (Some (Some s)) p h f g = g (map_none (λ more. s ∷ more) p h)

all_no : (names : List (List ℕ)) (ds : List Dt) (k : ℕ) (f : Cn → Told Sh) → No names ds k f → (ts : List Cn) → shapes_by f ts ≡ Some None → (ss : Shs) → AllShaped names ds k ts ss → ⊥
all_no names ds k f y [] h ss c = cc
all_no names ds k f y (t ∷ ts) h ss (one_shaped {s = s} {ss = rest} c cs) =
    shapes_no ⊥ (f t) (shapes_by f ts) h (λ p. y t p s c) (λ q. all_no names ds k f y ts q rest cs)

part_no : (P : Type 0) (n : Option (List ℕ)) (o : Told Sh) → part_of n o ≡ Some None → (n ≡ None → P) → (o ≡ Some None → P) → P
part_no P None o h f g = f refl
part_no P (Some m) o h f g = g (map_none (λ (z : Sh). (m, z)) o h)

field_no : (P : Type 0) (o : Told (List ℕ × Sh)) (p : Told FieldParts) → with_field o p ≡ Some None → (o ≡ Some None → P) → (p ≡ Some None → P) → P
field_no P o None h f g = absurd (cc)
field_no P o (Some None) h f g = g refl
field_no P o (Some (Some rest)) h f g = f (map_none (λ (z : List ℕ × Sh). put_part z.0 z.1 rest) o h)

fields_no : (names : List (List ℕ)) (ds : List Dt) (k : ℕ) (f : Cn → Told Sh) → No names ds k f → (fs : List (ℕ × Cn)) → fields_by f names fs ≡ Some None → (ps : FieldParts) → FieldsShaped names ds k fs ps → ⊥
fields_no names ds k f y [] h ps c = cc
fields_no names ds k f y (x ∷ fs) h ps (field_shaped {x = z} {t = t} {s = s} {ps = rest} m c cs) =
    field_no ⊥ (part_of (slice_get names z) (f t)) (fields_by f names fs) h
    (λ p. part_no ⊥ (slice_get names z) (f t) p (λ gone. cc) (λ q. y t q s c))
    (λ q. fields_no names ds k f y fs q rest cs)

told_by : (f : Cn → Told Sh) (names : List (List ℕ)) (ds : List Dt) (k : ℕ) (n : Cn) (w : Seen) → seen ds n ≡ w → ((fs : List (Cn × Cn)) → w ≡ seen.a_record fs → ⊥) → (w ≡ nothing_more → ⊥) →
    normal_by f names ds k n ≡ seen_by f ds w
told_by f names ds k (var i) w e r x = absurd (x (sym e))
told_by f names ds k (record_of r) w e x y = absurd (x _ (sym e))
told_by f names ds k n w e x y = ap (seen_by f ds) e

data_no : (f : Cn → Told Sh) (o : Option ℕ) (p : Told (List Sh)) (i : ℕ) → o ≡ Some i → data_at o p ≡ Some None → p ≡ Some None
data_no f o p i e h = map_none (λ (z : List Sh). a_data i (shapes_from z)) p (sym (ap (λ z. data_at z p) e) ∙ h)

not_bool : (s : ℕ) → (s ≡ bool_name → ⊥) → (b : Bool) → (s == bool_name) ≡ b → b ≡ false
not_bool s h true e = absurd (h (eqb-true s bool_name e))
not_bool s h false e = refl

type_no : (names : List (List ℕ)) (ds : List Dt) (k : ℕ) (f : Cn → Told Sh) → No names ds k f → (t : Cn) → type_by f names ds k (normal_of t) ≡ Some None → (s : Sh) → Shaped names ds k t s → ⊥
type_no names ds k f y t h s (of_int {n = n} e w) =
    let a = sym (ap (type_by f names ds k) e) ∙ h in
    let b = told_by f names ds k n a_number w (λ fs z. cc) (λ z. cc) in
    cc
type_no names ds k f y t h s (of_text {n = n} e w) =
    let a = sym (ap (type_by f names ds k) e) ∙ h in
    let b = told_by f names ds k n seen.a_text w (λ fs z. cc) (λ z. cc) in
    cc
type_no names ds k f y t h s (of_truth {n = n} {d = d} {args = args} e w is) =
    let a = sym (ap (type_by f names ds k) e) ∙ h in
    let b = told_by f names ds k n (a_datatype d args) w (λ fs z. cc) (λ z. cc) in
    let g = ap (λ (z : Bool). if z then Some (Some a_truth) else data_at (place_of ds d.symbol) (shapes_by f args)) (eq-eqb d.symbol bool_name is) in
    cc
type_no names ds k f y t h s (of_datatype {n = n} {d = d} {args = args} {ss = ss} e w is_not at c) =
    let a = sym (ap (type_by f names ds k) e) ∙ h in
    let b = told_by f names ds k n (a_datatype d args) w (λ fs z. cc) (λ z. cc) in
    let g = ap (λ (z : Bool). if z then Some (Some a_truth) else data_at (place_of ds d.symbol) (shapes_by f args)) (not_bool d.symbol is_not (d.symbol == bool_name) refl) in
    let (j, p) = datatype_placed ds d.symbol d (seen_is ds n [] d args w) in
    all_no names ds k f y args (data_no f (place_of ds d.symbol) (shapes_by f args) j p (sym g ∙ sym b ∙ a)) ss c
type_no names ds k f y t h s (of_nothing {r = r} e l) =
    let a = sym (ap (type_by f names ds k) e) ∙ h in
    let b = map_none record_shape (fields_by f names (literal_fields r)) a in
    let g = ap (fields_by f names) l in
    cc
type_no names ds k f y t h s (of_fields {r = r} {f = x} {fs = fs} {ps = ps} e l c) =
    let a = sym (ap (type_by f names ds k) e) ∙ h in
    let b = map_none record_shape (fields_by f names (literal_fields r)) a in
    fields_no names ds k f y (x ∷ fs) (ap (fields_by f names) (sym l) ∙ b) ps c
type_no names ds k f y t h s (of_parameter {i = i} e l) =
    let a = sym (ap (type_by f names ds k) e) ∙ h in
    let b = lt-ltb i k l in
    let g = ap (λ (z : Bool). if z then Some (parameter (k - suc i)) else None) b in
    cc

pub shaped_no : (names : List (List ℕ)) (ds : List Dt) (k room : ℕ) (t : Cn) → computed.shaped room names ds k t ≡ Some None → (s : Sh) → Shaped names ds k t s → ⊥
shaped_no names ds k zero t h = absurd (shaped_none names ds k t None h)
shaped_no names ds k (suc r) t h =
    type_no names ds k (computed.shaped r names ds k) (shaped_no names ds k r) t (sym (shaped_more r names ds k t) ∙ h)
