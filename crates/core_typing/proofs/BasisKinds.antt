-- The types of the basis, of fold and of constructors are types, where basic names have their kinds.
use Rattle.std.proofs.Common.{◌≡◌, ◌≢◌, ℕ, zero, suc, ◌<◌, List, [], ◌∷◌, Option, Some, None, slice_get, refl, sym, subst, arith}
use Rattle.std.specs.List.{Contains, All}
use Rattle.std.proofs.lemmas.List.Elements.{All-cons, All-nil}
use Rattle.con_terms.specs.Trees.{Kd, types, units, names, row_of, to, Cn, var, arrow, record_of, lambda, unit_con, name, row, no_pairs, pair}
use Rattle.con_terms.specs.Equal.{same, mapped}
use Rattle.con_terms.specs.Apart.{Guards, pieces, HasPiece, has_piece, Separated, names_differ, by_guard, by_guard_turned, AllSeparated, Apart, apart}
use Rattle.con_terms.specs.Kinded.{Scope, bind, assume, basic_kind, Kinded, of_var, of_basic, of_arrow, of_poly, of_guarded, of_record, of_app, of_lambda, of_unit, of_name, of_row, of_cat, of_map, no_fields, a_field}
use Rattle.core_terms.specs.declared.basis.BasisName.{BasisName}
use Rattle.core_terms.specs.declared.basis.BasisName.TheVariants.{Return, Bind, Error, Not, Strcat, Plus, Minus, Times, Divide, Mod, Neg, Eq, Ne, Lt, Le, Show, MkShow, MkEq, Txt, Cdata, Join, Bless, Query, QueryX, OneRow, OneOrNoRows, Dml, Nextval, GetCookie, SetCookie, ClearCookie, NumInt, ShowInt, ShowString, ShowBool, EqInt, EqString, EqBool, OrdInt, OrdString, OrdBool, SqlInt, SqlString, SqlBool}
use Rattle.core_terms.specs.Names.{int_name, string_name, url_name, bool_name, option_name, list_name, transaction_name, xml_name, show_name, eq_name, ord_name, num_name, sql_table_name, sql_query_name, sql_exp_name, dml_name, sql_sequence_name, http_cookie_name, sql_injectable_name, html_context, body_context, table_context, tr_context, value_name, secure_name}
use Rattle.core_terms.specs.Types.{int_type, string_type, url_type, bool_type, no_types, unit_type, body_type, unit_row, transaction_of, option_of, show_of, eq_of, ord_of, num_of, xml_of, query_of, dml_type, sequence_type, cookie_of, injectable_of, result_of, setting_of, at_types, for_types, type_taking}
use Rattle.core_terms.specs.declared.basis.TypeName.{TypeName}
use Rattle.core_terms.specs.declared.basis.TypeName.TheVariants as type_name
use Rattle.core_terms.specs.BasisTexts.{named_type, named_kind}
use Rattle.core_terms.specs.Basis.{basis_type, two_numbers, two_alike, two_ordered, for_results, plain_xml, fold_step_type, fold_type}
use Rattle.core_terms.specs.Datatypes.{parameters_of, own_type, constructor_type}
use Rattle.core_terms.specs.Trees.{Cd, Dt, arity}
use Rattle.core_typing.specs.Scopes.{basis_kinds}
use Rattle.core_typing.specs.Grounded.{so_many_types, at_top}

-- basic names with the kinds of the basis
pub record Basics (bs : List (ℕ × Kd)) : Type 0 where
  pub basis : (b : ℕ × Kd) → Contains basis_kinds b → basic_kind bs b.0 ≡ Some b.1
  pub bools : basic_kind bs bool_name ≡ Some types
  pub options : basic_kind bs option_name ≡ Some (to types types)
  pub lists : basic_kind bs list_name ≡ Some (to types types)

pub int_kind : {G : Scope} → Basics G.basics → Kinded G int_type types
int_kind h = of_basic (h.basis (int_name, types) (0, omega arith, refl))

pub string_kind : {G : Scope} → Basics G.basics → Kinded G string_type types
string_kind h = of_basic (h.basis (string_name, types) (1, omega arith, refl))

url_kind : {G : Scope} → Basics G.basics → Kinded G url_type types
url_kind h = of_basic (h.basis (url_name, types) (2, omega arith, refl))

bool_kind : {G : Scope} → Basics G.basics → Kinded G bool_type types
bool_kind h = of_basic h.bools

pub transaction_kind : {G : Scope} {t : Cn} → Basics G.basics → Kinded G t types → Kinded G (transaction_of t) types
transaction_kind h t = of_app (of_basic (h.basis (transaction_name, to types types) (3, omega arith, refl))) t

pub xml_kind : {G : Scope} {c u b : Cn} → Basics G.basics → Kinded G c (row_of units) → Kinded G u (row_of types) → Kinded G b (row_of types) → Kinded G (xml_of c u b) types
xml_kind h c u b = of_app (of_app (of_app (of_basic (h.basis (xml_name, to (row_of units) (to (row_of types) (to (row_of types) types))) (4, omega arith, refl))) c) u) b

show_kind : {G : Scope} {t : Cn} → Basics G.basics → Kinded G t types → Kinded G (show_of t) types
show_kind h t = of_app (of_basic (h.basis (show_name, to types types) (5, omega arith, refl))) t

eq_kind : {G : Scope} {t : Cn} → Basics G.basics → Kinded G t types → Kinded G (eq_of t) types
eq_kind h t = of_app (of_basic (h.basis (eq_name, to types types) (6, omega arith, refl))) t

ord_kind : {G : Scope} {t : Cn} → Basics G.basics → Kinded G t types → Kinded G (ord_of t) types
ord_kind h t = of_app (of_basic (h.basis (ord_name, to types types) (7, omega arith, refl))) t

num_kind : {G : Scope} {t : Cn} → Basics G.basics → Kinded G t types → Kinded G (num_of t) types
num_kind h t = of_app (of_basic (h.basis (num_name, to types types) (8, omega arith, refl))) t

option_kind : {G : Scope} {t : Cn} → Basics G.basics → Kinded G t types → Kinded G (option_of t) types
option_kind h t = of_app (of_basic h.options) t

query_kind : {G : Scope} {ts es : Cn} → Basics G.basics → Kinded G ts (row_of (row_of types)) → Kinded G es (row_of types) → Kinded G (query_of ts es) types
query_kind h ts es = of_app (of_app (of_basic (h.basis (sql_query_name, to (row_of (row_of types)) (to (row_of types) types)) (10, omega arith, refl))) ts) es

dml_kind : {G : Scope} → Basics G.basics → Kinded G dml_type types
dml_kind h = of_basic (h.basis (dml_name, types) (12, omega arith, refl))

sequence_kind : {G : Scope} → Basics G.basics → Kinded G sequence_type types
sequence_kind h = of_basic (h.basis (sql_sequence_name, types) (13, omega arith, refl))

cookie_kind : {G : Scope} {t : Cn} → Basics G.basics → Kinded G t types → Kinded G (cookie_of t) types
cookie_kind h t = of_app (of_basic (h.basis (http_cookie_name, to types types) (14, omega arith, refl))) t

injectable_kind : {G : Scope} {t : Cn} → Basics G.basics → Kinded G t types → Kinded G (injectable_of t) types
injectable_kind h t = of_app (of_basic (h.basis (sql_injectable_name, to types types) (15, omega arith, refl))) t

pub no_types_kind : {G : Scope} → Kinded G no_types (row_of types)
no_types_kind = of_row no_fields tt

pub unit_kind : {G : Scope} → Kinded G unit_type types
unit_kind = of_record no_types_kind

-- the context of one name
one_context : {G : Scope} (n : ℕ) → Kinded G (unit_row (n ∷ [])) (row_of units)
one_context {G} n = of_row (a_field of_name of_unit no_fields) (All-nil (Apart G.guards (name n)), tt)

body_kind : {G : Scope} → Basics G.basics → Kinded G body_type types
body_kind h = xml_kind h (one_context body_context) no_types_kind no_types_kind

numbers_kind : {G : Scope} → Basics G.basics → Kinded G two_numbers types
numbers_kind h = of_poly (of_arrow (num_kind h (of_var refl)) (of_arrow (of_var refl) (of_arrow (of_var refl) (of_var refl))))

alike_kind : {G : Scope} → Basics G.basics → Kinded G two_alike types
alike_kind h = of_poly (of_arrow (eq_kind h (of_var refl)) (of_arrow (of_var refl) (of_arrow (of_var refl) (bool_kind h))))

ordered_kind : {G : Scope} → Basics G.basics → Kinded G two_ordered types
ordered_kind h = of_poly (of_arrow (ord_kind h (of_var refl)) (of_arrow (of_var refl) (of_arrow (of_var refl) (bool_kind h))))

-- two rows of one piece each that stand in a guard
by_this_guard : {gs : Guards} {a b p q : Cn} → pieces a ≡ p ∷ [] → pieces b ≡ q ∷ [] → {c d : Cn} → Contains gs (c, d) → HasPiece c p → HasPiece d q → Apart gs a b
by_this_guard {gs} {a} {b} {p} {q} i j g h k =
    apart same same (subst (λ xs. AllSeparated gs xs (pieces b)) (sym i) (subst (λ ys. AllSeparated gs (p ∷ []) ys) (sym j)
    (All-cons (λ x. All (Separated gs x) (q ∷ [])) p [] (All-cons (Separated gs p) q [] (by_guard g h k) (All-nil (Separated gs p))) (All-nil (λ x. All (Separated gs x) (q ∷ []))))))

by_newest : {gs : Guards} {a b p q : Cn} (c d : Cn) → pieces a ≡ p ∷ [] → pieces b ≡ q ∷ [] → HasPiece c p → HasPiece d q → Apart ((c, d) ∷ gs) a b
by_newest {gs} c d i j h k = by_this_guard i j {c = c} {d = d} (0, omega arith, refl) h k

by_one_before : {gs : Guards} {g : Cn × Cn} {a b p q : Cn} (c d : Cn) → pieces a ≡ p ∷ [] → pieces b ≡ q ∷ [] → HasPiece c p → HasPiece d q → Apart (g ∷ (c, d) ∷ gs) a b
by_one_before {gs} c d i j h k = by_this_guard i j {c = c} {d = d} (1, omega arith, refl) h k

itself : (i : ℕ) → HasPiece (var i) (var i)
itself i = has_piece same (0, omega arith, refl)

its_name : (k : Kd) (i : ℕ) (v : Cn) → HasPiece (row k (pair (var i) v no_pairs)) (var i)
its_name k i v = has_piece same (0, omega arith, refl)

join_kind : {G : Scope} → Basics G.basics → Kinded G (basis_type Join) types
join_kind h =
    of_poly (of_poly (of_poly (of_poly (of_guarded (of_var refl) (of_var refl) (of_guarded (of_var refl) (of_var refl)
    (of_arrow (xml_kind h (of_var refl) (of_var refl) (of_var refl))
    (of_arrow (xml_kind h (of_var refl) (of_cat (of_var refl) (of_var refl) (by_one_before (var 2) (var 1) refl refl (itself 2) (itself 1))) (of_var refl))
    (xml_kind h (of_var refl) (of_var refl) (of_cat (of_var refl) (of_var refl) (by_newest (var 1) (var 0) refl refl (itself 1) (itself 0)))))))))))

-- a mapped row has the pieces of the row
by_newest_turned : {gs : Guards} {a b p q : Cn} (c d : Cn) → pieces a ≡ p ∷ [] → pieces b ≡ q ∷ [] → HasPiece c q → HasPiece d p → Apart ((c, d) ∷ gs) a b
by_newest_turned {gs} {a} {b} {p} {q} c d i j h k =
    apart same same (subst (λ xs. AllSeparated ((c, d) ∷ gs) xs (pieces b)) (sym i) (subst (λ ys. AllSeparated ((c, d) ∷ gs) (p ∷ []) ys) (sym j)
    (All-cons (λ x. All (Separated ((c, d) ∷ gs) x) (q ∷ [])) p [] (All-cons (Separated ((c, d) ∷ gs) p) q [] (by_guard_turned (0, omega arith, refl) h k) (All-nil (Separated ((c, d) ∷ gs) p))) (All-nil (λ x. All (Separated ((c, d) ∷ gs) x) (q ∷ []))))))

-- a row of a query's results, where the newest guard separates its two rows
result_kind : {G : Scope} {i j : ℕ} {gs : Guards} → G.guards ≡ (var i, var j) ∷ gs → Kinded G (var i) (row_of (row_of types)) → Kinded G (var j) (row_of types) → Kinded G (result_of (var i) (var j)) types
result_kind {G} {i} {j} {gs} e ts es =
    of_record (of_cat es (of_app (of_app of_map (of_lambda (of_record (of_var refl)))) ts)
    (subst (λ hs. Apart hs (var j) (mapped (row_of types) types (lambda (row_of types) (record_of (var 0))) (var i))) (sym e) (by_newest_turned (var i) (var j) refl refl (itself i) (itself j))))

results_kind : {G : Scope} {t : Cn} → Kinded (assume (var 1) (var 0) (bind (row_of types) (bind (row_of (row_of types)) G))) t types → Kinded G (for_results t) types
results_kind h = of_poly (of_poly (of_guarded (of_var refl) (of_var refl) h))

plain_kind : {G : Scope} {c : Cn} → Basics G.basics → Kinded G c (row_of units) → Kinded G (plain_xml c) types
plain_kind h c = xml_kind h c no_types_kind no_types_kind

-- the two fields of a cookie that is set
setting_apart : (gs : Guards) → Apart gs (name value_name) (name secure_name)
setting_apart gs =
    let differ : value_name ≢ secure_name = λ e. omega (arith, e) in
    apart same same (All-cons (λ x. All (Separated gs x) (name secure_name ∷ [])) (name value_name) [] (All-cons (Separated gs (name value_name)) (name secure_name) [] (names_differ differ) (All-nil (Separated gs (name value_name)))) (All-nil (λ x. All (Separated gs x) (name secure_name ∷ []))))

setting_kind : {G : Scope} {t : Cn} → Basics G.basics → Kinded G t types → Kinded G (setting_of t) types
setting_kind {G} h t =
    of_record (of_row (a_field of_name t (a_field of_name (bool_kind h) no_fields))
    (All-cons (Apart G.guards (name value_name)) (name secure_name) [] (setting_apart G.guards) (All-nil (Apart G.guards (name value_name))), (All-nil (Apart G.guards (name secure_name)), tt)))

pub basis_kind : {G : Scope} → Basics G.basics → (b : BasisName) → Kinded G (basis_type b) types
basis_kind h Return = of_poly (of_arrow (of_var refl) (transaction_kind h (of_var refl)))
basis_kind h Bind = of_poly (of_poly (of_arrow (transaction_kind h (of_var refl)) (of_arrow (of_arrow (of_var refl) (transaction_kind h (of_var refl))) (transaction_kind h (of_var refl)))))
basis_kind h Error = of_poly (of_arrow (body_kind h) (of_var refl))
basis_kind h Not = of_arrow (bool_kind h) (bool_kind h)
basis_kind h Strcat = of_arrow (string_kind h) (of_arrow (string_kind h) (string_kind h))
basis_kind h Plus = numbers_kind h
basis_kind h Minus = numbers_kind h
basis_kind h Times = numbers_kind h
basis_kind h Divide = numbers_kind h
basis_kind h Mod = numbers_kind h
basis_kind h Neg = of_poly (of_arrow (num_kind h (of_var refl)) (of_arrow (of_var refl) (of_var refl)))
basis_kind h Eq = alike_kind h
basis_kind h Ne = alike_kind h
basis_kind h Lt = ordered_kind h
basis_kind h Le = ordered_kind h
basis_kind h Show = of_poly (of_arrow (show_kind h (of_var refl)) (of_arrow (of_var refl) (string_kind h)))
basis_kind h MkShow = of_poly (of_arrow (of_arrow (of_var refl) (string_kind h)) (show_kind h (of_var refl)))
basis_kind h MkEq = of_poly (of_arrow (of_arrow (of_var refl) (of_arrow (of_var refl) (bool_kind h))) (eq_kind h (of_var refl)))
basis_kind h Txt = of_poly (of_poly (of_poly (of_arrow (show_kind h (of_var refl)) (of_arrow (of_var refl) (xml_kind h (of_var refl) (of_var refl) no_types_kind)))))
basis_kind h Cdata = of_poly (of_poly (of_arrow (string_kind h) (xml_kind h (of_var refl) (of_var refl) no_types_kind)))
basis_kind h Join = join_kind h
basis_kind h Bless = of_arrow (string_kind h) (url_kind h)
basis_kind h Query =
    results_kind (of_poly (of_arrow (query_kind h (of_var refl) (of_var refl))
    (of_arrow (of_arrow (result_kind refl (of_var refl) (of_var refl)) (of_arrow (of_var refl) (transaction_kind h (of_var refl))))
    (of_arrow (of_var refl) (transaction_kind h (of_var refl))))))
basis_kind h QueryX =
    results_kind (of_poly (of_arrow (query_kind h (of_var refl) (of_var refl))
    (of_arrow (of_arrow (result_kind refl (of_var refl) (of_var refl)) (plain_kind h (of_var refl)))
    (transaction_kind h (plain_kind h (of_var refl))))))
basis_kind h OneRow =
    results_kind (of_arrow (query_kind h (of_var refl) (of_var refl)) (transaction_kind h (result_kind refl (of_var refl) (of_var refl))))
basis_kind h OneOrNoRows =
    results_kind (of_arrow (query_kind h (of_var refl) (of_var refl)) (transaction_kind h (option_kind h (result_kind refl (of_var refl) (of_var refl)))))
basis_kind h Dml = of_arrow (dml_kind h) (transaction_kind h unit_kind)
basis_kind h Nextval = of_arrow (sequence_kind h) (transaction_kind h (int_kind h))
basis_kind h GetCookie = of_poly (of_arrow (cookie_kind h (of_var refl)) (transaction_kind h (option_kind h (of_var refl))))
basis_kind h SetCookie = of_poly (of_arrow (cookie_kind h (of_var refl)) (of_arrow (setting_kind h (of_var refl)) (transaction_kind h unit_kind)))
basis_kind h ClearCookie = of_poly (of_arrow (cookie_kind h (of_var refl)) (transaction_kind h unit_kind))
basis_kind h NumInt = num_kind h (int_kind h)
basis_kind h ShowInt = show_kind h (int_kind h)
basis_kind h ShowString = show_kind h (string_kind h)
basis_kind h ShowBool = show_kind h (bool_kind h)
basis_kind h EqInt = eq_kind h (int_kind h)
basis_kind h EqString = eq_kind h (string_kind h)
basis_kind h EqBool = eq_kind h (bool_kind h)
basis_kind h OrdInt = ord_kind h (int_kind h)
basis_kind h OrdString = ord_kind h (string_kind h)
basis_kind h OrdBool = ord_kind h (bool_kind h)
basis_kind h SqlInt = injectable_kind h (int_kind h)
basis_kind h SqlString = injectable_kind h (string_kind h)
basis_kind h SqlBool = injectable_kind h (bool_kind h)

-- the contexts of `xtable` and `xtr`
context_kind : {G : Scope} (n : ℕ) → Basics G.basics → Kinded G (xml_of (unit_row (n ∷ [])) no_types no_types) types
context_kind n h = xml_kind h (one_context n) no_types_kind no_types_kind

-- what the names of types stand for
pub named_kinded : {G : Scope} → Basics G.basics → (t : TypeName) → Kinded G (named_type t) (named_kind t)
named_kinded h type_name.Int = int_kind h
named_kinded h type_name.String = string_kind h
named_kinded h type_name.Url = url_kind h
named_kinded h type_name.Unit = unit_kind
named_kinded h type_name.Bool = bool_kind h
named_kinded h type_name.Option = of_basic h.options
named_kinded h type_name.List = of_basic h.lists
named_kinded h type_name.Transaction = of_basic (h.basis (transaction_name, to types types) (3, omega arith, refl))
named_kinded h type_name.Xml = of_basic (h.basis (xml_name, to (row_of units) (to (row_of types) (to (row_of types) types))) (4, omega arith, refl))
named_kinded h type_name.Page = context_kind html_context h
named_kinded h type_name.Xbody = context_kind body_context h
named_kinded h type_name.Xtable = context_kind table_context h
named_kinded h type_name.Xtr = context_kind tr_context h
named_kinded h type_name.Show = of_basic (h.basis (show_name, to types types) (5, omega arith, refl))
named_kinded h type_name.Eq = of_basic (h.basis (eq_name, to types types) (6, omega arith, refl))
named_kinded h type_name.Ord = of_basic (h.basis (ord_name, to types types) (7, omega arith, refl))
named_kinded h type_name.Num = of_basic (h.basis (num_name, to types types) (8, omega arith, refl))
named_kinded h type_name.SqlTable = of_basic (h.basis (sql_table_name, to (row_of types) types) (9, omega arith, refl))
named_kinded h type_name.SqlQuery = of_basic (h.basis (sql_query_name, to (row_of (row_of types)) (to (row_of types) types)) (10, omega arith, refl))
named_kinded h type_name.SqlExp = of_basic (h.basis (sql_exp_name, to (row_of (row_of types)) (to types types)) (11, omega arith, refl))
named_kinded h type_name.Dml = dml_kind h
named_kinded h type_name.SqlSequence = sequence_kind h
named_kinded h type_name.HttpCookie = of_basic (h.basis (http_cookie_name, to types types) (14, omega arith, refl))
named_kinded h type_name.SqlInjectable = of_basic (h.basis (sql_injectable_name, to types types) (15, omega arith, refl))

-- one field whose name is a variable
one_field_kind : {G : Scope} {i : ℕ} {v : Cn} {k : Kd} → Kinded G (var i) names → Kinded G v k → Kinded G (row k (pair (var i) v no_pairs)) (row_of k)
one_field_kind {G} {i} n v = of_row (a_field n v no_fields) (All-nil (Apart G.guards (var i)), tt)

-- the type of fold
step_kind : (G : Scope) (k : Kd) → Kinded (bind (to (row_of k) types) G) (fold_step_type k) types
step_kind G k =
    of_poly (of_poly (of_poly (of_guarded (one_field_kind (of_var refl) of_unit) (of_var refl)
    (of_arrow (of_app (of_var refl) (of_var refl))
    (of_app (of_var refl) (of_cat (one_field_kind (of_var refl) (of_var refl)) (of_var refl) (by_newest (row units (pair (var 2) unit_con no_pairs)) (var 0) refl refl (its_name units 2 unit_con) (itself 0))))))))

pub fold_kind : {G : Scope} {k : Kd} {s : ℕ} → basic_kind G.basics s ≡ Some (to (row_of k) types) → Kinded G (fold_type k s) types
fold_kind {G} {k} h = of_poly (of_arrow (step_kind G k) (of_arrow (of_app (of_var refl) (of_row no_fields tt)) (of_poly (of_arrow (of_app (of_basic h) (of_var refl)) (of_app (of_var refl) (of_var refl))))))

-- the types of constructors
for_types_kind : (n : ℕ) (bs : List (ℕ × Kd)) {t : Cn} → Kinded (at_top n bs) t types → Kinded (at_top 0 bs) (for_types n t) types
for_types_kind zero bs h = h
for_types_kind (suc n) bs h = for_types_kind n bs (of_poly h)

so_many : (n m : ℕ) → m < n → slice_get (so_many_types n) m ≡ Some types
so_many zero m h = absurd (omega (arith, h))
so_many (suc n) zero h = refl
so_many (suc n) (suc m) h = so_many n m (omega (arith, h))

at_parameters : (n m : ℕ) (bs : List (ℕ × Kd)) {f : Cn} → (m < suc n) → Kinded (at_top n bs) f (type_taking m) → Kinded (at_top n bs) (at_types f (parameters_of m)) types
at_parameters n zero bs h k = k
at_parameters n (suc m) bs h k = at_parameters n m bs (omega (arith, h)) (of_app k (of_var (so_many n m (omega (arith, h)))))

own_kind : (d : Dt) (bs : List (ℕ × Kd)) → basic_kind bs d.symbol ≡ Some (type_taking (arity d)) → Kinded (at_top (arity d) bs) (own_type d) types
own_kind d bs h = at_parameters (arity d) (arity d) bs (omega arith) (of_basic h)

pub constructor_kind : (d : Dt) (c : Cd) (bs : List (ℕ × Kd)) → basic_kind bs d.symbol ≡ Some (type_taking (arity d)) → ((held : Cn) → c.holds ≡ Some held → Kinded (at_top (arity d) bs) held types) → Kinded (at_top 0 bs) (constructor_type d c) types
constructor_kind d c bs h each = for_types_kind (arity d) bs (body c.holds refl)
  where
    body : (o : Option Cn) → c.holds ≡ o → Kinded (at_top (arity d) bs) (elim o [ None ↦ own_type d | Some held ↦ arrow held (own_type d) ]) types
    body None e = own_kind d bs h
    body (Some held) e = of_arrow (each held e) (own_kind d bs h)
