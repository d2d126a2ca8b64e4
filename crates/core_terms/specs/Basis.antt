-- The values that every program has, with their types.
-- The Ur/Web Manual, "The Ur Standard Library" and "The Ur/Web Standard Library"; the order of implicit arguments and
-- guards is this project's own.
use Rattle.std.specs.Prelude.{ℕ, [], ◌∷◌, true, false}
use Rattle.con_terms.specs.Trees.{Kd, types, units, names, row_of, to, Cn, var, basic, arrow, poly, guarded, app, unit_con, row, cat, no_pairs, pair}
use Rattle.core_terms.specs.declared.basis.BasisName.{BasisName}
use Rattle.core_terms.specs.declared.basis.BasisName.TheVariants.{Return, Bind, Error, Not, Strcat, Plus, Minus, Times, Divide, Mod, Neg, Eq, Ne, Lt, Le, Show, MkShow, MkEq, Txt, Cdata, Join, Bless, Query, QueryX, OneRow, OneOrNoRows, Dml, Nextval, GetCookie, SetCookie, ClearCookie, NumInt, ShowInt, ShowString, ShowBool, EqInt, EqString, EqBool, OrdInt, OrdString, OrdBool, SqlInt, SqlString, SqlBool}
use Rattle.core_terms.specs.Types.{int_type, string_type, url_type, bool_type, no_types, unit_type, transaction_of, option_of, show_of, eq_of, ord_of, num_of, xml_of, body_type, query_of, dml_type, sequence_type, cookie_of, injectable_of, result_of, setting_of, for_type, function}

-- t ::: Type -> num t -> t -> t -> t
abbrev pub two_numbers : Cn
two_numbers = for_type (function (num_of (var 0) ∷ var 0 ∷ var 0 ∷ []) (var 0))

-- t ::: Type -> eq t -> t -> t -> bool
abbrev pub two_alike : Cn
two_alike = for_type (function (eq_of (var 0) ∷ var 0 ∷ var 0 ∷ []) bool_type)

-- t ::: Type -> ord t -> t -> t -> bool
abbrev pub two_ordered : Cn
two_ordered = for_type (function (ord_of (var 0) ∷ var 0 ∷ var 0 ∷ []) bool_type)

-- ts ::: {{Type}} -> es ::: {Type} -> [ts ~ es] => ..
abbrev pub for_results : Cn → Cn
for_results t = poly true (row_of (row_of types)) (poly true (row_of types) (guarded (var 1) (var 0) t))

-- xml ctx [] []
abbrev pub plain_xml : Cn → Cn
plain_xml ctx = xml_of ctx no_types no_types

abbrev pub basis_type : BasisName → Cn
-- t ::: Type -> t -> transaction t
basis_type Return = for_type (function (var 0 ∷ []) (transaction_of (var 0)))
-- t ::: Type -> u ::: Type -> transaction t -> (t -> transaction u) -> transaction u
basis_type Bind =
    for_type (for_type (function (transaction_of (var 1) ∷ arrow (var 1) (transaction_of (var 0))
    ∷ []) (transaction_of (var 0))))
-- t ::: Type -> xbody -> t
basis_type Error = for_type (function (body_type ∷ []) (var 0))
basis_type Not = arrow bool_type bool_type
basis_type Strcat = function (string_type ∷ string_type ∷ []) string_type
basis_type Plus = two_numbers
basis_type Minus = two_numbers
basis_type Times = two_numbers
basis_type Divide = two_numbers
basis_type Mod = two_numbers
-- t ::: Type -> num t -> t -> t
basis_type Neg = for_type (function (num_of (var 0) ∷ var 0 ∷ []) (var 0))
basis_type Eq = two_alike
basis_type Ne = two_alike
basis_type Lt = two_ordered
basis_type Le = two_ordered
-- t ::: Type -> show t -> t -> string
basis_type Show = for_type (function (show_of (var 0) ∷ var 0 ∷ []) string_type)
-- t ::: Type -> (t -> string) -> show t
basis_type MkShow = for_type (function (arrow (var 0) string_type ∷ []) (show_of (var 0)))
-- t ::: Type -> (t -> t -> bool) -> eq t
basis_type MkEq = for_type (function (arrow (var 0) (arrow (var 0) bool_type) ∷ []) (eq_of (var 0)))
-- t ::: Type -> ctx ::: {Unit} -> use ::: {Type} -> show t -> t -> xml ctx use []
basis_type Txt =
    poly true types (poly true (row_of units) (poly true (row_of types) (function (show_of (var 2) ∷ var 2
    ∷ []) (xml_of (var 1) (var 0) no_types))))
-- ctx ::: {Unit} -> use ::: {Type} -> string -> xml ctx use []
basis_type Cdata =
    poly true (row_of units) (poly true (row_of types) (function (string_type ∷ []) (xml_of (var 1) (var 0) no_types)))
-- ctx ::: {Unit} -> u ::: {Type} -> b ::: {Type} -> c ::: {Type} -> [u ~ b] => [b ~ c] => xml ctx u b -> xml ctx (u
-- ++ b) c -> xml ctx u (b ++ c)
basis_type Join =
    poly true (row_of units) (poly true (row_of types) (poly true (row_of types) (poly true (row_of types)
    (guarded (var 2) (var 1) (guarded (var 1) (var 0)
    (function (xml_of (var 3) (var 2) (var 1) ∷ xml_of (var 3) (cat (var 2) (var 1)) (var 0)
    ∷ []) (xml_of (var 3) (var 2) (cat (var 1) (var 0)))))))))
basis_type Bless = arrow string_type url_type
-- ts ::: {{Type}} -> es ::: {Type} -> [ts ~ es] => s ::: Type ->
-- sql_query ts es -> ($(es ++ map (fn f :: {Type} => $f) ts) -> s -> transaction s) -> s -> transaction s
basis_type Query =
    for_results (poly true types (function (
    query_of (var 2) (var 1)
    ∷ arrow (result_of (var 2) (var 1)) (arrow (var 0) (transaction_of (var 0)))
    ∷ var 0 ∷ [])
    (transaction_of (var 0))))
-- ts ::: {{Type}} -> es ::: {Type} -> [ts ~ es] => ctx ::: {Unit} ->
-- sql_query ts es -> ($(es ++ map (fn f :: {Type} => $f) ts) -> xml ctx [] []) -> transaction (xml ctx [] [])
basis_type QueryX =
    for_results (poly true (row_of units) (function (
    query_of (var 2) (var 1)
    ∷ arrow (result_of (var 2) (var 1)) (plain_xml (var 0)) ∷ [])
    (transaction_of (plain_xml (var 0)))))
-- ts ::: {{Type}} -> es ::: {Type} -> [ts ~ es] =>
-- sql_query ts es -> transaction $(es ++ map (fn f :: {Type} => $f) ts)
basis_type OneRow = for_results (arrow (query_of (var 1) (var 0)) (transaction_of (result_of (var 1) (var 0))))
-- ts ::: {{Type}} -> es ::: {Type} -> [ts ~ es] =>
-- sql_query ts es -> transaction (option $(es ++ map (fn f :: {Type} => $f) ts))
basis_type OneOrNoRows =
    for_results (arrow (query_of (var 1) (var 0)) (transaction_of (option_of (result_of (var 1) (var 0)))))
-- dml -> transaction unit
basis_type Dml = arrow dml_type (transaction_of unit_type)
-- sql_sequence -> transaction int
basis_type Nextval = arrow sequence_type (transaction_of int_type)
-- t ::: Type -> http_cookie t -> transaction (option t)
basis_type GetCookie = for_type (arrow (cookie_of (var 0)) (transaction_of (option_of (var 0))))
-- t ::: Type -> http_cookie t -> {Value : t, Secure : bool} -> transaction unit
basis_type SetCookie =
    for_type (function (cookie_of (var 0) ∷ setting_of (var 0) ∷ []) (transaction_of unit_type))
-- t ::: Type -> http_cookie t -> transaction unit
basis_type ClearCookie = for_type (arrow (cookie_of (var 0)) (transaction_of unit_type))
basis_type NumInt = num_of int_type
basis_type ShowInt = show_of int_type
basis_type ShowString = show_of string_type
basis_type ShowBool = show_of bool_type
basis_type EqInt = eq_of int_type
basis_type EqString = eq_of string_type
basis_type EqBool = eq_of bool_type
basis_type OrdInt = ord_of int_type
basis_type OrdString = ord_of string_type
basis_type OrdBool = ord_of bool_type
basis_type SqlInt = injectable_of int_type
basis_type SqlString = injectable_of string_type
basis_type SqlBool = injectable_of bool_type

-- nm :: Name -> v :: k -> r :: {k} -> [[nm] ~ r] => tf r -> tf ([nm = v] ++ r), with tf outside
abbrev pub fold_step_type : Kd → Cn
fold_step_type k =
    poly false names (poly false k (poly false (row_of k)
    (guarded (row units (pair (var 2) unit_con no_pairs)) (var 0)
    (arrow (app (var 3) (var 0)) (app (var 3) (cat (row k (pair (var 2) (var 1) no_pairs)) (var 0)))))))

-- the type of fold over rows of kind {k}, where s is the symbol of folder at k:
-- tf :: ({k} -> Type) -> (the step) -> tf [] -> r ::: {k} -> folder r -> tf r
abbrev pub fold_type : Kd → ℕ → Cn
fold_type k s =
    poly false (to (row_of k) types)
    (function (fold_step_type k ∷ app (var 0) (row k no_pairs) ∷ [])
    (poly true (row_of k) (arrow (app (basic s) (var 0)) (app (var 1) (var 0)))))
