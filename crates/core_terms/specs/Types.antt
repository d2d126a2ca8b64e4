-- Types that rules speak of.
-- The Ur/Web Manual, "The Ur Standard Library" and "The Ur/Web Standard Library".
use Rattle.std.specs.Prelude.{ℕ, zero, suc, true, List, [], ◌∷◌}
use Rattle.con_terms.specs.Trees.{Kd, types, units, row_of, to, Cn, var, basic, arrow, poly, record_of, app, lambda, unit_con, name, row, cat, Prs, no_pairs, pair}
use Rattle.con_terms.specs.Equal.{mapped}
use Rattle.core_terms.specs.Names.{int_name, string_name, url_name, bool_name, option_name, transaction_name, xml_name, show_name, eq_name, ord_name, num_name, sql_table_name, sql_query_name, sql_exp_name, dml_name, sql_sequence_name, http_cookie_name, sql_injectable_name, html_context, body_context, table_context, tr_context, value_name, secure_name}

abbrev pub int_type : Cn
int_type = basic int_name

abbrev pub string_type : Cn
string_type = basic string_name

abbrev pub url_type : Cn
url_type = basic url_name

abbrev pub bool_type : Cn
bool_type = basic bool_name

-- a row literal of types
abbrev pub type_row : Prs → Cn
type_row ps = row types ps

-- the row without fields
abbrev pub no_types : Cn
no_types = type_row no_pairs

-- one field
abbrev pub one_field : Cn → Cn → Cn
one_field n t = type_row (pair n t no_pairs)

-- {}
abbrev pub unit_type : Cn
unit_type = record_of no_types

abbrev pub transaction_of : Cn → Cn
transaction_of t = app (basic transaction_name) t

abbrev pub option_of : Cn → Cn
option_of t = app (basic option_name) t

abbrev pub show_of : Cn → Cn
show_of t = app (basic show_name) t

abbrev pub eq_of : Cn → Cn
eq_of t = app (basic eq_name) t

abbrev pub ord_of : Cn → Cn
ord_of t = app (basic ord_name) t

abbrev pub num_of : Cn → Cn
num_of t = app (basic num_name) t

-- a row of units with these names
abbrev pub unit_pairs : List ℕ → Prs
unit_pairs [] = no_pairs
unit_pairs (n ∷ ns) = pair (name n) unit_con (unit_pairs ns)

abbrev pub unit_row : List ℕ → Cn
unit_row ns = row units (unit_pairs ns)

-- xml ctx use bind: a tree that may stand in ctx, in a form whose fields `use` are filled before it, and that fills
-- `bind`
abbrev pub xml_of : Cn → Cn → Cn → Cn
xml_of ctx uses fills = app (app (app (basic xml_name) ctx) uses) fills

-- page = xml [Html] [] []
abbrev pub page_type : Cn
page_type = xml_of (unit_row (html_context ∷ [])) no_types no_types

-- xbody = xml [Body] [] []
abbrev pub body_type : Cn
body_type = xml_of (unit_row (body_context ∷ [])) no_types no_types

-- xtable = xml [Table] [] []
abbrev pub table_type : Cn
table_type = xml_of (unit_row (table_context ∷ [])) no_types no_types

-- xtr = xml [Tr] [] []
abbrev pub tr_type : Cn
tr_type = xml_of (unit_row (tr_context ∷ [])) no_types no_types

-- sql_table r: a table whose rows have these columns
abbrev pub table_of : Cn → Cn
table_of r = app (basic sql_table_name) r

-- sql_query ts es: a query whose rows have the columns ts of its tables, table by table, and the named results es
abbrev pub query_of : Cn → Cn → Cn
query_of ts es = app (app (basic sql_query_name) ts) es

-- sql_exp ts t: a t of each row of the tables ts
abbrev pub expression_of : Cn → Cn → Cn
expression_of ts t = app (app (basic sql_exp_name) ts) t

abbrev pub dml_type : Cn
dml_type = basic dml_name

abbrev pub sequence_type : Cn
sequence_type = basic sql_sequence_name

abbrev pub cookie_of : Cn → Cn
cookie_of t = app (basic http_cookie_name) t

abbrev pub injectable_of : Cn → Cn
injectable_of t = app (basic sql_injectable_name) t

-- $(es ++ map (fn f :: {Type} => $f) ts): a row of a query
abbrev pub result_of : Cn → Cn → Cn
result_of ts es = record_of (cat es (mapped (row_of types) types (lambda (row_of types) (record_of (var 0))) ts))

-- {Value : t, Secure : bool}: what a cookie is set to
abbrev pub setting_of : Cn → Cn
setting_of t = record_of (type_row (pair (name value_name) t (pair (name secure_name) bool_type no_pairs)))

-- a type with arguments
abbrev pub at_types : Cn → List Cn → Cn
at_types f [] = f
at_types f (t ∷ ts) = at_types (app f t) ts

-- t ::: Type -> ..
abbrev pub for_type : Cn → Cn
for_type t = poly true types t

-- for so many types
abbrev pub for_types : ℕ → Cn → Cn
for_types zero t = t
for_types (suc n) t = for_types n (for_type t)

-- the kind of a type that takes so many types
abbrev pub type_taking : ℕ → Kd
type_taking zero = types
type_taking (suc n) = to types (type_taking n)

-- a function of these arguments
abbrev pub function : List Cn → Cn → Cn
function [] t = t
function (a ∷ as') t = arrow a (function as' t)
