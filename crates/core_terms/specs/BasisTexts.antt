-- The names that sources give to what every program has.
-- The Ur/Web Manual, "The Ur Standard Library" and "The Ur/Web Standard Library".
use Rattle.std.specs.Prelude.{ℕ, List, codes}
use Rattle.con_terms.specs.Trees.{Kd, types, units, row_of, to, Cn, basic}
use Rattle.core_terms.specs.declared.basis.BasisName.{BasisName}
use Rattle.core_terms.specs.declared.basis.BasisName.TheVariants as value
use Rattle.core_terms.specs.declared.basis.TypeName.{TypeName}
use Rattle.core_terms.specs.declared.basis.TypeName.TheVariants as type_name
use Rattle.core_terms.specs.Names.{option_name, list_name, transaction_name, xml_name, show_name, eq_name, ord_name, num_name, sql_table_name, sql_query_name, sql_exp_name, http_cookie_name, sql_injectable_name}
use Rattle.core_terms.specs.Types.{int_type, string_type, url_type, bool_type, unit_type, page_type, body_type, table_type, tr_type, dml_type, sequence_type}

-- the name of a value
abbrev pub value_text : BasisName → List ℕ
value_text value.Return = codes "return"
value_text value.Bind = codes "bind"
value_text value.Error = codes "error"
value_text value.Not = codes "not"
value_text value.Strcat = codes "strcat"
value_text value.Plus = codes "plus"
value_text value.Minus = codes "minus"
value_text value.Times = codes "times"
value_text value.Divide = codes "divide"
value_text value.Mod = codes "mod"
value_text value.Neg = codes "neg"
value_text value.Eq = codes "eq"
value_text value.Ne = codes "ne"
value_text value.Lt = codes "lt"
value_text value.Le = codes "le"
value_text value.Show = codes "show"
value_text value.MkShow = codes "mkShow"
value_text value.MkEq = codes "mkEq"
value_text value.Txt = codes "txt"
value_text value.Cdata = codes "cdata"
value_text value.Join = codes "join"
value_text value.Bless = codes "bless"
value_text value.Query = codes "query"
value_text value.QueryX = codes "queryX"
value_text value.OneRow = codes "oneRow"
value_text value.OneOrNoRows = codes "oneOrNoRows"
value_text value.Dml = codes "dml"
value_text value.Nextval = codes "nextval"
value_text value.GetCookie = codes "getCookie"
value_text value.SetCookie = codes "setCookie"
value_text value.ClearCookie = codes "clearCookie"
value_text value.NumInt = codes "num_int"
value_text value.ShowInt = codes "show_int"
value_text value.ShowString = codes "show_string"
value_text value.ShowBool = codes "show_bool"
value_text value.EqInt = codes "eq_int"
value_text value.EqString = codes "eq_string"
value_text value.EqBool = codes "eq_bool"
value_text value.OrdInt = codes "ord_int"
value_text value.OrdString = codes "ord_string"
value_text value.OrdBool = codes "ord_bool"
value_text value.SqlInt = codes "sql_int"
value_text value.SqlString = codes "sql_string"
value_text value.SqlBool = codes "sql_bool"

-- the name of a type
abbrev pub type_text : TypeName → List ℕ
type_text type_name.Int = codes "int"
type_text type_name.String = codes "string"
type_text type_name.Url = codes "url"
type_text type_name.Unit = codes "unit"
type_text type_name.Bool = codes "bool"
type_text type_name.Option = codes "option"
type_text type_name.List = codes "list"
type_text type_name.Transaction = codes "transaction"
type_text type_name.Xml = codes "xml"
type_text type_name.Page = codes "page"
type_text type_name.Xbody = codes "xbody"
type_text type_name.Xtable = codes "xtable"
type_text type_name.Xtr = codes "xtr"
type_text type_name.Show = codes "show"
type_text type_name.Eq = codes "eq"
type_text type_name.Ord = codes "ord"
type_text type_name.Num = codes "num"
type_text type_name.SqlTable = codes "sql_table"
type_text type_name.SqlQuery = codes "sql_query"
type_text type_name.SqlExp = codes "sql_exp"
type_text type_name.Dml = codes "dml"
type_text type_name.SqlSequence = codes "sql_sequence"
type_text type_name.HttpCookie = codes "http_cookie"
type_text type_name.SqlInjectable = codes "sql_injectable"

-- what the name of a type stands for
abbrev pub named_type : TypeName → Cn
named_type type_name.Int = int_type
named_type type_name.String = string_type
named_type type_name.Url = url_type
named_type type_name.Unit = unit_type
named_type type_name.Bool = bool_type
named_type type_name.Option = basic option_name
named_type type_name.List = basic list_name
named_type type_name.Transaction = basic transaction_name
named_type type_name.Xml = basic xml_name
named_type type_name.Page = page_type
named_type type_name.Xbody = body_type
named_type type_name.Xtable = table_type
named_type type_name.Xtr = tr_type
named_type type_name.Show = basic show_name
named_type type_name.Eq = basic eq_name
named_type type_name.Ord = basic ord_name
named_type type_name.Num = basic num_name
named_type type_name.SqlTable = basic sql_table_name
named_type type_name.SqlQuery = basic sql_query_name
named_type type_name.SqlExp = basic sql_exp_name
named_type type_name.Dml = dml_type
named_type type_name.SqlSequence = sequence_type
named_type type_name.HttpCookie = basic http_cookie_name
named_type type_name.SqlInjectable = basic sql_injectable_name

-- and its kind
abbrev pub named_kind : TypeName → Kd
named_kind type_name.Option = to types types
named_kind type_name.List = to types types
named_kind type_name.Transaction = to types types
named_kind type_name.Xml = to (row_of units) (to (row_of types) (to (row_of types) types))
named_kind type_name.Show = to types types
named_kind type_name.Eq = to types types
named_kind type_name.Ord = to types types
named_kind type_name.Num = to types types
named_kind type_name.SqlTable = to (row_of types) types
named_kind type_name.SqlQuery = to (row_of (row_of types)) (to (row_of types) types)
named_kind type_name.SqlExp = to (row_of (row_of types)) (to types types)
named_kind type_name.HttpCookie = to types types
named_kind type_name.SqlInjectable = to types types
named_kind _ = types
