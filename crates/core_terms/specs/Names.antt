-- The symbols that every program's table begins with. Their numbers are fixed: what comes later comes behind them.
use Rattle.std.specs.Prelude.{ℕ, List, [], ◌∷◌, codes}

-- types
abbrev pub int_name : ℕ
int_name = 0

abbrev pub string_name : ℕ
string_name = 1

abbrev pub url_name : ℕ
url_name = 2

abbrev pub bool_name : ℕ
bool_name = 3

abbrev pub option_name : ℕ
option_name = 4

abbrev pub list_name : ℕ
list_name = 5

abbrev pub transaction_name : ℕ
transaction_name = 6

abbrev pub xml_name : ℕ
xml_name = 7

-- classes
abbrev pub show_name : ℕ
show_name = 8

abbrev pub eq_name : ℕ
eq_name = 9

abbrev pub ord_name : ℕ
ord_name = 10

abbrev pub num_name : ℕ
num_name = 11

-- types of SQL and of cookies, and the class of what may stand in SQL
abbrev pub sql_table_name : ℕ
sql_table_name = 12

abbrev pub sql_query_name : ℕ
sql_query_name = 13

abbrev pub sql_exp_name : ℕ
sql_exp_name = 14

abbrev pub dml_name : ℕ
dml_name = 15

abbrev pub sql_sequence_name : ℕ
sql_sequence_name = 16

abbrev pub http_cookie_name : ℕ
http_cookie_name = 17

abbrev pub sql_injectable_name : ℕ
sql_injectable_name = 18

-- where a node of a page stands
abbrev pub html_context : ℕ
html_context = 19

abbrev pub body_context : ℕ
body_context = 20

abbrev pub head_context : ℕ
head_context = 21

abbrev pub table_context : ℕ
table_context = 22

abbrev pub tr_context : ℕ
tr_context = 23

abbrev pub form_context : ℕ
form_context = 24

-- the components of a pair
abbrev pub first_name : ℕ
first_name = 25

abbrev pub second_name : ℕ
second_name = 26

-- the fields of a cookie that is set
abbrev pub value_name : ℕ
value_name = 27

abbrev pub secure_name : ℕ
secure_name = 28

-- constructors
abbrev pub false_name : ℕ
false_name = 29

abbrev pub true_name : ℕ
true_name = 30

abbrev pub none_name : ℕ
none_name = 31

abbrev pub some_name : ℕ
some_name = 32

abbrev pub nil_name : ℕ
nil_name = 33

abbrev pub cons_name : ℕ
cons_name = 34

-- what the one parameter of option and of list is called
abbrev pub parameter_name : ℕ
parameter_name = 35

-- the texts of these symbols, in the order of their numbers
abbrev pub basis_texts : List (List ℕ)
basis_texts =
    codes "int" ∷ codes "string" ∷ codes "url" ∷ codes "bool" ∷ codes "option" ∷ codes "list" ∷
    codes "transaction" ∷ codes "xml" ∷
    codes "show" ∷ codes "eq" ∷ codes "ord" ∷ codes "num" ∷
    codes "sql_table" ∷ codes "sql_query" ∷ codes "sql_exp" ∷ codes "dml" ∷ codes "sql_sequence" ∷
    codes "http_cookie" ∷ codes "sql_injectable" ∷
    codes "Html" ∷ codes "Body" ∷ codes "Head" ∷ codes "Table" ∷ codes "Tr" ∷ codes "Form" ∷
    codes "1" ∷ codes "2" ∷
    codes "Value" ∷ codes "Secure" ∷
    codes "False" ∷ codes "True" ∷ codes "None" ∷ codes "Some" ∷ codes "Nil" ∷ codes "Cons" ∷
    codes "t" ∷ []
