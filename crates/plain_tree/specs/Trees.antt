-- Plain trees as finite trees, with the bytes of their first tokens.
use Rattle.std.specs.Prelude.{ℕ, Bool, List, Option}
use Rattle.con_terms.specs.Trees.{Kd}
use Rattle.plain_tree.specs.declared.names.Path.{Path}
use Rattle.plain_tree.specs.declared.names.Label.{Label}
use Rattle.plain_tree.specs.declared.names.Sigil.{Sigil}
use Rattle.plain_tree.specs.declared.names.Basis.{Basis}
use Rattle.plain_tree.specs.declared.names.Builder.{Builder}
use Rattle.plain_tree.specs.declared.names.Infix.{Infix}
use Rattle.plain_tree.specs.declared.names.QueryInfix.{QueryInfix}
use Rattle.plain_tree.specs.declared.names.Comparison.{Comparison}
use Rattle.plain_tree.specs.declared.names.Word.{Word}

mutual
  -- a constructor of the type level
  pub data ConTree : Type 0 where
    con : ℕ → ConFormTree → ConTree

  -- what a constructor is
  pub data ConFormTree : Type 0 where
    -- `M.x`
    con_name : Path → ConFormTree
    -- `_`
    con_wild : ConFormTree
    -- `#A`, or `#1`
    con_label : Label → ConFormTree
    -- `c -> d`
    con_arrow : ConTree → ConTree → ConFormTree
    -- `x :: k -> c`, or `x ::: k -> c` where the flag is true
    con_poly : Bool → (List ℕ) → Kd → ConTree → ConFormTree
    -- `[c ~ d] => e`
    con_guarded : ConTree → ConTree → ConTree → ConFormTree
    -- `fn x :: k => c`
    con_lambda : (List ℕ) → Kd → ConTree → ConFormTree
    -- `$c`, and one more `$` in between for each of these places
    con_record : (List ℕ) → ConTree → ConFormTree
    -- `c d ..`
    con_apply : ConTree → ConsTree → ConFormTree
    -- `c ++ d ++ ..`, from left to right
    con_concat : ConTree → ConsTree → ConFormTree
    -- `()`
    con_unit : ConFormTree
    -- `(c, d, ..)`
    con_tuple : ConsTree → ConFormTree
    -- `(c :: k)`
    con_kinded : ConTree → Kd → ConFormTree
    -- `[c = d, ..]`
    con_row : ConFieldsTree → ConFormTree
    -- `c.1.2`, from left to right; the first component is 1
    con_proj : ConTree → (List ℕ) → ConFormTree

  -- constructors in order
  pub data ConsTree : Type 0 where
    no_con : ConsTree
    more_con : ConTree → ConsTree → ConsTree

  -- a field of a row
  pub data ConFieldTree : Type 0 where
    con_field : ℕ → ConTree → ConTree → ConFieldTree

  -- the fields of a row, as written
  pub data ConFieldsTree : Type 0 where
    no_con_fields : ConFieldsTree
    more_con_fields : ConFieldTree → ConFieldsTree → ConFieldsTree

mutual
  -- a pattern
  pub data PatTree : Type 0 where
    pat : ℕ → PatFormTree → PatTree

  -- what a pattern is
  pub data PatFormTree : Type 0 where
    -- `_`
    pat_any : PatFormTree
    -- a variable
    pat_bind : (List ℕ) → PatFormTree
    -- a number, and whether `-` stands before it
    pat_int : Bool → ℕ → PatFormTree
    -- a text
    pat_words : (List ℕ) → PatFormTree
    -- a constructor of a datatype that holds nothing
    pat_bare : Builder → PatFormTree
    -- a constructor of a datatype, and the pattern of what it holds
    pat_holding : Builder → PatTree → PatFormTree
    -- `{c = p, ..}`, and whether further fields may stand beside these.
    pat_rec : PatFieldsTree → Bool → PatFormTree
    -- `(p : c)`
    pat_typed : PatTree → ConTree → PatFormTree

  -- a field of a record pattern
  pub data PatFieldTree : Type 0 where
    pat_field : ℕ → ConTree → PatTree → PatFieldTree

  -- the fields of a record pattern, as written
  pub data PatFieldsTree : Type 0 where
    no_pat_fields : PatFieldsTree
    more_pat_fields : PatFieldTree → PatFieldsTree → PatFieldsTree

-- a parameter
pub data ArgTree : Type 0 where
  arg_pat : PatTree → ArgTree
  -- [x :: k], or [x ::: k] where the first flag is true; the second tells whether the kind is written
  arg_con : ℕ → Bool → Bool → Word → Kd → ArgTree
  -- [c ~ d]
  arg_guard : ℕ → ConTree → ConTree → ArgTree

mutual
  -- an expression of a query
  pub data QueryTree : Type 0 where
    query : ℕ → QueryFormTree → QueryTree

  -- what an expression of a query is
  pub data QueryFormTree : Type 0 where
    -- a number
    query_int : ℕ → QueryFormTree
    -- a text
    query_words : (List ℕ) → QueryFormTree
    -- `TRUE` or `FALSE`
    query_bool : Bool → QueryFormTree
    -- `T.A`, or `t.A`
    query_field : (List ℕ) → (List ℕ) → QueryFormTree
    -- `A`
    query_column : (List ℕ) → QueryFormTree
    -- `{[e]}`
    query_splice : QueryFormTree
    -- `{e}`
    query_exp : QueryFormTree
    -- `NOT q`
    query_not : QueryTree → QueryFormTree
    -- `- q`
    query_neg : QueryTree → QueryFormTree
    -- `q = r`, and so on; the operator stands at the place.
    query_compare : ℕ → Comparison → QueryTree → QueryTree → QueryFormTree
    -- an expression, and what follows it from left to right
    query_chain : QueryTree → QueryLinksTree → QueryFormTree

  -- an operator at its place, and its right side. All before it is its left side
  pub data QueryLinkTree : Type 0 where
    query_link : ℕ → QueryInfix → QueryTree → QueryLinkTree

  -- what follows an expression of a query in a chain, from left to right
  pub data QueryLinksTree : Type 0 where
    no_query_links : QueryLinksTree
    more_query_links : QueryLinkTree → QueryLinksTree → QueryLinksTree

mutual
  -- a query, or a change of a table
  pub data SqlTree : Type 0 where
    -- `SELECT .. FROM .. WHERE .. ORDER BY .. LIMIT .. OFFSET ..`; no order is an empty list.
    sql_select : SelectionTree → SourcesTree → MaybeQueryTree → OrdersTree → MaybeCountTree → MaybeCountTree → SqlTree
    -- `INSERT INTO t (A, ..) VALUES (q, ..)`
    sql_insert : TableRefTree → (List Word) → QueriesTree → SqlTree
    -- `UPDATE t SET A = q, .. WHERE q`
    sql_update : TableRefTree → AssignmentsTree → QueryTree → SqlTree
    -- `DELETE FROM t WHERE q`
    sql_delete : TableRefTree → QueryTree → SqlTree
    -- `WHERE q` alone
    sql_where : QueryTree → SqlTree

  -- what a query gives
  pub data SelectionTree : Type 0 where
    -- `*`
    select_all : ℕ → SelectionTree
    -- what stands in the list
    select_items : SqlItemsTree → SelectionTree

  -- expressions of a query, in order
  pub data QueriesTree : Type 0 where
    no_queries : QueriesTree
    more_queries : QueryTree → QueriesTree → QueriesTree

  -- what a query gives
  pub data SqlItemTree : Type 0 where
    -- `T.A`
    sql_column : ℕ → (List ℕ) → Word → SqlItemTree
    -- `T.*`
    sql_star : ℕ → (List ℕ) → SqlItemTree
    -- `T.{{c}}`
    sql_row : ℕ → (List ℕ) → ConTree → SqlItemTree
    -- `q AS A`
    sql_named : QueryTree → Word → SqlItemTree

  -- what a query gives, in order
  pub data SqlItemsTree : Type 0 where
    no_sql_items : SqlItemsTree
    more_sql_items : SqlItemTree → SqlItemsTree → SqlItemsTree

  -- a table
  pub data TableRefTree : Type 0 where
    -- `M.t`
    table_name : ℕ → Path → TableRefTree
    -- `{{e}}`, at its brace
    table_exp : ℕ → TableRefTree

  -- a source of a query, with the name that it is given
  pub data SourceTree : Type 0 where
    source : TableRefTree → (Option Word) → SourceTree

  -- sources in order
  pub data SourcesTree : Type 0 where
    no_sources : SourcesTree
    more_sources : SourceTree → SourcesTree → SourcesTree

  -- a column with what it is set to
  pub data AssignmentTree : Type 0 where
    assignment : Word → QueryTree → AssignmentTree

  -- columns with what they are set to, in order
  pub data AssignmentsTree : Type 0 where
    no_assignments : AssignmentsTree
    more_assignments : AssignmentTree → AssignmentsTree → AssignmentsTree

  -- what rows are ordered by, and whether downwards
  pub data OrderTree : Type 0 where
    order : QueryTree → Bool → OrderTree

  -- what rows are ordered by, in order
  pub data OrdersTree : Type 0 where
    no_orders : OrdersTree
    more_orders : OrderTree → OrdersTree → OrdersTree

  -- a number of rows
  pub data CountTree : Type 0 where
    -- a number
    count_int : ℕ → ℕ → CountTree
    -- `{e}`, at its brace
    count_exp : ℕ → CountTree

  pub data MaybeQueryTree : Type 0 where
    no_query : MaybeQueryTree
    a_query : QueryTree → MaybeQueryTree

  pub data MaybeCountTree : Type 0 where
    no_count : MaybeCountTree
    a_count : CountTree → MaybeCountTree

mutual
  -- a term
  pub data ExpTree : Type 0 where
    exp : ℕ → FormTree → ExpTree

  -- what a term is
  pub data FormTree : Type 0 where
    -- a number
    exp_int : ℕ → FormTree
    -- a text
    exp_words : (List ℕ) → FormTree
    -- a value, as `M.x`. Alone it is a call without arguments
    exp_name : Sigil → Path → FormTree
    -- a constructor of a datatype, as `M.X`. Alone it is a call without arguments
    exp_builder : Sigil → Path → FormTree
    -- a value of the basis that sugar stands for. No declaration of the source hides it
    exp_basis : Basis → FormTree
    -- a term with what it is applied to
    exp_call : ExpTree → ItemsTree → FormTree
    -- `fn .. => e`
    exp_fn : List ArgTree → ExpTree → FormTree
    -- `case e of p => e | ..`; the first branch stands apart.
    exp_case : ExpTree → BranchTree → BranchesTree → FormTree
    -- `let .. in e end`
    exp_let : LocalsTree → ExpTree → FormTree
    -- `(e : c)`
    exp_typed : ExpTree → ConTree → FormTree
    -- `{c = e, ..}`
    exp_rec : FieldsTree → FormTree
    -- a term, and what follows it from left to right
    exp_chain : ExpTree → LinksTree → FormTree
    -- `<xml>..</xml>`
    exp_xml : NodesTree → FormTree
    -- a query, or a change of a table, and the terms that stand in it, from left to right
    exp_sql : SqlTree → ExpsTree → FormTree

  -- terms in order
  pub data ExpsTree : Type 0 where
    no_exps : ExpsTree
    more_exps : ExpTree → ExpsTree → ExpsTree

  -- what a term is applied to
  pub data ItemTree : Type 0 where
    -- a term
    item_term : ExpTree → ItemTree
    -- `[c]`, at its bracket.
    item_con : ℕ → ConTree → ItemTree
    -- `!`
    item_guard : ℕ → ItemTree

  -- what a term is applied to, from left to right
  pub data ItemsTree : Type 0 where
    no_items : ItemsTree
    more_items : ItemTree → ItemsTree → ItemsTree

  -- what follows a term in a chain. All before it is its left side
  pub data LinkTree : Type 0 where
    -- an operator at its place, and its right side
    link_infix : ℕ → Infix → ExpTree → LinkTree
    -- `.c`
    link_field : ConTree → LinkTree
    -- `-- c`
    link_without : ℕ → ConTree → LinkTree
    -- `--- c`
    link_without_row : ℕ → ConTree → LinkTree

  -- what follows a term in a chain, from left to right
  pub data LinksTree : Type 0 where
    no_links : LinksTree
    more_links : LinkTree → LinksTree → LinksTree

  -- a branch of a `case`
  pub data BranchTree : Type 0 where
    branch : ℕ → PatTree → ExpTree → BranchTree

  -- branches in order
  pub data BranchesTree : Type 0 where
    no_branches : BranchesTree
    more_branches : BranchTree → BranchesTree → BranchesTree

  -- a field of a record
  pub data FieldTree : Type 0 where
    field : ℕ → ConTree → ExpTree → FieldTree

  -- the fields of a record, as written
  pub data FieldsTree : Type 0 where
    no_fields : FieldsTree
    more_fields : FieldTree → FieldsTree → FieldsTree

  -- a name with its term, and its type where that is written
  pub data NamedTree : Type 0 where
    named : Word → (Option ConTree) → ExpTree → NamedTree

  -- names that may be used in each other's terms
  pub data NamedListTree : Type 0 where
    no_named_list : NamedListTree
    more_named_list : NamedTree → NamedListTree → NamedListTree

  -- a declaration of values, at its first word
  pub data LocalTree : Type 0 where
    -- `val x = e`
    local_val : ℕ → NamedTree → LocalTree
    -- `val rec x : c = e and ..`, or `fun ..`
    local_rec : ℕ → NamedListTree → LocalTree

  -- the declarations of a `let`, in order
  pub data LocalsTree : Type 0 where
    no_locals : LocalsTree
    more_locals : LocalTree → LocalsTree → LocalsTree

  -- what stands in an element, or in an XML literal
  pub data NodeTree : Type 0 where
    -- a text
    node_run : ℕ → (List ℕ) → NodeTree
    -- `{e}`, at its brace; `{[e]}` is the basis value `txt` of the term.
    node_exp : ℕ → ExpTree → NodeTree
    -- `<name{c} ..>..</name>`
    node_element : ℕ → (List ℕ) → (Option ConTree) → AttributesTree → NodesTree → NodeTree

  -- nodes in order
  pub data NodesTree : Type 0 where
    no_nodes : NodesTree
    more_nodes : NodeTree → NodesTree → NodesTree

  -- an attribute of an element
  pub data AttributeTree : Type 0 where
    attribute : Word → ExpTree → AttributeTree

  -- the attributes of an element, as written
  pub data AttributesTree : Type 0 where
    no_attributes : AttributesTree
    more_attributes : AttributeTree → AttributesTree → AttributesTree

-- con x :: k = c
pub record TypeDeclTree : Type 0 where
  pub at : ℕ
  pub name : Word
  pub kind : Option Kd
  pub con : ConTree

-- a constructor of a datatype, and what it holds
pub record BuilderTree : Type 0 where
  pub name : Word
  pub holds : Option ConTree

pub record DatatypeTree : Type 0 where
  pub at : ℕ
  pub name : Word
  pub parameters : List Word
  pub builders : List BuilderTree

-- a table with the columns of its key
pub record KeyedTree : Type 0 where
  pub at : ℕ
  pub name : Word
  pub con : ConTree
  pub key : List Word

-- a name with a type: a cookie, or a value of an interface
pub record SignedTree : Type 0 where
  pub at : ℕ
  pub name : Word
  pub con : ConTree

-- a declaration; a module is a list of them
pub data DeclTree : Type 0 where
  decl_value : LocalTree → DeclTree
  decl_con : TypeDeclTree → DeclTree
  decl_datatype : DatatypeTree → DeclTree
  decl_table : KeyedTree → DeclTree
  decl_sequence : ℕ → Word → DeclTree
  decl_cookie : SignedTree → DeclTree
