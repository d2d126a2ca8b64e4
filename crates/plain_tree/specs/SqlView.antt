-- The trees that queries and changes of tables of the program are.
use Rattle.std.specs.Prelude.{ℕ, Bool, List, [], ◌∷◌, Option, Some, None, map}
use Rattle.plain_tree.specs.Trees.{QueryTree, query, QueryFormTree, query_int, query_words, query_bool, query_field, query_column, query_splice, query_exp, query_not, query_neg, query_compare, query_chain, QueryLinkTree, query_link, QueryLinksTree, no_query_links, more_query_links, SqlTree, sql_select, sql_insert, sql_update, sql_delete, sql_where, SelectionTree, select_all, select_items, QueriesTree, no_queries, more_queries, SqlItemTree, sql_column, sql_star, sql_row, sql_named, SqlItemsTree, no_sql_items, more_sql_items, TableRefTree, table_name, table_exp, SourceTree, source, SourcesTree, no_sources, more_sources, AssignmentTree, assignment, AssignmentsTree, no_assignments, more_assignments, OrderTree, order, OrdersTree, no_orders, more_orders, CountTree, count_int, count_exp, MaybeQueryTree, no_query, a_query, MaybeCountTree, no_count, a_count}
use Rattle.plain_tree.specs.ConView.{con_tree}
use Rattle.plain_tree.specs.declared.sql.QueryForm.{QueryForm}
use Rattle.plain_tree.specs.declared.sql.Query.{Query}
use Rattle.plain_tree.specs.declared.sql.QueryLink.{QueryLink}
use Rattle.plain_tree.specs.declared.sql.QueryLinks.{QueryLinks}
use Rattle.plain_tree.specs.declared.sql.QueryForm.TheOpen.{QueryForm-F, Query-F, QueryLink-F, QueryLinks-F}
use Rattle.plain_tree.specs.declared.sql.QueryForm.TheFolds.{fold-QueryForm, fold-Query, fold-QueryLink, fold-QueryLinks}
use Rattle.plain_tree.specs.declared.sql.Sql.{Sql}
use Rattle.plain_tree.specs.declared.sql.Sql.TheVariants as sql
use Rattle.plain_tree.specs.declared.sql.Selection.{Selection}
use Rattle.plain_tree.specs.declared.sql.Selection.TheVariants as selection
use Rattle.plain_tree.specs.declared.sql.Queries.{Queries}
use Rattle.plain_tree.specs.declared.sql.SqlItem.{SqlItem}
use Rattle.plain_tree.specs.declared.sql.SqlItem.TheVariants as sql_item
use Rattle.plain_tree.specs.declared.sql.SqlItems.{SqlItems}
use Rattle.plain_tree.specs.declared.sql.TableRef.{TableRef}
use Rattle.plain_tree.specs.declared.sql.TableRef.TheVariants as table_ref
use Rattle.plain_tree.specs.declared.sql.Source.{Source}
use Rattle.plain_tree.specs.declared.sql.Sources.{Sources}
use Rattle.plain_tree.specs.declared.sql.Assignment.{Assignment}
use Rattle.plain_tree.specs.declared.sql.Assignments.{Assignments}
use Rattle.plain_tree.specs.declared.sql.Order.{Order}
use Rattle.plain_tree.specs.declared.sql.Orders.{Orders}
use Rattle.plain_tree.specs.declared.sql.Count.{Count}
use Rattle.plain_tree.specs.declared.sql.Count.TheVariants as count

abbrev pub query_links_from : List QueryLinkTree → QueryLinksTree
query_links_from [] = no_query_links
query_links_from (x ∷ xs) = more_query_links x (query_links_from xs)

abbrev pub query_form_step : QueryForm-F QueryFormTree QueryTree QueryLinkTree QueryLinksTree → QueryFormTree
query_form_step (QueryForm-F.Int x0) = query_int x0
query_form_step (QueryForm-F.Words x0) = query_words x0
query_form_step (QueryForm-F.Bool x0) = query_bool x0
query_form_step (QueryForm-F.Field x0 x1) = query_field x0 x1
query_form_step (QueryForm-F.Column x0) = query_column x0
query_form_step QueryForm-F.Splice = query_splice
query_form_step QueryForm-F.Exp = query_exp
query_form_step (QueryForm-F.Not x0) = query_not x0.value
query_form_step (QueryForm-F.Neg x0) = query_neg x0.value
query_form_step (QueryForm-F.Compare x0 x1 x2 x3) = query_compare x0 x1 x2.value x3.value
query_form_step (QueryForm-F.Chain x0 x1) = query_chain x0.value x1

abbrev pub query_step : Query-F QueryFormTree QueryTree QueryLinkTree QueryLinksTree → QueryTree
query_step x = query x.at x.form

abbrev pub query_link_step : QueryLink-F QueryFormTree QueryTree QueryLinkTree QueryLinksTree → QueryLinkTree
query_link_step x = query_link x.at x.operator x.right

abbrev pub query_links_step : QueryLinks-F QueryFormTree QueryTree QueryLinkTree QueryLinksTree → QueryLinksTree
query_links_step x = query_links_from x.items.items

abbrev pub query_form_tree : QueryForm → QueryFormTree
query_form_tree = fold-QueryForm QueryFormTree QueryTree QueryLinkTree QueryLinksTree
    query_form_step query_step query_link_step query_links_step

abbrev pub query_tree : Query → QueryTree
query_tree = fold-Query QueryFormTree QueryTree QueryLinkTree QueryLinksTree
    query_form_step query_step query_link_step query_links_step

abbrev pub query_link_tree : QueryLink → QueryLinkTree
query_link_tree = fold-QueryLink QueryFormTree QueryTree QueryLinkTree QueryLinksTree
    query_form_step query_step query_link_step query_links_step

abbrev pub query_links_tree : QueryLinks → QueryLinksTree
query_links_tree = fold-QueryLinks QueryFormTree QueryTree QueryLinkTree QueryLinksTree
    query_form_step query_step query_link_step query_links_step

abbrev pub sql_item_tree : SqlItem → SqlItemTree
sql_item_tree (sql_item.Column x0 x1 x2) = sql_column x0 x1 x2
sql_item_tree (sql_item.Star x0 x1) = sql_star x0 x1
sql_item_tree (sql_item.Row x0 x1 x2) = sql_row x0 x1 (con_tree x2)
sql_item_tree (sql_item.Named x0 x1) = sql_named (query_tree x0) x1

abbrev pub sql_items_from : List SqlItemTree → SqlItemsTree
sql_items_from [] = no_sql_items
sql_items_from (x ∷ xs) = more_sql_items x (sql_items_from xs)

abbrev pub sql_items_tree : SqlItems → SqlItemsTree
sql_items_tree x = sql_items_from (map sql_item_tree x.items.items)

abbrev pub selection_tree : Selection → SelectionTree
selection_tree (selection.All x0) = select_all x0
selection_tree (selection.Items x0) = select_items (sql_items_tree x0)

abbrev pub table_ref_tree : TableRef → TableRefTree
table_ref_tree (table_ref.Name x0 x1) = table_name x0 x1
table_ref_tree (table_ref.Exp x0) = table_exp x0

abbrev pub source_tree : Source → SourceTree
source_tree x = source (table_ref_tree x.table) x.name

abbrev pub sources_from : List SourceTree → SourcesTree
sources_from [] = no_sources
sources_from (x ∷ xs) = more_sources x (sources_from xs)

abbrev pub sources_tree : Sources → SourcesTree
sources_tree x = sources_from (map source_tree x.items.items)

abbrev pub order_tree : Order → OrderTree
order_tree x = order (query_tree x.by) x.down

abbrev pub orders_from : List OrderTree → OrdersTree
orders_from [] = no_orders
orders_from (x ∷ xs) = more_orders x (orders_from xs)

abbrev pub orders_tree : Orders → OrdersTree
orders_tree x = orders_from (map order_tree x.items.items)

abbrev pub count_tree : Count → CountTree
count_tree (count.Int x0 x1) = count_int x0 x1
count_tree (count.Exp x0) = count_exp x0

abbrev pub queries_from : List QueryTree → QueriesTree
queries_from [] = no_queries
queries_from (x ∷ xs) = more_queries x (queries_from xs)

abbrev pub queries_tree : Queries → QueriesTree
queries_tree x = queries_from (map query_tree x.items.items)

abbrev pub assignment_tree : Assignment → AssignmentTree
assignment_tree x = assignment x.column (query_tree x.value)

abbrev pub assignments_from : List AssignmentTree → AssignmentsTree
assignments_from [] = no_assignments
assignments_from (x ∷ xs) = more_assignments x (assignments_from xs)

abbrev pub assignments_tree : Assignments → AssignmentsTree
assignments_tree x = assignments_from (map assignment_tree x.items.items)

abbrev pub maybe_query : Option Query → MaybeQueryTree
maybe_query None = no_query
maybe_query (Some q) = a_query (query_tree q)

abbrev pub maybe_count : Option Count → MaybeCountTree
maybe_count None = no_count
maybe_count (Some c) = a_count (count_tree c)

abbrev pub sql_tree : Sql → SqlTree
sql_tree (sql.Select x0 x1 x2 x3 x4 x5) =
    sql_select (selection_tree x0) (sources_tree x1) (maybe_query x2) (orders_tree x3) (maybe_count x4) (maybe_count x5)
sql_tree (sql.Insert x0 x1 x2) = sql_insert (table_ref_tree x0) x1 (queries_tree x2)
sql_tree (sql.Update x0 x1 x2) = sql_update (table_ref_tree x0) (assignments_tree x1) (query_tree x2)
sql_tree (sql.Delete x0 x1) = sql_delete (table_ref_tree x0) (query_tree x1)
sql_tree (sql.Where x0) = sql_where (query_tree x0)
