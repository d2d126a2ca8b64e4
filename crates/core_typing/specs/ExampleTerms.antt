-- Terms for the examples, as the elaborator would make them of their sources.
use Rattle.std.specs.Prelude.{ℕ, pos, true, false, List, [], ◌∷◌, ◌++◌, None, codes}
use Rattle.con_terms.specs.Trees.{types, units, names, row_of, Cn, var, basic, arrow, record_of, app, lambda, unit_con, name, row, cat, Prs, no_pairs, pair}
use Rattle.con_terms.specs.Equal.{mapped}
use Rattle.con_terms.specs.declared.place.Place.{Place}
use Rattle.core_terms.specs.declared.exp.Sigil.TheVariants.{Plain, At}
use Rattle.core_terms.specs.declared.exp.ConOrigin.TheVariants.{Written, Inserted}
use Rattle.core_terms.specs.declared.basis.BasisName.TheVariants.{Strcat, Divide, NumInt, Txt, ShowString}
use Rattle.xml_trees.specs.declared.source_name.TagName.TheVariants as word
use Rattle.xml_trees.specs.declared.source_name.AttrName.TheVariants as attr
use Rattle.core_terms.specs.Names.{basis_texts, option_name, list_name, html_context, body_context}
use Rattle.core_terms.specs.Types.{int_type, string_type, unit_type, type_row, no_types, one_field, unit_row}
use Rattle.core_terms.specs.Datatypes.{basis_datatypes}
use Rattle.core_typing.specs.Scopes.{Sc, top_scope}
use Rattle.core_terms.specs.Trees.{Pt, pattern, any, binds, is_bare, is_holding, has_fields, no_pat_fields, pat_field, Ex, node, Fo, bound, top, basis, fold_over, number, text, fn, fn_con, fn_guard, call, case_of, ascribed, fields_of, select, concat, without, folder, element, Its, no_items, with_term, with_con, no_branches, no_fields, field, tagged, no_attributes, attribute, no_nodes, a_node}

-- a place in the first file
abbrev pub byte : ℕ → Place
byte n = record { file = 0; at = n }

-- a term that was written, at a place that doesn't matter, and one that was inserted
abbrev pub said : Fo → Ex
said f = node (byte 0) false f

abbrev pub put_in : Fo → Ex
put_in f = node (byte 0) true f

abbrev pub with_added : Cn → Its → Its
with_added c is = with_con (byte 0) Inserted c is

-- the names A and B behind those of the basis, and x for what binders bind
abbrev pub a_name : ℕ
a_name = 36

abbrev pub b_name : ℕ
b_name = 37

abbrev pub x_name : ℕ
x_name = 38

-- and r and s behind them, for rows
abbrev pub r_name : ℕ
r_name = 39

abbrev pub s_name : ℕ
s_name = 40

abbrev pub example_texts : List (List ℕ)
example_texts = basis_texts ++ codes "A" ∷ codes "B" ∷ codes "x" ∷ codes "r" ∷ codes "s" ∷ []

-- a scope without anything but the basis
abbrev pub basis_scope : Sc
basis_scope = top_scope [] basis_datatypes [] 0

-- x : t
abbrev pub called_x : Cn → Pt
called_x t = pattern (byte 0) (binds x_name t)

-- 1 / 0
abbrev pub one_by_zero : Ex
one_by_zero = said (call (said (basis Divide)) Plain (with_added int_type
    (with_term (put_in (basis NumInt)) (with_term (said (number (pos 1)))
    (with_term (said (number (pos 0))) no_items)))))

-- fun spin () = spin ()
abbrev pub spin_body : Ex
spin_body = said (call (said (top 0)) Plain (with_term (said (fields_of no_fields)) no_items))

abbrev pub spin : Ex
spin = said (fn (pattern (byte 0) (has_fields no_pat_fields false)) unit_type spin_body)

-- $(map (fn t => string) r)
abbrev pub strings : Cn → Cn
strings r = record_of (mapped types types (lambda types string_type) r)

-- nm of [nm :: Name] [t :: Type] [r :: {Type}]
abbrev pub nm_field : Cn
nm_field = one_field (var 2) (var 1)

-- fn [nm :: Name] [t :: Type] [r :: {Type}] [[nm] ~ r] (acc : $(map (fn t => string) r) -> string) (x : $(map (fn t
-- => string) ([nm = t] ++ r))) => x.nm ^ acc (x -- nm)
abbrev pub joins_fields : Ex
joins_fields =
    said (fn_con x_name false true names (said
    (fn_con x_name false true types (said (fn_con x_name false true (row_of types)
    (said (fn_guard (row units (pair (var 2) unit_con no_pairs)) (var 0)
    (said (fn (called_x (arrow (strings (var 0)) string_type)) (arrow (strings (var 0)) string_type)
    (said (fn (called_x (strings (cat nm_field (var 0)))) (strings (cat nm_field (var 0)))
    (said (call (said (basis Strcat)) Plain
    (with_term (said (select (said (bound 0)) (var 2)))
    (with_term (said (call (said (bound 1)) Plain (with_term (said (without (said (bound 0)) (var 2))) no_items)))
    no_items)))))))))))))))

-- fn (x : {}) => ""
abbrev pub no_fields_joined : Ex
no_fields_joined = said (fn (called_x unit_type) unit_type (said (text [])))

-- fun names [r :: {Type}] (fl : folder r) (x : $(map (fn t => string) r)) : string = @fold [fn r :: {Type} => $(map
-- (fn t => string) r) -> string] (..) (fn (x : {}) => "") fl x, where s is the symbol of folder
abbrev pub joined_names : ℕ → Ex
joined_names s =
    said (fn_con x_name false true (row_of types)
    (said (fn (called_x (app (basic s) (var 0))) (app (basic s) (var 0))
    (said (fn (called_x (strings (var 0))) (strings (var 0))
    (said (ascribed (said (call (said (fold_over types)) At
    (with_con (byte 0) Written (lambda (row_of types) (arrow (strings (var 0)) string_type))
    (with_term joins_fields
    (with_term no_fields_joined
    (with_added (var 0)
    (with_term (said (bound 1))
    (with_term (said (bound 0)) no_items)))))))) string_type)))))))

-- B = int and A = string, in this order and in the other
abbrev pub b_then_a : Prs
b_then_a = pair (name b_name) int_type (pair (name a_name) string_type no_pairs)

abbrev pub a_then_b : Prs
a_then_b = pair (name a_name) string_type (pair (name b_name) int_type no_pairs)

-- names [[..]] {B = "B", A = "A"}, with the folder that is inserted for a row
abbrev pub names_at : Prs → Ex
names_at ps =
    said (call (said (top 0)) Plain (with_con (byte 0) Written (type_row ps) (with_term (put_in (folder types ps))
    (with_term (said
    (fields_of (field (byte 0) (name b_name) (said (text (codes "B")))
    (field (byte 0) (name a_name) (said (text (codes "A"))) no_fields)))) no_items))))

-- {A = 1} ++ {A = 2}, as it stands behind val x = in a file
abbrev pub clashing : Ex
clashing = node (byte 8) false (concat
    (node (byte 8) false (fields_of
    (field (byte 9) (name a_name) (node (byte 13) false (number (pos 1))) no_fields)))
    (node (byte 19) false (fields_of
    (field (byte 20) (name a_name) (node (byte 24) false (number (pos 2))) no_fields))))

-- case o of Some n => n, behind fun f (o : option int) : int =
abbrev pub some_pattern : Pt
some_pattern = pattern (byte 41) (is_holding option_name 1 (pattern (byte 46) (binds x_name int_type)))

abbrev pub without_none : Ex
without_none = node (byte 31) false (case_of (node (byte 36) false (bound 0)) (byte 41) some_pattern (node (byte 51)
    false (bound 0)) no_branches)

abbrev pub option_int : Cn
option_int = app (basic option_name) int_type

-- {nm = None, ...} and {nm = Some _, ...}, at $([nm = option int] ++ r), under nm :: Name and r :: {Type}
abbrev pub at_name : Pt → Pt
at_name q = pattern (byte 0) (has_fields (pat_field (byte 0) (var 1) q no_pat_fields) true)

abbrev pub none_at_name : Pt
none_at_name = at_name (pattern (byte 0) (is_bare option_name 0))

abbrev pub some_at_name : Pt
some_at_name = at_name (pattern (byte 0) (is_holding option_name 1 (pattern (byte 0) any)))

abbrev pub option_at_name : Cn
option_at_name = record_of (cat (one_field (var 1) option_int) (var 0))

-- fn t => option t, fn t => list t, and fn t => option (list t)
abbrev pub options : Cn
options = lambda types (app (basic option_name) (var 0))

abbrev pub lists : Cn
lists = lambda types (app (basic list_name) (var 0))

abbrev pub option_lists : Cn
option_lists = lambda types (app (basic option_name) (app (basic list_name) (var 0)))

-- fun f [r :: {Type}] (x : $(map (fn t => option t) (map (fn t => list t) r))) : $(map (fn t => option (list t)) r) = x
abbrev pub maps_twice : Cn → Cn
maps_twice r = record_of (mapped types types options (mapped types types lists r))

abbrev pub maps_once : Cn → Cn
maps_once r = record_of (mapped types types option_lists r)

abbrev pub map_of_map : Ex
map_of_map =
    said (fn_con x_name false true (row_of types)
    (said (fn (called_x (maps_twice (var 0))) (maps_twice (var 0))
    (said (ascribed (said (bound 0)) (maps_once (var 0)))))))

-- the body of fun g [r :: {Type}] [s :: {Type}] [r ~ s] (x : $(r ++ s)) : $r = x, with its result's type
abbrev pub too_many_fields : Ex
too_many_fields = node (byte 65) false (ascribed (node (byte 65) false (bound 0)) (record_of (var 1)))

-- <body><p title={"<b>&\""}>{["<b>&\""]}</p></body>
abbrev pub marked_up : List ℕ
marked_up = codes "<b>&\""

abbrev pub in_html_row : Cn
in_html_row = unit_row (html_context ∷ [])

abbrev pub in_body_row : Cn
in_body_row = unit_row (body_context ∷ [])

abbrev pub spliced : Ex
spliced = said (call (said (basis Txt)) Plain (with_added string_type
    (with_added in_body_row (with_added no_types
    (with_term (put_in (basis ShowString)) (with_term (said (text marked_up)) no_items))))))

abbrev pub paragraph : Ex
paragraph = said (element (tagged word.P None in_body_row no_types
    (attribute (byte 0) attr.Title (said (text marked_up)) no_attributes) (a_node no_types spliced no_nodes)))

abbrev pub whole_body : Ex
whole_body = said (element (tagged word.Body None in_html_row no_types no_attributes
    (a_node no_types paragraph no_nodes)))
