-- Examples of guided terms, worked out: a call with an inserted constructor, one with an instance, one with an argument
-- that waits for another, a function that has no type, a case, an XML literal, and a row that is matched.
use Rattle.std.specs.Prelude.{ℕ, pos, true, false, [], ◌∷◌, ◌++◌, Some, None, codes}
use Rattle.con_terms.specs.Trees.{types, row_of, Cn, var, arrow, poly, record_of, app, name, row, cat, Prs, no_pairs, pair}
use Rattle.con_terms.specs.Trees as con_tree
use Rattle.con_terms.specs.declared.place.Place.{Place}
use Rattle.core_terms.specs.declared.basis.BasisName.TheVariants.{Show, ShowInt, Cdata}
use Rattle.core_terms.specs.declared.exp.ConOrigin.TheVariants.{Inserted}
use Rattle.core_terms.specs.declared.exp.Sigil.TheVariants.{Plain}
use Rattle.core_terms.specs.Datatypes.{basis_datatypes}
use Rattle.core_terms.specs.Names.{basis_texts, bool_name, body_context}
use Rattle.core_terms.specs.Trees.{pattern, is_bare, binds, Ex, node, Fo, bound, top, basis, number, text, fn, call, case_of, fields_of, folder, literal, with_term, with_con, a_node}
use Rattle.core_terms.specs.Trees as core
use Rattle.core_terms.specs.Types.{int_type, string_type, bool_type, type_row, no_types, unit_row, body_type, for_type}
use Rattle.core_typing.specs.Scopes.{top_scope}
use Rattle.plain_tree.specs.declared.names.BasisBuilder.TheVariants as truth
use Rattle.plain_tree.specs.declared.names.Builder.TheVariants as builder
use Rattle.plain_tree.specs.declared.names.Sigil.TheVariants.{Nothing}
use Rattle.plain_tree.specs.declared.names.Label.TheVariants as label
use Rattle.plain_tree.specs.Trees.{ConTree, con, con_label, pat, pat_bind, pat_bare, arg_pat, ExpTree, exp, exp_int, exp_name, exp_call, exp_fn, exp_case, exp_rec, exp_words, exp_xml, field, no_fields, more_fields, item_term, no_items, more_items, branch, no_branches, more_branches, node_run, no_nodes, more_nodes}
use Rattle.source_names.specs.Scopes.{Words, at_top, begin_module, declare_value, nothing_declared}
use Rattle.guided_terms.specs.Guided.{Guided}
use Rattle.guided_terms.specs.Heres.{Here, with_values}
use Rattle.guided_terms.specs.Matching.{Matches}
use Rattle.guided_terms.specs.Wanted.{nothing_ever, HasNoType}
use Rattle.unknowns.specs.Unknowns.{slot}
use Rattle.unknowns.specs.Unknowns as unknown

-- a module that declares fun id [t ::: Type] (x : t) : t = x
abbrev pub with_id : Here
with_id = record {
  names = at_top (record { texts = basis_texts ++ codes "x" ∷ codes "A" ∷ codes "B" ∷ []; effects = []; folders = [] })
      (declare_value (codes "id") (begin_module (codes "main") nothing_declared));
  types = top_scope (for_type (arrow (var 0) (var 0)) ∷ []) basis_datatypes [] 0;
}

-- under b : bool
abbrev pub with_truth : Here
with_truth = with_values (codes "b" ∷ []) (bool_type ∷ []) with_id

-- sources
abbrev pub named : Words → ExpTree
named x = exp 0 (exp_name Nothing (record { modules = []; name = x }))

abbrev pub digit : ℕ → ExpTree
digit n = exp 5 (exp_int n)

abbrev pub applied_to : Words → ExpTree → ExpTree
applied_to f e = exp 0 (exp_call (named f) (more_items (item_term e) no_items))

-- terms, at a place that doesn't matter
abbrev pub anywhere : Place
anywhere = record { file = 0; at = 0 }

abbrev pub said : Fo → Ex
said f = node anywhere false f

abbrev pub three : Ex
three = said (number (pos 3))

-- id 3 is id [int] 3
abbrev pub IdOfThree : Type 0
IdOfThree = Guided with_id nothing_ever (applied_to (codes "id") (digit 3))
    (said (call (said (top 0)) Plain (with_con anywhere Inserted int_type (with_term three core.no_items)))) int_type

-- show 3 is show [int] show_int 3
abbrev pub ShowOfThree : Type 0
ShowOfThree = Guided with_id nothing_ever (applied_to (codes "show") (digit 3))
    (said (call (said (basis Show)) Plain (with_con anywhere Inserted int_type
    (with_term (node anywhere true (basis ShowInt)) (with_term three core.no_items))))) string_type

-- case b of True => 3 | False => 4 is an int
abbrev pub CaseOfTruth : Type 0
CaseOfTruth = Guided with_truth nothing_ever
    (exp 0 (exp_case (named (codes "b"))
    (branch 10 (pat 10 (pat_bare (builder.Basis truth.True))) (digit 3))
    (more_branches (branch 20 (pat 20 (pat_bare (builder.Basis truth.False))) (digit 4)) no_branches)))
    (said (case_of (said (bound 0)) anywhere (pattern anywhere (is_bare bool_name 1)) three
    (core.branch anywhere (pattern anywhere (is_bare bool_name 0)) (said (number (pos 4))) core.no_branches))) int_type

-- x, the name behind those of the basis
abbrev pub x_name : ℕ
x_name = 36

-- under f : t ::: Type -> (t -> t) -> t -> t
abbrev pub with_function : Here
with_function = with_values (codes "f" ∷ [])
    (for_type (arrow (arrow (var 0) (var 0)) (arrow (var 0) (var 0))) ∷ []) with_id

-- fn x => x
abbrev pub identity_source : ExpTree
identity_source = exp 3 (exp_fn (arg_pat (pat 6 (pat_bind (codes "x"))) ∷ []) (named (codes "x")))

-- alone it has no type: nothing tells that of its parameter
abbrev pub FunctionIsOpen : Type 0
FunctionIsOpen = HasNoType (λ e t. Guided with_id nothing_ever identity_source e t)

-- f (fn x => x) 3 is f [int] (fn x : int => x) 3: its first argument has no type before the second tells one
abbrev pub FunctionThatWaits : Type 0
FunctionThatWaits = Guided with_function nothing_ever
    (exp 0 (exp_call (named (codes "f"))
    (more_items (item_term identity_source) (more_items (item_term (digit 3)) no_items))))
    (said (call (said (bound 0)) Plain (with_con anywhere Inserted int_type
    (with_term (said (fn (pattern anywhere (binds x_name int_type)) int_type (said (bound 0))))
    (with_term three core.no_items))))) int_type

-- <xml>a</xml> stands in a body
abbrev pub TextInBody : Type 0
TextInBody = Guided with_id nothing_ever (exp 0 (exp_xml (more_nodes (node_run 5 (codes "a")) no_nodes)))
    (said (literal (unit_row (body_context ∷ [])) no_types (a_node no_types
    (said (call (said (basis Cdata)) Plain (with_con anywhere Inserted (unit_row (body_context ∷ []))
    (with_con anywhere Inserted no_types (with_term (said (text (codes "a"))) core.no_items)))))
    core.no_nodes))) body_type

-- a field of a literal name
abbrev pub with_name : ℕ → Cn → Cn
with_name n t = row types (pair (name n) t no_pairs)

-- Matching $([A = t] ++ r) with ${B : int, A : string, C : bool} finds string for t, and [B = int] ++ [C = bool] for r,
-- in the order of what is matched. The names A, B and C are 0, 1 and 2; r is the innermost unknown.
abbrev pub RestKeepsItsOrder : Type 0
RestKeepsItsOrder = Matches (slot (row_of types) None (slot types None unknown.nothing))
    (record_of (cat (with_name 0 (var 1)) (var 0)))
    (record_of (type_row (pair (name 1) int_type (pair (name 0) string_type (pair (name 2) bool_type no_pairs)))))
    (slot (row_of types) (Some (cat (with_name 1 int_type) (with_name 2 bool_type)))
    (slot types (Some string_type) unknown.nothing))

-- the names A and B, behind x
abbrev pub a_name : ℕ
a_name = 37

abbrev pub b_name : ℕ
b_name = 38

-- the symbol of folder over {Type}, and a scope that has it
abbrev pub folder_symbol : ℕ
folder_symbol = 100

-- under count : r ::: {Type} -> folder r -> $r -> int
abbrev pub with_count : Here
with_count = with_values (codes "count" ∷ [])
    (poly true (row_of types) (arrow (app (con_tree.basic folder_symbol) (var 0))
    (arrow (record_of (var 0)) int_type)) ∷ [])
    (record { names = with_id.names; types = top_scope [] basis_datatypes ((types, folder_symbol) ∷ []) 0 })

-- B = int, A = string, in this order
abbrev pub b_and_a : Prs
b_and_a = pair (name b_name) int_type (pair (name a_name) string_type no_pairs)

-- #A, #B
abbrev pub label_of : Words → ConTree
label_of x = con 0 (con_label (label.Word x))

-- count {B = 3, A = "a"} is count [[B = int, A = string]] (folder [B, A]) {B = 3, A = "a"}: the folder lists the fields
-- in the written order
abbrev pub FolderInWrittenOrder : Type 0
FolderInWrittenOrder = Guided with_count nothing_ever
    (applied_to (codes "count") (exp 7 (exp_rec
    (more_fields (field 8 (label_of (codes "B")) (digit 3))
    (more_fields (field 9 (label_of (codes "A")) (exp 10 (exp_words (codes "a")))) no_fields)))))
    (said (call (said (bound 0)) Plain (with_con anywhere Inserted (row types b_and_a)
    (with_term (node anywhere true (folder types b_and_a))
    (with_term (said (fields_of (core.field anywhere (name b_name) three
    (core.field anywhere (name a_name) (said (text (codes "a"))) core.no_fields)))) core.no_items))))) int_type
