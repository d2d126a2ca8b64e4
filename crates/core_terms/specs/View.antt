-- The trees that values of the program are.
use Rattle.std.specs.Prelude.{ℕ, Bool, List, [], ◌∷◌, Option, Some, None, map}
use Rattle.con_terms.specs.Trees.{Kd, Cn}
use Rattle.con_terms.specs.View.{kind_tree, con_tree, pairs_tree}
use Rattle.con_terms.specs.declared.place.Place.{Place}
use Rattle.con_terms.specs.declared.con.Con.{Con}
use Rattle.core_terms.specs.Trees.{Pt, pattern, Pf, any, binds, is_number, is_text, is_bare, is_holding, has_fields, annotated, Pfs, no_pat_fields, pat_field, Ex, node, Fo, bound, top, foreign, basis, fold_over, number, text, built, fn, fn_con, fn_guard, call, let_in, case_of, ascribed, fields_of, select, concat, without, without_row, folder, element, literal, sql, Sk, blank, Its, no_items, with_term, with_con, with_guard, Nms, no_named, named, Los, no_locals, local_val, local_rec, Brs, no_branches, branch, Fds, no_fields, field, El, tagged, Ats, no_attributes, attribute, Xs, no_nodes, a_node, Exs, no_exps, an_exp, It, a_term, a_con, a_guard, Lo, a_val, a_rec, Cd, Dt, Th, a_table, a_sequence, a_cookie, a_given, De, val, vals, con_is, datatype, thing, Ru, Pg}
use Rattle.xml_trees.specs.declared.source_name.AttrName.{AttrName}
use Rattle.core_terms.specs.declared.pat.Pat.{Pat}
use Rattle.core_terms.specs.declared.pat.PatForm.{PatForm}
use Rattle.core_terms.specs.declared.pat.PatForm.TheOpen.{PatForm-F, Pat-F, PatField-F, PatFields-F}
use Rattle.core_terms.specs.declared.pat.PatForm.TheFolds.{fold-PatForm, fold-Pat, fold-PatFields}
use Rattle.core_terms.specs.declared.pat.PatFields.{PatFields}
use Rattle.core_terms.specs.declared.pat.Pats.{Pats}
use Rattle.core_terms.specs.declared.exp.Exp.{Exp}
use Rattle.core_terms.specs.declared.exp.Exps.{Exps}
use Rattle.core_terms.specs.declared.exp.Nodes.{Nodes}
use Rattle.core_terms.specs.declared.exp.InputName.{InputName}
use Rattle.core_terms.specs.declared.exp.Form.{Form}
use Rattle.core_terms.specs.declared.exp.Items.{Items}
use Rattle.core_terms.specs.declared.exp.Branches.{Branches}
use Rattle.core_terms.specs.declared.exp.Fields.{Fields}
use Rattle.core_terms.specs.declared.exp.Locals.{Locals}
use Rattle.core_terms.specs.declared.exp.Named.{Named}
use Rattle.core_terms.specs.declared.exp.NamedList.{NamedList}
use Rattle.core_terms.specs.declared.exp.Attributes.{Attributes}
use Rattle.core_terms.specs.declared.exp.Form.TheOpen.{Form-F, Item-F, Local-F, Attribute-F, Attributes-F, Branch-F, Branches-F, Element-F, Exp-F, Exps-F, Field-F, Fields-F, Items-F, Literal-F, Locals-F, Named-F, NamedList-F, Node-F, Nodes-F}
use Rattle.core_terms.specs.declared.exp.Form.TheFolds.{fold-Form, fold-Attributes, fold-Branches, fold-Exp, fold-Exps, fold-Fields, fold-Items, fold-Locals, fold-Named, fold-NamedList, fold-Nodes}
use Rattle.core_terms.specs.declared.sql.Skeleton.{Skeleton}
use Rattle.core_terms.specs.declared.names.Symbols.{Symbols}
use Rattle.core_terms.specs.declared.decl.Sort.{Sort}
use Rattle.core_terms.specs.declared.decl.Sort.TheVariants as sort
use Rattle.core_terms.specs.declared.decl.Column.{Column}
use Rattle.core_terms.specs.declared.decl.Decl.{Decl}
use Rattle.core_terms.specs.declared.decl.Decl.TheVariants as decl
use Rattle.core_terms.specs.declared.decl.Decls.{Decls}
use Rattle.core_terms.specs.declared.decl.Datatype.{Datatype}
use Rattle.core_terms.specs.declared.decl.Constructor.{Constructor}
use Rattle.core_terms.specs.declared.program.Program.{Program}
use Rattle.core_terms.specs.declared.program.Rule.{Rule}
use Rattle.core_terms.specs.declared.program.ForeignName.{ForeignName}
use Rattle.core_terms.specs.declared.program.FolderName.{FolderName}

-- patterns
abbrev pub PatFieldTree : Type 0
PatFieldTree = Place × Cn × Pt

abbrev pub pat_fields_from : List PatFieldTree → Pfs
pat_fields_from [] = no_pat_fields
pat_fields_from (f ∷ fs) = pat_field f.0 f.1 f.2 (pat_fields_from fs)

abbrev pub pat_form_step : PatForm-F Pf Pt PatFieldTree Pfs → Pf
pat_form_step PatForm-F.Any = any
pat_form_step (PatForm-F.Bind x t) = binds x.number (con_tree t)
pat_form_step (PatForm-F.Int z) = is_number z
pat_form_step (PatForm-F.Words t) = is_text t
pat_form_step (PatForm-F.Build s j None) = is_bare s.number j
pat_form_step (PatForm-F.Build s j (Some p)) = is_holding s.number j p.value
pat_form_step (PatForm-F.Rec fs open_row) = has_fields fs open_row
pat_form_step (PatForm-F.Typed p t) = annotated p.value (con_tree t)

abbrev pub pat_step : Pat-F Pf Pt PatFieldTree Pfs → Pt
pat_step p = pattern p.place p.form

abbrev pub pat_field_step : PatField-F Pf Pt PatFieldTree Pfs → PatFieldTree
pat_field_step f = (f.place, con_tree f.name, f.pat)

abbrev pub pat_fields_step : PatFields-F Pf Pt PatFieldTree Pfs → Pfs
pat_fields_step fs = pat_fields_from fs.items.items

abbrev pub pat_tree : Pat → Pt
pat_tree = fold-Pat Pf Pt PatFieldTree Pfs pat_form_step pat_step pat_field_step pat_fields_step

abbrev pub pat_form_tree : PatForm → Pf
pat_form_tree = fold-PatForm Pf Pt PatFieldTree Pfs pat_form_step pat_step pat_field_step pat_fields_step

abbrev pub pat_fields_tree : PatFields → Pfs
pat_fields_tree = fold-PatFields Pf Pt PatFieldTree Pfs pat_form_step pat_step pat_field_step pat_fields_step

abbrev pub pats_view : Pats → List Pt
pats_view ps = map pat_tree ps.items.items

-- terms
abbrev pub AttributeTree : Type 0
AttributeTree = Place × AttrName × Ex

abbrev pub BranchTree : Type 0
BranchTree = Place × Pt × Ex

abbrev pub FieldTree : Type 0
FieldTree = Place × Cn × Ex

abbrev pub NodeTree : Type 0
NodeTree = Cn × Ex

abbrev pub LiteralTree : Type 0
LiteralTree = Cn × Cn × Xs

abbrev pub NamedTree : Type 0
NamedTree = Place × ℕ × Bool × Cn × Ex

abbrev pub attributes_from : List AttributeTree → Ats
attributes_from [] = no_attributes
attributes_from (a ∷ more) = attribute a.0 a.1 a.2 (attributes_from more)

abbrev pub branches_from : List BranchTree → Brs
branches_from [] = no_branches
branches_from (b ∷ bs) = branch b.0 b.1 b.2 (branches_from bs)

abbrev pub fields_from : List FieldTree → Fds
fields_from [] = no_fields
fields_from (f ∷ fs) = field f.0 f.1 f.2 (fields_from fs)

abbrev pub nodes_from : List NodeTree → Xs
nodes_from [] = no_nodes
nodes_from (x ∷ xs) = a_node x.0 x.1 (nodes_from xs)

abbrev pub exps_from : List Ex → Exs
exps_from [] = no_exps
exps_from (e ∷ es) = an_exp e (exps_from es)

abbrev pub named_from : List NamedTree → Nms
named_from [] = no_named
named_from (n ∷ ns) = named n.0 n.1 n.2 n.3 n.4 (named_from ns)

abbrev pub with_item : It → Its → Its
with_item (a_term e) is = with_term e is
with_item (a_con p a c) is = with_con p a c is
with_item (a_guard p a) is = with_guard p a is

abbrev pub items_from : List It → Its
items_from [] = no_items
items_from (i ∷ is) = with_item i (items_from is)

abbrev pub with_local : Lo → Los → Los
with_local (a_val p n w t e) ls = local_val p n w t e ls
with_local (a_rec ns) ls = local_rec ns ls

abbrev pub locals_from : List Lo → Los
locals_from [] = no_locals
locals_from (l ∷ ls) = with_local l (locals_from ls)

abbrev pub maybe_con : Option Con → Option Cn
maybe_con None = None
maybe_con (Some c) = Some (con_tree c)

abbrev pub maybe_name : Option InputName → Option (Place × Cn)
maybe_name None = None
maybe_name (Some n) = Some (n.place, con_tree n.name)

abbrev pub skeleton_tree : Skeleton → Sk
skeleton_tree s = blank

abbrev pub form_step : Form-F Fo It Lo AttributeTree Ats BranchTree Brs El Ex Exs FieldTree Fds Its LiteralTree Los
    NamedTree Nms NodeTree Xs
    → Fo
form_step (Form-F.Var i) = bound i
form_step (Form-F.Top i) = top i
form_step (Form-F.Foreign i) = foreign i
form_step (Form-F.Basis b) = basis b
form_step (Form-F.Fold k) = fold_over (kind_tree k)
form_step (Form-F.Int z) = number z
form_step (Form-F.Words t) = text t
form_step (Form-F.Build s j) = built s.number j
form_step (Form-F.Fn p t e) = fn (pat_tree p.value) (con_tree t) e.value
form_step (Form-F.FnCon x i w k e) = fn_con x.number i w (kind_tree k) e.value
form_step (Form-F.FnGuard c d e) = fn_guard (con_tree c.value) (con_tree d.value) e.value
form_step (Form-F.Call f s is) = call f.value s is
form_step (Form-F.Let ls e) = let_in ls e.value
form_step (Form-F.Case e b bs) = case_of e.value b.value.0 b.value.1 b.value.2 bs
form_step (Form-F.Typed e t) = ascribed e.value (con_tree t)
form_step (Form-F.Rec fs) = fields_of fs
form_step (Form-F.Proj e c) = select e.value (con_tree c)
form_step (Form-F.Cat e d) = concat e.value d.value
form_step (Form-F.Drop e c) = without e.value (con_tree c)
form_step (Form-F.DropRow e c) = without_row e.value (con_tree c)
form_step (Form-F.Folder k ps) = folder (kind_tree k) (pairs_tree ps)
form_step (Form-F.Element m) = element m.value
form_step (Form-F.Literal l) = literal l.value.0 l.value.1 l.value.2
form_step (Form-F.Sql k es) = sql (skeleton_tree k) es

abbrev pub item_step : Item-F Fo It Lo AttributeTree Ats BranchTree Brs El Ex Exs FieldTree Fds Its LiteralTree Los
    NamedTree Nms NodeTree Xs
    → It
item_step (Item-F.Term e) = a_term e
item_step (Item-F.Con p a c) = a_con p a (con_tree c)
item_step (Item-F.Guard p a) = a_guard p a

abbrev pub local_step : Local-F Fo It Lo AttributeTree Ats BranchTree Brs El Ex Exs FieldTree Fds Its LiteralTree
    Los NamedTree Nms NodeTree Xs
    → Lo
local_step (Local-F.Val n) = a_val n.0 n.1 n.2 n.3 n.4
local_step (Local-F.ValRec ns) = a_rec ns

abbrev pub attribute_step : Attribute-F Fo It Lo AttributeTree Ats BranchTree Brs El Ex Exs FieldTree Fds Its
    LiteralTree Los NamedTree Nms NodeTree Xs
    → AttributeTree
attribute_step a = (a.place, a.name, a.value)

abbrev pub attributes_step : Attributes-F Fo It Lo AttributeTree Ats BranchTree Brs El Ex Exs FieldTree Fds Its
    LiteralTree Los NamedTree Nms NodeTree Xs
    → Ats
attributes_step as' = attributes_from as'.items.items

abbrev pub branch_step : Branch-F Fo It Lo AttributeTree Ats BranchTree Brs El Ex Exs FieldTree Fds Its LiteralTree
    Los NamedTree Nms NodeTree Xs
    → BranchTree
branch_step b = (b.place, pat_tree b.pat, b.body)

abbrev pub branches_step : Branches-F Fo It Lo AttributeTree Ats BranchTree Brs El Ex Exs FieldTree Fds Its
    LiteralTree Los NamedTree Nms NodeTree Xs
    → Brs
branches_step bs = branches_from bs.items.items

abbrev pub element_step : Element-F Fo It Lo AttributeTree Ats BranchTree Brs El Ex Exs FieldTree Fds Its
    LiteralTree Los NamedTree Nms NodeTree Xs
    → El
element_step e = tagged e.tag (maybe_name e.field) (con_tree e.context) (con_tree e.uses) e.attributes e.content

abbrev pub exp_step : Exp-F Fo It Lo AttributeTree Ats BranchTree Brs El Ex Exs FieldTree Fds Its LiteralTree Los
    NamedTree Nms NodeTree Xs
    → Ex
exp_step e = node e.place e.added e.form

abbrev pub exps_step : Exps-F Fo It Lo AttributeTree Ats BranchTree Brs El Ex Exs FieldTree Fds Its LiteralTree Los
    NamedTree Nms NodeTree Xs
    → Exs
exps_step es = exps_from es.items.items

abbrev pub field_step : Field-F Fo It Lo AttributeTree Ats BranchTree Brs El Ex Exs FieldTree Fds Its LiteralTree
    Los NamedTree Nms NodeTree Xs
    → FieldTree
field_step f = (f.place, con_tree f.name, f.value)

abbrev pub fields_step : Fields-F Fo It Lo AttributeTree Ats BranchTree Brs El Ex Exs FieldTree Fds Its LiteralTree
    Los NamedTree Nms NodeTree Xs
    → Fds
fields_step fs = fields_from fs.items.items

abbrev pub items_step : Items-F Fo It Lo AttributeTree Ats BranchTree Brs El Ex Exs FieldTree Fds Its LiteralTree
    Los NamedTree Nms NodeTree Xs
    → Its
items_step is = items_from is.items.items

abbrev pub literal_step : Literal-F Fo It Lo AttributeTree Ats BranchTree Brs El Ex Exs FieldTree Fds Its
    LiteralTree Los NamedTree Nms NodeTree Xs
    → LiteralTree
literal_step l = (con_tree l.context, con_tree l.uses, l.nodes)

abbrev pub node_step : Node-F Fo It Lo AttributeTree Ats BranchTree Brs El Ex Exs FieldTree Fds Its LiteralTree Los
    NamedTree Nms NodeTree Xs
    → NodeTree
node_step n = (con_tree n.fills, n.term)

abbrev pub nodes_step : Nodes-F Fo It Lo AttributeTree Ats BranchTree Brs El Ex Exs FieldTree Fds Its LiteralTree
    Los NamedTree Nms NodeTree Xs
    → Xs
nodes_step ns = nodes_from ns.items.items

abbrev pub locals_step : Locals-F Fo It Lo AttributeTree Ats BranchTree Brs El Ex Exs FieldTree Fds Its LiteralTree
    Los NamedTree Nms NodeTree Xs
    → Los
locals_step ls = locals_from ls.items.items

abbrev pub named_step : Named-F Fo It Lo AttributeTree Ats BranchTree Brs El Ex Exs FieldTree Fds Its LiteralTree
    Los NamedTree Nms NodeTree Xs
    → NamedTree
named_step n = (n.place, n.name.number, n.written, con_tree n.con, n.exp)

abbrev pub named_list_step : NamedList-F Fo It Lo AttributeTree Ats BranchTree Brs El Ex Exs FieldTree Fds Its
    LiteralTree Los NamedTree Nms NodeTree Xs
    → Nms
named_list_step ns = named_from ns.items.items

abbrev pub exp_tree : Exp → Ex
exp_tree = fold-Exp Fo It Lo AttributeTree Ats BranchTree Brs El Ex Exs FieldTree Fds Its LiteralTree Los NamedTree
    Nms NodeTree Xs form_step item_step local_step attribute_step attributes_step branch_step branches_step
    element_step exp_step exps_step field_step fields_step items_step literal_step locals_step named_step
    named_list_step node_step nodes_step

abbrev pub form_tree : Form → Fo
form_tree = fold-Form Fo It Lo AttributeTree Ats BranchTree Brs El Ex Exs FieldTree Fds Its LiteralTree Los
    NamedTree Nms NodeTree Xs form_step item_step local_step attribute_step attributes_step branch_step
    branches_step element_step exp_step exps_step field_step fields_step items_step literal_step locals_step
    named_step named_list_step node_step nodes_step

abbrev pub items_tree : Items → Its
items_tree = fold-Items Fo It Lo AttributeTree Ats BranchTree Brs El Ex Exs FieldTree Fds Its LiteralTree Los
    NamedTree Nms NodeTree Xs form_step item_step local_step attribute_step attributes_step branch_step
    branches_step element_step exp_step exps_step field_step fields_step items_step literal_step locals_step
    named_step named_list_step node_step nodes_step

abbrev pub branches_tree : Branches → Brs
branches_tree = fold-Branches Fo It Lo AttributeTree Ats BranchTree Brs El Ex Exs FieldTree Fds Its LiteralTree Los
    NamedTree Nms NodeTree Xs form_step item_step local_step attribute_step attributes_step branch_step
    branches_step element_step exp_step exps_step field_step fields_step items_step literal_step locals_step
    named_step named_list_step node_step nodes_step

abbrev pub fields_tree : Fields → Fds
fields_tree = fold-Fields Fo It Lo AttributeTree Ats BranchTree Brs El Ex Exs FieldTree Fds Its LiteralTree Los
    NamedTree Nms NodeTree Xs form_step item_step local_step attribute_step attributes_step branch_step
    branches_step element_step exp_step exps_step field_step fields_step items_step literal_step locals_step
    named_step named_list_step node_step nodes_step

abbrev pub locals_tree : Locals → Los
locals_tree = fold-Locals Fo It Lo AttributeTree Ats BranchTree Brs El Ex Exs FieldTree Fds Its LiteralTree Los
    NamedTree Nms NodeTree Xs form_step item_step local_step attribute_step attributes_step branch_step
    branches_step element_step exp_step exps_step field_step fields_step items_step literal_step locals_step
    named_step named_list_step node_step nodes_step

abbrev pub named_tree : Named → NamedTree
named_tree = fold-Named Fo It Lo AttributeTree Ats BranchTree Brs El Ex Exs FieldTree Fds Its LiteralTree Los
    NamedTree Nms NodeTree Xs form_step item_step local_step attribute_step attributes_step branch_step
    branches_step element_step exp_step exps_step field_step fields_step items_step literal_step locals_step
    named_step named_list_step node_step nodes_step

abbrev pub named_list_tree : NamedList → Nms
named_list_tree = fold-NamedList Fo It Lo AttributeTree Ats BranchTree Brs El Ex Exs FieldTree Fds Its LiteralTree
    Los NamedTree Nms NodeTree Xs form_step item_step local_step attribute_step attributes_step branch_step
    branches_step element_step exp_step exps_step field_step fields_step items_step literal_step locals_step
    named_step named_list_step node_step nodes_step

abbrev pub attributes_tree : Attributes → Ats
attributes_tree = fold-Attributes Fo It Lo AttributeTree Ats BranchTree Brs El Ex Exs FieldTree Fds Its LiteralTree
    Los NamedTree Nms NodeTree Xs form_step item_step local_step attribute_step attributes_step branch_step
    branches_step element_step exp_step exps_step field_step fields_step items_step literal_step locals_step
    named_step named_list_step node_step nodes_step

abbrev pub nodes_tree : Nodes → Xs
nodes_tree = fold-Nodes Fo It Lo AttributeTree Ats BranchTree Brs El Ex Exs FieldTree Fds Its LiteralTree Los
    NamedTree Nms NodeTree Xs form_step item_step local_step attribute_step attributes_step branch_step
    branches_step element_step exp_step exps_step field_step fields_step items_step literal_step locals_step
    named_step named_list_step node_step nodes_step

abbrev pub exps_tree : Exps → Exs
exps_tree = fold-Exps Fo It Lo AttributeTree Ats BranchTree Brs El Ex Exs FieldTree Fds Its LiteralTree Los
    NamedTree Nms NodeTree Xs form_step item_step local_step attribute_step attributes_step branch_step
    branches_step element_step exp_step exps_step field_step fields_step items_step literal_step locals_step
    named_step named_list_step node_step nodes_step

-- declarations and programs
abbrev pub constructor_view : Constructor → Cd
constructor_view c = record { place = c.place; name = c.name.number; holds = maybe_con c.holds }

abbrev pub symbols_view : Symbols → List ℕ
symbols_view ss = map (λ s. s.number) ss.items.items

abbrev pub datatype_view : Datatype → Dt
datatype_view d = record {
  path = symbols_view d.path;
  place = d.place;
  home = d.module;
  name = d.name.number;
  symbol = d.symbol.number;
  parameters = symbols_view d.parameters;
  constructors = map constructor_view d.constructors.items.items;
}

abbrev pub column_view : Column → Place × ℕ
column_view c = (c.place, c.name.number)

abbrev pub sort_tree : Sort → Th
sort_tree (sort.Table cs) = a_table (map column_view cs.items.items)
sort_tree sort.Sequence = a_sequence
sort_tree sort.Cookie = a_cookie
sort_tree sort.Given = a_given

abbrev pub named_decl : List ℕ → NamedTree → De
named_decl path n = val path n.0 n.1 n.2 n.3 n.4

abbrev pub decl_tree : Decl → De
decl_tree (decl.Val path n) = named_decl (symbols_view path) (named_tree n)
decl_tree (decl.ValRec path ns) = vals (symbols_view path) (named_list_tree ns)
decl_tree (decl.Con c) = con_is (symbols_view c.path) c.place c.name.number c.written (kind_tree c.kind) (con_tree
    c.con)
decl_tree (decl.Datatype d) = datatype (datatype_view d)
decl_tree (decl.Thing t) = thing (symbols_view t.path) t.place t.name.number (sort_tree t.sort) (con_tree t.con)

abbrev pub decls_view : Decls → List De
decls_view ds = map decl_tree ds.items.items

abbrev pub rule_view : Rule → Ru
rule_view r = record { allow = r.allow; pattern = r.pattern }

abbrev pub foreign_view : ForeignName → List ℕ × List ℕ
foreign_view f = (f.module, f.name)

abbrev pub folder_view : FolderName → Kd × ℕ
folder_view f = (kind_tree f.kind, f.symbol.number)

abbrev pub program_view : Program → Pg
program_view p = record {
  names = p.names;
  modules = p.modules;
  decls = decls_view p.decls;
  rules = map rule_view p.rules.items.items;
  foreigns = map foreign_view p.foreign.items.items;
  folders = map folder_view p.folders.items.items;
  exports = p.exports.items.items;
}
