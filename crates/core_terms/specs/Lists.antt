-- The elements of the lists of terms and of programs, one by one.
use Rattle.std.specs.Prelude.{ℕ, List, [], ◌∷◌, map}
use Rattle.con_terms.specs.Trees.{Kd}
use Rattle.con_terms.specs.declared.place.Place.{Place}
use Rattle.core_terms.specs.Trees.{Pt, Pf, Pfs, no_pat_fields, pat_field, Ex, Fo, Its, no_items, with_term, with_con, with_guard, Nms, no_named, named, Los, no_locals, local_val, local_rec, Brs, no_branches, branch, Fds, no_fields, field, El, Ats, no_attributes, attribute, Xs, no_nodes, a_node, Exs, no_exps, an_exp, It, a_term, a_con, a_guard, Lo, a_val, a_rec, Cd, Ru}
use Rattle.core_terms.specs.View.{PatFieldTree, AttributeTree, BranchTree, FieldTree, NamedTree, NodeTree, LiteralTree, pat_form_step, pat_step, pat_field_step, pat_fields_step, form_step, item_step, local_step, attribute_step, attributes_step, branch_step, branches_step, element_step, exp_step, exps_step, field_step, fields_step, items_step, literal_step, locals_step, named_step, named_list_step, node_step, nodes_step, constructor_view, column_view, rule_view, foreign_view, folder_view}
use Rattle.core_terms.specs.declared.exp.Item.{Item}
use Rattle.core_terms.specs.declared.exp.Local.{Local}
use Rattle.core_terms.specs.declared.exp.Branch.{Branch}
use Rattle.core_terms.specs.declared.exp.Field.{Field}
use Rattle.core_terms.specs.declared.exp.Attribute.{Attribute}
use Rattle.core_terms.specs.declared.exp.Node.{Node}
use Rattle.core_terms.specs.declared.exp.Form.TheFolds.{fold-Item, fold-Local, fold-Branch, fold-Field, fold-Attribute, fold-Node}
use Rattle.core_terms.specs.declared.pat.PatField.{PatField}
use Rattle.core_terms.specs.declared.pat.PatForm.TheFolds.{fold-PatField}
use Rattle.core_terms.specs.declared.decl.Constructors.{Constructors}
use Rattle.core_terms.specs.declared.decl.Columns.{Columns}
use Rattle.core_terms.specs.declared.program.Rules.{Rules}
use Rattle.core_terms.specs.declared.program.Foreigns.{Foreigns}
use Rattle.core_terms.specs.declared.program.Folders.{Folders}

-- what an element stands for
abbrev pub item_tree : Item → It
item_tree = fold-Item Fo It Lo AttributeTree Ats BranchTree Brs El Ex Exs FieldTree Fds Its LiteralTree Los
    NamedTree Nms NodeTree Xs form_step item_step local_step attribute_step attributes_step branch_step
    branches_step element_step exp_step exps_step field_step fields_step items_step literal_step locals_step
    named_step named_list_step node_step nodes_step

abbrev pub local_tree : Local → Lo
local_tree = fold-Local Fo It Lo AttributeTree Ats BranchTree Brs El Ex Exs FieldTree Fds Its LiteralTree Los
    NamedTree Nms NodeTree Xs form_step item_step local_step attribute_step attributes_step branch_step
    branches_step element_step exp_step exps_step field_step fields_step items_step literal_step locals_step
    named_step named_list_step node_step nodes_step

abbrev pub branch_tree : Branch → BranchTree
branch_tree = fold-Branch Fo It Lo AttributeTree Ats BranchTree Brs El Ex Exs FieldTree Fds Its LiteralTree Los
    NamedTree Nms NodeTree Xs form_step item_step local_step attribute_step attributes_step branch_step
    branches_step element_step exp_step exps_step field_step fields_step items_step literal_step locals_step
    named_step named_list_step node_step nodes_step

abbrev pub field_tree : Field → FieldTree
field_tree = fold-Field Fo It Lo AttributeTree Ats BranchTree Brs El Ex Exs FieldTree Fds Its LiteralTree Los
    NamedTree Nms NodeTree Xs form_step item_step local_step attribute_step attributes_step branch_step
    branches_step element_step exp_step exps_step field_step fields_step items_step literal_step locals_step
    named_step named_list_step node_step nodes_step

abbrev pub node_tree : Node → NodeTree
node_tree = fold-Node Fo It Lo AttributeTree Ats BranchTree Brs El Ex Exs FieldTree Fds Its LiteralTree Los
    NamedTree Nms NodeTree Xs form_step item_step local_step attribute_step attributes_step branch_step
    branches_step element_step exp_step exps_step field_step fields_step items_step literal_step locals_step
    named_step named_list_step node_step nodes_step

abbrev pub attribute_tree : Attribute → AttributeTree
attribute_tree = fold-Attribute Fo It Lo AttributeTree Ats BranchTree Brs El Ex Exs FieldTree Fds Its LiteralTree
    Los NamedTree Nms NodeTree Xs form_step item_step local_step attribute_step attributes_step branch_step
    branches_step element_step exp_step exps_step field_step fields_step items_step literal_step locals_step
    named_step named_list_step node_step nodes_step

abbrev pub pat_field_tree : PatField → PatFieldTree
pat_field_tree = fold-PatField Pf Pt PatFieldTree Pfs pat_form_step pat_step pat_field_step pat_fields_step

-- the elements of a list
abbrev pub item_list : Its → List It
item_list no_items = []
item_list (with_term e is) = a_term e ∷ item_list is
item_list (with_con p a c is) = a_con p a c ∷ item_list is
item_list (with_guard p a is) = a_guard p a ∷ item_list is

abbrev pub name_list : Nms → List NamedTree
name_list no_named = []
name_list (named p x w t e ns) = (p, x, w, t, e) ∷ name_list ns

abbrev pub local_list : Los → List Lo
local_list no_locals = []
local_list (local_val p x w t e ls) = a_val p x w t e ∷ local_list ls
local_list (local_rec ns ls) = a_rec ns ∷ local_list ls

abbrev pub branch_list : Brs → List BranchTree
branch_list no_branches = []
branch_list (branch p q e bs) = (p, q, e) ∷ branch_list bs

abbrev pub field_list : Fds → List FieldTree
field_list no_fields = []
field_list (field p n e fs) = (p, n, e) ∷ field_list fs

abbrev pub attribute_list : Ats → List AttributeTree
attribute_list no_attributes = []
attribute_list (attribute p n e as') = (p, n, e) ∷ attribute_list as'

abbrev pub node_list : Xs → List NodeTree
node_list no_nodes = []
node_list (a_node c e xs) = (c, e) ∷ node_list xs

abbrev pub exp_list : Exs → List Ex
exp_list no_exps = []
exp_list (an_exp e es) = e ∷ exp_list es

abbrev pub pat_field_list : Pfs → List PatFieldTree
pat_field_list no_pat_fields = []
pat_field_list (pat_field p n q fs) = (p, n, q) ∷ pat_field_list fs

abbrev pub constructors_view : Constructors → List Cd
constructors_view cs = map constructor_view cs.items.items

abbrev pub columns_view : Columns → List (Place × ℕ)
columns_view cs = map column_view cs.items.items

abbrev pub rules_view : Rules → List Ru
rules_view rs = map rule_view rs.items.items

abbrev pub foreigns_view : Foreigns → List (List ℕ × List ℕ)
foreigns_view fs = map foreign_view fs.items.items

abbrev pub folders_view : Folders → List (Kd × ℕ)
folders_view fs = map folder_view fs.items.items
