-- The trees that terms of the program are.
use Rattle.std.specs.Prelude.{ℕ, Bool, List, [], ◌∷◌, Option, Some, None, map}
use Rattle.con_terms.specs.View.{kind_tree}
use Rattle.plain_tree.specs.Trees.{ConTree, PatTree, ArgTree, arg_pat, arg_con, arg_guard, ExpTree, exp, FormTree, exp_int, exp_words, exp_name, exp_builder, exp_basis, exp_call, exp_fn, exp_case, exp_let, exp_typed, exp_rec, exp_chain, exp_xml, exp_sql, ExpsTree, no_exps, more_exps, ItemTree, item_term, item_con, item_guard, ItemsTree, no_items, more_items, LinkTree, link_infix, link_field, link_without, link_without_row, LinksTree, no_links, more_links, BranchTree, branch, BranchesTree, no_branches, more_branches, FieldTree, field, FieldsTree, no_fields, more_fields, NamedTree, named, NamedListTree, no_named_list, more_named_list, LocalTree, local_val, local_rec, LocalsTree, no_locals, more_locals, NodeTree, node_run, node_exp, node_element, NodesTree, no_nodes, more_nodes, AttributeTree, attribute, AttributesTree, no_attributes, more_attributes}
use Rattle.plain_tree.specs.ConView.{con_tree, pat_tree, maybe_con}
use Rattle.plain_tree.specs.SqlView.{sql_tree}
use Rattle.plain_tree.specs.declared.arg.Arg.{Arg}
use Rattle.plain_tree.specs.declared.arg.Arg.TheVariants as arg
use Rattle.plain_tree.specs.declared.arg.Args.{Args}
use Rattle.plain_tree.specs.declared.exp.Form.{Form}
use Rattle.plain_tree.specs.declared.exp.Item.{Item}
use Rattle.plain_tree.specs.declared.exp.Link.{Link}
use Rattle.plain_tree.specs.declared.exp.Local.{Local}
use Rattle.plain_tree.specs.declared.exp.Node.{Node}
use Rattle.plain_tree.specs.declared.exp.Attribute.{Attribute}
use Rattle.plain_tree.specs.declared.exp.Attributes.{Attributes}
use Rattle.plain_tree.specs.declared.exp.Branch.{Branch}
use Rattle.plain_tree.specs.declared.exp.Branches.{Branches}
use Rattle.plain_tree.specs.declared.exp.Exp.{Exp}
use Rattle.plain_tree.specs.declared.exp.Exps.{Exps}
use Rattle.plain_tree.specs.declared.exp.Field.{Field}
use Rattle.plain_tree.specs.declared.exp.Fields.{Fields}
use Rattle.plain_tree.specs.declared.exp.Items.{Items}
use Rattle.plain_tree.specs.declared.exp.Links.{Links}
use Rattle.plain_tree.specs.declared.exp.Locals.{Locals}
use Rattle.plain_tree.specs.declared.exp.Named.{Named}
use Rattle.plain_tree.specs.declared.exp.NamedList.{NamedList}
use Rattle.plain_tree.specs.declared.exp.Nodes.{Nodes}
use Rattle.plain_tree.specs.declared.exp.Form.TheOpen.{Form-F, Item-F, Link-F, Local-F, Node-F, Attribute-F, Attributes-F, Branch-F, Branches-F, Exp-F, Exps-F, Field-F, Fields-F, Items-F, Links-F, Locals-F, Named-F, NamedList-F, Nodes-F}
use Rattle.plain_tree.specs.declared.exp.Form.TheFolds.{fold-Form, fold-Item, fold-Link, fold-Local, fold-Node, fold-Attribute, fold-Attributes, fold-Branch, fold-Branches, fold-Exp, fold-Exps, fold-Field, fold-Fields, fold-Items, fold-Links, fold-Locals, fold-Named, fold-NamedList, fold-Nodes}

abbrev pub arg_tree : Arg → ArgTree
arg_tree (arg.Pat p) = arg_pat (pat_tree p)
arg_tree (arg.Con p i w x k) = arg_con p i w x (kind_tree k)
arg_tree (arg.Guard p c d) = arg_guard p (con_tree c) (con_tree d)

abbrev pub args_tree : Args → List ArgTree
args_tree x = map arg_tree x.items.items

abbrev pub attributes_from : List AttributeTree → AttributesTree
attributes_from [] = no_attributes
attributes_from (x ∷ xs) = more_attributes x (attributes_from xs)

abbrev pub branches_from : List BranchTree → BranchesTree
branches_from [] = no_branches
branches_from (x ∷ xs) = more_branches x (branches_from xs)

abbrev pub exps_from : List ExpTree → ExpsTree
exps_from [] = no_exps
exps_from (x ∷ xs) = more_exps x (exps_from xs)

abbrev pub fields_from : List FieldTree → FieldsTree
fields_from [] = no_fields
fields_from (x ∷ xs) = more_fields x (fields_from xs)

abbrev pub items_from : List ItemTree → ItemsTree
items_from [] = no_items
items_from (x ∷ xs) = more_items x (items_from xs)

abbrev pub links_from : List LinkTree → LinksTree
links_from [] = no_links
links_from (x ∷ xs) = more_links x (links_from xs)

abbrev pub locals_from : List LocalTree → LocalsTree
locals_from [] = no_locals
locals_from (x ∷ xs) = more_locals x (locals_from xs)

abbrev pub named_list_from : List NamedTree → NamedListTree
named_list_from [] = no_named_list
named_list_from (x ∷ xs) = more_named_list x (named_list_from xs)

abbrev pub nodes_from : List NodeTree → NodesTree
nodes_from [] = no_nodes
nodes_from (x ∷ xs) = more_nodes x (nodes_from xs)

abbrev pub form_step : Form-F FormTree ItemTree LinkTree LocalTree NodeTree AttributeTree AttributesTree BranchTree
    BranchesTree ExpTree ExpsTree FieldTree FieldsTree ItemsTree LinksTree LocalsTree NamedTree NamedListTree
    NodesTree
    → FormTree
form_step (Form-F.Int x0) = exp_int x0
form_step (Form-F.Words x0) = exp_words x0
form_step (Form-F.Name x0 x1) = exp_name x0 x1
form_step (Form-F.Builder x0 x1) = exp_builder x0 x1
form_step (Form-F.Basis x0) = exp_basis x0
form_step (Form-F.Call x0 x1) = exp_call x0.value x1
form_step (Form-F.Fn x0 x1) = exp_fn (args_tree x0) x1.value
form_step (Form-F.Case x0 x1 x2) = exp_case x0.value x1.value x2
form_step (Form-F.Let x0 x1) = exp_let x0 x1.value
form_step (Form-F.Typed x0 x1) = exp_typed x0.value (con_tree x1)
form_step (Form-F.Rec x0) = exp_rec x0
form_step (Form-F.Chain x0 x1) = exp_chain x0.value x1
form_step (Form-F.Xml x0) = exp_xml x0
form_step (Form-F.Sql x0 x1) = exp_sql (sql_tree x0.value) x1

abbrev pub item_step : Item-F FormTree ItemTree LinkTree LocalTree NodeTree AttributeTree AttributesTree BranchTree
    BranchesTree ExpTree ExpsTree FieldTree FieldsTree ItemsTree LinksTree LocalsTree NamedTree NamedListTree
    NodesTree
    → ItemTree
item_step (Item-F.Term x0) = item_term x0
item_step (Item-F.Con x0 x1) = item_con x0 (con_tree x1)
item_step (Item-F.Guard x0) = item_guard x0

abbrev pub link_step : Link-F FormTree ItemTree LinkTree LocalTree NodeTree AttributeTree AttributesTree BranchTree
    BranchesTree ExpTree ExpsTree FieldTree FieldsTree ItemsTree LinksTree LocalsTree NamedTree NamedListTree
    NodesTree
    → LinkTree
link_step (Link-F.Infix x0 x1 x2) = link_infix x0 x1 x2
link_step (Link-F.Field x0) = link_field (con_tree x0)
link_step (Link-F.Without x0 x1) = link_without x0 (con_tree x1)
link_step (Link-F.WithoutRow x0 x1) = link_without_row x0 (con_tree x1)

abbrev pub local_step : Local-F FormTree ItemTree LinkTree LocalTree NodeTree AttributeTree AttributesTree BranchTree
    BranchesTree ExpTree ExpsTree FieldTree FieldsTree ItemsTree LinksTree LocalsTree NamedTree NamedListTree
    NodesTree
    → LocalTree
local_step (Local-F.Val x0 x1) = local_val x0 x1
local_step (Local-F.ValRec x0 x1) = local_rec x0 x1

abbrev pub node_step : Node-F FormTree ItemTree LinkTree LocalTree NodeTree AttributeTree AttributesTree BranchTree
    BranchesTree ExpTree ExpsTree FieldTree FieldsTree ItemsTree LinksTree LocalsTree NamedTree NamedListTree
    NodesTree
    → NodeTree
node_step (Node-F.Run x0 x1) = node_run x0 x1
node_step (Node-F.Exp x0 x1) = node_exp x0 x1
node_step (Node-F.Element x0 x1 x2 x3 x4) = node_element x0 x1 (maybe_con x2) x3 x4

abbrev pub attribute_step : Attribute-F FormTree ItemTree LinkTree LocalTree NodeTree AttributeTree AttributesTree
    BranchTree BranchesTree ExpTree ExpsTree FieldTree FieldsTree ItemsTree LinksTree LocalsTree NamedTree
    NamedListTree NodesTree
    → AttributeTree
attribute_step x = attribute x.name x.value

abbrev pub attributes_step : Attributes-F FormTree ItemTree LinkTree LocalTree NodeTree AttributeTree AttributesTree
    BranchTree BranchesTree ExpTree ExpsTree FieldTree FieldsTree ItemsTree LinksTree LocalsTree NamedTree
    NamedListTree NodesTree
    → AttributesTree
attributes_step x = attributes_from x.items.items

abbrev pub branch_step : Branch-F FormTree ItemTree LinkTree LocalTree NodeTree AttributeTree AttributesTree
    BranchTree BranchesTree ExpTree ExpsTree FieldTree FieldsTree ItemsTree LinksTree LocalsTree NamedTree
    NamedListTree NodesTree
    → BranchTree
branch_step x = branch x.at (pat_tree x.pat) x.body

abbrev pub branches_step : Branches-F FormTree ItemTree LinkTree LocalTree NodeTree AttributeTree AttributesTree
    BranchTree BranchesTree ExpTree ExpsTree FieldTree FieldsTree ItemsTree LinksTree LocalsTree NamedTree
    NamedListTree NodesTree
    → BranchesTree
branches_step x = branches_from x.items.items

abbrev pub exp_step : Exp-F FormTree ItemTree LinkTree LocalTree NodeTree AttributeTree AttributesTree BranchTree
    BranchesTree ExpTree ExpsTree FieldTree FieldsTree ItemsTree LinksTree LocalsTree NamedTree NamedListTree
    NodesTree
    → ExpTree
exp_step x = exp x.at x.form

abbrev pub exps_step : Exps-F FormTree ItemTree LinkTree LocalTree NodeTree AttributeTree AttributesTree BranchTree
    BranchesTree ExpTree ExpsTree FieldTree FieldsTree ItemsTree LinksTree LocalsTree NamedTree NamedListTree
    NodesTree
    → ExpsTree
exps_step x = exps_from x.items.items

abbrev pub field_step : Field-F FormTree ItemTree LinkTree LocalTree NodeTree AttributeTree AttributesTree BranchTree
    BranchesTree ExpTree ExpsTree FieldTree FieldsTree ItemsTree LinksTree LocalsTree NamedTree NamedListTree
    NodesTree
    → FieldTree
field_step x = field x.at (con_tree x.name) x.value

abbrev pub fields_step : Fields-F FormTree ItemTree LinkTree LocalTree NodeTree AttributeTree AttributesTree
    BranchTree BranchesTree ExpTree ExpsTree FieldTree FieldsTree ItemsTree LinksTree LocalsTree NamedTree
    NamedListTree NodesTree
    → FieldsTree
fields_step x = fields_from x.items.items

abbrev pub items_step : Items-F FormTree ItemTree LinkTree LocalTree NodeTree AttributeTree AttributesTree BranchTree
    BranchesTree ExpTree ExpsTree FieldTree FieldsTree ItemsTree LinksTree LocalsTree NamedTree NamedListTree
    NodesTree
    → ItemsTree
items_step x = items_from x.items.items

abbrev pub links_step : Links-F FormTree ItemTree LinkTree LocalTree NodeTree AttributeTree AttributesTree BranchTree
    BranchesTree ExpTree ExpsTree FieldTree FieldsTree ItemsTree LinksTree LocalsTree NamedTree NamedListTree
    NodesTree
    → LinksTree
links_step x = links_from x.items.items

abbrev pub locals_step : Locals-F FormTree ItemTree LinkTree LocalTree NodeTree AttributeTree AttributesTree
    BranchTree BranchesTree ExpTree ExpsTree FieldTree FieldsTree ItemsTree LinksTree LocalsTree NamedTree
    NamedListTree NodesTree
    → LocalsTree
locals_step x = locals_from x.items.items

abbrev pub named_step : Named-F FormTree ItemTree LinkTree LocalTree NodeTree AttributeTree AttributesTree BranchTree
    BranchesTree ExpTree ExpsTree FieldTree FieldsTree ItemsTree LinksTree LocalsTree NamedTree NamedListTree
    NodesTree
    → NamedTree
named_step x = named x.name (maybe_con x.con) x.exp

abbrev pub named_list_step : NamedList-F FormTree ItemTree LinkTree LocalTree NodeTree AttributeTree AttributesTree
    BranchTree BranchesTree ExpTree ExpsTree FieldTree FieldsTree ItemsTree LinksTree LocalsTree NamedTree
    NamedListTree NodesTree
    → NamedListTree
named_list_step x = named_list_from x.items.items

abbrev pub nodes_step : Nodes-F FormTree ItemTree LinkTree LocalTree NodeTree AttributeTree AttributesTree BranchTree
    BranchesTree ExpTree ExpsTree FieldTree FieldsTree ItemsTree LinksTree LocalsTree NamedTree NamedListTree
    NodesTree
    → NodesTree
nodes_step x = nodes_from x.items.items

abbrev pub form_tree : Form → FormTree
form_tree = fold-Form FormTree ItemTree LinkTree LocalTree NodeTree AttributeTree AttributesTree BranchTree
    BranchesTree ExpTree ExpsTree FieldTree FieldsTree ItemsTree LinksTree LocalsTree NamedTree NamedListTree
    NodesTree form_step item_step link_step local_step node_step attribute_step attributes_step branch_step
    branches_step exp_step exps_step field_step fields_step items_step links_step locals_step named_step
    named_list_step nodes_step

abbrev pub item_tree : Item → ItemTree
item_tree = fold-Item FormTree ItemTree LinkTree LocalTree NodeTree AttributeTree AttributesTree BranchTree
    BranchesTree ExpTree ExpsTree FieldTree FieldsTree ItemsTree LinksTree LocalsTree NamedTree NamedListTree
    NodesTree form_step item_step link_step local_step node_step attribute_step attributes_step branch_step
    branches_step exp_step exps_step field_step fields_step items_step links_step locals_step named_step
    named_list_step nodes_step

abbrev pub link_tree : Link → LinkTree
link_tree = fold-Link FormTree ItemTree LinkTree LocalTree NodeTree AttributeTree AttributesTree BranchTree
    BranchesTree ExpTree ExpsTree FieldTree FieldsTree ItemsTree LinksTree LocalsTree NamedTree NamedListTree
    NodesTree form_step item_step link_step local_step node_step attribute_step attributes_step branch_step
    branches_step exp_step exps_step field_step fields_step items_step links_step locals_step named_step
    named_list_step nodes_step

abbrev pub local_tree : Local → LocalTree
local_tree = fold-Local FormTree ItemTree LinkTree LocalTree NodeTree AttributeTree AttributesTree BranchTree
    BranchesTree ExpTree ExpsTree FieldTree FieldsTree ItemsTree LinksTree LocalsTree NamedTree NamedListTree
    NodesTree form_step item_step link_step local_step node_step attribute_step attributes_step branch_step
    branches_step exp_step exps_step field_step fields_step items_step links_step locals_step named_step
    named_list_step nodes_step

abbrev pub node_tree : Node → NodeTree
node_tree = fold-Node FormTree ItemTree LinkTree LocalTree NodeTree AttributeTree AttributesTree BranchTree
    BranchesTree ExpTree ExpsTree FieldTree FieldsTree ItemsTree LinksTree LocalsTree NamedTree NamedListTree
    NodesTree form_step item_step link_step local_step node_step attribute_step attributes_step branch_step
    branches_step exp_step exps_step field_step fields_step items_step links_step locals_step named_step
    named_list_step nodes_step

abbrev pub attribute_tree : Attribute → AttributeTree
attribute_tree = fold-Attribute FormTree ItemTree LinkTree LocalTree NodeTree AttributeTree AttributesTree BranchTree
    BranchesTree ExpTree ExpsTree FieldTree FieldsTree ItemsTree LinksTree LocalsTree NamedTree NamedListTree
    NodesTree form_step item_step link_step local_step node_step attribute_step attributes_step branch_step
    branches_step exp_step exps_step field_step fields_step items_step links_step locals_step named_step
    named_list_step nodes_step

abbrev pub attributes_tree : Attributes → AttributesTree
attributes_tree = fold-Attributes FormTree ItemTree LinkTree LocalTree NodeTree AttributeTree AttributesTree
    BranchTree BranchesTree ExpTree ExpsTree FieldTree FieldsTree ItemsTree LinksTree LocalsTree NamedTree
    NamedListTree NodesTree form_step item_step link_step local_step node_step attribute_step attributes_step
    branch_step branches_step exp_step exps_step field_step fields_step items_step links_step locals_step named_step
    named_list_step nodes_step

abbrev pub branch_tree : Branch → BranchTree
branch_tree = fold-Branch FormTree ItemTree LinkTree LocalTree NodeTree AttributeTree AttributesTree BranchTree
    BranchesTree ExpTree ExpsTree FieldTree FieldsTree ItemsTree LinksTree LocalsTree NamedTree NamedListTree
    NodesTree form_step item_step link_step local_step node_step attribute_step attributes_step branch_step
    branches_step exp_step exps_step field_step fields_step items_step links_step locals_step named_step
    named_list_step nodes_step

abbrev pub branches_tree : Branches → BranchesTree
branches_tree = fold-Branches FormTree ItemTree LinkTree LocalTree NodeTree AttributeTree AttributesTree BranchTree
    BranchesTree ExpTree ExpsTree FieldTree FieldsTree ItemsTree LinksTree LocalsTree NamedTree NamedListTree
    NodesTree form_step item_step link_step local_step node_step attribute_step attributes_step branch_step
    branches_step exp_step exps_step field_step fields_step items_step links_step locals_step named_step
    named_list_step nodes_step

abbrev pub exp_tree : Exp → ExpTree
exp_tree = fold-Exp FormTree ItemTree LinkTree LocalTree NodeTree AttributeTree AttributesTree BranchTree BranchesTree
    ExpTree ExpsTree FieldTree FieldsTree ItemsTree LinksTree LocalsTree NamedTree NamedListTree NodesTree form_step
    item_step link_step local_step node_step attribute_step attributes_step branch_step branches_step exp_step
    exps_step field_step fields_step items_step links_step locals_step named_step named_list_step nodes_step

abbrev pub exps_tree : Exps → ExpsTree
exps_tree = fold-Exps FormTree ItemTree LinkTree LocalTree NodeTree AttributeTree AttributesTree BranchTree
    BranchesTree ExpTree ExpsTree FieldTree FieldsTree ItemsTree LinksTree LocalsTree NamedTree NamedListTree
    NodesTree form_step item_step link_step local_step node_step attribute_step attributes_step branch_step
    branches_step exp_step exps_step field_step fields_step items_step links_step locals_step named_step
    named_list_step nodes_step

abbrev pub field_tree : Field → FieldTree
field_tree = fold-Field FormTree ItemTree LinkTree LocalTree NodeTree AttributeTree AttributesTree BranchTree
    BranchesTree ExpTree ExpsTree FieldTree FieldsTree ItemsTree LinksTree LocalsTree NamedTree NamedListTree
    NodesTree form_step item_step link_step local_step node_step attribute_step attributes_step branch_step
    branches_step exp_step exps_step field_step fields_step items_step links_step locals_step named_step
    named_list_step nodes_step

abbrev pub fields_tree : Fields → FieldsTree
fields_tree = fold-Fields FormTree ItemTree LinkTree LocalTree NodeTree AttributeTree AttributesTree BranchTree
    BranchesTree ExpTree ExpsTree FieldTree FieldsTree ItemsTree LinksTree LocalsTree NamedTree NamedListTree
    NodesTree form_step item_step link_step local_step node_step attribute_step attributes_step branch_step
    branches_step exp_step exps_step field_step fields_step items_step links_step locals_step named_step
    named_list_step nodes_step

abbrev pub items_tree : Items → ItemsTree
items_tree = fold-Items FormTree ItemTree LinkTree LocalTree NodeTree AttributeTree AttributesTree BranchTree
    BranchesTree ExpTree ExpsTree FieldTree FieldsTree ItemsTree LinksTree LocalsTree NamedTree NamedListTree
    NodesTree form_step item_step link_step local_step node_step attribute_step attributes_step branch_step
    branches_step exp_step exps_step field_step fields_step items_step links_step locals_step named_step
    named_list_step nodes_step

abbrev pub links_tree : Links → LinksTree
links_tree = fold-Links FormTree ItemTree LinkTree LocalTree NodeTree AttributeTree AttributesTree BranchTree
    BranchesTree ExpTree ExpsTree FieldTree FieldsTree ItemsTree LinksTree LocalsTree NamedTree NamedListTree
    NodesTree form_step item_step link_step local_step node_step attribute_step attributes_step branch_step
    branches_step exp_step exps_step field_step fields_step items_step links_step locals_step named_step
    named_list_step nodes_step

abbrev pub locals_tree : Locals → LocalsTree
locals_tree = fold-Locals FormTree ItemTree LinkTree LocalTree NodeTree AttributeTree AttributesTree BranchTree
    BranchesTree ExpTree ExpsTree FieldTree FieldsTree ItemsTree LinksTree LocalsTree NamedTree NamedListTree
    NodesTree form_step item_step link_step local_step node_step attribute_step attributes_step branch_step
    branches_step exp_step exps_step field_step fields_step items_step links_step locals_step named_step
    named_list_step nodes_step

abbrev pub named_tree : Named → NamedTree
named_tree = fold-Named FormTree ItemTree LinkTree LocalTree NodeTree AttributeTree AttributesTree BranchTree
    BranchesTree ExpTree ExpsTree FieldTree FieldsTree ItemsTree LinksTree LocalsTree NamedTree NamedListTree
    NodesTree form_step item_step link_step local_step node_step attribute_step attributes_step branch_step
    branches_step exp_step exps_step field_step fields_step items_step links_step locals_step named_step
    named_list_step nodes_step

abbrev pub named_list_tree : NamedList → NamedListTree
named_list_tree = fold-NamedList FormTree ItemTree LinkTree LocalTree NodeTree AttributeTree AttributesTree BranchTree
    BranchesTree ExpTree ExpsTree FieldTree FieldsTree ItemsTree LinksTree LocalsTree NamedTree NamedListTree
    NodesTree form_step item_step link_step local_step node_step attribute_step attributes_step branch_step
    branches_step exp_step exps_step field_step fields_step items_step links_step locals_step named_step
    named_list_step nodes_step

abbrev pub nodes_tree : Nodes → NodesTree
nodes_tree = fold-Nodes FormTree ItemTree LinkTree LocalTree NodeTree AttributeTree AttributesTree BranchTree
    BranchesTree ExpTree ExpsTree FieldTree FieldsTree ItemsTree LinksTree LocalsTree NamedTree NamedListTree
    NodesTree form_step item_step link_step local_step node_step attribute_step attributes_step branch_step
    branches_step exp_step exps_step field_step fields_step items_step links_step locals_step named_step
    named_list_step nodes_step
