-- Lists in terms are seen as the lists of what their elements are seen as.
use Rattle.std.proofs.Common.{◌≡◌, map}
use Rattle.plain_tree.specs.Trees.{FormTree, ItemTree, LinkTree, LocalTree, NodeTree, AttributeTree, AttributesTree, BranchTree, BranchesTree, ExpTree, ExpsTree, FieldTree, FieldsTree, ItemsTree, LinksTree, LocalsTree, NamedTree, NamedListTree, NodesTree}
use Rattle.plain_tree.specs.ExpView.{attribute_tree, attributes_tree, attributes_from, link_tree, links_tree, links_from, local_tree, locals_tree, locals_from, node_tree, nodes_tree, nodes_from, form_step, item_step, link_step, local_step, node_step, attribute_step, attributes_step, branch_step, branches_step, exp_step, exps_step, field_step, fields_step, items_step, links_step, locals_step, named_step, named_list_step, nodes_step}
use Rattle.plain_tree.specs.declared.exp.Form.{Form}
use Rattle.plain_tree.specs.declared.exp.Item.{Item}
use Rattle.plain_tree.specs.declared.exp.Link.{Link}
use Rattle.plain_tree.specs.declared.exp.Local.{Local}
use Rattle.plain_tree.specs.declared.exp.Node.{Node}
use Rattle.plain_tree.specs.declared.exp.Attribute.{Attribute}
use Rattle.plain_tree.specs.declared.exp.Attributes.{Attributes}
use Rattle.plain_tree.specs.declared.exp.Branch.{Branch}
use Rattle.plain_tree.specs.declared.exp.Branches.{Branches}
use Rattle.plain_tree.specs.declared.exp.Exp.{Exp}
use Rattle.plain_tree.specs.declared.exp.Exps.{Exps}
use Rattle.plain_tree.specs.declared.exp.Field.{Field}
use Rattle.plain_tree.specs.declared.exp.Fields.{Fields}
use Rattle.plain_tree.specs.declared.exp.Items.{Items}
use Rattle.plain_tree.specs.declared.exp.Links.{Links}
use Rattle.plain_tree.specs.declared.exp.Locals.{Locals}
use Rattle.plain_tree.specs.declared.exp.Named.{Named}
use Rattle.plain_tree.specs.declared.exp.NamedList.{NamedList}
use Rattle.plain_tree.specs.declared.exp.Nodes.{Nodes}
use Rattle.plain_tree.specs.declared.exp.Form.TheOpen.{Attributes-F, Links-F, Locals-F, Nodes-F}
use Rattle.plain_tree.specs.declared.exp.Form.TheViews.{roll-Attributes, roll-Links, roll-Locals, roll-Nodes}
use Rattle.plain_tree.specs.declared.exp.Form.TheFolds.{fold-roll-Attributes, fold-roll-Links, fold-roll-Locals, fold-roll-Nodes}

pub attributes_rolled : (r : Attributes-F Form Item Link Local Node Attribute Attributes Branch Branches Exp Exps
    Field Fields Items Links Locals Named NamedList Nodes)
    → attributes_tree (roll-Attributes r) ≡ attributes_from (map attribute_tree r.items.items)
attributes_rolled r = fold-roll-Attributes FormTree ItemTree LinkTree LocalTree NodeTree AttributeTree
    AttributesTree BranchTree BranchesTree ExpTree ExpsTree FieldTree FieldsTree ItemsTree LinksTree LocalsTree
    NamedTree NamedListTree NodesTree
    form_step item_step link_step local_step node_step attribute_step attributes_step branch_step branches_step
    exp_step exps_step field_step fields_step items_step links_step locals_step named_step named_list_step
    nodes_step r

pub links_rolled : (r : Links-F Form Item Link Local Node Attribute Attributes Branch Branches Exp Exps Field Fields
    Items Links Locals Named NamedList Nodes)
    → links_tree (roll-Links r) ≡ links_from (map link_tree r.items.items)
links_rolled r = fold-roll-Links FormTree ItemTree LinkTree LocalTree NodeTree AttributeTree AttributesTree
    BranchTree BranchesTree ExpTree ExpsTree FieldTree FieldsTree ItemsTree LinksTree LocalsTree NamedTree
    NamedListTree NodesTree
    form_step item_step link_step local_step node_step attribute_step attributes_step branch_step branches_step
    exp_step exps_step field_step fields_step items_step links_step locals_step named_step named_list_step
    nodes_step r

pub locals_rolled : (r : Locals-F Form Item Link Local Node Attribute Attributes Branch Branches Exp Exps Field
    Fields Items Links Locals Named NamedList Nodes)
    → locals_tree (roll-Locals r) ≡ locals_from (map local_tree r.items.items)
locals_rolled r = fold-roll-Locals FormTree ItemTree LinkTree LocalTree NodeTree AttributeTree AttributesTree
    BranchTree BranchesTree ExpTree ExpsTree FieldTree FieldsTree ItemsTree LinksTree LocalsTree NamedTree
    NamedListTree NodesTree
    form_step item_step link_step local_step node_step attribute_step attributes_step branch_step branches_step
    exp_step exps_step field_step fields_step items_step links_step locals_step named_step named_list_step
    nodes_step r

pub nodes_rolled : (r : Nodes-F Form Item Link Local Node Attribute Attributes Branch Branches Exp Exps Field Fields
    Items Links Locals Named NamedList Nodes)
    → nodes_tree (roll-Nodes r) ≡ nodes_from (map node_tree r.items.items)
nodes_rolled r = fold-roll-Nodes FormTree ItemTree LinkTree LocalTree NodeTree AttributeTree AttributesTree
    BranchTree BranchesTree ExpTree ExpsTree FieldTree FieldsTree ItemsTree LinksTree LocalsTree NamedTree
    NamedListTree NodesTree
    form_step item_step link_step local_step node_step attribute_step attributes_step branch_step branches_step
    exp_step exps_step field_step fields_step items_step links_step locals_step named_step named_list_step
    nodes_step r
