-- Links of a chain and nodes of a page, as trees.
use Rattle.std.proofs.Common.{◌≡◌, ℕ, List, Option, ap, sym, ◌∙◌}
use Rattle.plain_tree.specs.ConView.{maybe_con}
use Rattle.plain_tree.specs.ExpView as view
use Rattle.plain_tree.specs.Trees as plain
use Rattle.plain_tree.specs.declared.con.Con.{Con}
use Rattle.plain_tree.specs.declared.exp.Attributes.{Attributes}
use Rattle.plain_tree.specs.declared.exp.Exp.{Exp}
use Rattle.plain_tree.specs.declared.exp.Form.TheFolds.{fold-roll-Link, fold-roll-Node}
use Rattle.plain_tree.specs.declared.exp.Form.TheOpen.{Link-F, Node-F}
use Rattle.plain_tree.specs.declared.exp.Form.TheViews.{rolls-Element, rolls-Infix}
use Rattle.plain_tree.specs.declared.exp.Link.TheVariants as link
use Rattle.plain_tree.specs.declared.exp.Node.TheVariants as node
use Rattle.plain_tree.specs.declared.exp.Nodes.{Nodes}
use Rattle.plain_tree.specs.declared.names.Infix.{Infix}

pub infix_is : (at : ℕ) (i : Infix) (e : Exp) → view.link_tree (link.Infix at i e)
    ≡ plain.link_infix at i (view.exp_tree e)
infix_is at i e = ap view.link_tree (sym (rolls-Infix at i e))
    ∙ fold-roll-Link plain.FormTree plain.ItemTree plain.LinkTree plain.LocalTree plain.NodeTree
    plain.AttributeTree plain.AttributesTree plain.BranchTree plain.BranchesTree plain.ExpTree plain.ExpsTree
    plain.FieldTree plain.FieldsTree plain.ItemsTree plain.LinksTree plain.LocalsTree plain.NamedTree
    plain.NamedListTree plain.NodesTree view.form_step view.item_step view.link_step view.local_step view.node_step
    view.attribute_step view.attributes_step view.branch_step view.branches_step view.exp_step view.exps_step
    view.field_step view.fields_step view.items_step view.links_step view.locals_step view.named_step
    view.named_list_step view.nodes_step (Link-F.Infix at i e)

pub written_element_is : (at : ℕ) (tag : List ℕ) (field : Option Con) (attributes : Attributes) (content : Nodes)
    → view.node_tree (node.Element at tag field attributes content)
    ≡ plain.node_element at tag (maybe_con field) (view.attributes_tree attributes) (view.nodes_tree content)
written_element_is at tag field attributes content =
    ap view.node_tree (sym (rolls-Element at tag field attributes content))
    ∙ fold-roll-Node plain.FormTree plain.ItemTree plain.LinkTree plain.LocalTree plain.NodeTree
    plain.AttributeTree plain.AttributesTree plain.BranchTree plain.BranchesTree plain.ExpTree plain.ExpsTree
    plain.FieldTree plain.FieldsTree plain.ItemsTree plain.LinksTree plain.LocalsTree plain.NamedTree
    plain.NamedListTree plain.NodesTree view.form_step view.item_step view.link_step view.local_step
    view.node_step view.attribute_step view.attributes_step view.branch_step view.branches_step view.exp_step
    view.exps_step view.field_step view.fields_step view.items_step view.links_step view.locals_step
    view.named_step view.named_list_step view.nodes_step (Node-F.Element at tag field attributes content)
