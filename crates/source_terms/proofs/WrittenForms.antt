-- Terms of the source, as trees.
use Rattle.std.proofs.Common.{Box, Global, ◌≡◌, ap, sym, ◌∙◌}
use Rattle.plain_tree.specs.ConView.{con_tree}
use Rattle.plain_tree.specs.ExpView as view
use Rattle.plain_tree.specs.Trees as plain
use Rattle.plain_tree.specs.declared.arg.Args.{Args}
use Rattle.plain_tree.specs.declared.con.Con.{Con}
use Rattle.plain_tree.specs.declared.exp.Branch.{Branch}
use Rattle.plain_tree.specs.declared.exp.Branches.{Branches}
use Rattle.plain_tree.specs.declared.exp.Exp.{Exp}
use Rattle.plain_tree.specs.declared.exp.Form.TheFolds.{fold-roll-Form}
use Rattle.plain_tree.specs.declared.exp.Form.TheOpen.{Form-F}
use Rattle.plain_tree.specs.declared.exp.Form.TheVariants as form
use Rattle.plain_tree.specs.declared.exp.Form.TheViews.{rolls-Call, rolls-Case, rolls-Chain, rolls-Fn, rolls-Let}
use Rattle.plain_tree.specs.declared.exp.Form.TheViews.{rolls-Typed}
use Rattle.plain_tree.specs.declared.exp.Items.{Items}
use Rattle.plain_tree.specs.declared.exp.Links.{Links}
use Rattle.plain_tree.specs.declared.exp.Locals.{Locals}

pub call_written : (x : Box Exp Global) (is : Items) → view.form_tree (form.Call x is)
    ≡ plain.exp_call (view.exp_tree x.value) (view.items_tree is)
call_written x is = ap view.form_tree (sym (rolls-Call x is))
    ∙ fold-roll-Form plain.FormTree plain.ItemTree plain.LinkTree plain.LocalTree plain.NodeTree
    plain.AttributeTree plain.AttributesTree plain.BranchTree plain.BranchesTree plain.ExpTree plain.ExpsTree
    plain.FieldTree plain.FieldsTree plain.ItemsTree plain.LinksTree plain.LocalsTree plain.NamedTree
    plain.NamedListTree plain.NodesTree view.form_step view.item_step view.link_step view.local_step view.node_step
    view.attribute_step view.attributes_step view.branch_step view.branches_step view.exp_step view.exps_step
    view.field_step view.fields_step view.items_step view.links_step view.locals_step view.named_step
    view.named_list_step view.nodes_step (Form-F.Call x is)

pub fn_written : (as' : Args) (x : Box Exp Global) → view.form_tree (form.Fn as' x)
    ≡ plain.exp_fn (view.args_tree as') (view.exp_tree x.value)
fn_written as' x = ap view.form_tree (sym (rolls-Fn as' x))
    ∙ fold-roll-Form plain.FormTree plain.ItemTree plain.LinkTree plain.LocalTree plain.NodeTree
    plain.AttributeTree plain.AttributesTree plain.BranchTree plain.BranchesTree plain.ExpTree plain.ExpsTree
    plain.FieldTree plain.FieldsTree plain.ItemsTree plain.LinksTree plain.LocalsTree plain.NamedTree
    plain.NamedListTree plain.NodesTree view.form_step view.item_step view.link_step view.local_step view.node_step
    view.attribute_step view.attributes_step view.branch_step view.branches_step view.exp_step view.exps_step
    view.field_step view.fields_step view.items_step view.links_step view.locals_step view.named_step
    view.named_list_step view.nodes_step (Form-F.Fn as' x)

pub case_written : (x : Box Exp Global) (b : Box Branch Global) (bs : Branches) → view.form_tree (form.Case x b bs)
    ≡ plain.exp_case (view.exp_tree x.value) (view.branch_tree b.value) (view.branches_tree bs)
case_written x b bs = ap view.form_tree (sym (rolls-Case x b bs))
    ∙ fold-roll-Form plain.FormTree plain.ItemTree plain.LinkTree plain.LocalTree plain.NodeTree
    plain.AttributeTree plain.AttributesTree plain.BranchTree plain.BranchesTree plain.ExpTree plain.ExpsTree
    plain.FieldTree plain.FieldsTree plain.ItemsTree plain.LinksTree plain.LocalsTree plain.NamedTree
    plain.NamedListTree plain.NodesTree view.form_step view.item_step view.link_step view.local_step view.node_step
    view.attribute_step view.attributes_step view.branch_step view.branches_step view.exp_step view.exps_step
    view.field_step view.fields_step view.items_step view.links_step view.locals_step view.named_step
    view.named_list_step view.nodes_step (Form-F.Case x b bs)

pub let_written : (ls : Locals) (x : Box Exp Global) → view.form_tree (form.Let ls x)
    ≡ plain.exp_let (view.locals_tree ls) (view.exp_tree x.value)
let_written ls x = ap view.form_tree (sym (rolls-Let ls x))
    ∙ fold-roll-Form plain.FormTree plain.ItemTree plain.LinkTree plain.LocalTree plain.NodeTree
    plain.AttributeTree plain.AttributesTree plain.BranchTree plain.BranchesTree plain.ExpTree plain.ExpsTree
    plain.FieldTree plain.FieldsTree plain.ItemsTree plain.LinksTree plain.LocalsTree plain.NamedTree
    plain.NamedListTree plain.NodesTree view.form_step view.item_step view.link_step view.local_step view.node_step
    view.attribute_step view.attributes_step view.branch_step view.branches_step view.exp_step view.exps_step
    view.field_step view.fields_step view.items_step view.links_step view.locals_step view.named_step
    view.named_list_step view.nodes_step (Form-F.Let ls x)

pub typed_written : (x : Box Exp Global) (d : Con) → view.form_tree (form.Typed x d)
    ≡ plain.exp_typed (view.exp_tree x.value) (con_tree d)
typed_written x d = ap view.form_tree (sym (rolls-Typed x d))
    ∙ fold-roll-Form plain.FormTree plain.ItemTree plain.LinkTree plain.LocalTree plain.NodeTree
    plain.AttributeTree plain.AttributesTree plain.BranchTree plain.BranchesTree plain.ExpTree plain.ExpsTree
    plain.FieldTree plain.FieldsTree plain.ItemsTree plain.LinksTree plain.LocalsTree plain.NamedTree
    plain.NamedListTree plain.NodesTree view.form_step view.item_step view.link_step view.local_step view.node_step
    view.attribute_step view.attributes_step view.branch_step view.branches_step view.exp_step view.exps_step
    view.field_step view.fields_step view.items_step view.links_step view.locals_step view.named_step
    view.named_list_step view.nodes_step (Form-F.Typed x d)

pub chain_written : (x : Box Exp Global) (ls : Links) → view.form_tree (form.Chain x ls)
    ≡ plain.exp_chain (view.exp_tree x.value) (view.links_tree ls)
chain_written x ls = ap view.form_tree (sym (rolls-Chain x ls))
    ∙ fold-roll-Form plain.FormTree plain.ItemTree plain.LinkTree plain.LocalTree plain.NodeTree
    plain.AttributeTree plain.AttributesTree plain.BranchTree plain.BranchesTree plain.ExpTree plain.ExpsTree
    plain.FieldTree plain.FieldsTree plain.ItemsTree plain.LinksTree plain.LocalsTree plain.NamedTree
    plain.NamedListTree plain.NodesTree view.form_step view.item_step view.link_step view.local_step view.node_step
    view.attribute_step view.attributes_step view.branch_step view.branches_step view.exp_step view.exps_step
    view.field_step view.fields_step view.items_step view.links_step view.locals_step view.named_step
    view.named_list_step view.nodes_step (Form-F.Chain x ls)
