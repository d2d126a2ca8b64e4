-- A term, and its form, as trees.
use Rattle.std.proofs.Common.{Box, Global, ◌≡◌, ap, sym, ◌∙◌}
use Rattle.con_terms.specs.View.{con_tree}
use Rattle.core_terms.specs.Lists.{branch_tree, node_tree}
use Rattle.core_terms.specs.View.{pat_tree}
use Rattle.core_terms.specs.Trees.{Ex, Fo, It, Lo, node, call, let_in, case_of, concat, element, Its, Nms, Los, Brs}
use Rattle.core_terms.specs.Trees.{Fds}
use Rattle.core_terms.specs.Trees.{El}
use Rattle.core_terms.specs.Trees.{tagged, Ats, Xs, Exs}
use Rattle.core_terms.specs.View.{AttributeTree, BranchTree, FieldTree, LiteralTree, NamedTree, NodeTree, exp_tree}
use Rattle.core_terms.specs.View.{form_tree, items_tree, branches_tree, locals_tree, attributes_tree, nodes_tree}
use Rattle.core_terms.specs.View.{maybe_name}
use Rattle.core_terms.specs.View.{form_step, item_step, local_step, attribute_step, attributes_step, branch_step}
use Rattle.core_terms.specs.View.{branches_step, element_step, exp_step, exps_step, field_step, fields_step}
use Rattle.core_terms.specs.View.{items_step, literal_step, locals_step, named_step, named_list_step, node_step}
use Rattle.core_terms.specs.View.{nodes_step}
use Rattle.core_terms.specs.declared.exp.Branch.{Branch}
use Rattle.core_terms.specs.declared.exp.Branches.{Branches}
use Rattle.core_terms.specs.declared.exp.Element.{Element}
use Rattle.core_terms.specs.declared.exp.Exp.{Exp}
use Rattle.core_terms.specs.declared.exp.Items.{Items}
use Rattle.core_terms.specs.declared.exp.Locals.{Locals}
use Rattle.core_terms.specs.declared.exp.Node.{Node}
use Rattle.core_terms.specs.declared.exp.Sigil.{Sigil}
use Rattle.core_terms.specs.declared.exp.Form.TheVariants as form
use Rattle.core_terms.specs.declared.exp.Form.TheOpen.{Form-F}
use Rattle.core_terms.specs.declared.exp.Form.TheViews.{out-Branch, out-Element, out-Exp, rolls-Call, rolls-Case}
use Rattle.core_terms.specs.declared.exp.Form.TheViews.{rolls-Element}
use Rattle.core_terms.specs.declared.exp.Form.TheViews.{out-Node, rolls-Cat, rolls-Let}
use Rattle.core_terms.specs.declared.exp.Form.TheFolds.{fold_out-Node}
use Rattle.core_terms.specs.declared.exp.Form.TheFolds.{fold_out-Branch, fold_out-Element, fold_out-Exp}
use Rattle.core_terms.specs.declared.exp.Form.TheFolds.{fold-roll-Form}

pub exp_is : (e : Exp) → exp_tree e ≡ node (out-Exp e).place (out-Exp e).added (form_tree (out-Exp e).form)
exp_is e = fold_out-Exp Fo It Lo AttributeTree Ats BranchTree Brs El Ex Exs FieldTree Fds Its LiteralTree Los
    NamedTree Nms NodeTree Xs form_step item_step local_step attribute_step attributes_step branch_step
    branches_step element_step exp_step exps_step field_step fields_step items_step literal_step locals_step
    named_step named_list_step node_step nodes_step e

pub call_is : (h : Box Exp Global) (g : Sigil) (is : Items) → form_tree (form.Call h g is)
    ≡ call (exp_tree h.value) g (items_tree is)
call_is h g is = ap form_tree (sym (rolls-Call h g is))
    ∙ fold-roll-Form Fo It Lo AttributeTree Ats BranchTree Brs El Ex Exs FieldTree Fds Its LiteralTree Los
    NamedTree Nms NodeTree Xs form_step item_step local_step attribute_step attributes_step branch_step
    branches_step element_step exp_step exps_step field_step fields_step items_step literal_step locals_step
    named_step named_list_step node_step nodes_step (Form-F.Call h g is)

pub case_is : (x : Box Exp Global) (b : Box Branch Global) (bs : Branches) → form_tree (form.Case x b bs)
    ≡ case_of (exp_tree x.value) (branch_tree b.value).0 (branch_tree b.value).1 (branch_tree b.value).2
    (branches_tree bs)
case_is x b bs = ap form_tree (sym (rolls-Case x b bs))
    ∙ fold-roll-Form Fo It Lo AttributeTree Ats BranchTree Brs El Ex Exs FieldTree Fds Its LiteralTree Los
    NamedTree Nms NodeTree Xs form_step item_step local_step attribute_step attributes_step branch_step
    branches_step element_step exp_step exps_step field_step fields_step items_step literal_step locals_step
    named_step named_list_step node_step nodes_step (Form-F.Case x b bs)

pub element_is : (x : Box Element Global)
    → form_tree (form.Element x)
    ≡ element (tagged (out-Element x.value).tag (maybe_name (out-Element x.value).field)
    (con_tree (out-Element x.value).context) (con_tree (out-Element x.value).uses)
    (attributes_tree (out-Element x.value).attributes) (nodes_tree (out-Element x.value).content))
element_is x =
    ap form_tree (sym (rolls-Element x))
    ∙ fold-roll-Form Fo It Lo AttributeTree Ats BranchTree Brs El Ex Exs FieldTree Fds Its LiteralTree Los
    NamedTree Nms NodeTree Xs form_step item_step local_step attribute_step attributes_step branch_step
    branches_step element_step exp_step exps_step field_step fields_step items_step literal_step locals_step
    named_step named_list_step node_step nodes_step (Form-F.Element x)
    ∙ ap element (fold_out-Element Fo It Lo AttributeTree Ats BranchTree Brs El Ex Exs FieldTree Fds Its
    LiteralTree Los NamedTree Nms NodeTree Xs form_step item_step local_step attribute_step attributes_step
    branch_step branches_step element_step exp_step exps_step field_step fields_step items_step literal_step
    locals_step named_step named_list_step node_step nodes_step x.value)

pub let_is : (ls : Locals) (x : Box Exp Global) → form_tree (form.Let ls x)
    ≡ let_in (locals_tree ls) (exp_tree x.value)
let_is ls x = ap form_tree (sym (rolls-Let ls x))
    ∙ fold-roll-Form Fo It Lo AttributeTree Ats BranchTree Brs El Ex Exs FieldTree Fds Its LiteralTree Los
    NamedTree Nms NodeTree Xs form_step item_step local_step attribute_step attributes_step branch_step
    branches_step element_step exp_step exps_step field_step fields_step items_step literal_step locals_step
    named_step named_list_step node_step nodes_step (Form-F.Let ls x)

pub branch_is : (b : Branch) → branch_tree b ≡ (
  (out-Branch b).place,
  pat_tree (out-Branch b).pat,
  exp_tree
      (out-Branch b).body,
)
branch_is b = fold_out-Branch Fo It Lo AttributeTree Ats BranchTree Brs El Ex Exs FieldTree Fds Its LiteralTree Los
    NamedTree Nms NodeTree Xs form_step item_step local_step attribute_step attributes_step branch_step
    branches_step element_step exp_step exps_step field_step fields_step items_step literal_step locals_step
    named_step named_list_step node_step nodes_step b

pub cat_is : (x y : Box Exp Global) → form_tree (form.Cat x y) ≡ concat (exp_tree x.value) (exp_tree y.value)
cat_is x y = ap form_tree (sym (rolls-Cat x y))
    ∙ fold-roll-Form Fo It Lo AttributeTree Ats BranchTree Brs El Ex Exs FieldTree Fds Its LiteralTree Los
    NamedTree Nms NodeTree Xs form_step item_step local_step attribute_step attributes_step branch_step
    branches_step element_step exp_step exps_step field_step fields_step items_step literal_step locals_step
    named_step named_list_step node_step nodes_step (Form-F.Cat x y)

pub node_is : (x : Node) → node_tree x ≡ (con_tree (out-Node x).fills, exp_tree (out-Node x).term)
node_is x = fold_out-Node Fo It Lo AttributeTree Ats BranchTree Brs El Ex Exs FieldTree Fds Its LiteralTree Los
    NamedTree Nms NodeTree Xs form_step item_step local_step attribute_step attributes_step branch_step
    branches_step element_step exp_step exps_step field_step fields_step items_step literal_step locals_step
    named_step named_list_step node_step nodes_step x
