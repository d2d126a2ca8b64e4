-- The trees of lists of terms, and what targets their members have.
use Rattle.std.proofs.Common.{◌≡◌, List, [], ◌∷◌, ◌++◌, map, refl, ap, ◌∙◌}
use Rattle.core_terms.specs.Trees.{Pt, Pf, Pfs, Ex, Fo, Its, Nms, Los, Brs, Fds, El, Ats, Xs, Exs, It, a_term, a_con, a_guard, Lo, a_val, a_rec}
use Rattle.core_terms.specs.View.{PatFieldTree, AttributeTree, BranchTree, FieldTree, NamedTree, NodeTree, LiteralTree, pat_form_step, pat_step, pat_field_step, pat_fields_step, form_step, item_step, local_step, attribute_step, attributes_step, branch_step, branches_step, element_step, exp_step, exps_step, field_step, fields_step, items_step, literal_step, locals_step, named_step, named_list_step, node_step, nodes_step, items_tree, named_list_tree, named_tree, locals_tree, branches_tree, fields_tree, attributes_tree, nodes_tree, exps_tree, exp_tree, pat_fields_tree, items_from, named_from, locals_from, branches_from, fields_from, attributes_from, nodes_from, exps_from, pat_fields_from}
use Rattle.core_terms.specs.Lists.{item_list, name_list, local_list, branch_list, field_list, attribute_list, node_list, exp_list, pat_field_list, item_tree, local_tree, branch_tree, field_tree, attribute_tree, node_tree, pat_field_tree}
use Rattle.core_terms.specs.declared.exp.Form.{Form}
use Rattle.core_terms.specs.declared.exp.Item.{Item}
use Rattle.core_terms.specs.declared.exp.Local.{Local}
use Rattle.core_terms.specs.declared.exp.Attribute.{Attribute}
use Rattle.core_terms.specs.declared.exp.Attributes.{Attributes}
use Rattle.core_terms.specs.declared.exp.Branch.{Branch}
use Rattle.core_terms.specs.declared.exp.Branches.{Branches}
use Rattle.core_terms.specs.declared.exp.Element.{Element}
use Rattle.core_terms.specs.declared.exp.Exp.{Exp}
use Rattle.core_terms.specs.declared.exp.Exps.{Exps}
use Rattle.core_terms.specs.declared.exp.Field.{Field}
use Rattle.core_terms.specs.declared.exp.Fields.{Fields}
use Rattle.core_terms.specs.declared.exp.Items.{Items}
use Rattle.core_terms.specs.declared.exp.Literal.{Literal}
use Rattle.core_terms.specs.declared.exp.Node.{Node}
use Rattle.core_terms.specs.declared.exp.Nodes.{Nodes}
use Rattle.core_terms.specs.declared.exp.Locals.{Locals}
use Rattle.core_terms.specs.declared.exp.Named.{Named}
use Rattle.core_terms.specs.declared.exp.NamedList.{NamedList}
use Rattle.core_terms.specs.declared.exp.Form.TheOpen.{Items-F, NamedList-F, Locals-F, Branches-F, Fields-F, Attributes-F, Exps-F, Nodes-F}
use Rattle.core_terms.specs.declared.exp.Form.TheViews.{out-Items, roll-Items, out-NamedList, roll-NamedList, out-Locals, roll-Locals, out-Branches, roll-Branches, out-Fields, roll-Fields, out-Attributes, roll-Attributes, out-Exps, roll-Exps, out-Nodes, roll-Nodes}
use Rattle.core_terms.specs.declared.exp.Form.TheFolds.{fold_out-Items, fold-roll-Items, fold_out-NamedList, fold-roll-NamedList, fold_out-Locals, fold-roll-Locals, fold_out-Branches, fold-roll-Branches, fold_out-Fields, fold-roll-Fields, fold_out-Attributes, fold-roll-Attributes, fold_out-Exps, fold-roll-Exps, fold_out-Nodes, fold-roll-Nodes}
use Rattle.core_typing.specs.Targets.{Target, targets, items_targets, locals_targets, element_targets, attributes_targets, nodes_targets}
use Rattle.core_terms.specs.declared.exp.Form.TheFolds.{fold_out-Element}
use Rattle.core_terms.specs.declared.exp.Form.TheViews.{out-Element}
use Rattle.site_routes.specs.View.{element_tree}
use Rattle.site_routes.specs.Marking.{item_targets, local_targets}
use Rattle.core_terms.specs.View.{with_item, with_local}

pub items_are : (l : Items) → items_tree l ≡ items_from (map item_tree (out-Items l).items.items)
items_are l = fold_out-Items Fo It Lo AttributeTree Ats BranchTree Brs El Ex Exs FieldTree Fds Its LiteralTree Los NamedTree Nms NodeTree Xs form_step item_step local_step attribute_step attributes_step branch_step branches_step element_step exp_step exps_step field_step fields_step items_step literal_step locals_step named_step named_list_step node_step nodes_step l

pub named_are : (l : NamedList) → named_list_tree l ≡ named_from (map named_tree (out-NamedList l).items.items)
named_are l = fold_out-NamedList Fo It Lo AttributeTree Ats BranchTree Brs El Ex Exs FieldTree Fds Its LiteralTree Los NamedTree Nms NodeTree Xs form_step item_step local_step attribute_step attributes_step branch_step branches_step element_step exp_step exps_step field_step fields_step items_step literal_step locals_step named_step named_list_step node_step nodes_step l

pub locals_are : (l : Locals) → locals_tree l ≡ locals_from (map local_tree (out-Locals l).items.items)
locals_are l = fold_out-Locals Fo It Lo AttributeTree Ats BranchTree Brs El Ex Exs FieldTree Fds Its LiteralTree Los NamedTree Nms NodeTree Xs form_step item_step local_step attribute_step attributes_step branch_step branches_step element_step exp_step exps_step field_step fields_step items_step literal_step locals_step named_step named_list_step node_step nodes_step l

pub branches_are : (l : Branches) → branches_tree l ≡ branches_from (map branch_tree (out-Branches l).items.items)
branches_are l = fold_out-Branches Fo It Lo AttributeTree Ats BranchTree Brs El Ex Exs FieldTree Fds Its LiteralTree Los NamedTree Nms NodeTree Xs form_step item_step local_step attribute_step attributes_step branch_step branches_step element_step exp_step exps_step field_step fields_step items_step literal_step locals_step named_step named_list_step node_step nodes_step l

pub fields_are : (l : Fields) → fields_tree l ≡ fields_from (map field_tree (out-Fields l).items.items)
fields_are l = fold_out-Fields Fo It Lo AttributeTree Ats BranchTree Brs El Ex Exs FieldTree Fds Its LiteralTree Los NamedTree Nms NodeTree Xs form_step item_step local_step attribute_step attributes_step branch_step branches_step element_step exp_step exps_step field_step fields_step items_step literal_step locals_step named_step named_list_step node_step nodes_step l

pub attributes_are : (l : Attributes) → attributes_tree l ≡ attributes_from (map attribute_tree (out-Attributes l).items.items)
attributes_are l = fold_out-Attributes Fo It Lo AttributeTree Ats BranchTree Brs El Ex Exs FieldTree Fds Its LiteralTree Los NamedTree Nms NodeTree Xs form_step item_step local_step attribute_step attributes_step branch_step branches_step element_step exp_step exps_step field_step fields_step items_step literal_step locals_step named_step named_list_step node_step nodes_step l

pub nodes_are : (l : Nodes) → nodes_tree l ≡ nodes_from (map node_tree (out-Nodes l).items.items)
nodes_are l = fold_out-Nodes Fo It Lo AttributeTree Ats BranchTree Brs El Ex Exs FieldTree Fds Its LiteralTree Los NamedTree Nms NodeTree Xs form_step item_step local_step attribute_step attributes_step branch_step branches_step element_step exp_step exps_step field_step fields_step items_step literal_step locals_step named_step named_list_step node_step nodes_step l

pub exps_are : (l : Exps) → exps_tree l ≡ exps_from (map exp_tree (out-Exps l).items.items)
exps_are l = fold_out-Exps Fo It Lo AttributeTree Ats BranchTree Brs El Ex Exs FieldTree Fds Its LiteralTree Los NamedTree Nms NodeTree Xs form_step item_step local_step attribute_step attributes_step branch_step branches_step element_step exp_step exps_step field_step fields_step items_step literal_step locals_step named_step named_list_step node_step nodes_step l

pub item_split : (i : It) (is : Its) → items_targets (with_item i is) ≡ item_targets i ++ items_targets is
item_split (a_term e) is = refl
item_split (a_con p a c) is = refl
item_split (a_guard p a) is = refl

pub local_split : (l : Lo) (ls : Los) → locals_targets (with_local l ls) ≡ local_targets l ++ locals_targets ls
local_split (a_val p x w t e) ls = refl
local_split (a_rec ns) ls = refl

pub element_parts : (m : Element) → element_targets (element_tree m) ≡ attributes_targets (attributes_tree (out-Element m).attributes) ++ nodes_targets (nodes_tree (out-Element m).content)
element_parts m = ap element_targets (fold_out-Element Fo It Lo AttributeTree Ats BranchTree Brs El Ex Exs FieldTree Fds Its LiteralTree Los NamedTree Nms NodeTree Xs form_step item_step local_step attribute_step attributes_step branch_step branches_step element_step exp_step exps_step field_step fields_step items_step literal_step locals_step named_step named_list_step node_step nodes_step m)
