-- The trees of lists of terms have their elements.
use Rattle.std.proofs.Common.{◌≡◌, List, [], ◌∷◌, map, refl, ap, ◌∙◌}
use Rattle.core_terms.specs.Trees.{Pt, Pf, Pfs, Ex, Fo, Its, Nms, Los, Brs, Fds, El, Ats, Xs, Exs, It, a_term, a_con, a_guard, Lo, a_val, a_rec}
use Rattle.core_terms.specs.View.{PatFieldTree, AttributeTree, BranchTree, FieldTree, NamedTree, NodeTree, LiteralTree, pat_form_step, pat_step, pat_field_step, pat_fields_step, form_step, item_step, local_step, attribute_step, attributes_step, branch_step, branches_step, element_step, exp_step, exps_step, field_step, fields_step, items_step, literal_step, locals_step, named_step, named_list_step, node_step, nodes_step, items_tree, named_list_tree, named_tree, locals_tree, branches_tree, fields_tree, attributes_tree, nodes_tree, exps_tree, exp_tree, pat_fields_tree, items_from, named_from, locals_from, branches_from, fields_from, attributes_from, nodes_from, exps_from, pat_fields_from}
use Rattle.core_terms.specs.Lists.{item_list, name_list, local_list, branch_list, field_list, attribute_list, node_list, exp_list, pat_field_list, item_tree, local_tree, branch_tree, field_tree, attribute_tree, node_tree, pat_field_tree}
use Rattle.core_terms.specs.declared.exp.Form.{Form}
use Rattle.core_terms.specs.declared.exp.Item.{Item}
use Rattle.core_terms.specs.declared.exp.Local.{Local}
use Rattle.core_terms.specs.declared.exp.Attribute.{Attribute}
use Rattle.core_terms.specs.declared.exp.Attributes.{Attributes}
use Rattle.core_terms.specs.declared.exp.Branch.{Branch}
use Rattle.core_terms.specs.declared.exp.Branches.{Branches}
use Rattle.core_terms.specs.declared.exp.Element.{Element}
use Rattle.core_terms.specs.declared.exp.Exp.{Exp}
use Rattle.core_terms.specs.declared.exp.Exps.{Exps}
use Rattle.core_terms.specs.declared.exp.Field.{Field}
use Rattle.core_terms.specs.declared.exp.Fields.{Fields}
use Rattle.core_terms.specs.declared.exp.Items.{Items}
use Rattle.core_terms.specs.declared.exp.Literal.{Literal}
use Rattle.core_terms.specs.declared.exp.Node.{Node}
use Rattle.core_terms.specs.declared.exp.Nodes.{Nodes}
use Rattle.core_terms.specs.declared.exp.Locals.{Locals}
use Rattle.core_terms.specs.declared.exp.Named.{Named}
use Rattle.core_terms.specs.declared.exp.NamedList.{NamedList}
use Rattle.core_terms.specs.declared.exp.Form.TheOpen.{Items-F, NamedList-F, Locals-F, Branches-F, Fields-F, Attributes-F, Exps-F, Nodes-F}
use Rattle.core_terms.specs.declared.exp.Form.TheViews.{out-Items, roll-Items, out-NamedList, roll-NamedList, out-Locals, roll-Locals, out-Branches, roll-Branches, out-Fields, roll-Fields, out-Attributes, roll-Attributes, out-Exps, roll-Exps, out-Nodes, roll-Nodes}
use Rattle.core_terms.specs.declared.exp.Form.TheFolds.{fold_out-Items, fold-roll-Items, fold_out-NamedList, fold-roll-NamedList, fold_out-Locals, fold-roll-Locals, fold_out-Branches, fold-roll-Branches, fold_out-Fields, fold-roll-Fields, fold_out-Attributes, fold-roll-Attributes, fold_out-Exps, fold-roll-Exps, fold_out-Nodes, fold-roll-Nodes}
use Rattle.core_terms.specs.declared.pat.Pat.{Pat}
use Rattle.core_terms.specs.declared.pat.PatForm.{PatForm}
use Rattle.core_terms.specs.declared.pat.PatField.{PatField}
use Rattle.core_terms.specs.declared.pat.PatFields.{PatFields}
use Rattle.core_terms.specs.declared.pat.PatForm.TheOpen.{PatFields-F}
use Rattle.core_terms.specs.declared.pat.PatForm.TheViews.{out-PatFields, roll-PatFields}
use Rattle.core_terms.specs.declared.pat.PatForm.TheFolds.{fold_out-PatFields, fold-roll-PatFields}

item_list_from : (xs : List It) → item_list (items_from xs) ≡ xs
item_list_from [] = refl
item_list_from (a_term e ∷ xs) = ap (λ ys. a_term e ∷ ys) (item_list_from xs)
item_list_from (a_con p a c ∷ xs) = ap (λ ys. a_con p a c ∷ ys) (item_list_from xs)
item_list_from (a_guard p a ∷ xs) = ap (λ ys. a_guard p a ∷ ys) (item_list_from xs)

pub item_listed : (l : Items) → item_list (items_tree l) ≡ map item_tree (out-Items l).items.items
item_listed l = ap item_list (fold_out-Items Fo It Lo AttributeTree Ats BranchTree Brs El Ex Exs FieldTree Fds Its LiteralTree Los NamedTree Nms NodeTree Xs form_step item_step local_step attribute_step attributes_step branch_step branches_step element_step exp_step exps_step field_step fields_step items_step literal_step locals_step named_step named_list_step node_step nodes_step l) ∙ item_list_from (map item_tree (out-Items l).items.items)

pub item_listed-roll : (r : Items-F Form Item Local Attribute Attributes Branch Branches Element Exp Exps Field Fields Items Literal Locals Named NamedList Node Nodes) → item_list (items_tree (roll-Items r)) ≡ map item_tree r.items.items
item_listed-roll r = ap item_list (fold-roll-Items Fo It Lo AttributeTree Ats BranchTree Brs El Ex Exs FieldTree Fds Its LiteralTree Los NamedTree Nms NodeTree Xs form_step item_step local_step attribute_step attributes_step branch_step branches_step element_step exp_step exps_step field_step fields_step items_step literal_step locals_step named_step named_list_step node_step nodes_step r) ∙ item_list_from (map item_tree r.items.items)

name_list_from : (xs : List NamedTree) → name_list (named_from xs) ≡ xs
name_list_from [] = refl
name_list_from (x ∷ xs) = ap (λ ys. x ∷ ys) (name_list_from xs)

pub name_listed : (l : NamedList) → name_list (named_list_tree l) ≡ map named_tree (out-NamedList l).items.items
name_listed l = ap name_list (fold_out-NamedList Fo It Lo AttributeTree Ats BranchTree Brs El Ex Exs FieldTree Fds Its LiteralTree Los NamedTree Nms NodeTree Xs form_step item_step local_step attribute_step attributes_step branch_step branches_step element_step exp_step exps_step field_step fields_step items_step literal_step locals_step named_step named_list_step node_step nodes_step l) ∙ name_list_from (map named_tree (out-NamedList l).items.items)

pub name_listed-roll : (r : NamedList-F Form Item Local Attribute Attributes Branch Branches Element Exp Exps Field Fields Items Literal Locals Named NamedList Node Nodes) → name_list (named_list_tree (roll-NamedList r)) ≡ map named_tree r.items.items
name_listed-roll r = ap name_list (fold-roll-NamedList Fo It Lo AttributeTree Ats BranchTree Brs El Ex Exs FieldTree Fds Its LiteralTree Los NamedTree Nms NodeTree Xs form_step item_step local_step attribute_step attributes_step branch_step branches_step element_step exp_step exps_step field_step fields_step items_step literal_step locals_step named_step named_list_step node_step nodes_step r) ∙ name_list_from (map named_tree r.items.items)

local_list_from : (xs : List Lo) → local_list (locals_from xs) ≡ xs
local_list_from [] = refl
local_list_from (a_val p x w t e ∷ xs) = ap (λ ys. a_val p x w t e ∷ ys) (local_list_from xs)
local_list_from (a_rec ns ∷ xs) = ap (λ ys. a_rec ns ∷ ys) (local_list_from xs)

pub local_listed : (l : Locals) → local_list (locals_tree l) ≡ map local_tree (out-Locals l).items.items
local_listed l = ap local_list (fold_out-Locals Fo It Lo AttributeTree Ats BranchTree Brs El Ex Exs FieldTree Fds Its LiteralTree Los NamedTree Nms NodeTree Xs form_step item_step local_step attribute_step attributes_step branch_step branches_step element_step exp_step exps_step field_step fields_step items_step literal_step locals_step named_step named_list_step node_step nodes_step l) ∙ local_list_from (map local_tree (out-Locals l).items.items)

pub local_listed-roll : (r : Locals-F Form Item Local Attribute Attributes Branch Branches Element Exp Exps Field Fields Items Literal Locals Named NamedList Node Nodes) → local_list (locals_tree (roll-Locals r)) ≡ map local_tree r.items.items
local_listed-roll r = ap local_list (fold-roll-Locals Fo It Lo AttributeTree Ats BranchTree Brs El Ex Exs FieldTree Fds Its LiteralTree Los NamedTree Nms NodeTree Xs form_step item_step local_step attribute_step attributes_step branch_step branches_step element_step exp_step exps_step field_step fields_step items_step literal_step locals_step named_step named_list_step node_step nodes_step r) ∙ local_list_from (map local_tree r.items.items)

branch_list_from : (xs : List BranchTree) → branch_list (branches_from xs) ≡ xs
branch_list_from [] = refl
branch_list_from (x ∷ xs) = ap (λ ys. x ∷ ys) (branch_list_from xs)

pub branch_listed : (l : Branches) → branch_list (branches_tree l) ≡ map branch_tree (out-Branches l).items.items
branch_listed l = ap branch_list (fold_out-Branches Fo It Lo AttributeTree Ats BranchTree Brs El Ex Exs FieldTree Fds Its LiteralTree Los NamedTree Nms NodeTree Xs form_step item_step local_step attribute_step attributes_step branch_step branches_step element_step exp_step exps_step field_step fields_step items_step literal_step locals_step named_step named_list_step node_step nodes_step l) ∙ branch_list_from (map branch_tree (out-Branches l).items.items)

pub branch_listed-roll : (r : Branches-F Form Item Local Attribute Attributes Branch Branches Element Exp Exps Field Fields Items Literal Locals Named NamedList Node Nodes) → branch_list (branches_tree (roll-Branches r)) ≡ map branch_tree r.items.items
branch_listed-roll r = ap branch_list (fold-roll-Branches Fo It Lo AttributeTree Ats BranchTree Brs El Ex Exs FieldTree Fds Its LiteralTree Los NamedTree Nms NodeTree Xs form_step item_step local_step attribute_step attributes_step branch_step branches_step element_step exp_step exps_step field_step fields_step items_step literal_step locals_step named_step named_list_step node_step nodes_step r) ∙ branch_list_from (map branch_tree r.items.items)

field_list_from : (xs : List FieldTree) → field_list (fields_from xs) ≡ xs
field_list_from [] = refl
field_list_from (x ∷ xs) = ap (λ ys. x ∷ ys) (field_list_from xs)

pub field_listed : (l : Fields) → field_list (fields_tree l) ≡ map field_tree (out-Fields l).items.items
field_listed l = ap field_list (fold_out-Fields Fo It Lo AttributeTree Ats BranchTree Brs El Ex Exs FieldTree Fds Its LiteralTree Los NamedTree Nms NodeTree Xs form_step item_step local_step attribute_step attributes_step branch_step branches_step element_step exp_step exps_step field_step fields_step items_step literal_step locals_step named_step named_list_step node_step nodes_step l) ∙ field_list_from (map field_tree (out-Fields l).items.items)

pub field_listed-roll : (r : Fields-F Form Item Local Attribute Attributes Branch Branches Element Exp Exps Field Fields Items Literal Locals Named NamedList Node Nodes) → field_list (fields_tree (roll-Fields r)) ≡ map field_tree r.items.items
field_listed-roll r = ap field_list (fold-roll-Fields Fo It Lo AttributeTree Ats BranchTree Brs El Ex Exs FieldTree Fds Its LiteralTree Los NamedTree Nms NodeTree Xs form_step item_step local_step attribute_step attributes_step branch_step branches_step element_step exp_step exps_step field_step fields_step items_step literal_step locals_step named_step named_list_step node_step nodes_step r) ∙ field_list_from (map field_tree r.items.items)

attribute_list_from : (xs : List AttributeTree) → attribute_list (attributes_from xs) ≡ xs
attribute_list_from [] = refl
attribute_list_from (x ∷ xs) = ap (λ ys. x ∷ ys) (attribute_list_from xs)

pub attribute_listed : (l : Attributes) → attribute_list (attributes_tree l) ≡ map attribute_tree (out-Attributes l).items.items
attribute_listed l = ap attribute_list (fold_out-Attributes Fo It Lo AttributeTree Ats BranchTree Brs El Ex Exs FieldTree Fds Its LiteralTree Los NamedTree Nms NodeTree Xs form_step item_step local_step attribute_step attributes_step branch_step branches_step element_step exp_step exps_step field_step fields_step items_step literal_step locals_step named_step named_list_step node_step nodes_step l) ∙ attribute_list_from (map attribute_tree (out-Attributes l).items.items)

pub attribute_listed-roll : (r : Attributes-F Form Item Local Attribute Attributes Branch Branches Element Exp Exps Field Fields Items Literal Locals Named NamedList Node Nodes) → attribute_list (attributes_tree (roll-Attributes r)) ≡ map attribute_tree r.items.items
attribute_listed-roll r = ap attribute_list (fold-roll-Attributes Fo It Lo AttributeTree Ats BranchTree Brs El Ex Exs FieldTree Fds Its LiteralTree Los NamedTree Nms NodeTree Xs form_step item_step local_step attribute_step attributes_step branch_step branches_step element_step exp_step exps_step field_step fields_step items_step literal_step locals_step named_step named_list_step node_step nodes_step r) ∙ attribute_list_from (map attribute_tree r.items.items)

exp_list_from : (xs : List Ex) → exp_list (exps_from xs) ≡ xs
exp_list_from [] = refl
exp_list_from (x ∷ xs) = ap (λ ys. x ∷ ys) (exp_list_from xs)

pub exp_listed : (l : Exps) → exp_list (exps_tree l) ≡ map exp_tree (out-Exps l).items.items
exp_listed l = ap exp_list (fold_out-Exps Fo It Lo AttributeTree Ats BranchTree Brs El Ex Exs FieldTree Fds Its LiteralTree Los NamedTree Nms NodeTree Xs form_step item_step local_step attribute_step attributes_step branch_step branches_step element_step exp_step exps_step field_step fields_step items_step literal_step locals_step named_step named_list_step node_step nodes_step l) ∙ exp_list_from (map exp_tree (out-Exps l).items.items)

pub exp_listed-roll : (r : Exps-F Form Item Local Attribute Attributes Branch Branches Element Exp Exps Field Fields Items Literal Locals Named NamedList Node Nodes) → exp_list (exps_tree (roll-Exps r)) ≡ map exp_tree r.items.items
exp_listed-roll r = ap exp_list (fold-roll-Exps Fo It Lo AttributeTree Ats BranchTree Brs El Ex Exs FieldTree Fds Its LiteralTree Los NamedTree Nms NodeTree Xs form_step item_step local_step attribute_step attributes_step branch_step branches_step element_step exp_step exps_step field_step fields_step items_step literal_step locals_step named_step named_list_step node_step nodes_step r) ∙ exp_list_from (map exp_tree r.items.items)

node_list_from : (xs : List NodeTree) → node_list (nodes_from xs) ≡ xs
node_list_from [] = refl
node_list_from (x ∷ xs) = ap (λ ys. x ∷ ys) (node_list_from xs)

pub node_listed : (l : Nodes) → node_list (nodes_tree l) ≡ map node_tree (out-Nodes l).items.items
node_listed l = ap node_list (fold_out-Nodes Fo It Lo AttributeTree Ats BranchTree Brs El Ex Exs FieldTree Fds Its LiteralTree Los NamedTree Nms NodeTree Xs form_step item_step local_step attribute_step attributes_step branch_step branches_step element_step exp_step exps_step field_step fields_step items_step literal_step locals_step named_step named_list_step node_step nodes_step l) ∙ node_list_from (map node_tree (out-Nodes l).items.items)

pub node_listed-roll : (r : Nodes-F Form Item Local Attribute Attributes Branch Branches Element Exp Exps Field Fields Items Literal Locals Named NamedList Node Nodes) → node_list (nodes_tree (roll-Nodes r)) ≡ map node_tree r.items.items
node_listed-roll r = ap node_list (fold-roll-Nodes Fo It Lo AttributeTree Ats BranchTree Brs El Ex Exs FieldTree Fds Its LiteralTree Los NamedTree Nms NodeTree Xs form_step item_step local_step attribute_step attributes_step branch_step branches_step element_step exp_step exps_step field_step fields_step items_step literal_step locals_step named_step named_list_step node_step nodes_step r) ∙ node_list_from (map node_tree r.items.items)

pat_field_list_from : (xs : List PatFieldTree) → pat_field_list (pat_fields_from xs) ≡ xs
pat_field_list_from [] = refl
pat_field_list_from (x ∷ xs) = ap (λ ys. x ∷ ys) (pat_field_list_from xs)

pub pat_field_listed : (l : PatFields) → pat_field_list (pat_fields_tree l) ≡ map pat_field_tree (out-PatFields l).items.items
pat_field_listed l = ap pat_field_list (fold_out-PatFields Pf Pt PatFieldTree Pfs pat_form_step pat_step pat_field_step pat_fields_step l) ∙ pat_field_list_from (map pat_field_tree (out-PatFields l).items.items)

pub pat_field_listed-roll : (r : PatFields-F PatForm Pat PatField PatFields) → pat_field_list (pat_fields_tree (roll-PatFields r)) ≡ map pat_field_tree r.items.items
pat_field_listed-roll r = ap pat_field_list (fold-roll-PatFields Pf Pt PatFieldTree Pfs pat_form_step pat_step pat_field_step pat_fields_step r) ∙ pat_field_list_from (map pat_field_tree r.items.items)
