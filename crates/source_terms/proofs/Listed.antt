-- Lists of parts of terms: they are read where they have one length and each part is read.
use Rattle.std.proofs.Common.{◌≡◌, Bool, true, false, ◌&&◌, List, [], ◌∷◌, map, refl, ap, ◌∙◌}
use Rattle.core_terms.specs.Lists.{branch_tree, field_tree, node_tree, attribute_tree, item_tree, local_tree}
use Rattle.core_terms.specs.Strip.{if_written, strip, strip_pattern, strip_branches, strip_named, strip_fields}
use Rattle.core_terms.specs.Strip.{strip_nodes, strip_attributes, strip_locals}
use Rattle.core_terms.specs.Trees.{Pt, Pf, Pfs, Ex, Fo, Its, Nms, Los, Brs, Fds, El, Ats, Xs, Exs, It, Lo}
use Rattle.core_terms.specs.Trees as core
use Rattle.core_terms.specs.View.{AttributeTree, BranchTree, FieldTree, NamedTree, NodeTree, LiteralTree, form_step}
use Rattle.core_terms.specs.View.{item_step, local_step, attribute_step, attributes_step, branch_step}
use Rattle.core_terms.specs.View.{branches_step, element_step, exp_step, exps_step, field_step, fields_step}
use Rattle.core_terms.specs.View.{items_step, literal_step, locals_step, named_step, named_list_step, node_step}
use Rattle.core_terms.specs.View.{nodes_step, branches_from, branches_tree, named_from, named_list_tree, named_tree}
use Rattle.core_terms.specs.View.{fields_from, fields_tree, nodes_from, nodes_tree, attributes_from}
use Rattle.core_terms.specs.View.{attributes_tree, locals_from, locals_tree}
use Rattle.core_terms.specs.declared.exp.Form.TheFolds as folds
use Rattle.core_terms.specs.declared.exp.Form.TheViews as views
use Rattle.core_terms.specs.declared.exp.Branch.{Branch}
use Rattle.core_terms.specs.declared.exp.Branches.{Branches}
use Rattle.core_terms.specs.declared.exp.Named.{Named}
use Rattle.core_terms.specs.declared.exp.NamedList.{NamedList}
use Rattle.core_terms.specs.declared.exp.Field.{Field}
use Rattle.core_terms.specs.declared.exp.Fields.{Fields}
use Rattle.core_terms.specs.declared.exp.Node.{Node}
use Rattle.core_terms.specs.declared.exp.Nodes.{Nodes}
use Rattle.core_terms.specs.declared.exp.Attribute.{Attribute}
use Rattle.core_terms.specs.declared.exp.Attributes.{Attributes}
use Rattle.core_terms.specs.declared.exp.Local.{Local}
use Rattle.core_terms.specs.declared.exp.Locals.{Locals}
use Rattle.plain_tree.specs.ExpView as view
use Rattle.plain_tree.specs.Trees as plain
use Rattle.plain_tree.specs.declared.exp.Form.TheFolds as plain_folds
use Rattle.plain_tree.specs.declared.exp.Form.TheViews as plain_views
use Rattle.plain_tree.specs.declared.exp.Branch as pBranch
use Rattle.plain_tree.specs.declared.exp.Branches as pBranches
use Rattle.plain_tree.specs.declared.exp.Named as pNamed
use Rattle.plain_tree.specs.declared.exp.NamedList as pNamedList
use Rattle.plain_tree.specs.declared.exp.Field as pField
use Rattle.plain_tree.specs.declared.exp.Fields as pFields
use Rattle.plain_tree.specs.declared.exp.Node as pNode
use Rattle.plain_tree.specs.declared.exp.Nodes as pNodes
use Rattle.plain_tree.specs.declared.exp.Attribute as pAttribute
use Rattle.plain_tree.specs.declared.exp.Attributes as pAttributes
use Rattle.plain_tree.specs.declared.exp.Local as pLocal
use Rattle.plain_tree.specs.declared.exp.Locals as pLocals
use Rattle.source_names.specs.Scopes.{Scope}
use Rattle.source_names.specs.Reading.{reads_con}
use Rattle.source_terms.specs.Leaves.{form_of}
use Rattle.source_terms.specs.Parts.{reads_name, reads_field, reads_page_node, reads_attribute, reads_local}
use Rattle.source_terms.specs.Parts.{behind_local}
use Rattle.source_terms.specs.Terms.{reads_branch, reads_branches, reads_group, reads_fields, reads_nodes}
use Rattle.source_terms.specs.Terms.{reads_attributes, reads_locals}
use Rattle.source_terms.proofs.Pairs.{both}

no_fields_behind : (s : Scope) (f : plain.FieldTree) (fs : plain.FieldsTree)
    → reads_fields s (plain.more_fields f fs) core.no_fields ≡ false
no_fields_behind s (plain.field at c e) fs = refl

no_attributes_behind : (s : Scope) (f : plain.AttributeTree) (fs : plain.AttributesTree)
    → reads_attributes s (plain.more_attributes f fs) core.no_attributes ≡ false
no_attributes_behind s (plain.attribute n e) fs = refl

first_field : (s : Scope) (f : plain.FieldTree) (fs : plain.FieldsTree) (g : FieldTree) (gs : Fds)
    → reads_fields s (plain.more_fields f fs) (core.field g.0 g.1 (strip g.2) gs)
    ≡ (reads_field s f g && reads_fields s fs gs)
first_field s (plain.field at c e) fs g gs = refl

first_attribute : (s : Scope) (f : plain.AttributeTree) (fs : plain.AttributesTree) (g : AttributeTree) (gs : Ats)
    → reads_attributes s (plain.more_attributes f fs) (core.attribute g.0 g.1 (strip g.2) gs)
    ≡ (reads_attribute s f g && reads_attributes s fs gs)
first_attribute s (plain.attribute n e) fs g gs = refl

branches_both : (s : Scope) (xs : List pBranch.Branch) (ys : List Branch)
    → reads_branches s (view.branches_from (map view.branch_tree xs))
    (strip_branches (branches_from (map branch_tree ys)))
    ≡ both (λ x y. reads_branch s (view.branch_tree x) (strip_pattern (branch_tree y).1)
    (form_of (strip (branch_tree y).2))) xs ys
branches_both s [] [] = refl
branches_both s [] (y ∷ ys) = refl
branches_both s (x ∷ xs) [] = refl
branches_both s (x ∷ xs) (y ∷ ys) = ap (λ b. reads_branch s (view.branch_tree x) (strip_pattern (branch_tree y).1)
    (form_of (strip (branch_tree y).2)) && b) (branches_both s xs ys)

pub branches_whole : (s : Scope) (xs : pBranches.Branches) (ys : Branches)
    → reads_branches s (view.branches_tree xs) (strip_branches (branches_tree ys))
    ≡ both (λ x y. reads_branch s (view.branch_tree x) (strip_pattern (branch_tree y).1)
    (form_of (strip (branch_tree y).2))) (plain_views.out-Branches xs).items.items
    (views.out-Branches ys).items.items
branches_whole s xs ys =
    ap (λ a. reads_branches s a (strip_branches (branches_tree ys))) (plain_folds.fold_out-Branches plain.FormTree
    plain.ItemTree plain.LinkTree plain.LocalTree plain.NodeTree plain.AttributeTree plain.AttributesTree
    plain.BranchTree plain.BranchesTree plain.ExpTree plain.ExpsTree plain.FieldTree plain.FieldsTree
    plain.ItemsTree plain.LinksTree plain.LocalsTree plain.NamedTree plain.NamedListTree plain.NodesTree
    view.form_step view.item_step view.link_step view.local_step view.node_step view.attribute_step
    view.attributes_step view.branch_step view.branches_step view.exp_step view.exps_step view.field_step
    view.fields_step view.items_step view.links_step view.locals_step view.named_step view.named_list_step
    view.nodes_step xs)
    ∙ ap (λ a. reads_branches s (view.branches_from
    (map view.branch_tree (plain_views.out-Branches xs).items.items)) (strip_branches a))
    (folds.fold_out-Branches Fo It Lo AttributeTree Ats BranchTree Brs El Ex Exs FieldTree Fds Its LiteralTree
    Los NamedTree Nms NodeTree Xs form_step item_step local_step attribute_step attributes_step branch_step
    branches_step element_step exp_step exps_step field_step fields_step items_step literal_step locals_step
    named_step named_list_step node_step nodes_step ys)
    ∙ branches_both s (plain_views.out-Branches xs).items.items (views.out-Branches ys).items.items

group_both : (s : Scope) (xs : List pNamed.Named) (ys : List Named)
    → reads_group s (view.named_list_from (map view.named_tree xs)) (strip_named (named_from (map named_tree ys)))
    ≡ both (λ x y. reads_name s (view.named_tree x) (named_tree y)) xs ys
group_both s [] [] = refl
group_both s [] (y ∷ ys) = refl
group_both s (x ∷ xs) [] = refl
group_both s (x ∷ xs) (y ∷ ys) = ap (λ b. reads_name s (view.named_tree x) (named_tree y) && b) (group_both s xs ys)

pub group_whole : (s : Scope) (xs : pNamedList.NamedList) (ys : NamedList)
    → reads_group s (view.named_list_tree xs) (strip_named (named_list_tree ys))
    ≡ both (λ x y. reads_name s (view.named_tree x) (named_tree y)) (plain_views.out-NamedList xs).items.items
    (views.out-NamedList ys).items.items
group_whole s xs ys =
    ap (λ a. reads_group s a (strip_named (named_list_tree ys))) (plain_folds.fold_out-NamedList plain.FormTree
    plain.ItemTree plain.LinkTree plain.LocalTree plain.NodeTree plain.AttributeTree plain.AttributesTree
    plain.BranchTree plain.BranchesTree plain.ExpTree plain.ExpsTree plain.FieldTree plain.FieldsTree
    plain.ItemsTree plain.LinksTree plain.LocalsTree plain.NamedTree plain.NamedListTree plain.NodesTree
    view.form_step view.item_step view.link_step view.local_step view.node_step view.attribute_step
    view.attributes_step view.branch_step view.branches_step view.exp_step view.exps_step view.field_step
    view.fields_step view.items_step view.links_step view.locals_step view.named_step view.named_list_step
    view.nodes_step xs)
    ∙ ap (λ a. reads_group s (view.named_list_from
    (map view.named_tree (plain_views.out-NamedList xs).items.items)) (strip_named a))
    (folds.fold_out-NamedList Fo It Lo AttributeTree Ats BranchTree Brs El Ex Exs FieldTree Fds Its LiteralTree
    Los NamedTree Nms NodeTree Xs form_step item_step local_step attribute_step attributes_step branch_step
    branches_step element_step exp_step exps_step field_step fields_step items_step literal_step locals_step
    named_step named_list_step node_step nodes_step ys)
    ∙ group_both s (plain_views.out-NamedList xs).items.items (views.out-NamedList ys).items.items

fields_both : (s : Scope) (xs : List pField.Field) (ys : List Field)
    → reads_fields s (view.fields_from (map view.field_tree xs)) (strip_fields (fields_from (map field_tree ys)))
    ≡ both (λ x y. reads_field s (view.field_tree x) (field_tree y)) xs ys
fields_both s [] [] = refl
fields_both s [] (y ∷ ys) = refl
fields_both s (x ∷ xs) [] = no_fields_behind s (view.field_tree x) (view.fields_from (map view.field_tree xs))
fields_both s (x ∷ xs) (y ∷ ys) = first_field s (view.field_tree x) (view.fields_from (map view.field_tree xs))
    (field_tree y) (strip_fields (fields_from (map field_tree ys)))
    ∙ ap (λ b. reads_field s (view.field_tree x) (field_tree y) && b) (fields_both s xs ys)

pub fields_whole : (s : Scope) (xs : pFields.Fields) (ys : Fields)
    → reads_fields s (view.fields_tree xs) (strip_fields (fields_tree ys))
    ≡ both (λ x y. reads_field s (view.field_tree x) (field_tree y)) (plain_views.out-Fields xs).items.items
    (views.out-Fields ys).items.items
fields_whole s xs ys =
    ap (λ a. reads_fields s a (strip_fields (fields_tree ys))) (plain_folds.fold_out-Fields plain.FormTree
    plain.ItemTree plain.LinkTree plain.LocalTree plain.NodeTree plain.AttributeTree plain.AttributesTree
    plain.BranchTree plain.BranchesTree plain.ExpTree plain.ExpsTree plain.FieldTree plain.FieldsTree
    plain.ItemsTree plain.LinksTree plain.LocalsTree plain.NamedTree plain.NamedListTree plain.NodesTree
    view.form_step view.item_step view.link_step view.local_step view.node_step view.attribute_step
    view.attributes_step view.branch_step view.branches_step view.exp_step view.exps_step view.field_step
    view.fields_step view.items_step view.links_step view.locals_step view.named_step view.named_list_step
    view.nodes_step xs)
    ∙ ap (λ a. reads_fields s (view.fields_from (map view.field_tree (plain_views.out-Fields xs).items.items))
    (strip_fields a)) (folds.fold_out-Fields Fo It Lo AttributeTree Ats BranchTree Brs El Ex Exs FieldTree Fds
    Its LiteralTree Los NamedTree Nms NodeTree Xs form_step item_step local_step attribute_step attributes_step
    branch_step branches_step element_step exp_step exps_step field_step fields_step items_step literal_step
    locals_step named_step named_list_step node_step nodes_step ys)
    ∙ fields_both s (plain_views.out-Fields xs).items.items (views.out-Fields ys).items.items

nodes_both : (s : Scope) (xs : List pNode.Node) (ys : List Node)
    → reads_nodes s (view.nodes_from (map view.node_tree xs)) (strip_nodes (nodes_from (map node_tree ys)))
    ≡ both (λ x y. reads_page_node s (view.node_tree x) (node_tree y)) xs ys
nodes_both s [] [] = refl
nodes_both s [] (y ∷ ys) = refl
nodes_both s (x ∷ xs) [] = refl
nodes_both s (x ∷ xs) (y ∷ ys) = ap (λ b. reads_page_node s (view.node_tree x) (node_tree y)
    && b) (nodes_both s xs ys)

pub nodes_whole : (s : Scope) (xs : pNodes.Nodes) (ys : Nodes)
    → reads_nodes s (view.nodes_tree xs) (strip_nodes (nodes_tree ys))
    ≡ both (λ x y. reads_page_node s (view.node_tree x) (node_tree y)) (plain_views.out-Nodes xs).items.items
    (views.out-Nodes ys).items.items
nodes_whole s xs ys =
    ap (λ a. reads_nodes s a (strip_nodes (nodes_tree ys))) (plain_folds.fold_out-Nodes plain.FormTree
    plain.ItemTree plain.LinkTree plain.LocalTree plain.NodeTree plain.AttributeTree plain.AttributesTree
    plain.BranchTree plain.BranchesTree plain.ExpTree plain.ExpsTree plain.FieldTree plain.FieldsTree
    plain.ItemsTree plain.LinksTree plain.LocalsTree plain.NamedTree plain.NamedListTree plain.NodesTree
    view.form_step view.item_step view.link_step view.local_step view.node_step view.attribute_step
    view.attributes_step view.branch_step view.branches_step view.exp_step view.exps_step view.field_step
    view.fields_step view.items_step view.links_step view.locals_step view.named_step view.named_list_step
    view.nodes_step xs)
    ∙ ap (λ a. reads_nodes s (view.nodes_from (map view.node_tree (plain_views.out-Nodes xs).items.items))
    (strip_nodes a)) (folds.fold_out-Nodes Fo It Lo AttributeTree Ats BranchTree Brs El Ex Exs FieldTree Fds
    Its LiteralTree Los NamedTree Nms NodeTree Xs form_step item_step local_step attribute_step attributes_step
    branch_step branches_step element_step exp_step exps_step field_step fields_step items_step literal_step
    locals_step named_step named_list_step node_step nodes_step ys)
    ∙ nodes_both s (plain_views.out-Nodes xs).items.items (views.out-Nodes ys).items.items

attributes_both : (s : Scope) (xs : List pAttribute.Attribute) (ys : List Attribute)
    → reads_attributes s (view.attributes_from (map view.attribute_tree xs))
    (strip_attributes (attributes_from (map attribute_tree ys)))
    ≡ both (λ x y. reads_attribute s (view.attribute_tree x) (attribute_tree y)) xs ys
attributes_both s [] [] = refl
attributes_both s [] (y ∷ ys) = refl
attributes_both s (x ∷ xs) [] = no_attributes_behind s (view.attribute_tree x)
    (view.attributes_from (map view.attribute_tree xs))
attributes_both s (x ∷ xs) (y ∷ ys) = first_attribute s (view.attribute_tree x)
    (view.attributes_from (map view.attribute_tree xs)) (attribute_tree y)
    (strip_attributes (attributes_from (map attribute_tree ys)))
    ∙ ap (λ b. reads_attribute s (view.attribute_tree x) (attribute_tree y) && b) (attributes_both s xs ys)

pub attributes_whole : (s : Scope) (xs : pAttributes.Attributes) (ys : Attributes)
    → reads_attributes s (view.attributes_tree xs) (strip_attributes (attributes_tree ys))
    ≡ both (λ x y. reads_attribute s (view.attribute_tree x) (attribute_tree y))
    (plain_views.out-Attributes xs).items.items (views.out-Attributes ys).items.items
attributes_whole s xs ys =
    ap (λ a. reads_attributes s a (strip_attributes (attributes_tree ys))) (plain_folds.fold_out-Attributes
    plain.FormTree plain.ItemTree plain.LinkTree plain.LocalTree plain.NodeTree plain.AttributeTree
    plain.AttributesTree plain.BranchTree plain.BranchesTree plain.ExpTree plain.ExpsTree plain.FieldTree
    plain.FieldsTree plain.ItemsTree plain.LinksTree plain.LocalsTree plain.NamedTree plain.NamedListTree
    plain.NodesTree view.form_step view.item_step view.link_step view.local_step view.node_step
    view.attribute_step view.attributes_step view.branch_step view.branches_step view.exp_step view.exps_step
    view.field_step view.fields_step view.items_step view.links_step view.locals_step view.named_step
    view.named_list_step view.nodes_step xs)
    ∙ ap (λ a. reads_attributes s (view.attributes_from
    (map view.attribute_tree (plain_views.out-Attributes xs).items.items)) (strip_attributes a))
    (folds.fold_out-Attributes Fo It Lo AttributeTree Ats BranchTree Brs El Ex Exs FieldTree Fds Its
    LiteralTree Los NamedTree Nms NodeTree Xs form_step item_step local_step attribute_step attributes_step
    branch_step branches_step element_step exp_step exps_step field_step fields_step items_step literal_step
    locals_step named_step named_list_step node_step nodes_step ys)
    ∙ attributes_both s (plain_views.out-Attributes xs).items.items (views.out-Attributes ys).items.items
