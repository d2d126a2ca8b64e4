-- Lists of parts: what a list stands for is what its elements stand for, one before the other.
use Rattle.std.proofs.Common.{◌≡◌, ℕ, true, false, List, [], ◌∷◌, map, refl, ap, ◌∙◌}
use Rattle.con_terms.specs.declared.place.Place.{Place}
use Rattle.core_terms.specs.declared.exp.ConOrigin.TheVariants.{Written, Inserted, Wild}
use Rattle.core_terms.specs.Lists.{pat_field_tree, item_tree, local_tree, branch_tree, field_tree, attribute_tree}
use Rattle.core_terms.specs.Lists.{node_tree}
use Rattle.core_terms.specs.Strip.{strip_pattern_fields, strip_items, strip_named, strip_locals}
use Rattle.core_terms.specs.Strip.{strip_branches, strip_fields, strip_attributes, strip_nodes, strip_exps}
use Rattle.core_terms.specs.Trees.{Pt, Pf, Pfs, Ex, node, Fo, Its, no_items, Nms, Los, no_locals, Brs, Fds, El, Ats, Xs}
use Rattle.core_terms.specs.Trees.{Exs, It, a_term, a_con, a_guard, Lo, a_val, a_rec}
use Rattle.core_terms.specs.View.{AttributeTree, BranchTree, FieldTree, NamedTree, NodeTree, LiteralTree, PatFieldTree}
use Rattle.core_terms.specs.View.{form_step, item_step, local_step, attribute_step, attributes_step, branch_step}
use Rattle.core_terms.specs.View.{branches_step, element_step, exp_step, exps_step, field_step, fields_step}
use Rattle.core_terms.specs.View.{items_step, literal_step, locals_step, named_step, named_list_step, node_step}
use Rattle.core_terms.specs.View.{nodes_step, pat_form_step, pat_step, pat_field_step, pat_fields_step}
use Rattle.core_terms.specs.View.{attributes_from, branches_from, fields_from, nodes_from, exps_from, named_from}
use Rattle.core_terms.specs.View.{items_from, locals_from, pat_fields_from, with_item, with_local, exp_tree, named_tree}
use Rattle.core_terms.specs.View.{attributes_tree, branches_tree, fields_tree, nodes_tree, exps_tree, named_list_tree}
use Rattle.core_terms.specs.View.{items_tree, locals_tree, pat_fields_tree, constructor_view, column_view}
use Rattle.core_terms.specs.declared.exp.Form.TheFolds as folds
use Rattle.core_terms.specs.declared.exp.Form.TheViews as views
use Rattle.core_terms.specs.declared.pat.PatForm.TheFolds as pat_folds
use Rattle.core_terms.specs.declared.pat.PatForm.TheViews as pat_views
use Rattle.core_terms.specs.declared.decl.Column.{Column}
use Rattle.core_terms.specs.declared.decl.Constructor.{Constructor}
use Rattle.core_terms.specs.declared.exp.Attribute.{Attribute}
use Rattle.core_terms.specs.declared.exp.Attributes.{Attributes}
use Rattle.core_terms.specs.declared.exp.Branch.{Branch}
use Rattle.core_terms.specs.declared.exp.Branches.{Branches}
use Rattle.core_terms.specs.declared.exp.Exp.{Exp}
use Rattle.core_terms.specs.declared.exp.Exps.{Exps}
use Rattle.core_terms.specs.declared.exp.Field.{Field}
use Rattle.core_terms.specs.declared.exp.Fields.{Fields}
use Rattle.core_terms.specs.declared.exp.Item.{Item}
use Rattle.core_terms.specs.declared.exp.Items.{Items}
use Rattle.core_terms.specs.declared.exp.Local.{Local}
use Rattle.core_terms.specs.declared.exp.Locals.{Locals}
use Rattle.core_terms.specs.declared.exp.Named.{Named}
use Rattle.core_terms.specs.declared.exp.NamedList.{NamedList}
use Rattle.core_terms.specs.declared.exp.Node.{Node}
use Rattle.core_terms.specs.declared.exp.Nodes.{Nodes}
use Rattle.core_terms.specs.declared.pat.PatField.{PatField}
use Rattle.core_terms.specs.declared.pat.PatFields.{PatFields}
use Rattle.plain_tree.specs.ConView as pattern
use Rattle.plain_tree.specs.ExpView as view
use Rattle.plain_tree.specs.Trees as plain
use Rattle.plain_tree.specs.View.{builder_tree}
use Rattle.plain_tree.specs.declared.decl.DatatypeBuilder.{DatatypeBuilder}
use Rattle.plain_tree.specs.declared.names.Word.{Word}
use Rattle.plain_tree.specs.declared.exp.Form.TheFolds as plain_folds
use Rattle.plain_tree.specs.declared.exp.Form.TheViews as plain_views
use Rattle.plain_tree.specs.declared.pat.PatForm.TheFolds as plain_pat_folds
use Rattle.plain_tree.specs.declared.pat.PatForm.TheViews as plain_pat_views
use Rattle.plain_tree.specs.declared.exp.Attribute as pAttribute
use Rattle.plain_tree.specs.declared.exp.Attributes as pAttributes
use Rattle.plain_tree.specs.declared.exp.Branch as pBranch
use Rattle.plain_tree.specs.declared.exp.Branches as pBranches
use Rattle.plain_tree.specs.declared.exp.Exp as pExp
use Rattle.plain_tree.specs.declared.exp.Exps as pExps
use Rattle.plain_tree.specs.declared.exp.Field as pField
use Rattle.plain_tree.specs.declared.exp.Fields as pFields
use Rattle.plain_tree.specs.declared.exp.Item as pItem
use Rattle.plain_tree.specs.declared.exp.Items as pItems
use Rattle.plain_tree.specs.declared.exp.Link as pLink
use Rattle.plain_tree.specs.declared.exp.Links as pLinks
use Rattle.plain_tree.specs.declared.exp.Local as pLocal
use Rattle.plain_tree.specs.declared.exp.Locals as pLocals
use Rattle.plain_tree.specs.declared.exp.Named as pNamed
use Rattle.plain_tree.specs.declared.exp.NamedList as pNamedList
use Rattle.plain_tree.specs.declared.exp.Node as pNode
use Rattle.plain_tree.specs.declared.exp.Nodes as pNodes
use Rattle.plain_tree.specs.declared.pat.PatField as pPatField
use Rattle.plain_tree.specs.declared.pat.PatFields as pPatFields
use Rattle.placed_terms.specs.Made as place
use Rattle.placed_terms.specs.MadeItems as made
use Rattle.placed_terms.specs.Parts.{then_all}
use Rattle.placed_terms.specs.Source as byte
use Rattle.placed_terms.specs.SourceItems as source

-- a declaration of a let, an item of a call, before the others
first_local : (l : Lo) (ls : Los) (more : List Place) → place.locals_then (strip_locals (with_local l ls)) more
    ≡ place.locals_then (strip_locals (with_local l no_locals)) (place.locals_then (strip_locals ls) more)
first_local (a_val p x w t e) ls more = refl
first_local (a_rec ns) ls more = refl

first_item : (i : It) (is : Its) (more : List Place) → place.items_then (strip_items (with_item i is)) more
    ≡ place.items_then (strip_items (with_item i no_items)) (place.items_then (strip_items is) more)
first_item (a_term (node p true f)) is more = refl
first_item (a_term (node p false f)) is more = refl
first_item (a_con p Written c) is more = refl
first_item (a_con p Inserted c) is more = refl
first_item (a_con p Wild c) is more = refl
first_item (a_guard p true) is more = refl
first_item (a_guard p false) is more = refl

fields_list : (xs : List Field) (more : List Place)
    → place.fields_then (strip_fields (fields_from (map field_tree xs))) more ≡ then_all made.field_places xs more
fields_list [] more = refl
fields_list (x ∷ xs) more = ap (made.field_places x) (fields_list xs more)

pub fields_are : (xs : Fields) (more : List Place)
    → place.fields_then (strip_fields (fields_tree xs)) more ≡ then_all made.field_places (views.out-Fields xs).items.items more
fields_are xs more = ap (λ z. place.fields_then (strip_fields z) more) (folds.fold_out-Fields Fo It Lo AttributeTree Ats BranchTree Brs El Ex Exs FieldTree Fds Its LiteralTree Los
    NamedTree Nms NodeTree Xs form_step item_step local_step attribute_step attributes_step branch_step
    branches_step element_step exp_step exps_step field_step fields_step items_step literal_step locals_step
    named_step named_list_step node_step nodes_step xs)
    ∙ fields_list (views.out-Fields xs).items.items more

attributes_list : (xs : List Attribute) (more : List Place)
    → place.attributes_then (strip_attributes (attributes_from (map attribute_tree xs))) more ≡ then_all made.attribute_places xs more
attributes_list [] more = refl
attributes_list (x ∷ xs) more = ap (made.attribute_places x) (attributes_list xs more)

pub attributes_are : (xs : Attributes) (more : List Place)
    → place.attributes_then (strip_attributes (attributes_tree xs)) more ≡ then_all made.attribute_places (views.out-Attributes xs).items.items more
attributes_are xs more = ap (λ z. place.attributes_then (strip_attributes z) more) (folds.fold_out-Attributes Fo It Lo AttributeTree Ats BranchTree Brs El Ex Exs FieldTree Fds Its LiteralTree Los
    NamedTree Nms NodeTree Xs form_step item_step local_step attribute_step attributes_step branch_step
    branches_step element_step exp_step exps_step field_step fields_step items_step literal_step locals_step
    named_step named_list_step node_step nodes_step xs)
    ∙ attributes_list (views.out-Attributes xs).items.items more

nodes_list : (xs : List Node) (more : List Place)
    → place.nodes_then (strip_nodes (nodes_from (map node_tree xs))) more ≡ then_all made.node_places xs more
nodes_list [] more = refl
nodes_list (x ∷ xs) more = ap (made.node_places x) (nodes_list xs more)

pub nodes_are : (xs : Nodes) (more : List Place)
    → place.nodes_then (strip_nodes (nodes_tree xs)) more ≡ then_all made.node_places (views.out-Nodes xs).items.items more
nodes_are xs more = ap (λ z. place.nodes_then (strip_nodes z) more) (folds.fold_out-Nodes Fo It Lo AttributeTree Ats BranchTree Brs El Ex Exs FieldTree Fds Its LiteralTree Los
    NamedTree Nms NodeTree Xs form_step item_step local_step attribute_step attributes_step branch_step
    branches_step element_step exp_step exps_step field_step fields_step items_step literal_step locals_step
    named_step named_list_step node_step nodes_step xs)
    ∙ nodes_list (views.out-Nodes xs).items.items more

terms_list : (xs : List Exp) (more : List Place)
    → place.exps_then (strip_exps (exps_from (map exp_tree xs))) more ≡ then_all made.term_places xs more
terms_list [] more = refl
terms_list (x ∷ xs) more = ap (made.term_places x) (terms_list xs more)

pub terms_are : (xs : Exps) (more : List Place)
    → place.exps_then (strip_exps (exps_tree xs)) more ≡ then_all made.term_places (views.out-Exps xs).items.items more
terms_are xs more = ap (λ z. place.exps_then (strip_exps z) more) (folds.fold_out-Exps Fo It Lo AttributeTree Ats BranchTree Brs El Ex Exs FieldTree Fds Its LiteralTree Los
    NamedTree Nms NodeTree Xs form_step item_step local_step attribute_step attributes_step branch_step
    branches_step element_step exp_step exps_step field_step fields_step items_step literal_step locals_step
    named_step named_list_step node_step nodes_step xs)
    ∙ terms_list (views.out-Exps xs).items.items more

locals_list : (xs : List Local) (more : List Place)
    → place.locals_then (strip_locals (locals_from (map local_tree xs))) more ≡ then_all made.local_places xs more
locals_list [] more = refl
locals_list (x ∷ xs) more = first_local (local_tree x) (locals_from (map local_tree xs)) more
    ∙ ap (made.local_places x) (locals_list xs more)

pub locals_are : (xs : Locals) (more : List Place)
    → place.locals_then (strip_locals (locals_tree xs)) more ≡ then_all made.local_places (views.out-Locals xs).items.items more
locals_are xs more = ap (λ z. place.locals_then (strip_locals z) more) (folds.fold_out-Locals Fo It Lo AttributeTree Ats BranchTree Brs El Ex Exs FieldTree Fds Its LiteralTree Los
    NamedTree Nms NodeTree Xs form_step item_step local_step attribute_step attributes_step branch_step
    branches_step element_step exp_step exps_step field_step fields_step items_step literal_step locals_step
    named_step named_list_step node_step nodes_step xs)
    ∙ locals_list (views.out-Locals xs).items.items more

branches_list : (xs : List Branch) (more : List Place)
    → place.branches_then (strip_branches (branches_from (map branch_tree xs))) more ≡ then_all made.branch_places xs more
branches_list [] more = refl
branches_list (x ∷ xs) more = ap (made.branch_places x) (branches_list xs more)

pub branches_are : (xs : Branches) (more : List Place)
    → place.branches_then (strip_branches (branches_tree xs)) more ≡ then_all made.branch_places (views.out-Branches xs).items.items more
branches_are xs more = ap (λ z. place.branches_then (strip_branches z) more) (folds.fold_out-Branches Fo It Lo AttributeTree Ats BranchTree Brs El Ex Exs FieldTree Fds Its LiteralTree Los
    NamedTree Nms NodeTree Xs form_step item_step local_step attribute_step attributes_step branch_step
    branches_step element_step exp_step exps_step field_step fields_step items_step literal_step locals_step
    named_step named_list_step node_step nodes_step xs)
    ∙ branches_list (views.out-Branches xs).items.items more

items_list : (xs : List Item) (more : List Place)
    → place.items_then (strip_items (items_from (map item_tree xs))) more ≡ then_all made.item_places xs more
items_list [] more = refl
items_list (x ∷ xs) more = first_item (item_tree x) (items_from (map item_tree xs)) more
    ∙ ap (made.item_places x) (items_list xs more)

pub items_are : (xs : Items) (more : List Place)
    → place.items_then (strip_items (items_tree xs)) more ≡ then_all made.item_places (views.out-Items xs).items.items more
items_are xs more = ap (λ z. place.items_then (strip_items z) more) (folds.fold_out-Items Fo It Lo AttributeTree Ats BranchTree Brs El Ex Exs FieldTree Fds Its LiteralTree Los
    NamedTree Nms NodeTree Xs form_step item_step local_step attribute_step attributes_step branch_step
    branches_step element_step exp_step exps_step field_step fields_step items_step literal_step locals_step
    named_step named_list_step node_step nodes_step xs)
    ∙ items_list (views.out-Items xs).items.items more

names_list : (xs : List Named) (more : List Place)
    → place.named_then (strip_named (named_from (map named_tree xs))) more ≡ then_all made.named_places xs more
names_list [] more = refl
names_list (x ∷ xs) more = ap (made.named_places x) (names_list xs more)

pub names_are : (xs : NamedList) (more : List Place)
    → place.named_then (strip_named (named_list_tree xs)) more ≡ then_all made.named_places (views.out-NamedList xs).items.items more
names_are xs more = ap (λ z. place.named_then (strip_named z) more) (folds.fold_out-NamedList Fo It Lo AttributeTree Ats BranchTree Brs El Ex Exs FieldTree Fds Its LiteralTree Los
    NamedTree Nms NodeTree Xs form_step item_step local_step attribute_step attributes_step branch_step
    branches_step element_step exp_step exps_step field_step fields_step items_step literal_step locals_step
    named_step named_list_step node_step nodes_step xs)
    ∙ names_list (views.out-NamedList xs).items.items more

pub items_tree_is : (xs : Items) → items_tree xs ≡ items_from (map item_tree (views.out-Items xs).items.items)
items_tree_is xs = folds.fold_out-Items Fo It Lo AttributeTree Ats BranchTree Brs El Ex Exs FieldTree Fds Its LiteralTree Los
    NamedTree Nms NodeTree Xs form_step item_step local_step attribute_step attributes_step branch_step
    branches_step element_step exp_step exps_step field_step fields_step items_step literal_step locals_step
    named_step named_list_step node_step nodes_step xs

pattern_fields_list : (xs : List PatField) (more : List Place)
    → place.pattern_fields_then (strip_pattern_fields (pat_fields_from (map pat_field_tree xs))) more
    ≡ then_all made.pattern_field_places xs more
pattern_fields_list [] more = refl
pattern_fields_list (x ∷ xs) more = ap (made.pattern_field_places x) (pattern_fields_list xs more)

pub pattern_fields_are : (xs : PatFields) (more : List Place)
    → place.pattern_fields_then (strip_pattern_fields (pat_fields_tree xs)) more
    ≡ then_all made.pattern_field_places (pat_views.out-PatFields xs).items.items more
pattern_fields_are xs more = ap (λ z. place.pattern_fields_then (strip_pattern_fields z) more)
    (pat_folds.fold_out-PatFields Pf Pt PatFieldTree Pfs pat_form_step pat_step pat_field_step pat_fields_step xs)
    ∙ pattern_fields_list (pat_views.out-PatFields xs).items.items more

pub constructors_are : (xs : List Constructor) (more : List Place)
    → place.constructors_then (map constructor_view xs) more ≡ then_all made.constructor_places xs more
constructors_are [] more = refl
constructors_are (x ∷ xs) more = ap (made.constructor_places x) (constructors_are xs more)

pub columns_are : (xs : List Column) (more : List Place)
    → place.columns_then (map column_view xs) more ≡ then_all made.column_places xs more
columns_are [] more = refl
columns_are (x ∷ xs) more = ap (made.column_places x) (columns_are xs more)

source_fields_list : (xs : List pField.Field) (more : List ℕ)
    → byte.fields_then (view.fields_from (map view.field_tree xs)) more ≡ then_all source.field_bytes xs more
source_fields_list [] more = refl
source_fields_list (x ∷ xs) more = ap (source.field_bytes x) (source_fields_list xs more)

pub source_fields_are : (xs : pFields.Fields) (more : List ℕ)
    → byte.fields_then (view.fields_tree xs) more ≡ then_all source.field_bytes (plain_views.out-Fields xs).items.items more
source_fields_are xs more = ap (λ z. byte.fields_then z more) (plain_folds.fold_out-Fields plain.FormTree plain.ItemTree plain.LinkTree plain.LocalTree
    plain.NodeTree plain.AttributeTree plain.AttributesTree plain.BranchTree plain.BranchesTree plain.ExpTree
    plain.ExpsTree plain.FieldTree plain.FieldsTree plain.ItemsTree plain.LinksTree plain.LocalsTree plain.NamedTree
    plain.NamedListTree plain.NodesTree view.form_step view.item_step view.link_step view.local_step view.node_step
    view.attribute_step view.attributes_step view.branch_step view.branches_step view.exp_step view.exps_step
    view.field_step view.fields_step view.items_step view.links_step view.locals_step view.named_step
    view.named_list_step view.nodes_step xs)
    ∙ source_fields_list (plain_views.out-Fields xs).items.items more

source_attributes_list : (xs : List pAttribute.Attribute) (more : List ℕ)
    → byte.attributes_then (view.attributes_from (map view.attribute_tree xs)) more ≡ then_all source.attribute_bytes xs more
source_attributes_list [] more = refl
source_attributes_list (x ∷ xs) more = ap (source.attribute_bytes x) (source_attributes_list xs more)

pub source_attributes_are : (xs : pAttributes.Attributes) (more : List ℕ)
    → byte.attributes_then (view.attributes_tree xs) more ≡ then_all source.attribute_bytes (plain_views.out-Attributes xs).items.items more
source_attributes_are xs more = ap (λ z. byte.attributes_then z more) (plain_folds.fold_out-Attributes plain.FormTree plain.ItemTree plain.LinkTree plain.LocalTree
    plain.NodeTree plain.AttributeTree plain.AttributesTree plain.BranchTree plain.BranchesTree plain.ExpTree
    plain.ExpsTree plain.FieldTree plain.FieldsTree plain.ItemsTree plain.LinksTree plain.LocalsTree plain.NamedTree
    plain.NamedListTree plain.NodesTree view.form_step view.item_step view.link_step view.local_step view.node_step
    view.attribute_step view.attributes_step view.branch_step view.branches_step view.exp_step view.exps_step
    view.field_step view.fields_step view.items_step view.links_step view.locals_step view.named_step
    view.named_list_step view.nodes_step xs)
    ∙ source_attributes_list (plain_views.out-Attributes xs).items.items more

source_nodes_list : (xs : List pNode.Node) (more : List ℕ)
    → byte.nodes_then (view.nodes_from (map view.node_tree xs)) more ≡ then_all source.node_bytes xs more
source_nodes_list [] more = refl
source_nodes_list (x ∷ xs) more = ap (source.node_bytes x) (source_nodes_list xs more)

pub source_nodes_are : (xs : pNodes.Nodes) (more : List ℕ)
    → byte.nodes_then (view.nodes_tree xs) more ≡ then_all source.node_bytes (plain_views.out-Nodes xs).items.items more
source_nodes_are xs more = ap (λ z. byte.nodes_then z more) (plain_folds.fold_out-Nodes plain.FormTree plain.ItemTree plain.LinkTree plain.LocalTree
    plain.NodeTree plain.AttributeTree plain.AttributesTree plain.BranchTree plain.BranchesTree plain.ExpTree
    plain.ExpsTree plain.FieldTree plain.FieldsTree plain.ItemsTree plain.LinksTree plain.LocalsTree plain.NamedTree
    plain.NamedListTree plain.NodesTree view.form_step view.item_step view.link_step view.local_step view.node_step
    view.attribute_step view.attributes_step view.branch_step view.branches_step view.exp_step view.exps_step
    view.field_step view.fields_step view.items_step view.links_step view.locals_step view.named_step
    view.named_list_step view.nodes_step xs)
    ∙ source_nodes_list (plain_views.out-Nodes xs).items.items more

source_terms_list : (xs : List pExp.Exp) (more : List ℕ)
    → byte.exps_then (view.exps_from (map view.exp_tree xs)) more ≡ then_all source.term_bytes xs more
source_terms_list [] more = refl
source_terms_list (x ∷ xs) more = ap (source.term_bytes x) (source_terms_list xs more)

pub source_terms_are : (xs : pExps.Exps) (more : List ℕ)
    → byte.exps_then (view.exps_tree xs) more ≡ then_all source.term_bytes (plain_views.out-Exps xs).items.items more
source_terms_are xs more = ap (λ z. byte.exps_then z more) (plain_folds.fold_out-Exps plain.FormTree plain.ItemTree plain.LinkTree plain.LocalTree
    plain.NodeTree plain.AttributeTree plain.AttributesTree plain.BranchTree plain.BranchesTree plain.ExpTree
    plain.ExpsTree plain.FieldTree plain.FieldsTree plain.ItemsTree plain.LinksTree plain.LocalsTree plain.NamedTree
    plain.NamedListTree plain.NodesTree view.form_step view.item_step view.link_step view.local_step view.node_step
    view.attribute_step view.attributes_step view.branch_step view.branches_step view.exp_step view.exps_step
    view.field_step view.fields_step view.items_step view.links_step view.locals_step view.named_step
    view.named_list_step view.nodes_step xs)
    ∙ source_terms_list (plain_views.out-Exps xs).items.items more

source_locals_list : (xs : List pLocal.Local) (more : List ℕ)
    → byte.locals_then (view.locals_from (map view.local_tree xs)) more ≡ then_all source.local_bytes xs more
source_locals_list [] more = refl
source_locals_list (x ∷ xs) more = ap (source.local_bytes x) (source_locals_list xs more)

pub source_locals_are : (xs : pLocals.Locals) (more : List ℕ)
    → byte.locals_then (view.locals_tree xs) more ≡ then_all source.local_bytes (plain_views.out-Locals xs).items.items more
source_locals_are xs more = ap (λ z. byte.locals_then z more) (plain_folds.fold_out-Locals plain.FormTree plain.ItemTree plain.LinkTree plain.LocalTree
    plain.NodeTree plain.AttributeTree plain.AttributesTree plain.BranchTree plain.BranchesTree plain.ExpTree
    plain.ExpsTree plain.FieldTree plain.FieldsTree plain.ItemsTree plain.LinksTree plain.LocalsTree plain.NamedTree
    plain.NamedListTree plain.NodesTree view.form_step view.item_step view.link_step view.local_step view.node_step
    view.attribute_step view.attributes_step view.branch_step view.branches_step view.exp_step view.exps_step
    view.field_step view.fields_step view.items_step view.links_step view.locals_step view.named_step
    view.named_list_step view.nodes_step xs)
    ∙ source_locals_list (plain_views.out-Locals xs).items.items more

source_branches_list : (xs : List pBranch.Branch) (more : List ℕ)
    → byte.branches_then (view.branches_from (map view.branch_tree xs)) more ≡ then_all source.branch_bytes xs more
source_branches_list [] more = refl
source_branches_list (x ∷ xs) more = ap (source.branch_bytes x) (source_branches_list xs more)

pub source_branches_are : (xs : pBranches.Branches) (more : List ℕ)
    → byte.branches_then (view.branches_tree xs) more ≡ then_all source.branch_bytes (plain_views.out-Branches xs).items.items more
source_branches_are xs more = ap (λ z. byte.branches_then z more) (plain_folds.fold_out-Branches plain.FormTree plain.ItemTree plain.LinkTree plain.LocalTree
    plain.NodeTree plain.AttributeTree plain.AttributesTree plain.BranchTree plain.BranchesTree plain.ExpTree
    plain.ExpsTree plain.FieldTree plain.FieldsTree plain.ItemsTree plain.LinksTree plain.LocalsTree plain.NamedTree
    plain.NamedListTree plain.NodesTree view.form_step view.item_step view.link_step view.local_step view.node_step
    view.attribute_step view.attributes_step view.branch_step view.branches_step view.exp_step view.exps_step
    view.field_step view.fields_step view.items_step view.links_step view.locals_step view.named_step
    view.named_list_step view.nodes_step xs)
    ∙ source_branches_list (plain_views.out-Branches xs).items.items more

source_items_list : (xs : List pItem.Item) (more : List ℕ)
    → byte.items_then (view.items_from (map view.item_tree xs)) more ≡ then_all source.item_bytes xs more
source_items_list [] more = refl
source_items_list (x ∷ xs) more = ap (source.item_bytes x) (source_items_list xs more)

pub source_items_are : (xs : pItems.Items) (more : List ℕ)
    → byte.items_then (view.items_tree xs) more ≡ then_all source.item_bytes (plain_views.out-Items xs).items.items more
source_items_are xs more = ap (λ z. byte.items_then z more) (plain_folds.fold_out-Items plain.FormTree plain.ItemTree plain.LinkTree plain.LocalTree
    plain.NodeTree plain.AttributeTree plain.AttributesTree plain.BranchTree plain.BranchesTree plain.ExpTree
    plain.ExpsTree plain.FieldTree plain.FieldsTree plain.ItemsTree plain.LinksTree plain.LocalsTree plain.NamedTree
    plain.NamedListTree plain.NodesTree view.form_step view.item_step view.link_step view.local_step view.node_step
    view.attribute_step view.attributes_step view.branch_step view.branches_step view.exp_step view.exps_step
    view.field_step view.fields_step view.items_step view.links_step view.locals_step view.named_step
    view.named_list_step view.nodes_step xs)
    ∙ source_items_list (plain_views.out-Items xs).items.items more

source_names_list : (xs : List pNamed.Named) (more : List ℕ)
    → byte.group_then (view.named_list_from (map view.named_tree xs)) more ≡ then_all source.named_bytes xs more
source_names_list [] more = refl
source_names_list (x ∷ xs) more = ap (source.named_bytes x) (source_names_list xs more)

pub source_names_are : (xs : pNamedList.NamedList) (more : List ℕ)
    → byte.group_then (view.named_list_tree xs) more ≡ then_all source.named_bytes (plain_views.out-NamedList xs).items.items more
source_names_are xs more = ap (λ z. byte.group_then z more) (plain_folds.fold_out-NamedList plain.FormTree plain.ItemTree plain.LinkTree plain.LocalTree
    plain.NodeTree plain.AttributeTree plain.AttributesTree plain.BranchTree plain.BranchesTree plain.ExpTree
    plain.ExpsTree plain.FieldTree plain.FieldsTree plain.ItemsTree plain.LinksTree plain.LocalsTree plain.NamedTree
    plain.NamedListTree plain.NodesTree view.form_step view.item_step view.link_step view.local_step view.node_step
    view.attribute_step view.attributes_step view.branch_step view.branches_step view.exp_step view.exps_step
    view.field_step view.fields_step view.items_step view.links_step view.locals_step view.named_step
    view.named_list_step view.nodes_step xs)
    ∙ source_names_list (plain_views.out-NamedList xs).items.items more

source_links_list : (xs : List pLink.Link) (more : List ℕ)
    → byte.links_behind (view.links_from (map view.link_tree xs)) more ≡ then_all source.link_bytes xs more
source_links_list [] more = refl
source_links_list (x ∷ xs) more = ap (source.link_bytes x) (source_links_list xs more)

pub source_links_are : (xs : pLinks.Links) (more : List ℕ)
    → byte.links_behind (view.links_tree xs) more ≡ then_all source.link_bytes (plain_views.out-Links xs).items.items more
source_links_are xs more = ap (λ z. byte.links_behind z more) (plain_folds.fold_out-Links plain.FormTree plain.ItemTree plain.LinkTree plain.LocalTree
    plain.NodeTree plain.AttributeTree plain.AttributesTree plain.BranchTree plain.BranchesTree plain.ExpTree
    plain.ExpsTree plain.FieldTree plain.FieldsTree plain.ItemsTree plain.LinksTree plain.LocalsTree plain.NamedTree
    plain.NamedListTree plain.NodesTree view.form_step view.item_step view.link_step view.local_step view.node_step
    view.attribute_step view.attributes_step view.branch_step view.branches_step view.exp_step view.exps_step
    view.field_step view.fields_step view.items_step view.links_step view.locals_step view.named_step
    view.named_list_step view.nodes_step xs)
    ∙ source_links_list (plain_views.out-Links xs).items.items more

first_pattern_field : (f : plain.PatFieldTree) (fs : plain.PatFieldsTree) (more : List ℕ)
    → byte.pattern_fields_then (plain.more_pat_fields f fs) more
    ≡ byte.pattern_fields_then (plain.more_pat_fields f plain.no_pat_fields) (byte.pattern_fields_then fs more)
first_pattern_field (plain.pat_field at c p) fs more = refl

source_pattern_fields_list : (xs : List pPatField.PatField) (more : List ℕ)
    → byte.pattern_fields_then (pattern.pat_fields_from (map pattern.pat_field_tree xs)) more
    ≡ then_all source.pattern_field_bytes xs more
source_pattern_fields_list [] more = refl
source_pattern_fields_list (x ∷ xs) more =
    first_pattern_field (pattern.pat_field_tree x) (pattern.pat_fields_from (map pattern.pat_field_tree xs)) more
    ∙ ap (source.pattern_field_bytes x) (source_pattern_fields_list xs more)

pub source_pattern_fields_are : (xs : pPatFields.PatFields) (more : List ℕ)
    → byte.pattern_fields_then (pattern.pat_fields_tree xs) more
    ≡ then_all source.pattern_field_bytes (plain_pat_views.out-PatFields xs).items.items more
source_pattern_fields_are xs more = ap (λ z. byte.pattern_fields_then z more)
    (plain_pat_folds.fold_out-PatFields plain.PatFormTree plain.PatTree plain.PatFieldTree plain.PatFieldsTree
    pattern.pat_form_step pattern.pat_step pattern.pat_field_step pattern.pat_fields_step xs)
    ∙ source_pattern_fields_list (plain_pat_views.out-PatFields xs).items.items more

pub source_builders_are : (xs : List DatatypeBuilder) (more : List ℕ)
    → byte.builders_then (map builder_tree xs) more ≡ then_all source.builder_bytes xs more
source_builders_are [] more = refl
source_builders_are (x ∷ xs) more = ap (source.builder_bytes x) (source_builders_are xs more)

pub source_words_are : (xs : List Word) (more : List ℕ) → byte.words_then xs more ≡ then_all source.word_bytes xs more
source_words_are [] more = refl
source_words_are (x ∷ xs) more = ap (source.word_bytes x) (source_words_are xs more)
