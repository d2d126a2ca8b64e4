-- Whether there are nodes, and no tags among them, by their numbers.
use Rattle.std.proofs.Common.{◌≡◌, ℕ, suc, Bool, true, false, ◌==◌, List, [], ◌∷◌, map, length, refl, ap, sym, ◌∙◌, arith}
use Rattle.page_forms.specs.Tags.{are_texts}
use Rattle.plain_tree.specs.ExpView as view
use Rattle.plain_tree.specs.Trees as plain
use Rattle.plain_tree.specs.declared.exp.Form.TheFolds.{fold_out-Nodes}
use Rattle.plain_tree.specs.declared.exp.Form.TheViews.{out-Nodes}
use Rattle.plain_tree.specs.declared.exp.Node.{Node}
use Rattle.plain_tree.specs.declared.exp.Nodes.{Nodes}
use Rattle.xml_trees.specs.declared.source_name.TagName.{TagName}

nodes_are : (ns : Nodes) → view.nodes_tree ns ≡ view.nodes_from (map view.node_tree (out-Nodes ns).items.items)
nodes_are ns = fold_out-Nodes plain.FormTree plain.ItemTree plain.LinkTree plain.LocalTree plain.NodeTree
    plain.AttributeTree plain.AttributesTree plain.BranchTree plain.BranchesTree plain.ExpTree plain.ExpsTree
    plain.FieldTree plain.FieldsTree plain.ItemsTree plain.LinksTree plain.LocalsTree plain.NamedTree
    plain.NamedListTree plain.NodesTree view.form_step view.item_step view.link_step view.local_step view.node_step
    view.attribute_step view.attributes_step view.branch_step view.branches_step view.exp_step view.exps_step
    view.field_step view.fields_step view.items_step view.links_step view.locals_step view.named_step
    view.named_list_step view.nodes_step ns

some_more : (n : ℕ) → (suc n == 0) ≡ false
some_more n = grind arith

texts_listed : (xs : List Node) (gs : List TagName) → (length xs == 0) ≡ false →
    (length gs == 0) ≡ are_texts (view.nodes_from (map view.node_tree xs)) gs
texts_listed [] gs e = let same : true ≡ false = e in cc
texts_listed (x ∷ xs) [] e = refl
texts_listed (x ∷ xs) (g ∷ gs) e = some_more (length gs)

-- where there are nodes, they are texts just where there are no tags
pub texts_are : (ns : Nodes) (gs : List TagName) (a b : Bool) (m n : ℕ) → a ≡ (m == 0) → a ≡ false → b ≡ (n == 0) →
    m ≡ length (out-Nodes ns).items.items → n ≡ length gs → b ≡ are_texts (view.nodes_tree ns) gs
texts_are ns gs a b m n e f h p q =
    h ∙ ap (λ (k : ℕ). k == 0) q
    ∙ texts_listed (out-Nodes ns).items.items gs (sym (ap (λ (k : ℕ). k == 0) p) ∙ sym e ∙ f)
    ∙ sym (ap (λ t. are_texts t gs) (nodes_are ns))
