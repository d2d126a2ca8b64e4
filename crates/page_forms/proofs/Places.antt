-- The place of nodes, from the tags among them.
use Rattle.std.proofs.Common.{◌≡◌, Bool, true, false, ◌&&◌, List, [], ◌∷◌, map, Option, Some, refl, ap, sym, ◌∙◌, if◌then◌else◌}
use Rattle.core_terms.specs.Markup.{in_body}
use Rattle.guided_terms.specs.Contexts as rule
use Rattle.page_forms.specs.Tags.{tags_of, all_stand, first_of, is_nil, are_texts}
use Rattle.plain_tree.specs.Trees.{NodesTree, no_nodes, more_nodes, node_run, node_exp, node_element}
use Rattle.xml_trees.specs.SourceNames.{tag_named}
use Rattle.xml_trees.specs.declared.source_name.TagName.{TagName}

-- whether what each name stands for is a tag that fits a place
abbrev names_fit : rule.Ring → List (Option TagName) → Bool
names_fit r [] = true
names_fit r (o ∷ os) = rule.named_fits o r && names_fit r os

-- nodes fit where the names of their elements do
nodes_fit : (r : rule.Ring) (ns : NodesTree) → rule.all_fit r ns ≡ names_fit r (tags_of ns)
nodes_fit r no_nodes = refl
nodes_fit r (more_nodes (node_run at t) ns) = nodes_fit r ns
nodes_fit r (more_nodes (node_exp at e) ns) = nodes_fit r ns
nodes_fit r (more_nodes (node_element at tag c as' es) ns) =
    ap (λ b. rule.named_fits (tag_named tag) r && b) (nodes_fit r ns)

both : (a b : Bool) → (a && b) ≡ (if a then b else false)
both true b = refl
both false b = refl

-- names of tags fit where the tags stand
tags_fit : (r : rule.Ring) (gs : List TagName) → names_fit r (map Some gs) ≡ all_stand r gs
tags_fit r [] = refl
tags_fit r (g ∷ gs) =
    ap (λ b. rule.tag_fits g r && b) (tags_fit r gs) ∙ both (rule.tag_fits g r) (all_stand r gs)

all_fit : (r : rule.Ring) (ns : NodesTree) (gs : List TagName) → tags_of ns ≡ map Some gs →
    rule.all_fit r ns ≡ all_stand r gs
all_fit r ns gs e = nodes_fit r ns ∙ ap (names_fit r) e ∙ tags_fit r gs

first_fits : (rs : List rule.Ring) (ns : NodesTree) (gs : List TagName) → tags_of ns ≡ map Some gs →
    rule.first_that_fits rs ns ≡ first_of rs gs
first_fits [] ns gs e = refl
first_fits (r ∷ rs) ns gs e =
    ap (λ b. if b then Some r else rule.first_that_fits rs ns) (all_fit r ns gs e)
    ∙ ap (λ o. if all_stand r gs then Some r else o) (first_fits rs ns gs e)

no_tags : (ns : NodesTree) → rule.no_element ns ≡ is_nil (tags_of ns)
no_tags no_nodes = refl
no_tags (more_nodes (node_run at t) ns) = no_tags ns
no_tags (more_nodes (node_exp at e) ns) = no_tags ns
no_tags (more_nodes (node_element at tag c as' es) ns) = refl

texts_by_names : (ns : NodesTree) → rule.are_texts ns ≡ are_texts ns (tags_of ns)
texts_by_names no_nodes = refl
texts_by_names (more_nodes (node_run at t) ns) = no_tags ns
texts_by_names (more_nodes (node_exp at e) ns) = no_tags ns
texts_by_names (more_nodes (node_element at tag c as' es) ns) = refl

texts_by_tags : (ns : NodesTree) (gs : List TagName) → are_texts ns (map Some gs) ≡ are_texts ns gs
texts_by_tags no_nodes gs = refl
texts_by_tags (more_nodes n ns) [] = refl
texts_by_tags (more_nodes n ns) (g ∷ gs) = refl

texts : (ns : NodesTree) (gs : List TagName) → tags_of ns ≡ map Some gs → rule.are_texts ns ≡ are_texts ns gs
texts ns gs e = texts_by_names ns ∙ ap (λ os. are_texts ns os) e ∙ texts_by_tags ns gs

-- texts alone stand in a body
pub place_of_texts : (ns : NodesTree) (gs : List TagName) → tags_of ns ≡ map Some gs → are_texts ns gs ≡ true →
    Some (rule.free in_body) ≡ rule.place_of ns
place_of_texts ns gs e t =
    sym (ap (λ b. if b then Some (rule.free in_body) else rule.first_that_fits rule.rings ns) (texts ns gs e ∙ t))

-- other nodes stand in the first place in which each tag does
pub place_of_tags : (ns : NodesTree) (gs : List TagName) → tags_of ns ≡ map Some gs → are_texts ns gs ≡ false →
    first_of rule.rings gs ≡ rule.place_of ns
place_of_tags ns gs e t =
    sym (ap (λ b. if b then Some (rule.free in_body) else rule.first_that_fits rule.rings ns) (texts ns gs e ∙ t)
    ∙ first_fits rule.rings ns gs e)
