-- Where nodes stand, as it is computed from the tags among them.
use Rattle.std.specs.Prelude.{Bool, true, false, List, [], ◌∷◌, Option, Some, None, if◌then◌else◌}
use Rattle.guided_terms.specs.Contexts.{Ring, tag_fits}
use Rattle.plain_tree.specs.Trees.{NodeTree, node_element, NodesTree, no_nodes, more_nodes}
use Rattle.xml_trees.specs.SourceNames.{tag_named}
use Rattle.xml_trees.specs.declared.source_name.TagName.{TagName}

-- the tags of the elements among nodes, in order; none in place of a name that is no tag's
abbrev pub tags_with : NodeTree → List (Option TagName) → List (Option TagName)
tags_with (node_element at name c as' ns) tags = tag_named name ∷ tags
tags_with _ tags = tags

abbrev pub tags_of : NodesTree → List (Option TagName)
tags_of no_nodes = []
tags_of (more_nodes n ns) = tags_with n (tags_of ns)

-- whether each tag stands in a place
abbrev pub all_stand : Ring → List TagName → Bool
all_stand r [] = true
all_stand r (g ∷ gs) = if tag_fits g r then all_stand r gs else false

-- the first of some places in which each tag stands
abbrev pub first_of : List Ring → List TagName → Option Ring
first_of [] gs = None
first_of (r ∷ rs) gs = if all_stand r gs then Some r else first_of rs gs

-- whether there is nothing in a list
abbrev pub is_nil : {A : Type 0} → List A → Bool
is_nil [] = true
is_nil (x ∷ xs) = false

-- whether there are nodes, and no tags among them
abbrev pub are_texts : {A : Type 0} → NodesTree → List A → Bool
are_texts no_nodes gs = false
are_texts (more_nodes n ns) gs = is_nil gs
