use Rattle.std.proofs.Common.{◌≡◌, map, take}
use Rattle.run_values.specs.View.{attribute_tree}
use Rattle.page_walk.proofs.trees.attributes_of.Given as goal

abbrev pub invariant-loop-attribute : goal.invariant-loop-attribute
invariant-loop-attribute l = l.attrs ≡ map attribute_tree (take l.attribute-index l.given)
