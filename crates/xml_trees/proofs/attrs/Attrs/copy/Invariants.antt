use Rattle.std.proofs.Common.{◌≡◌, take}
use Rattle.xml_trees.proofs.attrs.Attrs.copy.Given as goal

abbrev pub invariant-loop-attr : goal.invariant-loop-attr
invariant-loop-attr l = l.made ≡ take l.attr-index l.attr-items
