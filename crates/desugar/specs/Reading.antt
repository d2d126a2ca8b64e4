-- Reading the listing of a tree from right to left.
use Rattle.std.specs.Prelude.{List, [], ◌∷◌}
use Rattle.surface_tree.specs.declared.token.Token.{Token}
use Rattle.surface_grammar.specs.declared.rule.Rule.{Rule}
use Rattle.surface_grammar.specs.declared.tree.Mark.{Mark}
use Rattle.surface_grammar.specs.declared.tree.Mark.TheVariants as m
use Rattle.surface_grammar.specs.Table.{body_of}
use Rattle.desugar_values.specs.Meanings.{a_word}
use Rattle.desugar.specs.Leaves.{spelled}
use Rattle.desugar.specs.Plain.{built}
use Rattle.desugar.specs.Stacks.{Entry, item, end, value, parts_met}

-- a rule stands in the place of its parts
abbrev pub reduced : Rule → List Entry → List Entry
reduced q es = value (built q (parts_met (body_of q) es).0) ∷ (parts_met (body_of q) es).1

-- what stands on the stack behind marks and tokens, both from the last to the first
abbrev pub reads : List Mark → List Token → List Entry → List Entry
reads [] ts es = es
reads (m.Leaf ∷ ms) [] es = reads ms [] es
reads (m.Leaf ∷ ms) (t ∷ ts) es = reads ms ts (value (a_word (spelled t)) ∷ es)
reads (m.Rule q ∷ ms) ts es = reads ms ts (reduced q es)
reads (m.Item ∷ ms) ts es = reads ms ts (item ∷ es)
reads (m.End ∷ ms) ts es = reads ms ts (end ∷ es)
