-- How a tree of the code lists a tree of the grammar.
use Rattle.std.specs.Prelude.{◌≡◌, List, [], ◌∷◌, ◌++◌}
use Rattle.surface_tree.specs.declared.token.Token.{Token}
use Rattle.surface_grammar.specs.declared.tree.Mark.{Mark}
use Rattle.surface_grammar.specs.declared.tree.Mark.TheVariants as m
use Rattle.surface_grammar.specs.Trees.{Node, leaf, branch, several, absent, present, Nodes, none, more, spell}

-- what contracts see of a tree of the code: its tokens, and its marks
pub record Listing : Type 0 where
  pub leaves : List Token
  pub marks : List Mark

-- the marks of a tree, from the root on and from left to right
abbrev mutual
  pub marks_of : Node → List Mark
  marks_of (leaf t) = m.Leaf ∷ []
  marks_of (branch q ns) = m.Rule q ∷ marks_all ns
  marks_of (several ns) = marks_each ns
  marks_of absent = m.End ∷ []
  marks_of (present n) = m.Item ∷ marks_of n

  pub marks_all : Nodes → List Mark
  marks_all none = []
  marks_all (more n ns) = marks_of n ++ marks_all ns

  pub marks_each : Nodes → List Mark
  marks_each none = m.End ∷ []
  marks_each (more n ns) = m.Item ∷ marks_of n ++ marks_each ns

-- the tree of the code is this one
abbrev pub Lists : Listing → Node → Type 0
Lists l n = (l.leaves ≡ spell n) × (l.marks ≡ marks_of n)
