-- The trees of some forms that stand in a tree, which a reader of the rest leaves to others.
use Rattle.std.specs.Prelude.{Bool, if◌then◌else◌, List, [], ◌∷◌, ◌++◌}
use Rattle.surface_grammar.specs.declared.form.Form.{Form}
use Rattle.surface_grammar.specs.declared.part.Part.{Part}
use Rattle.surface_grammar.specs.declared.part.Part.TheVariants.{Word, One, Many, Maybe}
use Rattle.surface_grammar.specs.Listings.{Listing, marks_all}
use Rattle.surface_grammar.specs.Table.{body_of}
use Rattle.surface_grammar.specs.Trees.{Node, leaf, branch, several, absent, present, Nodes, none, more, spell_all}
use Rattle.surface_grammar.specs.declared.tree.Mark.TheVariants as m

-- the outermost trees of such forms in a tree for the part, from left to right
abbrev mutual
  pub outer_in : (Form → Bool) → Node → Part → List Listing
  outer_in h (leaf t) p = []
  outer_in h (branch q ns) (Word w) = []
  outer_in h (branch q ns) (One g) =
      if h g then record { leaves = spell_all ns; marks = m.Rule q ∷ marks_all ns } ∷ [] else outer_all h ns
      (body_of q)
  outer_in h (branch q ns) (Many g) = []
  outer_in h (branch q ns) (Maybe g) = []
  outer_in h (several ns) (Word w) = []
  outer_in h (several ns) (One g) = []
  outer_in h (several ns) (Many g) = outer_each h ns g
  outer_in h (several ns) (Maybe g) = []
  outer_in h absent p = []
  outer_in h (present n) (Word w) = []
  outer_in h (present n) (One g) = []
  outer_in h (present n) (Many g) = []
  outer_in h (present n) (Maybe g) = outer_in h n (One g)

  pub outer_all : (Form → Bool) → Nodes → List Part → List Listing
  outer_all h none ps = []
  outer_all h (more n ns) [] = []
  outer_all h (more n ns) (p ∷ ps) = outer_in h n p ++ outer_all h ns ps

  pub outer_each : (Form → Bool) → Nodes → Form → List Listing
  outer_each h none g = []
  outer_each h (more n ns) g = outer_in h n (One g) ++ outer_each h ns g
