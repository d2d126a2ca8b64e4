-- Pages that aren't whole.
use Rattle.xml_trees.specs.Trees.{Built, Whole, Within, IsWhole, IsUnfinished}

-- Some element isn't ended where not every one is.
pub unfinished : (b : Built) → (IsWhole b → ⊥) → IsUnfinished b
unfinished (Whole trees) h = h tt
unfinished (Within outer tag attrs trees) h = tt
