-- Pages as trees, and pages that are being built.
use Rattle.std.specs.Prelude.{◌≡◌, ℕ, List, [], ◌∷◌, ◌++◌}
use Rattle.xml_trees.specs.declared.name.Name.{Name}
use Rattle.xml_trees.specs.declared.tag.Tag.{Tag}
use Rattle.xml_trees.specs.declared.attrs.Attr.{Attr}
use Rattle.xml_trees.specs.declared.page.Piece.{Piece}
use Rattle.xml_trees.specs.declared.page.Piece.TheVariants.{Begin, Words as Said, End}
use Rattle.xml_trees.specs.Tags.{name_of}

-- trees one after another: none, a text and the trees after it, or an element with what it holds and the trees after it
pub data Trees : Type 0 where
  Nothing : Trees
  Words : List ℕ → Trees → Trees
  Element : Tag → List Attr → Trees → Trees → Trees

-- trees, and then other trees
abbrev pub trees_and : Trees → Trees → Trees
trees_and Nothing more = more
trees_and (Words text rest) more = Words text (trees_and rest more)
trees_and (Element tag attrs inside rest) more = Element tag attrs inside (trees_and rest more)

-- a page as far as it is built: whole trees, or an element that isn't ended, in what was built before it, with the
-- trees that it holds so far
pub data Built : Type 0 where
  Whole : Trees → Built
  Within : Built → Tag → List Attr → Trees → Built

-- more trees at the end of what is built
abbrev pub built_and : Built → Trees → Built
built_and (Whole trees) more = Whole (trees_and trees more)
built_and (Within outer tag attrs trees) more = Within outer tag attrs (trees_and trees more)

-- the innermost element that isn't ended is ended
abbrev pub ended : Built → Built
ended (Whole trees) = Whole trees
ended (Within outer tag attrs trees) = built_and outer (Element tag attrs trees Nothing)

-- every element is ended
abbrev pub IsWhole : Built → Type 0
IsWhole (Whole trees) = Unit {0}
IsWhole (Within outer tag attrs trees) = ⊥

-- some element isn't ended
abbrev pub IsUnfinished : Built → Type 0
IsUnfinished (Whole trees) = ⊥
IsUnfinished (Within outer tag attrs trees) = Unit {0}

-- the trees of a whole page
abbrev pub trees_of : Built → Trees
trees_of (Whole trees) = trees
trees_of (Within outer tag attrs trees) = Nothing

-- what one more piece makes of a page
abbrev pub grown : Built → Piece → Built
grown built (Begin tag attrs) = Within built tag attrs Nothing
grown built (Said text) = built_and built (Words text Nothing)
grown built (End name) = ended built

-- what pieces make of a page
abbrev pub grown_by : Built → List Piece → Built
grown_by built [] = built
grown_by built (piece ∷ pieces) = grown_by (grown built piece) pieces

-- the page that pieces build
abbrev pub built : List Piece → Built
built pieces = grown_by (Whole Nothing) pieces

-- the names of the elements that aren't ended, the outermost first
abbrev pub unfinished_names : Built → List Name
unfinished_names (Whole trees) = []
unfinished_names (Within outer tag attrs trees) = unfinished_names outer ++ name_of tag ∷ []

-- an element of this name is the innermost that isn't ended
abbrev pub EndsWith : Built → Name → Type 0
EndsWith (Whole trees) name = ⊥
EndsWith (Within outer tag attrs trees) name = name ≡ name_of tag

-- each end among the pieces ends an element, and has its name
abbrev pub AreNested : Built → List Piece → Type 0
AreNested built [] = Unit {0}
AreNested built (Begin tag attrs ∷ pieces) = AreNested (grown built (Begin tag attrs)) pieces
AreNested built (Said text ∷ pieces) = AreNested (grown built (Said text)) pieces
AreNested built (End name ∷ pieces) = EndsWith built name × AreNested (ended built) pieces
