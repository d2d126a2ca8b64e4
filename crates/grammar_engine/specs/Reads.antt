-- What reading a part gives.
use Rattle.std.specs.Prelude.{◌≡◌, ◌≤◌, ℕ, List, ◌++◌, drop}
use Rattle.surface_tree.specs.declared.token.Token.{Token}
use Rattle.surface_grammar.specs.declared.part.Part.{Part}
use Rattle.surface_grammar.specs.Fronts.{first_kind}
use Rattle.surface_grammar.specs.Listings.{Listing, Lists}
use Rattle.surface_grammar.specs.Trees.{Node, spell, Fits}
use Rattle.grammar_engine.specs.Places.{name_at}

-- the listing is that of a tree for the part, at most so many levels deep, which spells exactly the tokens
-- from the one place to the other, where it can't go on
pub record Reads (items : List Token) (p : Part) (at room : ℕ) (tree : Listing) (behind : ℕ) : Type 0 where
  pub node : Node
  pub fits : Fits room (name_at items at) node p (first_kind (drop behind items))
  pub lists : Lists tree node
  pub spells : drop at items ≡ spell node ++ drop behind items

-- what is read with little room is what is read with more: the tree is the longest one there too
abbrev pub ReadWithMore : Type 0
ReadWithMore =
    (items : List Token) (p : Part) (at room more behind : ℕ) (tree : Listing) → room ≤ more →
    Reads items p at room tree behind → Reads items p at more tree behind
