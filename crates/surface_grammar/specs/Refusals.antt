-- Whole texts, and where one is refused.
use Rattle.std.specs.Prelude.{◌≡◌, ℕ, List, ◌++◌, None, take, drop}
use Rattle.surface_tree.specs.declared.token.Token.{Token}
use Rattle.surface_tree.specs.declared.token.Content.{Content}
use Rattle.surface_grammar.specs.declared.part.Part.{Part}
use Rattle.surface_grammar.specs.Listings.{Listing, Lists}
use Rattle.surface_grammar.specs.Trees.{Node, spell, Fits}

-- a whole text: a tree for the part, at most so many levels deep, with nothing behind it, and no element
-- around it, so that the name of one doesn't matter
abbrev pub Whole : ℕ → Part → Node → Type 0
Whole room p n = (name : Content) × Fits room name n p None

-- the tree of the code is one of the whole text
pub record WholeTree (room : ℕ) (p : Part) (ts : List Token) (tree : Listing) : Type 0 where
  pub node : Node
  pub whole : Whole room p node
  pub lists : Lists tree node
  pub spells : spell node ≡ ts

-- some tree begins with the tokens before this place
abbrev pub Allows : ℕ → Part → List Token → ℕ → Type 0
Allows room p ts place = (n : Node) × (after : List Token) × Whole room p n × (spell n ≡ take place ts ++ after)

-- some tree begins with these tokens, and then has the token at the place, or ends where they end
abbrev pub GoesOn : ℕ → Part → List Token → ℕ → Type 0
GoesOn room p ts place =
    (n : Node) × (after : List Token) × Whole room p n × (spell n ≡ take place ts ++ after)
    × (take 1 after ≡ take 1 (drop place ts))

-- the place of the first token, or of the end, that no tree so deep allows after the tokens before it
abbrev pub RefusedAt : ℕ → Part → List Token → ℕ → Type 0
RefusedAt room p ts place = Allows room p ts place × (GoesOn room p ts place → ⊥)

-- how deep the trees of a text may be
abbrev pub deepest : ℕ
deepest = 200

-- refused, and a deeper tree doesn't help
abbrev pub SyntaxAt : Part → List Token → ℕ → Type 0
SyntaxAt p ts place = RefusedAt deepest p ts place × ((room : ℕ) → GoesOn room p ts place → ⊥)

-- refused, and a deeper tree goes on
abbrev pub TooDeepAt : Part → List Token → ℕ → Type 0
TooDeepAt p ts place = RefusedAt deepest p ts place × ((room : ℕ) × GoesOn room p ts place)
