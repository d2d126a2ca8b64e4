-- How far a part is read.
use Rattle.std.specs.Prelude.{◌≡◌, ◌<◌, ◌≤◌, ◌+◌, ◌⊎◌, ℕ, suc, max, List, [], ◌∷◌, ◌++◌, length, drop, Option, Some, None}
use Rattle.surface_tree.specs.declared.token.Token.{Token}
use Rattle.surface_tree.specs.declared.kind.Kind.TheVariants as k
use Rattle.surface_grammar.specs.declared.fault.Hole.{Hole}
use Rattle.surface_grammar.specs.declared.form.Form.TheVariants as f
use Rattle.surface_grammar.specs.declared.part.Part.{Part}
use Rattle.surface_grammar.specs.declared.part.Part.TheVariants.{Word, One, Many, Maybe}
use Rattle.surface_grammar.specs.Fronts.{first_kind}
use Rattle.surface_grammar.specs.Listings.{Listing}
use Rattle.grammar_engine.specs.declared.machine.Machine.{Machine}
use Rattle.grammar_engine.specs.declared.want.Want.{Want}
use Rattle.grammar_engine.specs.Moves.{MeetsPart}
use Rattle.grammar_engine.specs.Passing.{Sure}
use Rattle.grammar_engine.specs.Reads.{Reads}
use Rattle.hole_reader.specs.declared.holes.Asked.{Asked}
use Rattle.hole_reader.specs.Holes.{hole_of, form_of}

-- the tree is the longest one for the want that begins at this place, and this is the place behind it
pub record ReadsWant (items : List Token) (want : Want) (place : ℕ) (tree : Listing) (behind : ℕ) : Type 0 where
  pub reads : Reads items want.part place want.room tree behind
  pub ends : behind ≡ place + length tree.leaves

-- how far reading has looked after a step: at `[` in braces of a query it looks at the token behind
abbrev pub Looked : List Token → Part → ℕ → Machine → Machine → Type 0
Looked items p room a c =
    (c.far ≡ a.far)
    ⊎ ((p ≡ One f.SqlBraceRest) × (0 < room) × (first_kind (drop a.at items) ≡ Some k.LeftBracket)
    × (c.far ≡ max a.far (suc a.at)))

-- the levels of a form are counted
abbrev pub Counted : Part → ℕ → Type 0
Counted (Word w) room = Unit {0}
Counted (One g) room = 2 ≤ room
Counted (Many g) room = Unit {0}
Counted (Maybe g) room = Unit {0}

-- Reading of the part comes to a state: with these trees handed in it is at this place, has looked as far as that
-- one, and has read this tree, and this is still to be read. It begins with nothing read; a step meets what is read
-- next where that is no hole; and a tree that is handed in is one for the hole that is next.
pub data Comes (items : List Token) (whole : Want) : List Listing → ℕ → ℕ → Listing → List Want → Type 0 where
  begun : (tree : Listing) → tree.leaves ≡ [] → tree.marks ≡ []
      → Comes items whole [] whole.tag whole.tag tree (whole ∷ [])
  met : (handed : List Listing) (want : Want) (a c : Machine) → hole_of want.part ≡ None
      → MeetsPart items want.part want.room want.tag a c → Sure items want.part want.room 0 a c
      → Looked items want.part want.room a c → Counted want.part want.room
      → Comes items whole handed a.at a.far a.tree (want ∷ a.wants)
      → Comes items whole handed c.at c.far c.tree c.wants
  took : (handed more_handed : List Listing) (hole : Hole) (want : Want) (ws : List Want) (at far behind : ℕ)
      (tree next filling : Listing) → want.part ≡ One (form_of hole) → ReadsWant items want at filling behind
      → more_handed ≡ handed ++ filling ∷ [] → next.leaves ≡ tree.leaves ++ filling.leaves
      → next.marks ≡ tree.marks ++ filling.marks
      → Comes items whole handed at far tree (want ∷ ws) → Comes items whole more_handed behind far next ws

-- reading comes to the state of the machine
abbrev pub ComesTo : List Token → Want → List Listing → Machine → Type 0
ComesTo items whole handed m = Comes items whole handed m.at m.far m.tree m.wants

-- what is still to be read where reading stops: a hole and the rest, or nothing
abbrev pub still : Option Asked → List Want → List Want
still None ws = []
still (Some asked) ws = asked.want ∷ ws

-- what is asked for is such a hole
abbrev pub IsHole : Option Asked → Type 0
IsHole None = Unit {0}
IsHole (Some asked) = asked.want.part ≡ One (form_of asked.hole)
