-- What a reader is doing, and what its steps give.
use Rattle.std.specs.Prelude.{◌≡◌, ℕ, ◌+◌, max, false, List, [], ◌∷◌, ◌++◌, length, drop}
use Rattle.surface_tree.specs.declared.token.Token.{Token}
use Rattle.surface_grammar.specs.declared.fault.Hole.{Hole}
use Rattle.surface_grammar.specs.declared.fault.Step.{Step}
use Rattle.surface_grammar.specs.declared.fault.Step.TheVariants.{Wants, Done}
use Rattle.surface_grammar.specs.declared.part.Part.{Part}
use Rattle.surface_grammar.specs.declared.part.Part.TheVariants.{One}
use Rattle.surface_grammar.specs.Listings.{Listing, Lists}
use Rattle.grammar_engine.specs.declared.machine.Machine.{Machine}
use Rattle.grammar_engine.specs.declared.want.Want.{Want}
use Rattle.surface_grammar.specs.Fronts.{first_kind}
use Rattle.surface_grammar.specs.Trees.{Node, spell, Fits}
use Rattle.grammar_engine.specs.Places.{name_at}
use Rattle.hole_reader.specs.declared.reader.Next.{Next}
use Rattle.hole_reader.specs.declared.reader.Next.TheVariants.{Begin, Open, Filled, Over}
use Rattle.hole_reader.specs.declared.reader.Reader.{Reader}
use Rattle.hole_reader.specs.declared.holes.Asked.{Asked}
use Rattle.hole_reader.specs.Holes.{form_of, holes_in, is_open_part}
use Rattle.hole_reader.specs.Progress.{Comes, ReadsWant}
use Rattle.hole_reader.specs.Refuses.{GoesOn}

-- how many levels there may be at most, so that they can be counted
abbrev pub most : ℕ
most = 18446744073709551615

-- the reader has read so far, with these trees handed in; what was handed in last is a tree that it wanted
abbrev pub ReadingBy : List Token → List Listing → Reader → Next → Type 0
ReadingBy items handed r Begin =
    (handed ≡ []) × (r.machine.at ≡ r.whole.tag) × (r.machine.far ≡ r.whole.tag) × (r.machine.wants ≡ [])
    × (r.machine.tree.leaves ≡ []) × (r.machine.tree.marks ≡ [])
ReadingBy items handed r (Open want) =
    Comes items r.whole handed r.machine.at r.machine.far r.machine.tree (want ∷ r.machine.wants)
    × ((hole : Hole) × (want.part ≡ One (form_of hole)))
ReadingBy items handed r (Filled filling) =
    (before : List Listing) × (handed ≡ before ++ filling.tree ∷ [])
    × Comes items r.whole before r.machine.at r.machine.far r.machine.tree (filling.want ∷ r.machine.wants)
    × ((hole : Hole) × (filling.want.part ≡ One (form_of hole)))
    × ReadsWant items filling.want r.machine.at filling.tree filling.behind
ReadingBy items handed r Over = ⊥

-- such trees were handed in, one for each time that the reader wanted one
abbrev pub Reading : List Token → List Listing → Reader → Type 0
Reading items handed r = ReadingBy items handed r r.next

-- a tree is to be handed in
abbrev pub IsOpen : Reader → Type 0
IsOpen r = (want : Want) × (r.next ≡ Open want)

-- a reader of this part that begins at this place and lies at this depth
pub record Fresh (p : Part) (at depth : ℕ) (r : Reader) : Type 0 where
  pub part : r.whole.part ≡ p
  pub place : r.whole.tag ≡ at
  pub room : r.whole.room + depth ≡ most
  pub closed : IsOpen r → ⊥
  pub reading : (items : List Token) → Reading items [] r

-- the reader wants a tree for this hole, which begins at this place and lies at this depth
pub record Waits (r : Reader) (hole : Hole) (place depth : ℕ) : Type 0 where
  pub want : Want
  pub opened : r.next ≡ Open want
  pub form : want.part ≡ One (form_of hole)
  pub place_of_want : r.machine.at ≡ place
  pub room : want.room + depth ≡ most

-- a step that asks for a tree changes only what the reader waits for
abbrev pub AsksFor : Asked → Reader → Reader → Step → Type 0
AsksFor asked r s (Wants hole place depth) =
    (hole ≡ asked.hole) × (s.machine.at ≡ place) × (asked.want.room + depth ≡ most)
    × (s ≡ record r { next = Open asked.want })
AsksFor asked r s (Done tree behind) = ⊥

-- the step that gives what was read
abbrev pub Gives : Machine → Step → Type 0
Gives m (Wants hole place depth) = ⊥
Gives m (Done tree behind) = (tree ≡ m.tree) × (behind ≡ m.at)

-- the tree is one that the reader wants
abbrev pub Hands : List Token → Reader → Listing → ℕ → Type 0
Hands items r tree behind = (want : Want) → r.next ≡ Open want → ReadsWant items want r.machine.at tree behind

-- the tree is the longest one for the part that begins at its place, and has these expressions and constructors
pub record ReadsWith (items : List Token) (whole : Want) (handed : List Listing) (tree : Listing)
    (behind : ℕ) : Type 0 where
  pub node : Node
  pub fits : Fits whole.room (name_at items whole.tag) node whole.part (first_kind (drop behind items))
  pub lists : Lists tree node
  pub spells : drop whole.tag items ≡ spell node ++ drop behind items
  pub holes : holes_in node whole.part ≡ handed
  pub ends : behind ≡ whole.tag + length tree.leaves

-- each tree for the part, however deep, whose first expressions and constructors are these, and that has the tokens
-- through the one at the place, spells just what this one spells
abbrev pub NoneLonger : List Token → Want → List Listing → Listing → ℕ → Type 0
NoneLonger items whole handed tree place =
    is_open_part whole.part ≡ false → (g : GoesOn items whole handed place) → spell g.node ≡ tree.leaves

-- a step: the reader wants a tree, or it has read the longest tree for its part with the trees handed in: no other
-- goes on with the token behind it and with those that were looked at
abbrev pub Steps : List Token → List Listing → Reader → Reader → Step → Type 0
Steps items handed r s (Wants hole place depth) =
    Waits s hole place depth × Reading items handed s × (s.whole ≡ r.whole)
Steps items handed r s (Done tree behind) =
    ReadsWith items r.whole handed tree behind × NoneLonger items r.whole handed tree (max behind s.machine.far)
