-- Why reading is refused: what must come next can't begin with the next token.
use Rattle.std.specs.Prelude.{◌≡◌, ◌<◌, ◌≤◌, ◌⊎◌, ℕ, true, false, List, ◌∷◌, ◌++◌, length, drop}
use Rattle.surface_tree.specs.declared.token.Token.{Token}
use Rattle.surface_tree.specs.TokenList.{TokenList}
use Rattle.surface_grammar.specs.declared.fault.ParseFault.{ParseFault}
use Rattle.surface_grammar.specs.declared.fault.ParseFault.TheVariants.{Syntax, TooDeep}
use Rattle.surface_grammar.specs.declared.part.Part.{Part}
use Rattle.surface_grammar.specs.declared.part.Part.TheVariants.{Word, One, Many, Maybe}
use Rattle.surface_grammar.specs.declared.rule.Rule.{Rule}
use Rattle.surface_grammar.specs.declared.tree.Mark.{Mark}
use Rattle.surface_grammar.specs.Fronts.{first_kind}
use Rattle.surface_grammar.specs.Listings.{Listing}
use Rattle.surface_grammar.specs.Refusals.{deepest}
use Rattle.surface_grammar.specs.Sides.{is_tag}
use Rattle.surface_grammar.specs.Trees.{begins}
use Rattle.surface_grammar.specs.Words.{accept}
use Rattle.grammar_engine.specs.declared.stop.Stop.{Stop}
use Rattle.grammar_engine.specs.declared.stop.Stop.TheVariants.{Refused, Memory}
use Rattle.grammar_engine.specs.declared.want.Want.{Want}
use Rattle.grammar_engine.specs.Blocks.{StartedBy}
use Rattle.grammar_engine.specs.Faults.{byte_at}
use Rattle.grammar_engine.specs.Growing.{Grows}
use Rattle.grammar_engine.specs.Laws.{is_raced_form}
use Rattle.grammar_engine.specs.Moves.{Chosen}
use Rattle.grammar_engine.specs.Places.{name_at}
use Rattle.grammar_engine.specs.Reads.{Reads}
use Rattle.grammar_engine.specs.Rooms.{least_of}

-- the part can't begin with the next token: it is a word for which the token doesn't stand, or a form that the token
-- doesn't begin, or for whose one rule there is no room; a repetition and an option never stand in the way
abbrev pub Blocked : List Token → Part → ℕ → ℕ → ℕ → Type 0
Blocked items (Word w) room tag at =
    (t : Token) (rest : List Token) → drop at items ≡ t ∷ rest → accept w t.kind ≡ true
    → (is_tag w ≡ true → t.content ≡ name_at items tag) → ⊥
Blocked items (One g) room tag at =
    (begins g (first_kind (drop at items)) ≡ false)
    ⊎ ((q : Rule) × Chosen g (first_kind (drop at items)) q × StartedBy (first_kind (drop at items)) q
    × (is_raced_form g ≡ false) × (room < least_of q))
Blocked items (Many g) room tag at = ⊥
Blocked items (Maybe g) room tag at = ⊥

abbrev pub MeetsBlocked : List Token → Part → ℕ → ℕ → ℕ → Stop → Type 0
MeetsBlocked items p room tag at (Refused place) = Blocked items p room tag at
MeetsBlocked items p room tag at Memory = Unit {0}

-- reading came to a token, at the place or before it, with which what must come next can't begin
pub record Stuck (items : List Token) (p : Part) (at room place : ℕ) : Type 0 where
  pub here : ℕ
  pub want : Want
  pub later : List Want
  pub leaves : List Token
  pub marks : List Mark
  pub reached : here ≤ place
  pub read : drop at items ≡ leaves ++ drop here items
  pub grows : Grows items p at room (drop here items) (want ∷ later) leaves marks
  pub blocked : Blocked items want.part want.room want.tag here

abbrev pub StopsStuck : List Token → Part → ℕ → ℕ → Stop → Type 0
StopsStuck items p at room (Refused place) = Stuck items p at room place
StopsStuck items p at room Memory = Unit {0}

-- reading came to its end, and tokens are left
pub record LeftOver (items : List Token) (p : Part) (room place : ℕ) : Type 0 where
  pub tree : Listing
  pub behind : ℕ
  pub reads : Reads items p 0 room tree behind
  pub short : behind < length items
  pub reached : behind ≤ place

abbrev pub StopsWhole : List Token → Part → ℕ → Stop → Type 0
StopsWhole items p room (Refused place) = Stuck items p 0 room place ⊎ LeftOver items p room place
StopsWhole items p room Memory = Unit {0}

-- a whole text is refused only for such a reason
abbrev pub FaultStuck : Part → TokenList → ParseFault → Type 0
FaultStuck p ts (Syntax at) =
    (place : ℕ) × (at ≡ byte_at ts place) × (Stuck ts.items p 0 deepest place ⊎ LeftOver ts.items p deepest place)
FaultStuck p ts (TooDeep at) =
    (place : ℕ) × (at ≡ byte_at ts place) × (Stuck ts.items p 0 deepest place ⊎ LeftOver ts.items p deepest place)
FaultStuck p ts _ = Unit {0}
