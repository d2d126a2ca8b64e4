-- Where a reader refuses.
use Rattle.std.specs.Prelude.{◌≡◌, ◌≤◌, ℕ, false, List, ◌++◌, length, max, drop, None}
use Rattle.surface_tree.specs.declared.token.Token.{Token}
use Rattle.surface_tree.specs.TokenList.{TokenList}
use Rattle.surface_grammar.specs.declared.fault.ParseFault.{ParseFault}
use Rattle.surface_grammar.specs.declared.fault.ParseFault.TheVariants.{Syntax, TooDeep, Memory}
use Rattle.surface_grammar.specs.declared.part.Part.{Part}
use Rattle.surface_grammar.specs.declared.part.Part.TheVariants.{One}
use Rattle.surface_grammar.specs.Fronts.{first_kind}
use Rattle.surface_grammar.specs.Listings.{Listing}
use Rattle.surface_grammar.specs.Trees.{Node, spell, begins, Fits}
use Rattle.surface_grammar.specs.declared.fault.Hole.{Hole}
use Rattle.grammar_engine.specs.declared.machine.Machine.{Machine}
use Rattle.grammar_engine.specs.declared.stop.Stop.{Stop}
use Rattle.grammar_engine.specs.declared.stop.Stop.TheVariants as stop
use Rattle.grammar_engine.specs.declared.want.Want.{Want}
use Rattle.grammar_engine.specs.Faults.{byte_at}
use Rattle.grammar_engine.specs.Passing.{Agrees}
use Rattle.grammar_engine.specs.Places.{name_at}
use Rattle.hole_reader.specs.Holes.{form_of, holes_in, is_open_part}

-- a tree for the part whose first expressions and constructors are these begins with the tokens before the place
pub record Begins (items : List Token) (whole : Want) (handed : List Listing) (place : ℕ) : Type 0 where
  pub node : Node
  pub front : List Token
  pub after : List Token
  pub later : List Listing
  pub within : place ≤ length items
  pub fits : Fits whole.room (name_at items whole.tag) node whole.part None
  pub read : drop whole.tag items ≡ front ++ drop place items
  pub spelled : spell node ≡ front ++ after
  pub holes : holes_in node whole.part ≡ handed ++ later

-- a tree for the part, however deep, whose first expressions and constructors are these has the tokens through the
-- one at the place, with some tokens behind it; or it ends where the tokens end
pub record GoesOn (items : List Token) (whole : Want) (handed : List Listing) (place : ℕ) : Type 0 where
  pub node : Node
  pub levels : ℕ
  pub tail : List Token
  pub later : List Listing
  pub fits : Fits levels (name_at items whole.tag) node whole.part (first_kind tail)
  pub agrees : Agrees items whole.tag place (spell node ++ tail)
  pub holes : holes_in node whole.part ≡ handed ++ later

-- the token at the place, or the end there, is the first that no tree for the part with these expressions and
-- constructors has
pub record RefusedAt (items : List Token) (whole : Want) (handed : List Listing) (place : ℕ) : Type 0 where
  pub begins : whole.tag ≤ length items → 2 ≤ whole.room → Begins items whole handed place
  pub ends : is_open_part whole.part ≡ false → GoesOn items whole handed place → ⊥

abbrev pub StopsAt : List Token → Want → List Listing → Stop → Type 0
StopsAt items whole handed (stop.Refused place) = RefusedAt items whole handed place
StopsAt items whole handed stop.Memory = Unit {0}

-- a reader refuses such a token, at the byte at which it begins; a depth it never refuses
abbrev pub Refuses : TokenList → Want → List Listing → ParseFault → Type 0
Refuses ts whole handed (Syntax at) = (place : ℕ) × (at ≡ byte_at ts place) × RefusedAt ts.items whole handed place
Refuses ts whole handed (TooDeep at) = ⊥
Refuses ts whole handed Memory = Unit {0}

-- the fault tells why reading stops
abbrev pub Told : TokenList → Stop → ParseFault → Type 0
Told ts (stop.Refused place) fault = fault ≡ Syntax (byte_at ts place)
Told ts stop.Memory fault = fault ≡ Memory

-- the next token, or one that was looked at, is refused, and the next doesn't begin what is asked for
abbrev pub Unbegun : List Token → Hole → Machine → Stop → Type 0
Unbegun items hole m (stop.Refused place) =
    (begins (form_of hole) (first_kind (drop m.at items)) ≡ false) × (place ≡ max m.at m.far)
Unbegun items hole m stop.Memory = Unit {0}

-- there is room for the levels that a form's rule needs
abbrev pub RoomFor : Part → ℕ → Stop → Type 0
RoomFor (One g) room (stop.Refused place) = 2 ≤ room
RoomFor _ room _ = Unit {0}
