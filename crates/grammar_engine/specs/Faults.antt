-- What a refusal of a whole text tells.
use Rattle.std.specs.Prelude.{◌≡◌, ℕ, List, [], ◌∷◌, drop}
use Rattle.surface_tree.specs.declared.token.Token.{Token}
use Rattle.surface_tree.specs.TokenList.{TokenList}
use Rattle.surface_grammar.specs.declared.fault.ParseFault.{ParseFault}
use Rattle.surface_grammar.specs.declared.fault.ParseFault.TheVariants.{Syntax, TooDeep, Memory}
use Rattle.surface_grammar.specs.declared.part.Part.{Part}
use Rattle.surface_grammar.specs.Refusals.{deepest, Allows, GoesOn}

abbrev pub first_at : List Token → ℕ → ℕ
first_at [] end = end
first_at (t ∷ ts) end = t.at

-- the byte at which the token at the place begins, or the text's length at the end
abbrev pub byte_at : TokenList → ℕ → ℕ
byte_at ts place = first_at (drop place ts.items) ts.end

-- the tokens before the refused one begin a tree; of TooDeep, a deeper one goes on with it
abbrev pub FaultAllowed : Part → TokenList → ParseFault → Type 0
FaultAllowed p ts (Syntax at) = (place : ℕ) × (at ≡ byte_at ts place) × Allows deepest p ts.items place
FaultAllowed p ts (TooDeep at) =
    (place : ℕ) × (at ≡ byte_at ts place) × Allows deepest p ts.items place
    × ((room : ℕ) × GoesOn room p ts.items place)
FaultAllowed p ts Memory = Unit {0}

-- some deeper tree goes on at the place
abbrev pub Deeper : Part → List Token → ℕ → Type 0
Deeper p ts place = (room : ℕ) × GoesOn room p ts place
