-- Where a whole text is refused, exactly.
use Rattle.std.specs.Prelude.{◌≡◌, ◌≤◌, ◌⊎◌, ℕ, true, List, length}
use Rattle.surface_tree.specs.declared.token.Token.{Token}
use Rattle.surface_tree.specs.TokenList.{TokenList}
use Rattle.surface_grammar.specs.declared.fault.ParseFault.{ParseFault}
use Rattle.surface_grammar.specs.declared.fault.ParseFault.TheVariants.{Syntax, TooDeep, Memory}
use Rattle.surface_grammar.specs.declared.part.Part.{Part}
use Rattle.surface_grammar.specs.Refusals.{deepest, GoesOn, SyntaxAt, TooDeepAt, Whole}
use Rattle.surface_grammar.specs.Trees.{Node, spell}
use Rattle.grammar_engine.specs.declared.stop.Stop.{Stop}
use Rattle.grammar_engine.specs.declared.stop.Stop.TheVariants.{Refused, Memory as NoMemory}
use Rattle.grammar_engine.specs.Faults.{byte_at}
use Rattle.grammar_engine.specs.Passing.{Ample}
use Rattle.grammar_engine.specs.Single.{is_text_part, names_itself}

-- a part whose trees are texts of their own
abbrev pub IsSource : Part → Type 0
IsSource p = (is_text_part p ≡ true) × (names_itself p ≡ true)

-- reading with this room finds the trees of so many levels: there is room for them, or it is ample
abbrev pub Reached : List Token → ℕ → ℕ → Type 0
Reached items room levels = (levels ≤ room) ⊎ Ample items 0 room 2

-- no tree goes on at the refused token, nor at a later one
abbrev pub StopsText : Part → List Token → ℕ → Stop → Type 0
StopsText p items room (Refused place) =
    IsSource p → (levels later : ℕ) → Reached items room levels → place ≤ later → later ≤ length items
    → GoesOn levels p items later → ⊥
StopsText p items room NoMemory = Unit {0}

-- no tree of any depth goes on at the place
abbrev pub NoneGoesOn : Part → List Token → ℕ → Type 0
NoneGoesOn p items place = IsSource p → (levels : ℕ) → GoesOn levels p items place → ⊥

-- the fault tells the first token, or the end, that no tree allows after the tokens before it, and whether a deeper
-- one does
abbrev pub FaultExact : Part → TokenList → ParseFault → Type 0
FaultExact p ts (Syntax at) = (place : ℕ) × (at ≡ byte_at ts place) × SyntaxAt p ts.items place
FaultExact p ts (TooDeep at) = (place : ℕ) × (at ≡ byte_at ts place) × TooDeepAt p ts.items place
FaultExact p ts Memory = Unit {0}

-- a text has one refusal at most; want of memory says nothing of it
abbrev pub OneRefusal : Type 0
OneRefusal =
    (p : Part) (ts : TokenList) (fault other : ParseFault) → FaultExact p ts fault → FaultExact p ts other
    → (fault ≡ Memory) ⊎ (other ≡ Memory) ⊎ (fault ≡ other)

-- and none where it has a tree
abbrev pub TreesAreNotRefused : Type 0
TreesAreNotRefused =
    (p : Part) (ts : TokenList) (fault : ParseFault) (n : Node) → FaultExact p ts fault → Whole deepest p n
    → spell n ≡ ts.items → fault ≡ Memory
