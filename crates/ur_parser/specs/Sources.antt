-- What a source file holds as a whole (The Ur/Web Manual, Concrete Syntax).
use Rattle.std.specs.Prelude.{◌≡◌, ◌⊎◌, List}
use Rattle.surface_tree.specs.declared.token.Token.{Token}
use Rattle.surface_tree.specs.TokenList.{TokenList}
use Rattle.surface_grammar.specs.declared.fault.ParseFault.{ParseFault}
use Rattle.surface_grammar.specs.declared.fault.ParseFault.TheVariants.{Memory}
use Rattle.surface_grammar.specs.declared.form.Form.TheVariants as f
use Rattle.surface_grammar.specs.declared.part.Part.{Part}
use Rattle.surface_grammar.specs.declared.part.Part.TheVariants.{Many}
use Rattle.surface_grammar.specs.Refusals.{deepest, Whole}
use Rattle.surface_grammar.specs.Trees.{Node, spell}
use Rattle.grammar_engine.specs.Exact.{FaultExact}

-- a module is any number of declarations
abbrev pub module_part : Part
module_part = Many f.Decl

-- an interface is any number of values with their types
abbrev pub interface_part : Part
interface_part = Many f.InterfaceItem

-- The tokens are those of no module, for this fault: it tells the byte of the first token, or of the end, that no
-- module of at most 200 levels allows after the tokens before it; at TooDeep a deeper one allows it, at Syntax none
-- does.
abbrev pub IsNoModule : TokenList → ParseFault → Type 0
IsNoModule ts fault = FaultExact module_part ts fault

-- the same of an interface
abbrev pub IsNoInterface : TokenList → ParseFault → Type 0
IsNoInterface ts fault = FaultExact interface_part ts fault

-- the tokens are those of a module, of at most 200 levels
abbrev pub IsModuleText : List Token → Type 0
IsModuleText tokens = (n : Node) × Whole deepest module_part n × (spell n ≡ tokens)

-- the same of an interface
abbrev pub IsInterfaceText : List Token → Type 0
IsInterfaceText tokens = (n : Node) × Whole deepest interface_part n × (spell n ≡ tokens)

-- tokens have one fault at most; want of memory says nothing of them
abbrev pub ModulesHaveOneFault : Type 0
ModulesHaveOneFault =
    (ts : TokenList) (fault other : ParseFault) → IsNoModule ts fault → IsNoModule ts other
    → (fault ≡ Memory) ⊎ (other ≡ Memory) ⊎ (fault ≡ other)

-- and none where they are those of a module
abbrev pub ModulesAreNotRefused : Type 0
ModulesAreNotRefused =
    (ts : TokenList) (fault : ParseFault) → IsModuleText ts.items → IsNoModule ts fault → fault ≡ Memory
