-- From the bytes of a file to its tree, or to what stands in the way.
use Rattle.std.specs.Prelude.{◌≡◌, ◌≢◌, ℕ, ◌<◌, ◌≤◌, List, length, IsUtf8}
use Rattle.surface_tree.specs.declared.token.Token.{Token}
use Rattle.surface_tree.specs.TokenList.{TokenList}
use Rattle.surface_grammar.specs.declared.fault.ParseFault.{ParseFault}
use Rattle.surface_grammar.specs.declared.fault.ParseFault.TheVariants as parser
use Rattle.surface_grammar.specs.declared.part.Part.{Part}
use Rattle.surface_grammar.specs.Refusals.{deepest, Whole}
use Rattle.surface_grammar.specs.Trees.{Node, spell}
use Rattle.grammar_engine.specs.Exact.{FaultExact}
use Rattle.ur_lexer.specs.Lexing.{Lexes, at_end, at_fault}
use Rattle.ur_lexer.specs.declared.fault.LexFault.{LexFault}
use Rattle.ur_parser.specs.Sources.{module_part, interface_part}
use Rattle.project_sources.specs.declared.fault.SourceFault.{SourceFault}
use Rattle.project_sources.specs.declared.fault.SourceFault.TheVariants.{FileTooLong, NotUtf8, Unread, Unparsed}

-- the most bytes that a file of a project has
abbrev pub longest : ℕ
longest = 4194304

-- the bytes are those of a text that isn't too long
abbrev pub IsText : List ℕ → Type 0
IsText bytes = (length bytes ≤ longest) × IsUtf8 bytes

-- The file has this tree for the part: the tokens that its text has are those that the tree spells.
pub record HasTree (part : Part) (bytes : List ℕ) (node : Node) : Type 0 where
  pub text : IsText bytes
  pub tokens : Lexes bytes (spell node) at_end
  pub whole : Whole deepest part node

-- the tree of a module
abbrev pub IsModuleTree : List ℕ → Node → Type 0
IsModuleTree bytes node = HasTree module_part bytes node

-- the tree of an interface
abbrev pub IsInterfaceTree : List ℕ → Node → Type 0
IsInterfaceTree bytes node = HasTree interface_part bytes node

-- a text has these tokens, up to its end
pub record HasTokens (bytes : List ℕ) (ts : TokenList) : Type 0 where
  pub lexes : Lexes bytes ts.items at_end
  pub end : ts.end ≡ length bytes

-- Why a file of this name has no tree for the part: the first that stands in the way.
pub data HasNoTree (part : Part) (name bytes : List ℕ) (fault : SourceFault) : Type 0 where
  -- it is too long
  too_long : longest < length bytes → fault ≡ FileTooLong name → HasNoTree part name bytes fault
  -- it isn't UTF-8
  no_text : length bytes ≤ longest → ¬ (IsUtf8 bytes) → fault ≡ NotUtf8 name → HasNoTree part name bytes fault
  -- the reading of its tokens ends at a fault
  no_tokens : IsText bytes → (tokens : List Token) (told : LexFault) → Lexes bytes tokens (at_fault told)
      → fault ≡ Unread name told → HasNoTree part name bytes fault
  -- its tokens are those of no tree
  no_node : IsText bytes → (ts : TokenList) (told : ParseFault) → HasTokens bytes ts → FaultExact part ts told
      → told ≢ parser.Memory → fault ≡ Unparsed name told → HasNoTree part name bytes fault

-- ---- laws

-- The text of a module has one tree at most, isn't refused where it has one, and is refused for one reason.
pub record ModulesHaveOneAnswer : Type 0 where
  pub one_tree : (bytes : List ℕ) (node other : Node) → IsModuleTree bytes node → IsModuleTree bytes other
      → node ≡ other
  pub not_refused : (name bytes : List ℕ) (node : Node) (fault : SourceFault) → IsModuleTree bytes node
      → HasNoTree module_part name bytes fault → ⊥
  pub one_refusal : (name bytes : List ℕ) (fault other : SourceFault) → HasNoTree module_part name bytes fault
      → HasNoTree module_part name bytes other → fault ≡ other
