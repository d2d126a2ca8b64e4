-- From what the lexer and the parser answer to a file's tree, or to why it has none.
use Rattle.std.proofs.Common.{◌≢◌, ℕ, List, refl, sym, subst}
use Rattle.surface_tree.specs.declared.token.Token.{Token}
use Rattle.surface_tree.specs.TokenList.{TokenList}
use Rattle.surface_grammar.specs.declared.part.Part.{Part}
use Rattle.surface_grammar.specs.Listings.{Listing, Lists}
use Rattle.surface_grammar.specs.Refusals.{WholeTree, deepest}
use Rattle.surface_grammar.specs.Trees.{Node}
use Rattle.ur_lexer.specs.Lexing.{Lexes, IsTold, at_end, at_fault}
use Rattle.ur_lexer.specs.declared.fault.LexFault.{LexFault}
use Rattle.ur_lexer.specs.declared.fault.LexFault.TheVariants.{BadChar, OpenText, OpenComment, IntTooLarge, Memory}
use Rattle.project_sources.specs.Texts.{HasTokens, HasTree, IsText}

-- what a told fault means, where it isn't want of memory
pub told_tokens : (bytes : List ℕ) (fault : LexFault) → fault ≢ Memory → IsTold bytes fault → (tokens : List Token)
    × Lexes bytes tokens (at_fault fault)
told_tokens bytes (BadChar at) other h = h
told_tokens bytes (OpenText at) other h = h
told_tokens bytes (OpenComment at) other h = h
told_tokens bytes (IntTooLarge at) other h = h
told_tokens bytes Memory other h = absurd (other refl)

-- a tree of a file's tokens is the file's
pub tree_read : (part : Part) (bytes : List ℕ) (ts : TokenList) (tree : Listing) → IsText bytes → HasTokens bytes ts
    → WholeTree deepest part ts.items tree
    → (node : Node) × HasTree part bytes node × Lists tree node
tree_read part bytes ts tree text tokens w = (
  w.node,
  record {
    text = text;
    tokens = subst (λ (items : List Token). Lexes bytes items at_end)
        (sym w.spells) tokens.lexes;
    whole = w.whole;
  },
  w.lists,
)
