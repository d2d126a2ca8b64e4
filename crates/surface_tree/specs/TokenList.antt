-- What contracts see of the tokens of a text.
use Rattle.std.specs.Prelude.{ℕ, List}
use Rattle.surface_tree.specs.declared.token.Token.{Token}

-- the tokens in order, and the length of the text in bytes
pub record TokenList : Type 0 where
  pub items : List Token
  pub end : ℕ
