-- What stands at a place of the tokens.
use Rattle.std.specs.Prelude.{ℕ, List, drop}
use Rattle.surface_tree.specs.declared.token.Token.{Token}
use Rattle.surface_tree.specs.declared.token.Content.{Content}
use Rattle.surface_grammar.specs.Fronts.{first_content}

-- the name that the token at the place holds
abbrev pub name_at : List Token → ℕ → Content
name_at items place = first_content (drop place items)
