-- The front of a list of tokens.
use Rattle.std.specs.Prelude.{List, [], ◌∷◌, Option, Some, None}
use Rattle.surface_tree.specs.declared.kind.Kind.{Kind}
use Rattle.surface_tree.specs.declared.token.Token.{Token}
use Rattle.surface_tree.specs.declared.token.Content.{Content}
use Rattle.surface_tree.specs.declared.token.Content.TheVariants.{Nothing}

-- the kind of the first token
abbrev pub first_kind : List Token → Option Kind
first_kind [] = None
first_kind (t ∷ more) = Some t.kind

-- what the first token holds
abbrev pub first_content : List Token → Content
first_content [] = Nothing
first_content (t ∷ more) = t.content
