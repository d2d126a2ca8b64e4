-- The values of a program, each by its type and the name that it has in links.
use Rattle.std.specs.Prelude.{ℕ, get_or, List, [], ◌∷◌, ◌++◌, map}
use Rattle.con_terms.specs.Trees.{Cn}
use Rattle.core_terms.specs.Trees.{Ex, Pg, De}
use Rattle.core_terms.specs.View.{NamedTree}
use Rattle.core_typing.specs.Declarations.{Value, is_term, values}
use Rattle.core_typing.specs.Entries.{value_name}

abbrev pub Linked : Type 0
Linked = Cn × List (List ℕ)

abbrev pub linked : Pg → Value → Linked
linked p v = (v.con, value_name p v)

-- a value with a term
abbrev pub named_value : List ℕ → NamedTree → Value
named_value path n = record { place = n.0; path = path; name = n.1; con = n.3; body = is_term n.4 }

-- the values of a declaration
abbrev pub decl_values : De → List Value
decl_values d = values (d ∷ [])

-- the text of a symbol
abbrev pub text_in : List (List ℕ) → ℕ → List ℕ
text_in names x = get_or names x []

abbrev pub name_in : Pg → ℕ → List ℕ → ℕ → List (List ℕ)
name_in p file path x = get_or p.modules file [] ∷ map (λ y. get_or p.names y []) (path ++ x ∷ [])
