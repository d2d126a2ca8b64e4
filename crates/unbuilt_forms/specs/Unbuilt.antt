-- Which tokens show a form that isn't built yet, and the first of them.
use Rattle.std.specs.Prelude.{◌≡◌, ℕ, Bool, true, false, ◌||◌, if◌then◌else◌, List, [], ◌∷◌, ◌++◌, All, Option, Some, None, codes}
use Rattle.std.specs.Str.{bytes_eq}
use Rattle.surface_tree.specs.declared.kind.Kind.{Kind}
use Rattle.surface_tree.specs.declared.kind.Kind.TheVariants as k
use Rattle.surface_tree.specs.declared.token.Content.{Content}
use Rattle.surface_tree.specs.declared.token.Content.TheVariants.{Nothing, Number, Characters}
use Rattle.surface_tree.specs.declared.token.Token.{Token}

-- the keyword of a declaration of a table, a sequence or a cookie, or the first word of a form of SQL
abbrev pub shows_form : Kind → Bool
shows_form k.KeywordTable = true
shows_form k.KeywordSequence = true
shows_form k.KeywordCookie = true
shows_form k.SqlSelect = true
shows_form k.SqlInsert = true
shows_form k.SqlUpdate = true
shows_form k.SqlDelete = true
shows_form k.SqlWhere = true
shows_form _ = false

-- the name of an operation of the basis on tables, sequences or cookies
abbrev pub names_operation : List ℕ → Bool
names_operation name =
    bytes_eq name (codes "query")
    || bytes_eq name (codes "queryX")
    || bytes_eq name (codes "oneRow")
    || bytes_eq name (codes "oneOrNoRows")
    || bytes_eq name (codes "dml")
    || bytes_eq name (codes "nextval")
    || bytes_eq name (codes "getCookie")
    || bytes_eq name (codes "clearCookie")
    || bytes_eq name (codes "setCookie")

-- a name that stands in code is such a name
abbrev pub is_operation : Kind → Content → Bool
is_operation k.LowerName (Characters name) = names_operation name
is_operation _ _ = false

-- the token shows a form that isn't built yet
abbrev pub is_unbuilt : Token → Bool
is_unbuilt token = shows_form token.kind || is_operation token.kind token.content

-- the token shows none
abbrev pub IsBuilt : Token → Type 0
IsBuilt token = is_unbuilt token ≡ false

-- Nothing is the answer for tokens of which none shows such a form; a place, where a token of that place shows one, and
-- none before it does.
abbrev pub IsFirstUnbuilt : List Token → Option ℕ → Type 0
IsFirstUnbuilt tokens None = All IsBuilt tokens
IsFirstUnbuilt tokens (Some at) =
    (before : List Token) × (token : Token) × (after : List Token)
    × (tokens ≡ before ++ token ∷ after)
    × All IsBuilt before
    × (is_unbuilt token ≡ true)
    × (at ≡ token.at)

-- the answer as it is computed, for the loop
abbrev pub first_unbuilt : List Token → Option ℕ
first_unbuilt [] = None
first_unbuilt (token ∷ tokens) = if is_unbuilt token then Some token.at else first_unbuilt tokens
