-- Which tokens stand for a word of the grammar.
use Rattle.std.specs.Prelude.{ℕ, Bool, true, false, ◌||◌, ◌&&◌, ◌==◌, List, [], ◌∷◌}
use denote.Enum.Declared.{tag_of}
use Rattle.surface_tree.specs.declared.kind.Kind.{Kind}
use Rattle.surface_tree.specs.declared.kind.Kind.TheVariants as k
use Rattle.surface_tree.specs.contracts.kind.Kind.{the_type}

-- the place of a kind among the kinds, by which kinds are compared
abbrev pub kind_code : Kind → ℕ
kind_code x = tag_of the_type x

-- the names with a kind of their own, which are upper-case names too
abbrev pub is_upper_word : Kind → Bool
is_upper_word k.TypeWord = true
is_upper_word k.UnitWord = true
is_upper_word k.NameWord = true
is_upper_word _ = false

-- a token of the second kind may stand for a word of the first
abbrev pub accept : Kind → Kind → Bool
accept word found =
    (kind_code word == kind_code found) || ((kind_code word == kind_code k.UpperName) && is_upper_word found)

-- one of the words takes the token
abbrev pub any_accepts : List Kind → Kind → Bool
any_accepts [] x = false
any_accepts (w ∷ ws) x = accept w x || any_accepts ws x
