-- The longest path that begins with an upper-case name.
use Rattle.std.specs.Prelude.{ℕ, Bool, true, false, if◌then◌else◌, List, [], ◌∷◌, ◌++◌, map}
use Rattle.plain_tree.specs.Trees.{ExpTree, exp, FormTree, exp_name, exp_builder, LinkTree}
use Rattle.plain_tree.specs.ExpView.{link_tree}
use Rattle.plain_tree.specs.declared.names.Path.{Path}
use Rattle.plain_tree.specs.declared.names.Sigil.{Sigil}
use Rattle.surface_tree.specs.declared.kind.Kind.{Kind}
use Rattle.surface_tree.specs.declared.kind.Kind.TheVariants.{Integer, LowerName}
use Rattle.desugar_values.specs.Meanings.{MeaningTree, absent, a_word, several, group, a_kind, a_con, a_pat, an_exp, a_node, MeaningsTree, no_meaning, meaning}
use Rattle.desugar_values.specs.Parts.{word_of, characters}
use Rattle.desugar_terms.specs.Dots.{dot_of, dots_of, with_links}
use Rattle.desugar_terms.specs.declared.paths.Names.{Names}
use Rattle.desugar_terms.specs.declared.paths.Reached.{Reached}
use Rattle.desugar_terms.specs.declared.paths.Reached.TheVariants as reached

-- the kinds of words that are upper-case names, where a name of a field stands
abbrev pub is_upper_kind : Kind → Bool
is_upper_kind Integer = false
is_upper_kind LowerName = false
is_upper_kind _ = true

abbrev pub is_lower_kind : Kind → Bool
is_lower_kind LowerName = true
is_lower_kind _ = false

-- the name of a field is an upper-case name
abbrev pub is_upper : MeaningTree → Bool
is_upper (a_word t) = is_upper_kind t.kind
is_upper absent = false
is_upper (several ms) = false
is_upper (group ms) = false
is_upper (a_kind x) = false
is_upper (a_con s c) = false
is_upper (a_pat s p) = false
is_upper (an_exp s e) = false
is_upper (a_node n) = false

-- the name of a field is a lower-case name
abbrev pub is_lower : MeaningTree → Bool
is_lower (a_word t) = is_lower_kind t.kind
is_lower absent = false
is_lower (several ms) = false
is_lower (group ms) = false
is_lower (a_kind x) = false
is_lower (a_con s c) = false
is_lower (a_pat s p) = false
is_lower (an_exp s e) = false
is_lower (a_node n) = false

-- the characters of a name
abbrev pub text_of : MeaningTree → List ℕ
text_of m = characters (word_of m).content

-- a path, whether it is the path of a value, and the projections behind it
pub record NamesTree : Type 0 where
  pub path : Path
  pub is_value : Bool
  pub links : List LinkTree

abbrev pub path_to : List (List ℕ) → List ℕ → Path
path_to modules name = record { modules = modules; name = name }

-- The longest path that begins with these modules and this upper-case name: further upper-case names behind dots, and
-- then a lower-case name, which is that of a value, or none. The dots that are no part of it are projections.
abbrev pub longest : List (List ℕ) → List ℕ → MeaningsTree → NamesTree
longest modules name no_meaning = record { path = path_to modules name; is_value = false; links = [] }
longest modules name (meaning m ms) =
    if is_upper m then longest (modules ++ name ∷ []) (text_of m) ms
    else if is_lower m
    then record { path = path_to (modules ++ name ∷ []) (text_of m); is_value = true; links = dots_of ms }
    else record { path = path_to modules name; is_value = false; links = dots_of (meaning m ms) }

-- the value, or the constructor of a datatype, that a path names
abbrev pub path_form : Sigil → Bool → Path → FormTree
path_form sigil true path = exp_name sigil path
path_form sigil false path = exp_builder sigil path

-- the term at this byte that a path with projections behind it is
abbrev pub path_exp : ℕ → Sigil → NamesTree → ExpTree
path_exp at sigil names = with_links at (exp at (path_form sigil names.is_value names.path)) names.links

abbrev pub names_tree : Names → NamesTree
names_tree n = record { path = n.path; is_value = n.is_value; links = map link_tree n.links.items }

-- a path as far as it has been read
pub data ReachedTree : Type 0 where
  -- upper-case names, which more may follow
  going : List (List ℕ) → List ℕ → ReachedTree
  -- the whole path and projections behind it, which more may follow
  ended : NamesTree → ReachedTree

abbrev pub reached_tree : Reached → ReachedTree
reached_tree (reached.Going modules name) = going modules name
reached_tree (reached.Ended names) = ended (names_tree names)

-- upper-case names, with one more dot
abbrev pub go_on : List (List ℕ) → List ℕ → MeaningTree → ReachedTree
go_on modules name m =
    if is_upper m then going (modules ++ name ∷ []) (text_of m)
    else if is_lower m
    then ended (record { path = path_to (modules ++ name ∷ []) (text_of m); is_value = true; links = [] })
    else ended (record { path = path_to modules name; is_value = false; links = dot_of m ∷ [] })

-- a whole path, with projections behind those that it has
abbrev pub and_links : NamesTree → List LinkTree → NamesTree
and_links names links = record { path = names.path; is_value = names.is_value; links = names.links ++ links }

-- a path as far as it has been read, with one more dot
abbrev pub one_more : ReachedTree → MeaningTree → ReachedTree
one_more (going modules name) m = go_on modules name m
one_more (ended names) m = ended (and_links names (dot_of m ∷ []))

-- a path as far as it has been read, with all the dots that are left
abbrev pub finish : ReachedTree → MeaningsTree → NamesTree
finish (going modules name) ms = longest modules name ms
finish (ended names) ms = and_links names (dots_of ms)
