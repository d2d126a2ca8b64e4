-- What is added to a link, and what is still to be added.
use Rattle.std.specs.Prelude.{◌≡◌, ℕ, false, List, [], ◌∷◌, ◌++◌, map, get_or, length, nat_lt, Option, Some, None, option_map, slice_get, if◌then◌else◌, ◌⊎◌, suc}
use Rattle.std.specs.String.{string_bytes}
use Rattle.std.specs.Ordering.{is_lt, nat_cmp}
use Rattle.std.specs.Cmp.Lexicographic.{slice_cmp}
use Rattle.link_router.specs.Links.{joined}
use Rattle.core_terms.specs.declared.program.Program.{Program}
use Rattle.value_trees.specs.Values.{V, Slots, no_slots, slot}
use Rattle.run_values.specs.View.{value_tree}
use Rattle.run_values.specs.declared.stop.Stop.{Stop}
use Rattle.run_values.specs.declared.value.Value.{Value}
use Rattle.page_walk.specs.Links.{longest_link, datatypes_in, values_text}
use Rattle.page_walk.specs.declared.links.Link.{Link}
use Rattle.page_walk.specs.declared.links.Labelled.{Labelled}

-- a link holds a text, or says that it is too long
pub record Holds (l : Link) (whole : List ℕ) : Type 0 where
  pub is_long : l.long ≡ nat_lt longest_link (length whole)
  pub bytes : l.long ≡ false → string_bytes l.text ≡ whole

-- behind whatever the one link holds, the other holds more
pub record Adds (old new : Link) (more : List ℕ) : Type 0 where
  pub adds : (whole : List ℕ) → Holds old whole → Holds new (whole ++ more)

-- the names of structures, one after another
abbrev pub path_text : Program → List ℕ → List ℕ
path_text p xs = joined (map (λ x. get_or p.names x []) xs)

-- values that are still to be written, the last first, and those behind them
abbrev pub pending : List Value → List V → List V
pending [] vs = vs
pending (x ∷ xs) vs = pending xs (value_tree x ∷ vs)

-- from the values that were still to be written to those that are
pub record Amid (p : Program) (old new : Link) (before after : List V) : Type 0 where
  pub written : List ℕ
  pub adds : Adds old new written
  pub whole : values_text p.names (datatypes_in p) before
      ≡ option_map (λ t. written ++ t) (values_text p.names (datatypes_in p) after)

-- the value can't be given
pub record Never (p : Program) (v : V) : Type 0 where
  pub never : (vs : List V) → values_text p.names (datatypes_in p) (v ∷ vs) ≡ None

-- a run stops for want of memory, or since something has no text
abbrev pub StopsFor : Stop → Type 0 → Type 0
StopsFor stop P = (stop ≡ Stop.Memory) ⊎ ((stop ≡ Stop.Wrong None) × P)

-- a field with the text of its name
abbrev pub label : Labelled → List ℕ × V
label f = (f.name.now, value_tree f.value)

-- one more in its place
abbrev pub put_value : List ℕ → V → List (List ℕ × V) → List (List ℕ × V)
put_value n v [] = (n, v) ∷ []
put_value n v (f ∷ fs) = if is_lt (slice_cmp nat_cmp f.0 n) then f ∷ put_value n v fs else (n, v) ∷ f ∷ fs

-- its place: before the first that doesn't come before it
abbrev pub place_in : List ℕ → List (List ℕ × V) → ℕ
place_in n [] = 0
place_in n (f ∷ fs) = if is_lt (slice_cmp nat_cmp f.0 n) then suc (place_in n fs) else 0

-- one more, where its name has a text
abbrev pub put_named : Option (List ℕ) → V → Option (List (List ℕ × V)) → Option (List (List ℕ × V))
put_named (Some n) v (Some fs) = Some (put_value n v fs)
put_named (Some n) v None = None
put_named None v fs = None

-- all in order, where each name has a text
abbrev pub sorted : List (List ℕ) → Slots → Option (List (List ℕ × V))
sorted names no_slots = Some []
sorted names (slot x v ss) = put_named (slice_get names x) v (sorted names ss)

-- the text that is told was added behind a slash
abbrev pub IsAdded : Link → Link → Option (List ℕ) → Type 0
IsAdded old new None = ⊥
IsAdded old new (Some n) = Adds old new (47 ∷ n)

-- the values of the fields were put before others
abbrev pub ArePut : Option (List (List ℕ × V)) → List V → List V → Type 0
ArePut None before after = ⊥
ArePut (Some fs) before after = after ≡ map (λ (f : List ℕ × V). f.1) fs ++ before
