-- Files and folders, as far as an object tells them.
use Rattle.std.specs.Prelude.{◌≡◌, ℕ, Bool, true, false, ◌==◌, nat_lt, List, [], ◌∷◌, length, take, drop, bytes_eq, Option, Some, None, if◌then◌else◌}
use Rattle.std.specs.List.{starts_with, list_any}

-- files: the path of each, and what it holds
abbrev pub Told : Type 0
Told = List (List ℕ × List ℕ)

-- what the first file with a path holds
abbrev pub file_at : Told → List ℕ → Option (List ℕ)
file_at [] path = None
file_at (f ∷ fs) path = if bytes_eq f.0 path then Some f.1 else file_at fs path

-- what was read of a file: its first bytes, `most` at most, and whether there are more
abbrev pub IsFront : Option (List ℕ) → ℕ → List ℕ → Bool → Type 0
IsFront None most bytes more = ⊥
IsFront (Some content) most bytes more = (bytes ≡ take most content) × (more ≡ nat_lt most (length content))

-- a path begins with these bytes
abbrev pub begins_with : List ℕ → List ℕ → Bool
begins_with front path = starts_with (λ a b. a == b) path front

-- what stands behind these bytes, where a path begins with them
abbrev pub behind : List ℕ → List ℕ → Option (List ℕ)
behind front path = if begins_with front path then Some (drop (length front) path) else None

-- what stands behind a folder and the slash that ends it
abbrev pub within : List ℕ → List ℕ → Option (List ℕ)
within dir path = elim (behind dir path) [ None ↦ None | Some rest ↦ behind (47 ∷ []) rest ]

abbrev pub has_slash : List ℕ → Bool
has_slash name = list_any (λ b. b == 47) name

-- a name before others, where it is that of a file in the folder itself, and not in a folder in it
abbrev pub named_before : Option (List ℕ) → List (List ℕ) → List (List ℕ)
named_before None names = names
named_before (Some name) names = if has_slash name then names else name ∷ names

-- the names of the files in a folder, in order
abbrev pub names_in : Told → List ℕ → List (List ℕ)
names_in [] dir = []
names_in (f ∷ fs) dir = named_before (within dir f.0) (names_in fs dir)

abbrev pub is_there : Option (List ℕ) → Bool
is_there None = false
is_there (Some rest) = true

-- a folder is there where a file is in it, or in a folder in it
abbrev pub has_folder : Told → List ℕ → Bool
has_folder files dir = list_any (λ (f : List ℕ × List ℕ). is_there (within dir f.0)) files
