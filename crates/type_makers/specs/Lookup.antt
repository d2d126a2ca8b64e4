-- What has a name among some things.
use Rattle.std.specs.Prelude.{ℕ, List, [], ◌∷◌, Option, Some, None, if◌then◌else◌, nat_eq}
use Rattle.std.specs.Cmp.Lexicographic.{pointwise}

-- the first that has the name
abbrev pub first_named : {A : Type 0} → (A → List ℕ) → List A → List ℕ → Option A
first_named name [] text = None
first_named name (x ∷ xs) text = if pointwise nat_eq (name x) text then Some x else first_named name xs text
