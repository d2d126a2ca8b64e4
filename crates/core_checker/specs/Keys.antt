-- Texts by which most entries that aren't one call differ.
use Rattle.std.specs.Prelude.{◌≡◌, ℕ, ◌<◌, List, [], ◌∷◌, ◌++◌, Some, slice_get, if◌then◌else◌}
use Rattle.std.specs.List.{Contains}
use Rattle.link_router.specs.Calls.{Ent, is_post}

-- the pieces of a name, each with a dot behind it
abbrev pub dotted : List (List ℕ) → List ℕ
dotted [] = []
dotted (x ∷ xs) = x ++ 46 ∷ dotted xs

-- `P` before those of an entry that is read by POST, and `G` before those of another one
abbrev pub key_of : Ent → List ℕ
key_of e = (if is_post e.form then 80 else 71) ∷ dotted e.name

-- a table has the keys of the entries before a place
abbrev pub HasKeys : List Ent → ℕ → List (List ℕ) → Type 0
HasKeys es j table = (i : ℕ) (e : Ent) → i < j → slice_get es i ≡ Some e → Contains table (key_of e)
