-- What a target and a method lead to: a call, or the one refusal.
use Rattle.std.specs.Prelude.{◌≡◌, ℕ, ◌-◌, Bool, not, List, ◌∷◌, ◌++◌, Some, length}
use Rattle.std.specs.List.{Contains}
use Rattle.table_rows.specs.Wires.{Wrs}
use Rattle.link_router.specs.Calls.{Ent, Rts, is_post}
use Rattle.link_router.specs.Links.{path_of, path_pieces}
use Rattle.link_router.specs.Reading.{bad, few, ReadsAll, StopsAll}

-- why a target is no call
pub data Astray : Type 0 where
  no_route : Astray
  other_method : Astray
  -- the piece with this number behind the function's name
  bad_piece : ℕ → Astray
  too_few : Astray
  too_many : Astray

-- the target begins with the entry's name, and these pieces are left for its arguments
abbrev pub Fits : List ℕ → Ent → List (List ℕ) → Type 0
Fits target e rest = path_pieces (path_of target) ≡ Some (e.name ++ rest)

-- no entry that is read by this method has its name there
abbrev pub NoneFits : Rts → Bool → List ℕ → Type 0
NoneFits routes post target =
    (e : Ent) (rest : List (List ℕ)) → Contains routes.entries e → is_post e.form ≡ post → Fits target e rest → ⊥

-- an entry that is read by this method has its name there
pub record OneFits (routes : Rts) (post : Bool) (target : List ℕ) (e : Ent) (rest : List (List ℕ)) : Type 0 where
  pub one_of_them : Contains routes.entries e
  pub by_method : is_post e.form ≡ post
  pub named : Fits target e rest

-- the refusals
pub data Refuses : Rts → Bool → List ℕ → Astray → Type 0 where
  -- no entry of either method
  has_no_route : {routes : Rts} {post : Bool} {target : List ℕ}
      → NoneFits routes post target
      → NoneFits routes (not post) target
      → Refuses routes post target no_route
  -- only an entry of the other method
  has_other_method : {routes : Rts} {post : Bool} {target : List ℕ} {e : Ent} {rest : List (List ℕ)}
      → NoneFits routes post target
      → OneFits routes (not post) target e rest
      → Refuses routes post target other_method
  has_bad_piece : {routes : Rts} {post : Bool} {target : List ℕ} {e : Ent} {rest left : List (List ℕ)}
      → OneFits routes post target e rest
      → StopsAll routes.datatypes e.arguments rest (bad left)
      → Refuses routes post target (bad_piece (length rest - length left))
  has_too_few : {routes : Rts} {post : Bool} {target : List ℕ} {e : Ent} {rest : List (List ℕ)}
      → OneFits routes post target e rest
      → StopsAll routes.datatypes e.arguments rest few
      → Refuses routes post target too_few
  has_too_many : {routes : Rts} {post : Bool} {target : List ℕ} {e : Ent} {rest : List (List ℕ)}
      {ws : Wrs} {p : List ℕ} {left : List (List ℕ)}
      → OneFits routes post target e rest
      → ReadsAll routes.datatypes e.arguments rest ws (p ∷ left)
      → Refuses routes post target too_many
