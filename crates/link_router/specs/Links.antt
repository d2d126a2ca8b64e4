-- The texts of links, and which call a path is.
use Rattle.std.specs.Prelude.{◌≡◌, ℕ, Bool, List, [], ◌∷◌, ◌++◌, Option, Some, None, slice_get, codes, drop, map, take, if◌then◌else◌, ◌==◌, bytes_eq, ◌+◌}
use Rattle.percent_encoding.specs.Percent.{percent_decode}
use Rattle.table_rows.specs.Wires.{Wrs}
use Rattle.table_rows.specs.Shapes.{HaveShapes}
use Rattle.table_rows.specs.Pieces.{all_pieces, is_from_to}
use Rattle.link_router.specs.Calls.{Ent, Rts, Cl, is_post, AreCarried}

-- each piece behind a slash
abbrev pub joined : List (List ℕ) → List ℕ
joined [] = []
joined (p ∷ ps) = 47 ∷ p ++ joined ps

-- a link: the entry's name and the pieces of the arguments, each behind a slash
abbrev pub link : Ent → Wrs → List ℕ
link e ws = joined (e.name ++ all_pieces ws)

-- the text is the link of the entry with this number
abbrev pub IsLinkOf : Rts → ℕ → Wrs → List ℕ → Type 0
IsLinkOf routes i ws text = (e : Ent) × (slice_get routes.entries i ≡ Some e) × (text ≡ link e ws)

-- a byte before the first piece
abbrev pub in_first : ℕ → List (List ℕ) → List (List ℕ)
in_first b [] = (b ∷ []) ∷ []
in_first b (p ∷ ps) = (b ∷ p) ∷ ps

-- the pieces between slashes
abbrev pub split : List ℕ → List (List ℕ)
split [] = [] ∷ []
split (b ∷ bs) = if b == 47 then [] ∷ split bs else in_first b (split bs)

-- a letter in lower case
abbrev pub lowered : ℕ → ℕ
lowered b = if is_from_to 65 90 b then b + 32 else b

-- from the first slash on
abbrev pub from_slash : List ℕ → List ℕ
from_slash [] = []
from_slash (b ∷ bs) = if b == 47 then b ∷ bs else from_slash bs

-- the path of a target; http and an authority before it, in whatever case, don't count. RFC 9112, section 3.2
abbrev pub path_of : List ℕ → List ℕ
path_of target = if bytes_eq (map lowered (take 7 target)) (codes "http://") then from_slash (drop 7 target) else target

-- the pieces of a path that begins with a slash, each percent-decoded
abbrev pub path_pieces : List ℕ → Option (List (List ℕ))
path_pieces [] = None
path_pieces (b ∷ bs) = if b == 47 then Some (map percent_decode (split bs)) else None

-- the path is a link of the call, piece by piece once each is percent-decoded; the call has no form and no cookie,
-- and its entry is read by this method
pub record Route (routes : Rts) (post : Bool) (target : List ℕ) (call : Cl) : Type 0 where
  pub entry : Ent
  pub is_entry : slice_get routes.entries call.entry ≡ Some entry
  pub by_method : is_post entry.form ≡ post
  pub shapes : HaveShapes routes.datatypes entry.arguments call.wires
  pub carried : AreCarried call.wires
  pub same_pieces : path_pieces (path_of target) ≡ path_pieces (link entry call.wires)
  pub no_form : call.form ≡ None
  pub no_cookie : call.cookie ≡ []
