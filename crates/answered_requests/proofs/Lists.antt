-- Lists: what stands in them, and what a choice between two keeps.
use Rattle.std.proofs.Common.{◌≡◌, ℕ, Bool, true, false, List, [], ◌∷◌, if◌then◌else◌}
use Rattle.std.specs.List.{AllByRecursion}
use Rattle.std.specs.Ordering.{is_lt, nat_cmp}
use Rattle.std.specs.Cmp.Lexicographic.{slice_cmp}
use Rattle.table_rows.specs.Shapes.{Sh}
pub use Rattle.link_router.proofs.ReadBack.{heads, tails}
use Rattle.core_typing.specs.Entries.{put_part}
pub use Rattle.core_typing.proofs.OneSite.{some_is}
pub use Rattle.core_typing.proofs.SiteRoutes.{no_place, place_of as place_in}

pub none_there : {P X : Type 0} {x : X} {xs : List X} → x ∷ xs ≡ [] → P
none_there e = cc

-- what holds of both holds of the one that is chosen
pub chosen : {X : Type 0} (P : X → Type 0) (b : Bool) (x y : X) → P x → P y → P (if b then x else y)
chosen P true x y g h = g
chosen P false x y g h = h

-- what holds of a field and of others holds of all of them in their byte order
pub put_among : (P : List ℕ × Sh → Type 0) (n : List ℕ) (s : Sh) (ps : List (List ℕ × Sh)) → P (n, s) → AllByRecursion P ps → AllByRecursion P (put_part n s ps)
put_among P n s [] h r = (h, tt)
put_among P n s (p ∷ ps) h r =
    chosen (AllByRecursion P) (is_lt (slice_cmp nat_cmp p.0 n)) (p ∷ put_part n s ps) ((n, s) ∷ p ∷ ps) (r.0, put_among P n s ps h r.1) (h, r)
