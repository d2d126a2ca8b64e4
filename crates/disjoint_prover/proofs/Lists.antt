-- What is left of a list from an index on.
use Rattle.std.proofs.Common.{◌≡◌, ℕ, ◌+◌, ◌<◌, ◌≤◌, [], ◌∷◌, get_or, drop, vec_len, Vec, Global, arith, drop_of_length-le}
use Rattle.row_normal.proofs.Coded.{open_at}

-- one element, and what is left after it
pub drop_in : {X : Type 0} (v : Vec X Global) (i : ℕ) (x : X) → i < vec_len v → x ≡ get_or v.items i x → drop i v.items ≡ x ∷ drop (i + 1) v.items
drop_in v i x h e = open_at v.items i x e (omega (arith, v.ok.0))

-- nothing is left at the end
pub drop_end : {X : Type 0} (v : Vec X Global) (i : ℕ) → vec_len v ≤ i → drop i v.items ≡ []
drop_end v i h = drop_of_length-le v.items (omega (arith, v.ok.0))
