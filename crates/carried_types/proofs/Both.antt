-- Answers joined, and walks over lists.
use Rattle.std.proofs.Common.{◌≡◌, Bool, true, false, List, [], ◌∷◌, Option, Some, None, ap, refl}
use Rattle.std.specs.List.{Contains}
use Rattle.carried_types.specs.Built.{both}

pub both_yes : (a b : Option Bool) → both a b ≡ Some true → (a ≡ Some true) × (b ≡ Some true)
both_yes None b h = absurd (cc)
both_yes (Some false) b h = absurd (cc)
both_yes (Some true) b h = (refl, h)

-- either is no
pub both_no : (P : Type 0) (a b : Option Bool) → both a b ≡ Some false → (a ≡ Some false → P) → (b ≡ Some false → P) → P
both_no P None b h f g = absurd (cc)
both_no P (Some false) b h f g = f refl
both_no P (Some true) b h f g = g h
