-- The number of the module that is read.
use Rattle.std.proofs.Common.{◌≡◌, ℕ, ◌-◌, List, [], ◌∷◌, length, map, reverse, refl, ap, sym, ◌∙◌, arith}
use Rattle.std.proofs.lemmas.List.{length-reverse, length-map}
use Rattle.source_names.specs.Scopes.{Words, capital, last_home}

home_is : (ms : List Words) → last_home ms ≡ length ms - 1
home_is [] = refl
home_is (m ∷ ms) = omega arith

pub last_home_is : (ns : List Words) → last_home (reverse (map capital ns)) ≡ length ns - 1
last_home_is ns =
    home_is (reverse (map capital ns)) ∙ ap (λ n. n - 1) (length-reverse (map capital ns) ∙ length-map ns capital)
