-- Laws of disjointness.
use Rattle.std.specs.Prelude.{◌≡◌, ◌↔◌, None, Some}
use Rattle.con_terms.specs.Trees.{Cn}
use Rattle.con_terms.specs.Apart.{Guards, Separated, pieces}
use Rattle.disjoint_prover.specs.Separation.{first_touch}
use Rattle.disjoint_prover.specs.Touching.{AllKeptApart, KeptApart, Touches}

-- the pair that is computed is the first pair that touches
abbrev pub TouchIsTheFirst : Type 0
TouchIsTheFirst = (gs : Guards) (c d p q : Cn) → (first_touch gs c d ≡ Some (p, q)) ↔ Touches gs c d p q

-- none is computed exactly where all pieces are kept apart
abbrev pub NoneTouch : Type 0
NoneTouch = (gs : Guards) (c d : Cn) → (first_touch gs c d ≡ None) ↔ AllKeptApart gs (pieces c) (pieces d)

-- what is kept apart is separated
abbrev pub KeptApartIsSeparated : Type 0
KeptApartIsSeparated = (gs : Guards) (p q : Cn) → KeptApart gs p q → Separated gs p q
