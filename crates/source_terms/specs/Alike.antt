-- Whether two lists are alike, place by place.
use Rattle.std.specs.Prelude.{ℕ, Bool, true, false, ◌&&◌, bytes_eq, List, [], ◌∷◌}
use Rattle.core_terms.specs.Trees.{Ru}
use Rattle.row_normal.specs.SameTree.{flag_eq}

-- Whether two lists are as long as one another, and what stands at each place of the one goes with what stands at
-- that place of the other.
abbrev pub each : {A B : Type 0} → (A → B → Bool) → List A → List B → Bool
each p [] [] = true
each p (x ∷ xs) (y ∷ ys) = p x y && each p xs ys
each p _ _ = false

-- whether two foreign effects are one, by module and name
abbrev pub effect_eq : List ℕ × List ℕ → List ℕ × List ℕ → Bool
effect_eq e f = bytes_eq e.0 f.0 && bytes_eq e.1 f.1

-- whether two rules on addresses are one
abbrev pub rule_eq : Ru → Ru → Bool
rule_eq r s = flag_eq r.allow s.allow && bytes_eq r.pattern s.pattern
