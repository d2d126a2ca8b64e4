-- Fields of rows in the order in which they are printed: those with a literal name first, in the order of the names'
-- bytes, of one name the earlier first; and then the others as they are written.
use Rattle.std.specs.Prelude.{ℕ, suc, Bool, List, [], ◌∷◌, ◌++◌, map, Option, Some, None, if◌then◌else◌}
use Rattle.std.specs.Ordering.{is_lt, nat_cmp}
use Rattle.std.specs.Cmp.Lexicographic.{slice_cmp}

-- whether a text comes before another in the order of bytes
abbrev pub comes_before : List ℕ → List ℕ → Bool
comes_before a b = is_lt (slice_cmp nat_cmp a b)

-- one more before the first whose name doesn't come before its own
abbrev pub put_in : {A : Type 0} → List ℕ → A → List (List ℕ × A) → List (List ℕ × A)
put_in n x [] = (n, x) ∷ []
put_in n x (f ∷ fs) = if comes_before f.0 n then f ∷ put_in n x fs else (n, x) ∷ f ∷ fs

-- its place
abbrev pub place_in : {A : Type 0} → List ℕ → List (List ℕ × A) → ℕ
place_in n [] = 0
place_in n (f ∷ fs) = if comes_before f.0 n then suc (place_in n fs) else 0

abbrev pub put_named : {A : Type 0} → Option (List ℕ) → A → List (List ℕ × A) → List (List ℕ × A)
put_named (Some n) x fs = put_in n x fs
put_named None x fs = fs

-- those with a literal name, in order
abbrev pub sorted : {A : Type 0} → List (Option (List ℕ) × A) → List (List ℕ × A)
sorted [] = []
sorted (f ∷ fs) = put_named f.0 f.1 (sorted fs)

abbrev pub put_unnamed : {A : Type 0} → Option (List ℕ) → A → List A → List A
put_unnamed (Some n) x fs = fs
put_unnamed None x fs = x ∷ fs

-- those without
abbrev pub unnamed : {A : Type 0} → List (Option (List ℕ) × A) → List A
unnamed [] = []
unnamed (f ∷ fs) = put_unnamed f.0 f.1 (unnamed fs)

abbrev pub second : {A : Type 0} → List ℕ × A → A
second f = f.1

abbrev pub in_order : {A : Type 0} → List (Option (List ℕ) × A) → List A
in_order fs = map second (sorted fs) ++ unnamed fs
