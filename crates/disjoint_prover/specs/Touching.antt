-- Which pieces of two rows touch: the first pair that nothing keeps apart.
-- The Ur/Web Manual, "Record Disjointness".
use Rattle.std.specs.Prelude.{◌≡◌, ◌≢◌, ℕ, List, ◌∷◌, ◌++◌}
use Rattle.std.specs.List.{All, Contains}
use Rattle.con_terms.specs.Trees.{Cn, name}
use Rattle.con_terms.specs.Apart.{Guards, pieces}

-- p is a piece of a guard's left side, and q one of its right side
pub record OnSides (g : Cn × Cn) (p q : Cn) : Type 0 where
  pub left : Contains (pieces g.0) p
  pub right : Contains (pieces g.1) q

-- what keeps two pieces apart
pub data KeptApart : Guards → Cn → Cn → Type 0 where
  -- they are two different names, #X and #Y
  different_names : {gs : Guards} {s t : ℕ}
      → s ≢ t
      → KeptApart gs (name s) (name t)
  -- a guard [a ~ b] has p on its left side and q on its right side
  on_both_sides : {gs : Guards} {g : Cn × Cn} {p q : Cn}
      → Contains gs g
      → OnSides g p q
      → KeptApart gs p q
  -- a guard [a ~ b] has q on its left side and p on its right side
  on_both_sides_turned : {gs : Guards} {g : Cn × Cn} {p q : Cn}
      → Contains gs g
      → OnSides g q p
      → KeptApart gs p q

-- each of ps is kept apart from each of qs
abbrev pub AllKeptApart : Guards → List Cn → List Cn → Type 0
AllKeptApart gs ps qs = All (λ p. All (KeptApart gs p) qs) ps

-- The first pieces of c and d that touch are p and q: nothing keeps these apart. All pieces of c before p are kept
-- apart from all pieces of d, and p is kept apart from all pieces of d before q.
pub data Touches : Guards → Cn → Cn → Cn → Cn → Type 0 where
  touches : {gs : Guards} {c d p q : Cn} (before after before_it after_it : List Cn)
      → pieces c ≡ before ++ p ∷ after
      → pieces d ≡ before_it ++ q ∷ after_it
      → AllKeptApart gs before (pieces d)
      → All (KeptApart gs p) before_it
      → (KeptApart gs p q → ⊥)
      → Touches gs c d p q
