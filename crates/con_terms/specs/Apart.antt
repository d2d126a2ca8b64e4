-- Which rows share no name, and which names differ.
-- The Ur/Web Manual, "Record Disjointness".
use Rattle.std.specs.Prelude.{◌≡◌, ◌≢◌, ℕ, Bool, true, false, List, [], ◌∷◌, ◌++◌}
use Rattle.std.specs.List.{Contains, All}
use Rattle.con_terms.specs.Trees.{Cn, app, name, row, cat, map_of, Prs, no_pairs, pair}
use Rattle.con_terms.specs.Equal.{Equal}

-- the assumed guards, each with its two sides
abbrev pub Guards : Type 0
Guards = List (Cn × Cn)

abbrev mutual
  -- the pieces of a row: those of a literal's names, those of both sides of ++, those of the row that is mapped, or
  -- the row itself
  pub pieces : Cn → List Cn
  pieces (row k ps) = name_pieces ps
  pieces (cat a b) = pieces a ++ pieces b
  pieces (app (app (map_of k l) f) r) = pieces r
  pieces c = c ∷ []

  -- those of each name of a literal. A name is its own piece; what is no name, as it may stand there before its kind
  -- is asked, is taken apart as elsewhere
  pub name_pieces : Prs → List Cn
  name_pieces no_pairs = []
  name_pieces (pair n v ps) = pieces n ++ name_pieces ps

-- whether both are literal names
abbrev pub both_literal : Cn → Cn → Bool
both_literal (name s) (name t) = true
both_literal _ _ = false

-- p is a piece of a row equal to c
pub data HasPiece : Cn → Cn → Type 0 where
  has_piece : {c d p : Cn}
      → Equal c d
      → Contains (pieces d) p
      → HasPiece c p

-- Two pieces are separated: literal names that differ, or pieces of the two sides of an assumed guard. A guard that
-- can't hold, as [A] ~ [A], separates too, so that what is apart stays apart where a constructor is put for a variable.
pub data Separated : Guards → Cn → Cn → Type 0 where
  -- #X and #Y
  names_differ : {gs : Guards} {s t : ℕ}
      → s ≢ t
      → Separated gs (name s) (name t)
  -- [a ~ b], of which a has p and b has q
  by_guard : {gs : Guards} {a b p q : Cn}
      → Contains gs (a, b)
      → HasPiece a p
      → HasPiece b q
      → Separated gs p q
  -- [a ~ b], of which a has q and b has p
  by_guard_turned : {gs : Guards} {a b p q : Cn}
      → Contains gs (a, b)
      → HasPiece a q
      → HasPiece b p
      → Separated gs p q

-- each piece of the one is separated from each piece of the other
abbrev pub AllSeparated : Guards → List Cn → List Cn → Type 0
AllSeparated gs ps qs = All (λ p. All (Separated gs p) qs) ps

-- c and d, or rows equal to them, have pieces that are all separated
pub data Apart : Guards → Cn → Cn → Type 0 where
  apart : {gs : Guards} {c d c' d' : Cn}
      → Equal c c'
      → Equal d d'
      → AllSeparated gs (pieces c') (pieces d')
      → Apart gs c d

-- each is apart from each later one
abbrev pub PairwiseApart : Guards → List Cn → Type 0
PairwiseApart gs [] = Unit {0}
PairwiseApart gs (n ∷ ns) = All (Apart gs n) ns × PairwiseApart gs ns
