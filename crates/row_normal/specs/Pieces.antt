-- The pieces of a row as they are written, and what it means that pieces are in order.
use Rattle.std.specs.Prelude.{◌≡◌, false, List, [], ◌∷◌, ◌++◌}
use Rattle.std.specs.List.{All}
use Rattle.con_terms.specs.Trees.{Kd, Cn, var, basic, arrow, poly, guarded, record_of, app, lambda, unit_con, name, row, cat, map_of, tuple, proj, Prs, no_pairs, pair}
use Rattle.row_normal.specs.Ordered.{before, ordered_pieces}

-- the fields of a literal, each as a literal of its own
abbrev pub written_fields : Kd → Prs → List Cn
written_fields k no_pairs = []
written_fields k (pair n v ps) = row k (pair n v no_pairs) ∷ written_fields k ps

-- the pieces of a row, as written: the fields of a literal, the pieces of both sides of ++, or the row itself
abbrev pub written_pieces : Cn → List Cn
written_pieces (row k ps) = written_fields k ps
written_pieces (cat a b) = written_pieces a ++ written_pieces b
written_pieces (var i) = var i ∷ []
written_pieces (basic s) = basic s ∷ []
written_pieces (arrow a b) = arrow a b ∷ []
written_pieces (poly x k b) = poly x k b ∷ []
written_pieces (guarded a b c) = guarded a b c ∷ []
written_pieces (record_of a) = record_of a ∷ []
written_pieces (app a b) = app a b ∷ []
written_pieces (lambda k b) = lambda k b ∷ []
written_pieces unit_con = unit_con ∷ []
written_pieces (name s) = name s ∷ []
written_pieces (map_of k l) = map_of k l ∷ []
written_pieces (tuple cs) = tuple cs ∷ []
written_pieces (proj a n) = proj a n ∷ []

-- no piece comes before an earlier one
abbrev pub AreInOrder : List Cn → Type 0
AreInOrder [] = Unit {0}
AreInOrder (p ∷ ps) = All (λ q. before q p ≡ false) ps × AreInOrder ps

-- these are the pieces of a row, and no piece comes before an earlier one
abbrev pub IsInOrder : Cn → List Cn → Type 0
IsInOrder c ps = (ps ≡ ordered_pieces c) × AreInOrder ps
