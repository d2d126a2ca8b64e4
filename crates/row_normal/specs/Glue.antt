-- What the functions that put pieces in order keep: the pieces' trees, and what is joined so far.
use Rattle.std.specs.Prelude.{ℕ, Option, Some, None, List, [], ◌∷◌, ◌++◌, map}
use Rattle.con_terms.specs.Trees.{Kd, Cn, name, row, cat, Prs, no_pairs, pair}
use Rattle.con_terms.specs.View.{con_tree, kind_tree, pairs_tree}
use Rattle.row_normal.specs.declared.piece.Piece.{Piece}
use Rattle.row_normal.specs.declared.glue.Joined.{Joined}
use Rattle.row_normal.specs.declared.glue.Joined.TheVariants.{Nothing, Literal, Pieces}
use Rattle.row_normal.specs.Ordered.{leading_fields, after_leading, glued}

abbrev pub piece_tree : Piece → Cn
piece_tree p = con_tree p.con

-- these fields, and then the others
abbrev pub pairs_then : Prs → Prs → Prs
pairs_then no_pairs qs = qs
pairs_then (pair n v ps) qs = pair n v (pairs_then ps qs)

-- a literal of this kind with these fields and the pieces that follow, as one list
abbrev pub literal_then : Kd → Prs → List Cn → List Cn
literal_then k ps rest = row k (pairs_then ps (leading_fields k rest)) ∷ after_leading k rest

-- what is joined so far and the pieces that follow, as one list
abbrev pub joined_then : Joined → List Cn → List Cn
joined_then Nothing rest = glued rest
joined_then (Literal k ps) rest = literal_then (kind_tree k.value) (pairs_tree ps) rest
joined_then (Pieces cs) rest = map con_tree cs.items ++ rest

-- the symbol of a literal name
abbrev pub name_of : Cn → Option ℕ
name_of (name s) = Some s
name_of _ = None

-- the symbol of the name of an only field, where that name is a literal
abbrev pub literal_of : Prs → Option ℕ
literal_of (pair n v no_pairs) = name_of n
literal_of _ = None

-- the pieces joined by ++ before the last
abbrev pub cats_before : List Cn → Cn → Cn
cats_before [] c = c
cats_before (p ∷ ps) c = cat p (cats_before ps c)
