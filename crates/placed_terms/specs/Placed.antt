-- Whether the nodes of a program stand where they do in its source.
use Rattle.std.specs.Prelude.{ℕ, ◌+◌, ◌==◌, Bool, true, false, ◌&&◌, List, [], ◌∷◌, ◌++◌, map}
use Rattle.con_terms.specs.declared.place.Place.{Place}
use Rattle.core_terms.specs.Strip.{strip_decl}
use Rattle.core_terms.specs.Trees.{De, Pg}
use Rattle.plain_tree.specs.Trees.{DeclTree}
use Rattle.placed_terms.specs.Made.{places_of}
use Rattle.placed_terms.specs.Source.{bytes_of}

-- whether places are those at these bytes of the file with a number
abbrev pub stand_at : ℕ → List ℕ → List Place → Bool
stand_at m [] [] = true
stand_at m (n ∷ ns) (p ∷ ps) = p.file == m && p.at == n && stand_at m ns ps
stand_at m _ _ = false

-- Whether the nodes of a program's declaration, without what was inserted, stand where those of the source's
-- declaration do, in the file with this number.
abbrev pub is_placed : ℕ → DeclTree → De → Bool
is_placed m d e = stand_at m (bytes_of d) (places_of (strip_decl e))

-- the declarations of modules, each with the number of its module, where the first has this one
abbrev pub numbered : ℕ → List (List DeclTree) → List (ℕ × DeclTree)
numbered m [] = []
numbered m (ds ∷ modules) = map (λ d. (m, d)) ds ++ numbered (m + 1) modules

-- whether declarations of a program are placed as these are, one by one
abbrev pub all_placed : List (ℕ × DeclTree) → List De → Bool
all_placed [] [] = true
all_placed (d ∷ ds) (e ∷ es) = is_placed d.0 d.1 e && all_placed ds es
all_placed _ _ = false

-- whether the nodes of a program stand where those of these modules do, each in the file of its module's number
abbrev pub are_placed : List (List DeclTree) → Pg → Bool
are_placed trees p = all_placed (numbered 0 trees) p.decls
