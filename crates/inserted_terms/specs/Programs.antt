-- The folders and instances that a program inserts are those that their rules choose, declaration by declaration: each
-- sees what is declared before it.
use Rattle.std.specs.Prelude.{◌≡◌, ℕ, List, [], ◌∷◌, ◌++◌, drop, length, map, take}
use Rattle.con_terms.specs.Trees.{Cn}
use Rattle.core_terms.specs.Trees.{Nms, no_named, named, De, val, vals, con_is, datatype, thing, Pg}
use Rattle.guided_terms.specs.Declarations.{tables_of}
use Rattle.plain_tree.specs.Trees.{DeclTree}
use Rattle.source_names.specs.Scopes.{Words, Tables, nothing_declared, begin_module, declare_value}
use Rattle.inserted_terms.specs.Chosen.{Chosen, NamesChosen}
use Rattle.inserted_terms.specs.Inside.{Reached, at_top_of, text_of}

-- with a value declared, and its type
abbrev pub with_value : Tables → ℕ → Cn → Reached → Reached
with_value t x c r = record { declared = declare_value (text_of t x) r.declared; tops = r.tops ++ c ∷ [] }

abbrev pub with_names : Tables → Nms → Reached → Reached
with_names t no_named r = r
with_names t (named p x w c e ns) r = with_names t ns (with_value t x c r)

-- behind a declaration
abbrev pub behind : Tables → De → Reached → Reached
behind t (val path p x w c e) r = with_value t x c r
behind t (vals path ns) r = with_names t ns r
behind t (con_is path p x w k c) r = r
behind t (datatype d) r = r
behind t (thing path p x k c) r = with_value t x c r

-- of a declaration, where this is declared: names that are declared together see each other
abbrev pub DeclChosen : Tables → Pg → Reached → De → Type 0
DeclChosen t p r (val path at x w c e) = Chosen (at_top_of t p r) e
DeclChosen t p r (vals path ns) = NamesChosen (at_top_of t p (with_names t ns r)) ns
DeclChosen t p r (con_is path at x w k c) = Unit {0}
DeclChosen t p r (datatype d) = Unit {0}
DeclChosen t p r (thing path at x k c) = Unit {0}

-- of declarations one after another, and what is declared behind them
abbrev pub behind_all : Tables → List De → Reached → Reached
behind_all t [] r = r
behind_all t (d ∷ ds) r = behind_all t ds (behind t d r)

abbrev pub DeclsChosen : Tables → Pg → Reached → List De → Type 0
DeclsChosen t p r [] = Unit {0}
DeclsChosen t p r (d ∷ ds) = DeclChosen t p r d × DeclsChosen t p (behind t d r) ds

-- behind the beginning of a module of a name
abbrev pub in_module : Words → Reached → Reached
in_module x r = record { declared = begin_module x r.declared; tops = r.tops }

-- of modules of these names, each with so many of the declarations, of which none is left over
abbrev pub ModulesChosen : Tables → Pg → Reached → List Words → List ℕ → List De → Type 0
ModulesChosen t p r [] [] ds = ds ≡ []
ModulesChosen t p r (x ∷ xs) (n ∷ ns) ds = DeclsChosen t p (in_module x r) (take n ds)
    × ModulesChosen t p (behind_all t (take n ds) (in_module x r)) xs ns (drop n ds)
ModulesChosen t p r _ _ ds = ⊥

-- before the first module
abbrev pub at_start : Reached
at_start = record { declared = nothing_declared; tops = [] }

-- how many declarations the tree of a module has
abbrev pub count_decls : List DeclTree → ℕ
count_decls ds = length ds

-- Of a program whose modules have these names and trees.
abbrev pub InsertsChosen : List Words → List (List DeclTree) → Pg → Type 0
InsertsChosen names trees p = ModulesChosen (tables_of p) p at_start names (map count_decls trees) p.decls
