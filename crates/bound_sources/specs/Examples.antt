-- Two modules of the same declarations in either order: the one has an unbound name, the other is a program's source.
use Rattle.std.specs.Prelude.{◌≡◌, ℕ, ◌+◌, true, false, pos, List, [], ◌∷◌, None, codes}
use Rattle.con_terms.specs.Trees.{basic}
use Rattle.core_terms.specs.Names.{int_name}
use Rattle.core_terms.specs.Trees.{node, Fo, top, number, De, val, Pg}
use Rattle.plain_tree.specs.Trees.{exp, FormTree, exp_int, exp_name, named, local_val, DeclTree, decl_value}
use Rattle.plain_tree.specs.declared.names.Sigil.TheVariants.{Nothing}
use Rattle.source_names.specs.Scopes.{Words}
use Rattle.source_terms.specs.Programs.{is_source}
use Rattle.unbound_names.specs.Programs.{unbound}

-- val n = e, where the word `val` stands at a byte, the name 4 behind it, and the term 8 behind it
abbrev pub value_at : ℕ → Words → FormTree → DeclTree
value_at at n e = decl_value (local_val at (named (record { at = at + 4; text = n }) None (exp (at + 8) e)))

-- the name y as a term
abbrev pub name_y : FormTree
name_y = exp_name Nothing (record { modules = []; name = codes "y" })

-- val x = y
-- val y = 3
abbrev pub used_before : List DeclTree
used_before = value_at 0 (codes "x") name_y ∷ value_at 10 (codes "y") (exp_int 3) ∷ []

-- val y = 3
-- val x = y
abbrev pub used_behind : List DeclTree
used_behind = value_at 0 (codes "y") (exp_int 3) ∷ value_at 10 (codes "x") name_y ∷ []

-- the module's name
abbrev pub only_main : List Words
only_main = codes "Main" ∷ []

-- the declaration of a value of type int, of a program: its place, its name's symbol, and its term
abbrev pub number_val : ℕ → ℕ → Fo → De
number_val at n e = val [] (record { file = 0; at = at + 4 }) n false (basic int_name)
    (node (record { file = 0; at = at + 8 }) false e)

-- val y : int = 3
-- val x : int = y, which is the value with the number 0
abbrev pub program_behind : Pg
program_behind = record {
  names = codes "y" ∷ codes "x" ∷ [];
  modules = only_main;
  decls = number_val 0 0 (number (pos 3)) ∷ number_val 10 1 (top 0) ∷ [];
  rules = [];
  foreigns = [];
  folders = [];
  exports = 0 ∷ 1 ∷ [];
}

-- y isn't in scope at byte 8 of the first module, as what a declaration sees stands before it; the second module is
-- the source of a program. So there are modules of either kind.
abbrev pub ExamplesAreWorked : Type 0
ExamplesAreWorked = (unbound only_main (used_before ∷ []) [] 0 8 (codes "y") ≡ true)
    × (is_source only_main (used_behind ∷ []) None [] [] program_behind ≡ true)
