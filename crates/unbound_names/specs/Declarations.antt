-- Whether a name that is asked of stands in a declaration, and isn't in scope there; and what is declared behind it.
-- Only that a name is declared counts here: what it means isn't told, so each type stands for `()`, and each datatype
-- has the symbol 0.
use Rattle.std.specs.Prelude.{ℕ, ◌+◌, Bool, true, false, ◌&&◌, ◌||◌, List, [], ◌∷◌, Option, Some, None}
use Rattle.con_terms.specs.Trees.{unit_con}
use Rattle.plain_tree.specs.Trees.{ConTree, NamedListTree, no_named_list, more_named_list, BuilderTree, DatatypeTree, DeclTree, decl_value, decl_con, decl_datatype, decl_table, decl_sequence, decl_cookie, local_val, local_rec}
use Rattle.plain_tree.specs.declared.names.Word.{Word}
use Rattle.source_names.specs.Scopes.{Words, Declared, Tables, Scope, at_top, under_variable, declare_value, declare_type, declare_builder}
use Rattle.unbound_names.specs.Asked.{Ask}
use Rattle.unbound_names.specs.Types.{unbound_con, unbound_maybe}
use Rattle.unbound_names.specs.Terms.{name_of, unbound_named, unbound_group}

-- the names of a group are declared
abbrev pub declare_group : NamedListTree → Declared → Declared
declare_group no_named_list d = d
declare_group (more_named_list n ns) d = declare_group ns (declare_value (name_of n) d)

-- inside of a datatype's parameters, the last of which is the innermost
abbrev pub under_parameters : List Word → Scope → Scope
under_parameters [] s = s
under_parameters (x ∷ xs) s = under_parameters xs (under_variable x.text s)

-- a name of the type level is declared
abbrev pub declare_name : Words → Declared → Declared
declare_name x d = declare_type x unit_con d

-- the constructors of a datatype are declared
abbrev pub declare_builders : List BuilderTree → Declared → Declared
declare_builders [] d = d
declare_builders (b ∷ bs) d = declare_builders bs (declare_builder b.name.text 0 0 d)

-- where it is said what a datatype holds: its name is declared, and its parameters are bound
abbrev pub in_datatype : Tables → Declared → DatatypeTree → Scope
in_datatype t d x = under_parameters x.parameters (at_top t (declare_name x.name.text d))

-- `X of c | ..`
abbrev pub unbound_builders : Ask → Scope → List BuilderTree → Bool
unbound_builders q s [] = false
unbound_builders q s (b ∷ bs) = unbound_maybe q s b.holds || unbound_builders q s bs

-- a declaration, where all that is declared before it is in scope
abbrev pub unbound_decl : Ask → Tables → Declared → DeclTree → Bool
-- `val x : c = e`, whose term doesn't see the name
unbound_decl q t d (decl_value (local_val at n)) = unbound_named q (at_top t d) n
-- `val rec x : c = e and ..`, or `fun ..`, whose terms see all the names
unbound_decl q t d (decl_value (local_rec at ns)) = unbound_group q (at_top t (declare_group ns d)) ns
-- `con x :: k = c`, or `type x = c`
unbound_decl q t d (decl_con x) = unbound_con q (at_top t d) x.con
-- `datatype x a .. = X of c | ..`
unbound_decl q t d (decl_datatype x) = unbound_builders q (in_datatype t d x) x.builders
-- tables, sequences and cookies aren't built yet
unbound_decl _ _ _ _ = false

-- what is declared behind a declaration
abbrev pub declared_behind : DeclTree → Declared → Declared
declared_behind (decl_value (local_val at n)) d = declare_value (name_of n) d
declared_behind (decl_value (local_rec at ns)) d = declare_group ns d
declared_behind (decl_con x) d = declare_name x.name.text d
declared_behind (decl_datatype x) d = declare_builders x.builders (declare_name x.name.text d)
declared_behind _ d = d

-- declarations, each of which sees those before it
abbrev pub unbound_decls : Ask → Tables → Declared → List DeclTree → Bool
unbound_decls q t d [] = false
unbound_decls q t d (x ∷ xs) = unbound_decl q t d x || unbound_decls q t (declared_behind x d) xs

-- what is declared behind declarations
abbrev pub declared_behind_all : List DeclTree → Declared → Declared
declared_behind_all [] d = d
declared_behind_all (x ∷ xs) d = declared_behind_all xs (declared_behind x d)
