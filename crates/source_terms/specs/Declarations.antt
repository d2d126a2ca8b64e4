-- Whether a declaration of a program is one of a source, where all that is declared before it is in scope; and what
-- is declared behind it. A program's declaration is taken as `strip_decl` leaves it.
use Rattle.std.specs.Prelude.{ℕ, ◌+◌, ◌==◌, Bool, true, false, ◌&&◌, List, [], ◌∷◌, Option, Some, None}
use Rattle.con_terms.specs.Trees.{Kd, Cn, basic}
use Rattle.con_terms.specs.Same.{kd_eq}
use Rattle.core_terms.specs.Trees.{Cd, Dt, De, val, vals, con_is, datatype}
use Rattle.plain_tree.specs.Trees as plain
use Rattle.plain_tree.specs.Trees.{ConTree, NamedListTree, no_named_list, more_named_list, BuilderTree}
use Rattle.plain_tree.specs.Trees.{DatatypeTree, DeclTree, decl_value, decl_con, decl_datatype}
use Rattle.plain_tree.specs.declared.names.Word.{Word}
use Rattle.source_names.specs.Reading.{reads_con}
use Rattle.source_names.specs.Scopes.{Declared, Tables, Scope, at_top, under_variable, last_home, declare_value}
use Rattle.source_names.specs.Scopes.{declare_type, declare_builder}
use Rattle.source_names.specs.Standing.{is_text}
use Rattle.source_terms.specs.Alike.{each}
use Rattle.source_terms.specs.Leaves.{form_of}
use Rattle.source_terms.specs.Terms.{name_of, reads_named, reads_group}

-- whether a declaration stands outside of structures, as all of a source do so far
abbrev pub is_outside : List ℕ → Bool
is_outside [] = true
is_outside _ = false

-- a kind, which a program has as written where the source writes one
abbrev pub reads_kind : Option Kd → Bool → Kd → Bool
reads_kind None false k = true
reads_kind (Some k) true l = kd_eq k l
reads_kind _ _ _ = false

-- what a constructor of a datatype holds
abbrev pub reads_held : Scope → Option ConTree → Option Cn → Bool
reads_held s None None = true
reads_held s (Some c) (Some t) = reads_con s c t
reads_held _ _ _ = false

-- `X of t`
abbrev pub reads_builder : Scope → BuilderTree → Cd → Bool
reads_builder s b c = is_text s.tables c.name b.name.text && reads_held s b.holds c.holds

-- a name that a symbol stands for
abbrev pub is_name : Tables → Word → ℕ → Bool
is_name t x n = is_text t n x.text

-- inside of a datatype's parameters, the last of which is the innermost
abbrev pub under_parameters : List Word → Scope → Scope
under_parameters [] s = s
under_parameters (x ∷ xs) s = under_parameters xs (under_variable x.text s)

-- whether a datatype stands in the module of this number
abbrev pub is_home : ℕ → Option ℕ → Bool
is_home m (Some n) = m == n
is_home m None = false

-- what a datatype is called and takes, and where it stands: `datatype x a ..`
abbrev pub reads_head : Tables → Declared → DatatypeTree → Dt → Bool
reads_head t d x e =
    is_outside e.path
    && is_home (last_home d.modules) e.home
    && is_text t e.name x.name.text
    && each (is_name t) x.parameters e.parameters

-- where it is said what a datatype holds: its name means its type, and its parameters are bound
abbrev pub in_datatype : Tables → Declared → DatatypeTree → ℕ → Scope
in_datatype t d x symbol = under_parameters x.parameters (at_top t (declare_type x.name.text (basic symbol) d))

-- `datatype x a .. = X of t | ..`
abbrev pub reads_datatype : Tables → Declared → DatatypeTree → Dt → Bool
reads_datatype t d x e =
    reads_head t d x e && each (reads_builder (in_datatype t d x e.symbol)) x.builders e.constructors

-- the names of a group are declared
abbrev pub declare_group : NamedListTree → Declared → Declared
declare_group no_named_list d = d
declare_group (more_named_list n ns) d = declare_group ns (declare_value (name_of n) d)

abbrev pub reads_decl : Tables → Declared → DeclTree → De → Bool
-- `val x : t = e`, whose term doesn't see the name
reads_decl t d (decl_value (plain.local_val a n)) (val path p x w c e) =
    is_outside path && reads_named (at_top t d) n x w c (form_of e)
-- `val rec x : t = e and ..`, or `fun ..`, whose terms see all the names
reads_decl t d (decl_value (plain.local_rec a ns)) (vals path ms) =
    is_outside path && reads_group (at_top t (declare_group ns d)) ns ms
-- `con x :: k = c`, or `type x = c`
reads_decl t d (decl_con x) (con_is path p n w k c) =
    is_outside path && is_text t n x.name.text && reads_kind x.kind w k && reads_con (at_top t d) x.con c
reads_decl t d (decl_datatype x) (datatype e) = reads_datatype t d x e
-- tables, sequences and cookies aren't built yet
reads_decl _ _ _ _ = false

-- the constructors of a datatype are declared, the first of which has this place in it
abbrev pub declare_builders : ℕ → ℕ → List BuilderTree → Declared → Declared
declare_builders s i [] d = d
declare_builders s i (b ∷ bs) d = declare_builders s (i + 1) bs (declare_builder b.name.text s i d)

-- a datatype is declared, with its constructors
abbrev pub declare_datatype : DatatypeTree → Dt → Declared → Declared
declare_datatype x e d =
    declare_builders e.symbol 0 x.builders (declare_type x.name.text (basic e.symbol) d)

-- what is declared behind a declaration that is read so
abbrev pub declared_after : Declared → DeclTree → De → Declared
declared_after d (decl_value (plain.local_val a n)) _ = declare_value (name_of n) d
declared_after d (decl_value (plain.local_rec a ns)) _ = declare_group ns d
declared_after d (decl_con x) (con_is path p n w k c) = declare_type x.name.text c d
declared_after d (decl_datatype x) (datatype e) = declare_datatype x e d
declared_after d _ _ = d
