-- What a name of a source stands for. Of several binders of a name the innermost counts, and of several declarations of
-- a name in one module the latest. A binder hides what the module declares, and that hides what every program has.
-- `M.x` is a name of the earlier module `M`, or a foreign effect.
use Rattle.std.specs.Prelude.{ℕ, suc, ◌==◌, Bool, true, false, ◌&&◌, ◌||◌, List, [], ◌∷◌, length, Option, Some, None, option_map, slice_get, codes, if◌then◌else◌}
use Rattle.std.specs.Str.{bytes_eq}
use Rattle.con_terms.specs.Trees.{Cn, var, basic, map_of}
use Rattle.core_terms.specs.declared.basis.TypeName.{TypeName}
use Rattle.core_terms.specs.declared.basis.TypeName.TheVariants as type_name
use Rattle.core_terms.specs.BasisTexts.{value_text, type_text, named_type}
use Rattle.core_terms.specs.Datatypes.{basis_datatypes}
use Rattle.core_terms.specs.Names.{basis_texts, bool_name, list_name}
use Rattle.core_terms.specs.Trees.{Dt, Cd, Fo, bound, top, foreign, basis, fold_over}
use Rattle.plain_tree.specs.declared.names.BasisBuilder.{BasisBuilder}
use Rattle.plain_tree.specs.declared.names.BasisBuilder.TheVariants as sugar
use Rattle.plain_tree.specs.declared.names.Path.{Path}
use Rattle.row_normal.specs.SameTree.{cn_eq}
use Rattle.source_names.specs.Scopes.{Words, DeclaredValue, DeclaredType, DeclaredBuilder, Tables, Scope}

-- `a`, or else `b`
abbrev pub or_else : {A : Type 0} → Option A → Option A → Option A
or_else None b = b
or_else (Some a) b = Some a

-- how many binders further in than the innermost of a name others stand
abbrev pub binder_of : Words → List Words → Option ℕ
binder_of x [] = None
binder_of x (y ∷ ys) = if bytes_eq y x then Some 0 else option_map suc (binder_of x ys)

-- the number of the earlier module of a name: the first that has it
abbrev pub module_named : Words → List Words → Option ℕ
module_named m [] = None
module_named m (n ∷ ns) = or_else (module_named m ns) (if bytes_eq n m then Some (length ns) else None)

-- the number of the module that a path leads to: the one that is read, or an earlier one
abbrev pub home_of : List Words → List Words → Option ℕ
home_of [] (n ∷ ns) = Some (length ns)
home_of (m ∷ []) (n ∷ ns) = module_named m ns
home_of _ _ = None

-- the number of the latest value of a name in a module
abbrev pub value_in : Words → List DeclaredValue → ℕ → Option ℕ
value_in x [] h = None
value_in x (v ∷ vs) h = if v.home == h && bytes_eq v.name x then Some (length vs) else value_in x vs h

-- what the latest name of the type level means
abbrev pub type_in : Words → List DeclaredType → ℕ → Option Cn
type_in x [] h = None
type_in x (t ∷ ts) h = if t.home == h && bytes_eq t.name x then Some t.means else type_in x ts h

-- the datatype's symbol of the latest constructor, and its place
abbrev pub builder_in : Words → List DeclaredBuilder → ℕ → Option (ℕ × ℕ)
builder_in x [] h = None
builder_in x (b ∷ bs) h = if b.home == h && bytes_eq b.name x then Some (b.datatype, b.index) else builder_in x bs h

-- what is found in the module that a path leads to
abbrev pub in_home : {A : Type 0} → Option ℕ → (ℕ → Option A) → Option A
in_home None f = None
in_home (Some h) f = f h

-- the number of the first foreign effect of a module's name and a name
abbrev pub effect_in : Words → Words → List (Words × Words) → Option ℕ
effect_in m x [] = None
effect_in m x (e ∷ es) = if bytes_eq e.0 m && bytes_eq e.1 x then Some 0 else option_map suc (effect_in m x es)

-- the number of a binder, whose name has no module before it
abbrev pub binder_at : List Words → Words → List Words → Option ℕ
binder_at [] x xs = binder_of x xs
binder_at _ x xs = None

-- Values.

-- what a name of a value stands for
pub data Meant : Type 0 where
  -- the variable of the binder that is so many binders further out
  a_binder : ℕ → Meant
  -- the top-level value, the foreign effect with this number
  a_top : ℕ → Meant
  an_effect : ℕ → Meant
  -- a value of this name that every program has
  of_basis : Words → Meant
  nothing : Meant

abbrev pub effect_or_none : Option ℕ → Meant
effect_or_none None = nothing
effect_or_none (Some i) = an_effect i

-- what a name stands for that nothing declares
abbrev pub undeclared : Tables → List Words → Words → Meant
undeclared t [] x = of_basis x
undeclared t (m ∷ []) x = effect_or_none (effect_in m x t.effects)
undeclared t _ x = nothing

-- a binder, or else a declared value, or else what nothing declares
abbrev pub first_of : Option ℕ → Option ℕ → Meant → Meant
first_of (Some i) _ m = a_binder i
first_of None (Some i) m = a_top i
first_of None None m = m

abbrev pub value_means : Scope → Path → Meant
value_means s p = first_of (binder_at p.modules p.name s.values)
    (in_home (home_of p.modules s.declared.modules) (value_in p.name s.declared.values))
    (undeclared s.tables p.modules p.name)

-- whether a form is what is meant
abbrev pub is_meant : Meant → Fo → Bool
is_meant (a_binder i) (bound j) = i == j
is_meant (a_top i) (top j) = i == j
is_meant (an_effect i) (foreign j) = i == j
is_meant (of_basis x) (basis b) = bytes_eq (value_text b) x
is_meant (of_basis x) (fold_over k) = bytes_eq (codes "fold") x
is_meant _ _ = false

-- whether a name of a value stands for what a form is
abbrev pub names_value : Scope → Path → Fo → Bool
names_value s p f = is_meant (value_means s p) f

-- Constructors of datatypes, by their datatype's symbol and their place.

-- whether a text is the one of a symbol
abbrev pub is_some_text : Option Words → Words → Bool
is_some_text None x = false
is_some_text (Some y) x = bytes_eq y x

-- a constructor of a name among those of a datatype, from this place on
abbrev pub builder_among : Words → ℕ → ℕ → List Cd → Option (ℕ × ℕ)
builder_among x s i [] = None
builder_among x s i (c ∷ cs) =
    if is_some_text (slice_get basis_texts c.name) x then Some (s, i) else builder_among x s (suc i) cs

-- a constructor of a name among those that every program has
abbrev pub basis_builder_in : Words → List Dt → Option (ℕ × ℕ)
basis_builder_in x [] = None
basis_builder_in x (d ∷ ds) = or_else (builder_among x d.symbol 0 d.constructors) (basis_builder_in x ds)

-- a constructor that nothing declares, whose name has no module before it
abbrev pub undeclared_builder : List Words → Words → Option (ℕ × ℕ)
undeclared_builder [] x = basis_builder_in x basis_datatypes
undeclared_builder _ x = None

abbrev pub builder_means : Scope → Path → Option (ℕ × ℕ)
builder_means s p = or_else
    (in_home (home_of p.modules s.declared.modules) (builder_in p.name s.declared.builders))
    (undeclared_builder p.modules p.name)

abbrev pub is_meant_builder : Option (ℕ × ℕ) → ℕ → ℕ → Bool
is_meant_builder None d i = false
is_meant_builder (Some b) d i = b.0 == d && b.1 == i

-- whether a name of a constructor stands for the one at a place of the datatype with a symbol
abbrev pub names_builder : Scope → Path → ℕ → ℕ → Bool
names_builder s p d i = is_meant_builder (builder_means s p) d i

-- the same for those that sugar stands for, which no declaration hides
abbrev pub names_basis_builder : Scope → BasisBuilder → ℕ → ℕ → Bool
names_basis_builder s sugar.False d i = d == bool_name && i == 0
names_basis_builder s sugar.True d i = d == bool_name && i == 1
names_basis_builder s sugar.Nil d i = d == list_name && i == 0
names_basis_builder s sugar.Cons d i = d == list_name && i == 1

-- The type level.

-- what a name of the type level stands for
pub data MeantType : Type 0 where
  a_con : Cn → MeantType
  -- folder over rows of any kind, and map from any kind to any other
  a_folder : MeantType
  a_map : MeantType
  no_type : MeantType

-- the types that every program has
abbrev pub type_names : List TypeName
type_names = type_name.Int ∷ type_name.String ∷ type_name.Url ∷ type_name.Unit ∷ type_name.Bool
    ∷ type_name.Option ∷ type_name.List ∷ type_name.Transaction ∷ type_name.Xml ∷ type_name.Page ∷ type_name.Xbody
    ∷ type_name.Xtable ∷ type_name.Xtr ∷ type_name.Show ∷ type_name.Eq ∷ type_name.Ord ∷ type_name.Num
    ∷ type_name.SqlTable ∷ type_name.SqlQuery ∷ type_name.SqlExp ∷ type_name.Dml ∷ type_name.SqlSequence
    ∷ type_name.HttpCookie ∷ type_name.SqlInjectable ∷ []

-- the one of a name among them
abbrev pub type_called : Words → List TypeName → Option TypeName
type_called x [] = None
type_called x (n ∷ ns) = if bytes_eq (type_text n) x then Some n else type_called x ns

abbrev pub basis_type_or : Option TypeName → MeantType → MeantType
basis_type_or None m = m
basis_type_or (Some n) m = a_con (named_type n)

-- what has many kinds
abbrev pub folder_or_map : Words → MeantType
folder_or_map x =
    if bytes_eq (codes "folder") x then a_folder else if bytes_eq (codes "map") x then a_map else no_type

-- what a name stands for that nothing declares
abbrev pub undeclared_type : List Words → Words → MeantType
undeclared_type [] x = basis_type_or (type_called x type_names) (folder_or_map x)
undeclared_type _ x = no_type

-- a constructor variable, or else what is declared, or else what nothing declares
abbrev pub first_type_of : Option ℕ → Option Cn → MeantType → MeantType
first_type_of (Some i) _ m = a_con (var i)
first_type_of None (Some c) m = a_con c
first_type_of None None m = m

abbrev pub type_means : Scope → Path → MeantType
type_means s p = first_type_of (binder_at p.modules p.name s.variables)
    (in_home (home_of p.modules s.declared.modules) (type_in p.name s.declared.types))
    (undeclared_type p.modules p.name)

-- whether a symbol is one of these
abbrev pub is_one_of : List ℕ → ℕ → Bool
is_one_of [] s = false
is_one_of (t ∷ ts) s = t == s || is_one_of ts s

-- whether a constructor is what is meant
abbrev pub is_meant_type : Tables → MeantType → Cn → Bool
is_meant_type t (a_con d) c = cn_eq d c
is_meant_type t a_folder (basic s) = is_one_of t.folders s
is_meant_type t a_map (map_of k l) = true
is_meant_type _ _ _ = false

-- whether a name of the type level stands for a constructor
abbrev pub names_type : Scope → Path → Cn → Bool
names_type s p c = is_meant_type s.tables (type_means s p) c

-- Symbols.

-- whether a symbol has a text
abbrev pub is_text : Tables → ℕ → Words → Bool
is_text t n x = is_some_text (slice_get t.texts n) x
