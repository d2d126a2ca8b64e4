-- What is in scope where a part of a source stands.
use Rattle.std.specs.Prelude.{ℕ, ◌-◌, ◌&&◌, nat_le, List, [], ◌∷◌, length, if◌then◌else◌}
use Rattle.con_terms.specs.Trees.{Cn}

-- a text, by its bytes
abbrev pub Words : Type 0
Words = List ℕ

-- a value that a module declares: the number of the module, and the name
pub record DeclaredValue : Type 0 where
  pub home : ℕ
  pub name : Words

-- a name of the type level that a module declares, and what it means
pub record DeclaredType : Type 0 where
  pub home : ℕ
  pub name : Words
  pub means : Cn

-- a constructor of a datatype that a module declares: the datatype's symbol, and the constructor's place in it
pub record DeclaredBuilder : Type 0 where
  pub home : ℕ
  pub name : Words
  pub datatype : ℕ
  pub index : ℕ

-- What is declared so far, the latest first. The number of a value, and of a module, is how many stand behind it.
-- Modules are named with a capital; the first one is the one that is read.
pub record Declared : Type 0 where
  pub modules : List Words
  pub values : List DeclaredValue
  pub types : List DeclaredType
  pub builders : List DeclaredBuilder

-- before the first module
abbrev pub nothing_declared : Declared
nothing_declared = record { modules = []; values = []; types = []; builders = [] }

-- a name whose first letter is a capital
abbrev pub capital : Words → Words
capital [] = []
capital (b ∷ bs) = (if nat_le 97 b && nat_le b 122 then b - 32 else b) ∷ bs

-- the number of the module that is read
abbrev pub last_home : List Words → ℕ
last_home [] = 0
last_home (n ∷ ns) = length ns

-- after the beginning of a module of a name
abbrev pub begin_module : Words → Declared → Declared
begin_module n d = record {
  modules = capital n ∷ d.modules;
  values = d.values;
  types = d.types;
  builders = d.builders;
}

-- after declarations in the module that is read: of a value
abbrev pub declare_value : Words → Declared → Declared
declare_value x d = record {
  modules = d.modules;
  values = record { home = last_home d.modules; name = x } ∷ d.values;
  types = d.types;
  builders = d.builders;
}

-- of a name of the type level
abbrev pub declare_type : Words → Cn → Declared → Declared
declare_type x c d = record {
  modules = d.modules;
  values = d.values;
  types = record { home = last_home d.modules; name = x; means = c } ∷ d.types;
  builders = d.builders;
}

-- and of a constructor of a datatype
abbrev pub declare_builder : Words → ℕ → ℕ → Declared → Declared
declare_builder x s i d = record {
  modules = d.modules;
  values = d.values;
  types = d.types;
  builders = record { home = last_home d.modules; name = x; datatype = s; index = i } ∷ d.builders;
}

-- what a program has that its declarations don't tell: the texts of its symbols, its foreign effects, and the symbols
-- of folder
pub record Tables : Type 0 where
  pub texts : List Words
  pub effects : List (Words × Words)
  pub folders : List ℕ

-- what is in scope at a place: what is declared, and the names of the variables and of the constructor variables that
-- binders around it bind, the innermost first
pub record Scope : Type 0 where
  pub tables : Tables
  pub declared : Declared
  pub values : List Words
  pub variables : List Words

-- outside of all binders
abbrev pub at_top : Tables → Declared → Scope
at_top t d = record { tables = t; declared = d; values = []; variables = [] }

-- inside of a binder of a variable
abbrev pub under_value : Words → Scope → Scope
under_value x s = record {
  tables = s.tables;
  declared = s.declared;
  values = x ∷ s.values;
  variables = s.variables;
}

-- inside of binders of variables, the last of which is the innermost
abbrev pub under_values : List Words → Scope → Scope
under_values [] s = s
under_values (x ∷ xs) s = under_values xs (under_value x s)

-- inside of a binder of a constructor variable
abbrev pub under_variable : Words → Scope → Scope
under_variable x s = record {
  tables = s.tables;
  declared = s.declared;
  values = s.values;
  variables = x ∷ s.variables;
}
