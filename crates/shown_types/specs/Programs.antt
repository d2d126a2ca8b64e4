-- What is known of a program, and of symbols and modules alone.
use Rattle.std.specs.Prelude.{ℕ, List, [], ◌∷◌, ◌++◌, map}
use Rattle.con_terms.specs.Trees.{Kd}
use Rattle.core_terms.specs.Trees.{Cd, Dt, De, val, vals, con_is, datatype, thing, Pg}
use Rattle.shown_types.specs.Names.{Declared, Known, text_of}

abbrev pub builder_name : Cd → ℕ
builder_name c = c.name

abbrev pub declared_by : Dt → Declared
declared_by d = record { symbol = d.symbol; home = d.home; name = d.name; builders = map builder_name d.constructors }

-- the datatypes that a declaration makes
abbrev pub declared_in : De → List Declared
declared_in (val path p x w t e) = []
declared_in (vals path ns) = []
declared_in (con_is path p x w k c) = []
declared_in (datatype d) = declared_by d ∷ []
declared_in (thing path p x k t) = []

abbrev pub all_declared : List De → List Declared
all_declared [] = []
all_declared (d ∷ ds) = declared_in d ++ all_declared ds

abbrev pub folder_symbol : Kd × ℕ → ℕ
folder_symbol f = f.1

-- what is known of a program, for the text of the module with a number
abbrev pub known_of : Pg → ℕ → Known
known_of p file = record {
  texts = p.names;
  modules = p.modules;
  types = all_declared p.decls;
  folders = map folder_symbol p.folders;
  file = file;
}

-- what is known where there are the texts of symbols and the modules' names alone
abbrev pub known_by : List (List ℕ) → List (List ℕ) → ℕ → Known
known_by texts modules file = record { texts = texts; modules = modules; types = []; folders = []; file = file }

-- what constructor variables are called, by their names' symbols
abbrev pub texts_of : Known → List ℕ → List (List ℕ)
texts_of g called = map (text_of g) called
