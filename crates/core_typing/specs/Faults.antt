-- The faults of a program: where each stands, and what it keeps.
use Rattle.std.specs.Prelude.{◌≡◌, ℕ, ◌<◌, ◌⊎◌, List}
use Rattle.con_terms.specs.Trees.{Kd, Cn}
use Rattle.con_terms.specs.declared.place.Place.{Place}
use Rattle.xml_trees.specs.declared.source_name.AttrName.{AttrName}
use Rattle.core_typing.specs.Cover.{Shp}

-- what isn't bound: a variable, a top-level value or a foreign effect by its number, a constructor variable, a
-- symbol, a constructor of a datatype, an attribute of a tag, a folder for a kind, or the name of an input's field
pub data Unbound : Type 0 where
  a_variable : ℕ → Unbound
  a_value : ℕ → Unbound
  an_effect : ℕ → Unbound
  a_con_variable : ℕ → Unbound
  a_symbol : ℕ → Unbound
  a_constructor : ℕ → ℕ → Unbound
  an_attribute : AttrName → Unbound
  a_folder : Kd → Unbound
  an_input_name : Unbound

-- a name that is declared twice
pub data Twice : Type 0 where
  twice_constructor : ℕ → Twice
  twice_attribute : AttrName → Twice
  twice_entry : List (List ℕ) → Twice

-- A fault that keeps constructors keeps what the constructor variables in scope are called, the innermost first, so
-- that what it tells in its own scope can be printed alone. A flaw of kinding under a binder inside a constructor
-- keeps pieces that are numbered from there, and the binders between have no names yet: their variables would be
-- printed by the names of others, and those further out by wrong ones or none.
pub data Fault : Type 0 where
  unbound : Place → Unbound → Fault
  -- two kinds, two normal forms that differ: what was wanted, and what was found
  kind_mismatch : Place → Kd → Kd → Fault
  mismatch : Place → List ℕ → Cn → Cn → Fault
  -- two pieces that aren't separated, closed by the binders of a constructor under which they touch
  not_disjoint : Place → List ℕ → Cn → Cn → Fault
  -- a shape that no pattern takes
  inexhaustive : Place → List ℕ → Shp → Fault
  redeclared : Place → Twice → Fault
  link_not_call : Place → Fault
  not_serialisable : Place → Fault
  too_large : Place → Fault
  -- a form of term or of declaration for which there are no rules yet
  not_built : Place → Fault

abbrev pub at : Fault → Place
at (unbound p u) = p
at (kind_mismatch p k l) = p
at (mismatch p xs c d) = p
at (not_disjoint p xs c d) = p
at (inexhaustive p xs s) = p
at (redeclared p t) = p
at (link_not_call p) = p
at (not_serialisable p) = p
at (too_large p) = p
at (not_built p) = p

-- by file, and then by byte
abbrev pub Earlier : Place → Place → Type 0
Earlier p q = (p.file < q.file) ⊎ ((p.file ≡ q.file) × (p.at < q.at))
