-- What is in scope where a part of a source stands: what its names stand for, and the types of these.
use Rattle.std.specs.Prelude.{◌≡◌, ℕ, true, List}
use Rattle.con_terms.specs.Trees.{Kd, row_of, Cn}
use Rattle.con_terms.specs.Kinded.{Kinded}
use Rattle.core_typing.specs.Scopes.{Sc, under, under_con, under_guard}
use Rattle.plain_tree.specs.Trees.{ConTree}
use Rattle.source_names.specs.Scopes.{Words, Scope, under_values, under_variable}
use Rattle.source_names.specs.Reading.{reads_con}

-- names, and types. The binders of variables are the same in both, and so are those of constructor variables and the
-- numbers of top-level values. The type of a value of a group that isn't written and isn't found yet is ()
pub record Here : Type 0 where
  pub names : Scope
  pub types : Sc

-- inside of binders of variables: their names, the last of which is the innermost, and their types, the innermost first
abbrev pub with_values : List Words → List Cn → Here → Here
with_values xs ts h = record { names = under_values xs h.names; types = under ts h.types }

-- inside of a binder of a constructor variable, of this text and symbol
abbrev pub with_variable : Words → ℕ → Kd → Here → Here
with_variable x s k h = record { names = under_variable x h.names; types = under_con s k h.types }

-- where a guard is assumed
abbrev pub with_guard : Cn → Cn → Here → Here
with_guard c d h = record { names = h.names; types = under_guard c d h.types }

-- A constructor is what the source of one says, and has a kind. Kinds that the source leaves out are those that give it
-- the kind, where some do: an ill-kinded constructor is kept, for the checker to tell.
pub record IsCon (h : Here) (c : ConTree) (k : Kd) (t : Cn) : Type 0 where
  pub reads : reads_con h.names c t ≡ true
  pub kinds : (d : Cn) → reads_con h.names c d ≡ true → Kinded h.types.kinds d k → Kinded h.types.kinds t k

-- a row, whatever its values' kind
pub record IsRow (h : Here) (c : ConTree) (t : Cn) : Type 0 where
  pub values : Kd
  pub row : IsCon h c (row_of values) t
