-- What is found for names and for patterns, as it is computed.
use Rattle.std.specs.Prelude.{List, [], ◌∷◌, ◌++◌, Option, Some, None}
use Rattle.con_terms.specs.Trees.{Cn}
use Rattle.core_typing.specs.Scopes.{Sc}
use Rattle.core_typing.specs.Faults.{Fault}
use Rattle.told_faults.specs.Computed.{Jd, typed, faulty}

-- a name, by its type where it is bound
abbrev pub of_name : Fault → Option Cn → Jd
of_name f None = faulty f
of_name f (Some t) = typed t

-- the types that a pattern binds, the innermost first, or the fault that is told of it
pub data Bd : Type 0 where
  bind_these : List Cn → Bd
  bad_pattern : Fault → Bd

-- what a pattern binds, before what is bound already
abbrev pub before : List Cn → Bd → Bd
before rest (bind_these ts) = bind_these (ts ++ rest)
before rest (bad_pattern f) = bad_pattern f

-- a scope with other variables
abbrev pub having : List Cn → Sc → Sc
having ts G = record {
  kinds = G.kinds;
  called = G.called;
  locals = ts;
  tops = G.tops;
  datatypes = G.datatypes;
  folders = G.folders;
  effects = G.effects;
}

-- what is judged under what a pattern binds; where the pattern is at fault, that fault
abbrev pub under_bound : Bd → (List Cn → Jd) → Jd
under_bound (bind_these l) go = go l
under_bound (bad_pattern f) go = faulty f
