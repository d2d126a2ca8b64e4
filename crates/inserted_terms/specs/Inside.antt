-- What is in scope in an explicit program where it matters which folders and instances are inserted: what variables and
-- top-level values are called, and their types. Neither kinds nor guards tell anything of that, nor do the names of
-- types and constructors: none of these is kept.
use Rattle.std.specs.Prelude.{ℕ, List, [], ◌∷◌, map, Option, Some, None, slice_get}
use Rattle.con_terms.specs.Substitution.{shift}
use Rattle.con_terms.specs.Trees.{Cn}
use Rattle.core_terms.specs.Trees.{Pt, pattern, Pf, any, binds, is_number, is_text, is_bare, is_holding, has_fields, annotated, Pfs, no_pat_fields, pat_field, Nms, no_named, named, Los, no_locals, local_val, local_rec, Pg}
use Rattle.core_typing.specs.Declarations.{datatypes}
use Rattle.core_typing.specs.Scopes.{Sc}
use Rattle.guided_terms.specs.Heres.{Here, with_values}
use Rattle.source_names.specs.Scopes.{Words, Tables, Declared, at_top}

-- the text of a symbol; one that has none counts as the empty text
abbrev pub or_empty : Option Words → Words
or_empty None = []
or_empty (Some w) = w

abbrev pub text_of : Tables → ℕ → Words
text_of t x = or_empty (slice_get t.texts x)

-- inside of a binder of a variable
abbrev pub inside_binder : ℕ → Cn → Here → Here
inside_binder x t h = with_values (text_of h.names.tables x ∷ []) (t ∷ []) h

abbrev mutual
  -- inside of a pattern, whose last variable is the innermost
  pub inside : Pt → Here → Here
  inside (pattern p f) h = inside_form f h

  pub inside_form : Pf → Here → Here
  inside_form any h = h
  inside_form (binds x t) h = inside_binder x t h
  inside_form (is_number z) h = h
  inside_form (is_text t) h = h
  inside_form (is_bare s j) h = h
  inside_form (is_holding s j q) h = inside q h
  inside_form (has_fields fs more) h = inside_fields fs h
  inside_form (annotated q t) h = inside q h

  pub inside_fields : Pfs → Here → Here
  inside_fields no_pat_fields h = h
  inside_fields (pat_field p n q fs) h = inside_fields fs (inside q h)

-- inside of names that are declared together, the last of which is the innermost
abbrev pub inside_names : Nms → Here → Here
inside_names no_named h = h
inside_names (named p x w t e ns) h = inside_names ns (inside_binder x t h)

-- behind the declarations of a let
abbrev pub inside_locals : Los → Here → Here
inside_locals no_locals h = h
inside_locals (local_val p x w t e ls) h = inside_locals ls (inside_binder x t h)
inside_locals (local_rec ns ls) h = inside_locals ls (inside_names ns h)

-- inside of a binder of a constructor variable: types of variables are seen from under it
abbrev pub under_one : Sc → Sc
under_one G = record {
  kinds = G.kinds;
  called = G.called;
  locals = map (λ t. shift 1 t 0) G.locals;
  tops = G.tops;
  datatypes = G.datatypes;
  folders = G.folders;
  effects = G.effects;
}

abbrev pub inside_variable : Here → Here
inside_variable h = record { names = h.names; types = under_one h.types }

-- What is declared so far: the modules and the values in them, and the types of these.
pub record Reached : Type 0 where
  pub declared : Declared
  pub tops : List Cn

-- at the top of a program, where this is declared
abbrev pub typed : Pg → List Cn → Sc
typed p ts = record {
  kinds = record { binders = []; guards = []; basics = [] };
  called = [];
  locals = [];
  tops = ts;
  datatypes = datatypes p.decls;
  folders = p.folders;
  effects = 0;
}

abbrev pub at_top_of : Tables → Pg → Reached → Here
at_top_of t p r = record { names = at_top t r.declared; types = typed p r.tops }
