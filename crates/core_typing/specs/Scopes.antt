-- What is in scope where a term stands.
use Rattle.std.specs.Prelude.{ℕ, List, [], ◌∷◌, ◌++◌, map, Option, Some, None, if◌then◌else◌}
use Rattle.con_terms.specs.Trees.{Kd, types, row_of, to, Cn}
use Rattle.con_terms.specs.Same.{kd_eq}
use Rattle.con_terms.specs.Substitution.{shift}
use Rattle.con_terms.specs.Kinded.{Scope, bind, assume}
use Rattle.row_normal.specs.NormalForm.{nf}
use Rattle.kind_rules.specs.Compared.{comparison_units}
use Rattle.core_terms.specs.Names.{int_name, string_name, url_name, transaction_name, xml_name, show_name, eq_name, ord_name, num_name, sql_table_name, sql_query_name, sql_exp_name, dml_name, sql_sequence_name, http_cookie_name, sql_injectable_name}
use Rattle.core_terms.specs.Types.{type_taking}
use Rattle.core_terms.specs.Trees.{Dt, arity}
use Rattle.con_terms.specs.Trees.{units}

-- kinds of constructor variables and assumed guards; what these variables are called, the innermost first; types of
-- variables, the innermost first; types of the top-level values, by their numbers; datatypes; the symbol of folder at
-- each kind; how many foreign effects there are. No rule asks what a variable is called: faults keep it, so that the
-- constructors in them can be printed
pub record Sc : Type 0 where
  pub kinds : Scope
  pub called : List ℕ
  pub locals : List Cn
  pub tops : List Cn
  pub datatypes : List Dt
  pub folders : List (Kd × ℕ)
  pub effects : ℕ

-- under variables of these types, the innermost first
abbrev pub under : List Cn → Sc → Sc
under ts G = record {
  kinds = G.kinds;
  called = G.called;
  locals = ts ++ G.locals;
  tops = G.tops;
  datatypes =
      G.datatypes;
  folders = G.folders;
  effects = G.effects;
}

-- under one more constructor variable: types of variables are seen from under it; those of top-level values have no
-- free variables
abbrev pub under_con : ℕ → Kd → Sc → Sc
under_con x k G = record {
  kinds = bind k G.kinds;
  called = x ∷ G.called;
  locals = map (λ t. shift 1 t 0) G.locals;
  tops = G.tops;
  datatypes = G.datatypes;
  folders = G.folders;
  effects = G.effects;
}

-- with one more guard
abbrev pub under_guard : Cn → Cn → Sc → Sc
under_guard c d G = record {
  kinds = assume c d G.kinds;
  called = G.called;
  locals = G.locals;
  tops = G.tops;
  datatypes = G.datatypes;
  folders = G.folders;
  effects = G.effects;
}

-- the kinds of the types of the basis
abbrev pub basis_kinds : List (ℕ × Kd)
basis_kinds =
    (int_name, types) ∷ (string_name, types) ∷ (url_name, types) ∷ (transaction_name, to types types)
    ∷ (xml_name, to (row_of units) (to (row_of types) (to (row_of types) types)))
    ∷ (show_name, to types types) ∷ (eq_name, to types types) ∷ (ord_name, to types types) ∷ (
      num_name,
      to types
          types,
    )
    ∷ (sql_table_name, to (row_of types) types)
    ∷ (sql_query_name, to (row_of (row_of types)) (to (row_of types) types))
    ∷ (sql_exp_name, to (row_of (row_of types)) (to types types))
    ∷ (dml_name, types) ∷ (sql_sequence_name, types) ∷ (http_cookie_name, to types types)
    ∷ (sql_injectable_name, to types types) ∷ []

-- the kinds of datatypes and folders
abbrev pub datatype_kinds : List Dt → List (ℕ × Kd)
datatype_kinds [] = []
datatype_kinds (d ∷ ds) = (d.symbol, type_taking (arity d)) ∷ datatype_kinds ds

abbrev pub folder_kinds : List (Kd × ℕ) → List (ℕ × Kd)
folder_kinds [] = []
folder_kinds (f ∷ fs) = (f.1, to (row_of f.0) types) ∷ folder_kinds fs

-- the symbol of folder at a kind, the first that stands there
abbrev pub folder_of : List (Kd × ℕ) → Kd → Option ℕ
folder_of [] k = None
folder_of (f ∷ fs) k = if kd_eq f.0 k then Some f.1 else folder_of fs k

-- a scope at the top
abbrev pub top_scope : List Cn → List Dt → List (Kd × ℕ) → ℕ → Sc
top_scope tops ds fs effects = record {
  kinds = record { binders = []; guards = []; basics = basis_kinds ++ datatype_kinds ds ++ folder_kinds fs };
  called = [];
  locals = [];
  tops = tops;
  datatypes = ds;
  folders = fs;
  effects = effects;
}

-- a constructor's normal form within the units of one comparison, where it isn't too large
abbrev pub normal_of : Cn → Option Cn
normal_of c = elim (nf comparison_units c) [ None ↦ None | Some r ↦ Some r.0 ]
