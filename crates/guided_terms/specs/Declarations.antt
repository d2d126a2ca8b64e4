-- Which declaration of a program a declaration of a source determines, where all before it is declared.
-- The Ur/Web Manual, "Declaration Typing".
use Rattle.std.specs.Prelude.{◌≡◌, ℕ, ◌+◌, Bool, true, false, List, [], ◌∷◌, ◌++◌, map, Option, Some, None}
use Rattle.con_terms.specs.Trees.{Kd, types, units, names, row_of, to, tuple_of, Kds, no_kinds, kind, Cn, basic}
use Rattle.con_terms.specs.Kinded.{Kinded}
use Rattle.con_terms.specs.declared.place.Place.{Place}
use Rattle.core_terms.specs.Trees.{Ex, Nms, De, val, vals, con_is, datatype, Cd, Dt, Pg}
use Rattle.core_typing.specs.Declarations.{named_values, value_types, scope_with, under_types}
use Rattle.plain_tree.specs.declared.names.Word.{Word}
use Rattle.plain_tree.specs.Trees.{ConTree, NamedListTree, no_named_list, more_named_list, BuilderTree, DatatypeTree, TypeDeclTree, DeclTree, decl_value, decl_con, decl_datatype, ExpTree}
use Rattle.plain_tree.specs.Trees as plain
use Rattle.source_names.specs.Scopes.{Words, Declared, Tables, Scope, at_top, under_variable, last_home, declare_value, declare_type, declare_builder}
use Rattle.source_names.specs.Standing.{is_text}
use Rattle.source_names.specs.Reading.{reads_con}
use Rattle.guided_terms.specs.Binders.{NamedGuided, GroupTypes, all_or_open, name_of}
use Rattle.guided_terms.specs.Calls.{GuardAsked}
use Rattle.guided_terms.specs.Guided.{guided, guided_group}
use Rattle.guided_terms.specs.Heres.{Here, IsCon}

-- what is declared so far: names, types of top-level values, and datatypes
pub record Reached : Type 0 where
  pub declared : Declared
  pub tops : List Cn
  pub datatypes : List Dt

-- the tables of a program
abbrev pub tables_of : Pg → Tables
tables_of p = record { texts = p.names; effects = p.foreigns; folders = map (λ (f : Kd × ℕ). f.1) p.folders }

-- the scope at the top
abbrev pub here_at : Pg → Reached → Here
here_at p r = record { names = at_top (tables_of p) r.declared; types = scope_with p r.tops r.datatypes }

-- with a value declared, and its type; with the names of a group, and theirs
abbrev pub with_value : Words → Cn → Reached → Reached
with_value x t r = record {
  declared = declare_value x r.declared;
  tops = r.tops ++ t ∷ [];
  datatypes = r.datatypes;
}

abbrev pub declare_group : NamedListTree → Declared → Declared
declare_group no_named_list d = d
declare_group (more_named_list n ns) d = declare_group ns (declare_value (name_of n) d)

abbrev pub with_group : NamedListTree → List Cn → Reached → Reached
with_group ns ts r = record {
  declared = declare_group ns r.declared;
  tops = r.tops ++ ts;
  datatypes = r.datatypes;
}

abbrev pub with_type : Words → Cn → Reached → Reached
with_type x c r = record { declared = declare_type x c r.declared; tops = r.tops; datatypes = r.datatypes }

-- with a datatype, and its constructors, the first of which has this place in it
abbrev pub declare_builders : ℕ → ℕ → List BuilderTree → Declared → Declared
declare_builders s i [] d = d
declare_builders s i (b ∷ bs) d = declare_builders s (i + 1) bs (declare_builder b.name.text s i d)

abbrev pub with_datatype : DatatypeTree → Dt → Reached → Reached
with_datatype x d r = record {
  declared = declare_builders d.symbol 0 x.builders (declare_type x.name.text (basic d.symbol) r.declared);
  tops = r.tops;
  datatypes = r.datatypes ++ d ∷ [];
}

-- Kinds that are left out.

mutual
  -- a kind is another one, in which Type stands for some of its parts
  pub data Refines : Kd → Kd → Type 0 where
    at_type : {k : Kd} → Refines types k
    at_unit : Refines units units
    at_name : Refines names names
    in_row : {k l : Kd}
        (values : Refines k l)
        → Refines (row_of k) (row_of l)
    in_arrow : {k l m n : Kd}
        (from : Refines k m)
        (into : Refines l n)
        → Refines (to k l) (to m n)
    in_tuple : {ks ls : Kds}
        (components : AllRefine ks ls)
        → Refines (tuple_of ks) (tuple_of ls)

  pub data AllRefine : Kds → Kds → Type 0 where
    no_component : AllRefine no_kinds no_kinds
    a_component : {k l : Kd} {ks ls : Kds}
        (first : Refines k l)
        (others : AllRefine ks ls)
        → AllRefine (kind k ks) (kind l ls)

-- the kind of a con declaration: the one that is written, or that of its body, where a kind left open is Type
pub data ConKind (h : Here) (c : ConTree) (t : Cn) : Option Kd → Bool → Kd → Type 0 where
  as_written : {k : Kd}
      (con : IsCon h c k t)
      → ConKind h c t (Some k) true k
  of_body : {k : Kd}
      (reads : reads_con h.names c t ≡ true)
      (kinded : Kinded h.types.kinds t k)
      (open_is_type : (d : Cn) (l : Kd) → reads_con h.names c d ≡ true → Kinded h.types.kinds d l → Refines k l)
      → ConKind h c t None false k
  -- an ill-kinded body is kept, for the checker to tell
  of_no_kind : {k : Kd}
      (reads : reads_con h.names c t ≡ true)
      (none : (d : Cn) (l : Kd) → reads_con h.names c d ≡ true → Kinded h.types.kinds d l → ⊥)
      → ConKind h c t None false k

-- Datatypes.

-- inside of a datatype's parameters, the last of which is the innermost
abbrev pub under_parameters : List Word → Scope → Scope
under_parameters [] s = s
under_parameters (x ∷ xs) s = under_parameters xs (under_variable x.text s)

-- where it is said what a datatype holds: its name means its type, and its parameters are bound
abbrev pub inside_datatype : Pg → Reached → DatatypeTree → Dt → Here
inside_datatype p r x d = record {
  names = under_parameters x.parameters (at_top (tables_of p) (declare_type x.name.text (basic d.symbol) r.declared));
  types = under_types d.parameters (scope_with p r.tops (r.datatypes ++ d ∷ []));
}

-- names that symbols stand for, in order
pub data AreNames (t : Tables) : List Word → List ℕ → Type 0 where
  no_names : AreNames t [] []
  a_name : {x : Word} {xs : List Word} {n : ℕ} {ns : List ℕ}
      (name : is_text t n x.text ≡ true)
      (others : AreNames t xs ns)
      → AreNames t (x ∷ xs) (n ∷ ns)

-- what a constructor holds
pub data Holds (h : Here) : Option ConTree → Option Cn → Type 0 where
  -- X
  holds_nothing : Holds h None None
  -- X of t
  holds_some : {c : ConTree} {t : Cn}
      (written : IsCon h c types t)
      → Holds h (Some c) (Some t)

pub data AreConstructors (h : Here) : List BuilderTree → List Cd → Type 0 where
  no_constructors : AreConstructors h [] []
  a_constructor : {b : BuilderTree} {bs : List BuilderTree} {c : Cd} {cs : List Cd}
      (name : is_text h.names.tables c.name b.name.text ≡ true)
      (holds : Holds h b.holds c.holds)
      (others : AreConstructors h bs cs)
      → AreConstructors h (b ∷ bs) (c ∷ cs)

-- datatype x a .. = X of t | ..
pub record DatatypeGuided (p : Pg) (r : Reached) (x : DatatypeTree) (d : Dt) : Type 0 where
  pub outside : d.path ≡ []
  pub home : d.home ≡ Some (last_home r.declared.modules)
  pub name : is_text (tables_of p) d.name x.name.text ≡ true
  pub parameters : AreNames (tables_of p) x.parameters d.parameters
  pub constructors : AreConstructors (inside_datatype p r x d) x.builders d.constructors

-- a declaration, and what is declared behind it; tables, sequences and cookies have no rule yet
pub data DeclGuided (A : GuardAsked) (p : Pg) (r : Reached) : DeclTree → De → Reached → Type 0 where
  -- val x = e, val x : c = e
  a_value : {at x : ℕ} {n : Word} {c : Option ConTree} {s : ExpTree} {w : Bool} {t : Cn} {e : Ex} {l : Place}
      (guided : NamedGuided (guided A s) (here_at p r) n c x w t e)
      → DeclGuided A p r (decl_value (plain.local_val at (plain.named n c s))) (val [] l x w t e)
      (with_value n.text t r)
  -- val rec x : c = e and .., fun x .. = e and ..: the terms see all names, with what is known of their types
  a_group : {at : ℕ} {ns : NamedListTree} {os : List (Option Cn)} {ms : Nms}
      (types : GroupTypes (here_at p r) ns os)
      (guided : guided_group A ns (here_at p (with_group ns (all_or_open os) r)) os ms)
      → DeclGuided A p r (decl_value (plain.local_rec at ns)) (vals [] ms)
      (with_group ns (value_types (named_values [] ms)) r)
  -- con x :: k = c, type x = c
  a_con : {x : TypeDeclTree} {n : ℕ} {w : Bool} {k : Kd} {c : Cn} {l : Place}
      (name : is_text (tables_of p) n x.name.text ≡ true)
      (kind : ConKind (here_at p r) x.con c x.kind w k)
      → DeclGuided A p r (decl_con x) (con_is [] l n w k c) (with_type x.name.text c r)
  -- datatype x a .. = X of t | ..
  a_datatype : {x : DatatypeTree} {d : Dt}
      (guided : DatatypeGuided p r x d)
      → DeclGuided A p r (decl_datatype x) (datatype d) (with_datatype x d r)
