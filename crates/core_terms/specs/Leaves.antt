-- What whoever builds a program sees to at its leaves: each name of a field, an input or a constructor has a text, and
-- so has each name that a binder or a declaration gives; each number fits in 64 bits, and each text is UTF-8.
-- The walks go through every constructor, pattern and term.
use Rattle.std.specs.Prelude.{ℕ, ◌<◌, List, Option, Some, None, IsUtf8, FitsSigned}
use Rattle.std.specs.Int.{w64}
use Rattle.std.specs.List.{AllByRecursion}
use Rattle.con_terms.specs.Trees.{Cn, var, basic, arrow, poly, guarded, record_of, app, lambda, unit_con, name, row, cat, map_of, tuple, proj, Cns, no_cons, con, Prs, no_pairs, pair}
use Rattle.con_terms.specs.declared.place.Place.{Place}
use Rattle.core_terms.specs.Trees.{Pt, pattern, Pf, any, binds, is_number, is_text, is_bare, is_holding, has_fields, annotated, Pfs, no_pat_fields, pat_field, Ex, node, Fo, bound, top, foreign, basis, fold_over, number, text, built, fn, fn_con, fn_guard, call, let_in, case_of, ascribed, fields_of, select, concat, without, without_row, folder, element, literal, sql, Its, no_items, with_term, with_con, with_guard, Nms, no_named, named, Los, no_locals, local_val, local_rec, Brs, no_branches, branch, Fds, no_fields, field, El, tagged, Ats, no_attributes, attribute, Xs, no_nodes, a_node, Exs, no_exps, an_exp, Th, a_table, a_sequence, a_cookie, a_given, Cd, Dt, De, val, vals, con_is, datatype, thing}

abbrev mutual
  -- each literal name in a constructor is one of so many symbols
  pub NamesThere : ℕ → Cn → Type 0
  NamesThere n (name s) = s < n
  NamesThere n (var i) = Unit {0}
  NamesThere n (basic s) = Unit {0}
  NamesThere n unit_con = Unit {0}
  NamesThere n (map_of k l) = Unit {0}
  NamesThere n (arrow a b) = NamesThere n a × NamesThere n b
  NamesThere n (poly i k b) = NamesThere n b
  NamesThere n (guarded a b c) = NamesThere n a × NamesThere n b × NamesThere n c
  NamesThere n (record_of a) = NamesThere n a
  NamesThere n (app a b) = NamesThere n a × NamesThere n b
  NamesThere n (lambda k b) = NamesThere n b
  NamesThere n (row k ps) = FieldNamesThere n ps
  NamesThere n (cat a b) = NamesThere n a × NamesThere n b
  NamesThere n (tuple cs) = AllNamesThere n cs
  NamesThere n (proj a i) = NamesThere n a

  pub AllNamesThere : ℕ → Cns → Type 0
  AllNamesThere n no_cons = Unit {0}
  AllNamesThere n (con c cs) = NamesThere n c × AllNamesThere n cs

  pub FieldNamesThere : ℕ → Prs → Type 0
  FieldNamesThere n no_pairs = Unit {0}
  FieldNamesThere n (pair c v ps) = NamesThere n c × NamesThere n v × FieldNamesThere n ps

abbrev pub NameThere : ℕ → Option Cn → Type 0
NameThere n None = Unit {0}
NameThere n (Some c) = NamesThere n c

abbrev pub FieldNameThere : ℕ → Option (Place × Cn) → Type 0
FieldNameThere n None = Unit {0}
FieldNameThere n (Some x) = NamesThere n x.1

abbrev mutual
  pub PatternFits : ℕ → Pt → Type 0
  PatternFits n (pattern p f) = PatternFormFits n f

  pub PatternFormFits : ℕ → Pf → Type 0
  PatternFormFits n any = Unit {0}
  PatternFormFits n (binds x t) = (x < n) × NamesThere n t
  PatternFormFits n (is_number z) = FitsSigned w64 z
  PatternFormFits n (is_text t) = IsUtf8 t
  PatternFormFits n (is_bare s j) = Unit {0}
  PatternFormFits n (is_holding s j q) = PatternFits n q
  PatternFormFits n (has_fields fs more) = PatternFieldsFit n fs
  PatternFormFits n (annotated q t) = PatternFits n q × NamesThere n t

  pub PatternFieldsFit : ℕ → Pfs → Type 0
  PatternFieldsFit n no_pat_fields = Unit {0}
  PatternFieldsFit n (pat_field p c q fs) = NamesThere n c × PatternFits n q × PatternFieldsFit n fs

abbrev mutual
  -- a term's names have texts, and its literals fit
  pub TermFits : ℕ → Ex → Type 0
  TermFits n (node p a f) = FormFits n f

  pub FormFits : ℕ → Fo → Type 0
  FormFits n (bound i) = Unit {0}
  FormFits n (top i) = Unit {0}
  FormFits n (foreign i) = Unit {0}
  FormFits n (basis b) = Unit {0}
  FormFits n (fold_over k) = Unit {0}
  FormFits n (number z) = FitsSigned w64 z
  FormFits n (text t) = IsUtf8 t
  FormFits n (built s j) = Unit {0}
  FormFits n (fn q t e) = PatternFits n q × NamesThere n t × TermFits n e
  FormFits n (fn_con x i w k e) = (x < n) × TermFits n e
  FormFits n (fn_guard c d e) = NamesThere n c × NamesThere n d × TermFits n e
  FormFits n (call f s is) = TermFits n f × ItemsFit n is
  FormFits n (let_in ls e) = LocalsFit n ls × TermFits n e
  FormFits n (case_of e p q b bs) = TermFits n e × PatternFits n q × TermFits n b × BranchesFit n bs
  FormFits n (ascribed e t) = TermFits n e × NamesThere n t
  FormFits n (fields_of fs) = FieldsFit n fs
  FormFits n (select e c) = TermFits n e × NamesThere n c
  FormFits n (concat e d) = TermFits n e × TermFits n d
  FormFits n (without e c) = TermFits n e × NamesThere n c
  FormFits n (without_row e c) = TermFits n e × NamesThere n c
  FormFits n (folder k ps) = FieldNamesThere n ps
  FormFits n (element m) = ElementFits n m
  FormFits n (literal c u xs) = NamesThere n c × NamesThere n u × NodesFit n xs
  FormFits n (sql k es) = TermsFit n es

  pub ItemsFit : ℕ → Its → Type 0
  ItemsFit n no_items = Unit {0}
  ItemsFit n (with_term e is) = TermFits n e × ItemsFit n is
  ItemsFit n (with_con p a c is) = NamesThere n c × ItemsFit n is
  ItemsFit n (with_guard p a is) = ItemsFit n is

  pub NamedFit : ℕ → Nms → Type 0
  NamedFit n no_named = Unit {0}
  NamedFit n (named p x w t e ns) = (x < n) × NamesThere n t × TermFits n e × NamedFit n ns

  pub LocalsFit : ℕ → Los → Type 0
  LocalsFit n no_locals = Unit {0}
  LocalsFit n (local_val p x w t e ls) = (x < n) × NamesThere n t × TermFits n e × LocalsFit n ls
  LocalsFit n (local_rec ns ls) = NamedFit n ns × LocalsFit n ls

  pub BranchesFit : ℕ → Brs → Type 0
  BranchesFit n no_branches = Unit {0}
  BranchesFit n (branch p q e bs) = PatternFits n q × TermFits n e × BranchesFit n bs

  pub FieldsFit : ℕ → Fds → Type 0
  FieldsFit n no_fields = Unit {0}
  FieldsFit n (field p c e fs) = NamesThere n c × TermFits n e × FieldsFit n fs

  pub ElementFits : ℕ → El → Type 0
  ElementFits n (tagged g x c u as' xs) = FieldNameThere n x × NamesThere n c × NamesThere n u × AttributesFit n as'
      × NodesFit n xs

  pub AttributesFit : ℕ → Ats → Type 0
  AttributesFit n no_attributes = Unit {0}
  AttributesFit n (attribute p x e as') = TermFits n e × AttributesFit n as'

  pub NodesFit : ℕ → Xs → Type 0
  NodesFit n no_nodes = Unit {0}
  NodesFit n (a_node c e xs) = NamesThere n c × TermFits n e × NodesFit n xs

  pub TermsFit : ℕ → Exs → Type 0
  TermsFit n no_exps = Unit {0}
  TermsFit n (an_exp e es) = TermFits n e × TermsFit n es

-- a datatype's constructor has a name with a text
abbrev pub ConstructorFits : ℕ → Cd → Type 0
ConstructorFits n c = (c.name < n) × NameThere n c.holds

-- each symbol of a list has a text
abbrev pub AllThere : ℕ → List ℕ → Type 0
AllThere n xs = AllByRecursion (λ x. x < n) xs

-- a datatype's names have texts
abbrev pub DatatypeFits : ℕ → Dt → Type 0
DatatypeFits n d = AllThere n d.path × (d.name < n) × (d.symbol < n) × AllThere n d.parameters × AllByRecursion
    (ConstructorFits n) d.constructors

abbrev pub SortFits : ℕ → Th → Type 0
SortFits n (a_table cs) = AllByRecursion (λ c. c.1 < n) cs
SortFits n a_sequence = Unit {0}
SortFits n a_cookie = Unit {0}
SortFits n a_given = Unit {0}

abbrev pub DeclFits : ℕ → De → Type 0
DeclFits n (val path p x w t e) = (x < n) × NamesThere n t × TermFits n e
DeclFits n (vals path ns) = NamedFit n ns
DeclFits n (con_is path p x w k c) = AllThere n path × (x < n) × NamesThere n c
DeclFits n (datatype d) = DatatypeFits n d
DeclFits n (thing path p x k t) = (x < n) × SortFits n k × NamesThere n t
