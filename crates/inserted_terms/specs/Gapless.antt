-- Terms in which nothing that had to be inserted is lacking: none of them is a gap.
use Rattle.std.specs.Prelude.{◌≢◌, ℕ, ◌≤◌, length}
use Rattle.std.specs.List.{AllByRecursion}
use Rattle.core_terms.specs.Trees.{Ex, node, Fo, bound, top, foreign, basis, fold_over, number, text, built, fn, fn_con, fn_guard, call, let_in, case_of, ascribed, fields_of, select, concat, without, without_row, folder, element, literal, sql, Its, no_items, with_term, with_con, with_guard, Nms, no_named, named, Los, no_locals, local_val, local_rec, Brs, no_branches, branch, Fds, no_fields, field, El, tagged, Ats, no_attributes, attribute, Xs, no_nodes, a_node, Exs, no_exps, an_exp, De, val, vals, con_is, datatype, thing, Pg}
use Rattle.core_typing.specs.Accepts.{Accepts}
use Rattle.core_typing.specs.Declarations.{values}
use Rattle.inserted_terms.specs.Lacking.{no_instance_here, no_folder_here}

-- a value of this number is no gap
abbrev pub IsNoGap : ℕ → Type 0
IsNoGap i = (i ≢ no_instance_here) × (i ≢ no_folder_here)

abbrev mutual
  -- no value that is named in a term is a gap
  pub Gapless : Ex → Type 0
  Gapless (node p a f) = FormGapless f

  pub FormGapless : Fo → Type 0
  FormGapless (bound i) = Unit {0}
  FormGapless (top i) = IsNoGap i
  FormGapless (foreign i) = Unit {0}
  FormGapless (basis b) = Unit {0}
  FormGapless (fold_over k) = Unit {0}
  FormGapless (number z) = Unit {0}
  FormGapless (text w) = Unit {0}
  FormGapless (built s j) = Unit {0}
  FormGapless (fn q t e) = Gapless e
  FormGapless (fn_con x i w k e) = Gapless e
  FormGapless (fn_guard c d e) = Gapless e
  FormGapless (call f s is) = Gapless f × ItemsGapless is
  FormGapless (let_in ls e) = LocalsGapless ls × Gapless e
  FormGapless (case_of e p q b bs) = Gapless e × Gapless b × BranchesGapless bs
  FormGapless (ascribed e t) = Gapless e
  FormGapless (fields_of fs) = FieldsGapless fs
  FormGapless (select e c) = Gapless e
  FormGapless (concat e d) = Gapless e × Gapless d
  FormGapless (without e c) = Gapless e
  FormGapless (without_row e c) = Gapless e
  FormGapless (folder k ps) = Unit {0}
  FormGapless (element m) = ElementGapless m
  FormGapless (literal c u xs) = NodesGapless xs
  FormGapless (sql k es) = AllGapless es

  pub ItemsGapless : Its → Type 0
  ItemsGapless no_items = Unit {0}
  ItemsGapless (with_term e is) = Gapless e × ItemsGapless is
  ItemsGapless (with_con p o c is) = ItemsGapless is
  ItemsGapless (with_guard p a is) = ItemsGapless is

  pub NamesGapless : Nms → Type 0
  NamesGapless no_named = Unit {0}
  NamesGapless (named p x w t e ns) = Gapless e × NamesGapless ns

  pub LocalsGapless : Los → Type 0
  LocalsGapless no_locals = Unit {0}
  LocalsGapless (local_val p x w t e ls) = Gapless e × LocalsGapless ls
  LocalsGapless (local_rec ns ls) = NamesGapless ns × LocalsGapless ls

  pub BranchesGapless : Brs → Type 0
  BranchesGapless no_branches = Unit {0}
  BranchesGapless (branch p q e bs) = Gapless e × BranchesGapless bs

  pub FieldsGapless : Fds → Type 0
  FieldsGapless no_fields = Unit {0}
  FieldsGapless (field p c e fs) = Gapless e × FieldsGapless fs

  pub ElementGapless : El → Type 0
  ElementGapless (tagged g x c u as' xs) = AttributesGapless as' × NodesGapless xs

  pub AttributesGapless : Ats → Type 0
  AttributesGapless no_attributes = Unit {0}
  AttributesGapless (attribute p x e as') = Gapless e × AttributesGapless as'

  pub NodesGapless : Xs → Type 0
  NodesGapless no_nodes = Unit {0}
  NodesGapless (a_node c e xs) = Gapless e × NodesGapless xs

  pub AllGapless : Exs → Type 0
  AllGapless no_exps = Unit {0}
  AllGapless (an_exp e es) = Gapless e × AllGapless es

-- of a declaration
abbrev pub DeclGapless : De → Type 0
DeclGapless (val path q x w t e) = Gapless e
DeclGapless (vals path ns) = NamesGapless ns
DeclGapless (con_is path q x w k c) = Unit {0}
DeclGapless (datatype d) = Unit {0}
DeclGapless (thing path q x k t) = Unit {0}

-- An accepted program has no gap: of fewer values than the numbers of gaps, each value that it names is declared.
abbrev pub AcceptedProgramsHaveNoGaps : Type 0
AcceptedProgramsHaveNoGaps = (p : Pg) → Accepts p → length (values p.decls) ≤ no_folder_here
    → AllByRecursion DeclGapless p.decls
