-- How deep terms and patterns nest, and the one bound on it.
-- What stands beside one another nests nothing: the items of a call, declarations, branches, fields, attributes, nodes.
use Rattle.std.specs.Prelude.{ℕ, suc, max, ◌≤◌}
use Rattle.core_terms.specs.Trees.{Pt, pattern, Pf, any, binds, is_number, is_text, is_bare, is_holding, has_fields, annotated, Pfs, no_pat_fields, pat_field, Ex, node, Fo, bound, top, foreign, basis, fold_over, number, text, built, fn, fn_con, fn_guard, call, let_in, case_of, ascribed, fields_of, select, concat, without, without_row, folder, element, literal, sql, Its, no_items, with_term, with_con, with_guard, Nms, no_named, named, Los, no_locals, local_val, local_rec, Brs, no_branches, branch, Fds, no_fields, field, El, tagged, Ats, no_attributes, attribute, Xs, no_nodes, a_node, Exs, no_exps, an_exp}

abbrev mutual
  pub pattern_nesting : Pt → ℕ
  pattern_nesting (pattern p f) = suc (pattern_form_nesting f)

  pub pattern_form_nesting : Pf → ℕ
  pattern_form_nesting any = 0
  pattern_form_nesting (binds x t) = 0
  pattern_form_nesting (is_number z) = 0
  pattern_form_nesting (is_text t) = 0
  pattern_form_nesting (is_bare s j) = 0
  pattern_form_nesting (is_holding s j q) = pattern_nesting q
  pattern_form_nesting (has_fields fs more) = pattern_fields_nesting fs
  pattern_form_nesting (annotated q t) = pattern_nesting q

  pub pattern_fields_nesting : Pfs → ℕ
  pattern_fields_nesting no_pat_fields = 0
  pattern_fields_nesting (pat_field p n q fs) = max (pattern_nesting q) (pattern_fields_nesting fs)

abbrev mutual
  pub nesting : Ex → ℕ
  nesting (node p a f) = suc (form_nesting f)

  pub form_nesting : Fo → ℕ
  form_nesting (bound i) = 0
  form_nesting (top i) = 0
  form_nesting (foreign i) = 0
  form_nesting (basis b) = 0
  form_nesting (fold_over k) = 0
  form_nesting (number z) = 0
  form_nesting (text t) = 0
  form_nesting (built s j) = 0
  form_nesting (fn q t e) = max (pattern_nesting q) (nesting e)
  form_nesting (fn_con x i w k e) = nesting e
  form_nesting (fn_guard c d e) = nesting e
  form_nesting (call f s is) = max (nesting f) (items_nesting is)
  form_nesting (let_in ls e) = max (locals_nesting ls) (nesting e)
  form_nesting (case_of e p q b bs) = max (max (nesting e) (pattern_nesting q)) (max (nesting b) (branches_nesting
      bs))
  form_nesting (ascribed e t) = nesting e
  form_nesting (fields_of fs) = fields_nesting fs
  form_nesting (select e c) = nesting e
  form_nesting (concat e d) = max (nesting e) (nesting d)
  form_nesting (without e c) = nesting e
  form_nesting (without_row e c) = nesting e
  form_nesting (folder k ps) = 0
  form_nesting (element m) = element_nesting m
  form_nesting (literal c u xs) = nodes_nesting xs
  form_nesting (sql k es) = exps_nesting es

  pub items_nesting : Its → ℕ
  items_nesting no_items = 0
  items_nesting (with_term e is) = max (nesting e) (items_nesting is)
  items_nesting (with_con p o c is) = items_nesting is
  items_nesting (with_guard p a is) = items_nesting is

  pub named_nesting : Nms → ℕ
  named_nesting no_named = 0
  named_nesting (named p x w t e ns) = max (nesting e) (named_nesting ns)

  pub locals_nesting : Los → ℕ
  locals_nesting no_locals = 0
  locals_nesting (local_val p x w t e ls) = max (nesting e) (locals_nesting ls)
  locals_nesting (local_rec ns ls) = max (named_nesting ns) (locals_nesting ls)

  pub branches_nesting : Brs → ℕ
  branches_nesting no_branches = 0
  branches_nesting (branch p q e bs) = max (max (pattern_nesting q) (nesting e)) (branches_nesting bs)

  pub fields_nesting : Fds → ℕ
  fields_nesting no_fields = 0
  fields_nesting (field p n e fs) = max (nesting e) (fields_nesting fs)

  pub element_nesting : El → ℕ
  element_nesting (tagged g n c u as' xs) = max (attributes_nesting as') (nodes_nesting xs)

  pub attributes_nesting : Ats → ℕ
  attributes_nesting no_attributes = 0
  attributes_nesting (attribute p n e as') = max (nesting e) (attributes_nesting as')

  pub nodes_nesting : Xs → ℕ
  nodes_nesting no_nodes = 0
  nodes_nesting (a_node c e xs) = max (nesting e) (nodes_nesting xs)

  pub exps_nesting : Exs → ℕ
  exps_nesting no_exps = 0
  exps_nesting (an_exp e es) = max (nesting e) (exps_nesting es)

-- The bound on every term and pattern that is built: a sum of 1,000 numbers keeps within it. A walk with one call a
-- level and the letting go of a term were seen to survive 1,500 levels on a stack of 8 MiB, where nothing is optimised.
abbrev pub most_nested : ℕ
most_nested = 1200

abbrev pub NestsWithin : Ex → Type 0
NestsWithin e = nesting e ≤ most_nested

abbrev pub PatternNestsWithin : Pt → Type 0
PatternNestsWithin q = pattern_nesting q ≤ most_nested
