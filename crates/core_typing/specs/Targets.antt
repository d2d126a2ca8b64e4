-- The links and the actions of terms, each by the number of the value that it calls.
use Rattle.std.specs.Prelude.{ℕ, Bool, true, false, List, [], ◌∷◌, ◌++◌, Option, Some, None}
use Rattle.xml_trees.specs.declared.source_name.AttrName.{AttrName}
use Rattle.xml_trees.specs.declared.source_name.AttrName.TheVariants as attr
use Rattle.core_terms.specs.Trees.{Ex, node, Fo, bound, top, foreign, basis, fold_over, number, text, built, fn, fn_con, fn_guard, call, let_in, case_of, ascribed, fields_of, select, concat, without, without_row, folder, element, literal, sql, Its, no_items, with_term, with_con, with_guard, Nms, no_named, named, Los, no_locals, local_val, local_rec, Brs, no_branches, branch, Fds, no_fields, field, El, tagged, Ats, no_attributes, attribute, Xs, no_nodes, a_node, Exs, no_exps, an_exp}

-- a value that is called by POST, where the flag is true, or by GET
abbrev pub Target : Type 0
Target = Bool × ℕ

-- the top-level value that a term is, or is a call of
abbrev pub head_of : Ex → Option ℕ
head_of (node p a (top i)) = Some i
head_of _ = None

abbrev pub callee : Ex → Option ℕ
callee (node p a (top i)) = Some i
callee (node p a (call f s is)) = head_of f
callee _ = None

abbrev pub target_if : Bool → Option ℕ → List Target
target_if post None = []
target_if post (Some i) = (post, i) ∷ []

abbrev pub own_target : AttrName → Ex → List Target
own_target attr.Link e = target_if false (callee e)
own_target attr.Action e = target_if true (callee e)
own_target _ e = []

abbrev mutual
  pub targets : Ex → List Target
  targets (node p a f) = form_targets f

  pub form_targets : Fo → List Target
  form_targets (bound i) = []
  form_targets (top i) = []
  form_targets (foreign i) = []
  form_targets (basis b) = []
  form_targets (fold_over k) = []
  form_targets (number z) = []
  form_targets (text t) = []
  form_targets (built s j) = []
  form_targets (fn p t e) = targets e
  form_targets (fn_con x i w k e) = targets e
  form_targets (fn_guard c d e) = targets e
  form_targets (call f s is) = targets f ++ items_targets is
  form_targets (let_in ls e) = locals_targets ls ++ targets e
  form_targets (case_of e p q d bs) = targets e ++ targets d ++ branches_targets bs
  form_targets (ascribed e t) = targets e
  form_targets (fields_of fs) = fields_targets fs
  form_targets (select e c) = targets e
  form_targets (concat e d) = targets e ++ targets d
  form_targets (without e c) = targets e
  form_targets (without_row e c) = targets e
  form_targets (folder k ps) = []
  form_targets (element m) = element_targets m
  form_targets (literal c u xs) = nodes_targets xs
  form_targets (sql k es) = exps_targets es

  pub items_targets : Its → List Target
  items_targets no_items = []
  items_targets (with_term e is) = targets e ++ items_targets is
  items_targets (with_con p o c is) = items_targets is
  items_targets (with_guard p a is) = items_targets is

  pub named_targets : Nms → List Target
  named_targets no_named = []
  named_targets (named p x w t e ns) = targets e ++ named_targets ns

  pub locals_targets : Los → List Target
  locals_targets no_locals = []
  locals_targets (local_val p x w t e ls) = targets e ++ locals_targets ls
  locals_targets (local_rec ns ls) = named_targets ns ++ locals_targets ls

  pub branches_targets : Brs → List Target
  branches_targets no_branches = []
  branches_targets (branch p q e bs) = targets e ++ branches_targets bs

  pub fields_targets : Fds → List Target
  fields_targets no_fields = []
  fields_targets (field p n e fs) = targets e ++ fields_targets fs

  pub element_targets : El → List Target
  element_targets (tagged g n c u as' xs) = attributes_targets as' ++ nodes_targets xs

  pub attributes_targets : Ats → List Target
  attributes_targets no_attributes = []
  attributes_targets (attribute p n e as') = own_target n e ++ targets e ++ attributes_targets as'

  pub nodes_targets : Xs → List Target
  nodes_targets no_nodes = []
  nodes_targets (a_node c e xs) = targets e ++ nodes_targets xs

  pub exps_targets : Exs → List Target
  exps_targets no_exps = []
  exps_targets (an_exp e es) = targets e ++ exps_targets es
