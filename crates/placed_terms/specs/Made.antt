-- The places of the nodes of an explicit declaration, in text order as far as the forms allow: a node before its
-- parts, and these as they stand in the tree. Each function gives the places of its tree before those that follow.
use Rattle.std.specs.Prelude.{ℕ, List, [], ◌∷◌, Option, Some, None}
use Rattle.con_terms.specs.Trees.{Cn}
use Rattle.con_terms.specs.declared.place.Place.{Place}
use Rattle.core_terms.specs.Trees.{Pt, pattern, Pf, any, binds, is_number, is_text, is_bare, is_holding, has_fields}
use Rattle.core_terms.specs.Trees.{annotated, Pfs, no_pat_fields, pat_field, Ex, node, Fo, bound, top, foreign, basis}
use Rattle.core_terms.specs.Trees.{fold_over, number, text, built, fn, fn_con, fn_guard, call, let_in, case_of}
use Rattle.core_terms.specs.Trees.{ascribed, fields_of, select, concat, without, without_row, folder, element, literal}
use Rattle.core_terms.specs.Trees.{sql, Its, no_items, with_term, with_con, with_guard, Nms, no_named, named, Los}
use Rattle.core_terms.specs.Trees.{no_locals, local_val, local_rec, Brs, no_branches, branch, Fds, no_fields, field}
use Rattle.core_terms.specs.Trees.{El, tagged, Ats, no_attributes, attribute, Xs, no_nodes, a_node, Exs, no_exps, an_exp}
use Rattle.core_terms.specs.Trees.{Cd, De, val, vals, con_is, datatype, thing, Th, a_table, a_sequence, a_cookie}
use Rattle.core_terms.specs.Trees.{a_given}

abbrev mutual
  pub pattern_then : Pt → List Place → List Place
  pattern_then (pattern p f) more = p ∷ pattern_form_then f more

  pub pattern_form_then : Pf → List Place → List Place
  pattern_form_then any more = more
  pattern_form_then (binds x t) more = more
  pattern_form_then (is_number z) more = more
  pattern_form_then (is_text t) more = more
  pattern_form_then (is_bare s j) more = more
  pattern_form_then (is_holding s j p) more = pattern_then p more
  pattern_form_then (has_fields fs others) more = pattern_fields_then fs more
  pattern_form_then (annotated p t) more = pattern_then p more

  pub pattern_fields_then : Pfs → List Place → List Place
  pattern_fields_then no_pat_fields more = more
  pattern_fields_then (pat_field p n q fs) more = p ∷ pattern_then q (pattern_fields_then fs more)

-- the place of the field that an input fills
abbrev pub filled_then : Option (Place × Cn) → List Place → List Place
filled_then None more = more
filled_then (Some n) more = n.0 ∷ more

abbrev mutual
  pub exp_then : Ex → List Place → List Place
  exp_then (node p a f) more = p ∷ form_then f more

  pub form_then : Fo → List Place → List Place
  form_then (bound i) more = more
  form_then (top i) more = more
  form_then (foreign i) more = more
  form_then (basis b) more = more
  form_then (fold_over k) more = more
  form_then (number z) more = more
  form_then (text t) more = more
  form_then (built s j) more = more
  form_then (fn q t e) more = pattern_then q (exp_then e more)
  form_then (fn_con x i w k e) more = exp_then e more
  form_then (fn_guard c d e) more = exp_then e more
  form_then (call f s is) more = exp_then f (items_then is more)
  form_then (let_in ls e) more = locals_then ls (exp_then e more)
  form_then (case_of e p q b bs) more = exp_then e (p ∷ pattern_then q (exp_then b (branches_then bs more)))
  form_then (ascribed e t) more = exp_then e more
  form_then (fields_of fs) more = fields_then fs more
  form_then (select e c) more = exp_then e more
  form_then (concat e d) more = exp_then e (exp_then d more)
  form_then (without e c) more = exp_then e more
  form_then (without_row e c) more = exp_then e more
  form_then (folder k ps) more = more
  form_then (element m) more = element_then m more
  form_then (literal c u xs) more = nodes_then xs more
  form_then (sql k es) more = exps_then es more

  pub items_then : Its → List Place → List Place
  items_then no_items more = more
  items_then (with_term e is) more = exp_then e (items_then is more)
  items_then (with_con p o c is) more = p ∷ items_then is more
  items_then (with_guard p a is) more = p ∷ items_then is more

  pub named_then : Nms → List Place → List Place
  named_then no_named more = more
  named_then (named p x w t e ns) more = p ∷ exp_then e (named_then ns more)

  pub locals_then : Los → List Place → List Place
  locals_then no_locals more = more
  locals_then (local_val p x w t e ls) more = p ∷ exp_then e (locals_then ls more)
  locals_then (local_rec ns ls) more = named_then ns (locals_then ls more)

  pub branches_then : Brs → List Place → List Place
  branches_then no_branches more = more
  branches_then (branch p q e bs) more = p ∷ pattern_then q (exp_then e (branches_then bs more))

  pub fields_then : Fds → List Place → List Place
  fields_then no_fields more = more
  fields_then (field p n e fs) more = p ∷ exp_then e (fields_then fs more)

  pub element_then : El → List Place → List Place
  element_then (tagged g n c u as' xs) more = filled_then n (attributes_then as' (nodes_then xs more))

  pub attributes_then : Ats → List Place → List Place
  attributes_then no_attributes more = more
  attributes_then (attribute p n e as') more = p ∷ exp_then e (attributes_then as' more)

  pub nodes_then : Xs → List Place → List Place
  nodes_then no_nodes more = more
  nodes_then (a_node c e xs) more = exp_then e (nodes_then xs more)

  pub exps_then : Exs → List Place → List Place
  exps_then no_exps more = more
  exps_then (an_exp e es) more = exp_then e (exps_then es more)

-- the constructors of a datatype
abbrev pub constructors_then : List Cd → List Place → List Place
constructors_then [] more = more
constructors_then (c ∷ cs) more = c.place ∷ constructors_then cs more

-- the columns of a table's key
abbrev pub columns_then : List (Place × ℕ) → List Place → List Place
columns_then [] more = more
columns_then (c ∷ cs) more = c.0 ∷ columns_then cs more

abbrev pub thing_then : Th → List Place → List Place
thing_then (a_table cs) more = columns_then cs more
thing_then a_sequence more = more
thing_then a_cookie more = more
thing_then a_given more = more

-- the places of a declaration
abbrev pub places_of : De → List Place
places_of (val path p x w t e) = p ∷ exp_then e []
places_of (vals path ns) = named_then ns []
places_of (con_is path p x w k c) = p ∷ []
places_of (datatype d) = d.place ∷ constructors_then d.constructors []
places_of (thing path p x h t) = p ∷ thing_then h []
