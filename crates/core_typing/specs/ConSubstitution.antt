-- Shifting and substitution of constructors in terms and patterns, as two uses of one walk over the constructors
-- that stand in them.
-- The Ur/Web Manual, "Expression Typing", whose rule for constructor application puts a constructor for a variable.
use Rattle.std.specs.Prelude.{ℕ, ◌+◌, option_map}
use Rattle.con_terms.specs.Trees.{Cn}
use Rattle.con_terms.specs.Substitution.{replaced, replaced_pairs, moved, put}
use Rattle.core_terms.specs.Trees.{Pt, pattern, Pf, any, binds, is_number, is_text, is_bare, is_holding, has_fields, annotated, Pfs, no_pat_fields, pat_field, Ex, node, Fo, bound, top, foreign, basis, fold_over, number, text, built, fn, fn_con, fn_guard, call, let_in, case_of, ascribed, fields_of, select, concat, without, without_row, folder, element, literal, sql, Its, no_items, with_term, with_con, with_guard, Nms, no_named, named, Los, no_locals, local_val, local_rec, Brs, no_branches, branch, Fds, no_fields, field, El, tagged, Ats, no_attributes, attribute, Xs, no_nodes, a_node, Exs, no_exps, an_exp}

abbrev mutual
  -- the pattern, under d constructor binders, with f at each number in its constructors
  pub pattern_replaced : (ℕ → ℕ → Cn) → Pt → ℕ → Pt
  pattern_replaced f (pattern p q) d = pattern p (pattern_form_replaced f q d)

  pub pattern_form_replaced : (ℕ → ℕ → Cn) → Pf → ℕ → Pf
  pattern_form_replaced f any d = any
  pattern_form_replaced f (binds x t) d = binds x (replaced f t d)
  pattern_form_replaced f (is_number z) d = is_number z
  pattern_form_replaced f (is_text t) d = is_text t
  pattern_form_replaced f (is_bare s j) d = is_bare s j
  pattern_form_replaced f (is_holding s j q) d = is_holding s j (pattern_replaced f q d)
  pattern_form_replaced f (has_fields fs more) d = has_fields (pattern_fields_replaced f fs d) more
  pattern_form_replaced f (annotated q t) d = annotated (pattern_replaced f q d) (replaced f t d)

  pub pattern_fields_replaced : (ℕ → ℕ → Cn) → Pfs → ℕ → Pfs
  pattern_fields_replaced f no_pat_fields d = no_pat_fields
  pattern_fields_replaced f (pat_field p n q fs) d = pat_field p (replaced f n d) (pattern_replaced f q d)
      (pattern_fields_replaced f fs d)

abbrev mutual
  -- the term, under d constructor binders, with f at each number in its constructors
  pub term_replaced : (ℕ → ℕ → Cn) → Ex → ℕ → Ex
  term_replaced f (node p a e) d = node p a (form_replaced f e d)

  pub form_replaced : (ℕ → ℕ → Cn) → Fo → ℕ → Fo
  form_replaced f (bound i) d = bound i
  form_replaced f (top i) d = top i
  form_replaced f (foreign i) d = foreign i
  form_replaced f (basis b) d = basis b
  form_replaced f (fold_over k) d = fold_over k
  form_replaced f (number z) d = number z
  form_replaced f (text t) d = text t
  form_replaced f (built s j) d = built s j
  form_replaced f (fn q t e) d = fn (pattern_replaced f q d) (replaced f t d) (term_replaced f e d)
  form_replaced f (fn_con x i w k e) d = fn_con x i w k (term_replaced f e (d + 1))
  form_replaced f (fn_guard a b e) d = fn_guard (replaced f a d) (replaced f b d) (term_replaced f e d)
  form_replaced f (call e s is) d = call (term_replaced f e d) s (items_replaced f is d)
  form_replaced f (let_in ls e) d = let_in (locals_replaced f ls d) (term_replaced f e d)
  form_replaced f (case_of e p q b bs) d = case_of (term_replaced f e d) p (pattern_replaced f q d) (term_replaced f
      b d) (branches_replaced f bs d)
  form_replaced f (ascribed e t) d = ascribed (term_replaced f e d) (replaced f t d)
  form_replaced f (fields_of fs) d = fields_of (fields_replaced f fs d)
  form_replaced f (select e c) d = select (term_replaced f e d) (replaced f c d)
  form_replaced f (concat e g) d = concat (term_replaced f e d) (term_replaced f g d)
  form_replaced f (without e c) d = without (term_replaced f e d) (replaced f c d)
  form_replaced f (without_row e c) d = without_row (term_replaced f e d) (replaced f c d)
  form_replaced f (folder k ps) d = folder k (replaced_pairs f ps d)
  form_replaced f (element m) d = element (element_replaced f m d)
  form_replaced f (literal c u xs) d = literal (replaced f c d) (replaced f u d) (nodes_replaced f xs d)
  form_replaced f (sql k es) d = sql k (exps_replaced f es d)

  pub items_replaced : (ℕ → ℕ → Cn) → Its → ℕ → Its
  items_replaced f no_items d = no_items
  items_replaced f (with_term e is) d = with_term (term_replaced f e d) (items_replaced f is d)
  items_replaced f (with_con p o c is) d = with_con p o (replaced f c d) (items_replaced f is d)
  items_replaced f (with_guard p a is) d = with_guard p a (items_replaced f is d)

  pub named_replaced : (ℕ → ℕ → Cn) → Nms → ℕ → Nms
  named_replaced f no_named d = no_named
  named_replaced f (named p x w t e ns) d = named p x w (replaced f t d) (term_replaced f e d) (named_replaced f ns
      d)

  pub locals_replaced : (ℕ → ℕ → Cn) → Los → ℕ → Los
  locals_replaced f no_locals d = no_locals
  locals_replaced f (local_val p x w t e ls) d = local_val p x w (replaced f t d) (term_replaced f e d)
      (locals_replaced f ls d)
  locals_replaced f (local_rec ns ls) d = local_rec (named_replaced f ns d) (locals_replaced f ls d)

  pub branches_replaced : (ℕ → ℕ → Cn) → Brs → ℕ → Brs
  branches_replaced f no_branches d = no_branches
  branches_replaced f (branch p q e bs) d = branch p (pattern_replaced f q d) (term_replaced f e d)
      (branches_replaced f bs d)

  pub fields_replaced : (ℕ → ℕ → Cn) → Fds → ℕ → Fds
  fields_replaced f no_fields d = no_fields
  fields_replaced f (field p n e fs) d = field p (replaced f n d) (term_replaced f e d) (fields_replaced f fs d)

  pub element_replaced : (ℕ → ℕ → Cn) → El → ℕ → El
  element_replaced f (tagged g n c u as' xs) d = tagged g (option_map (λ m. (m.0, replaced f m.1 d)) n) (replaced f
      c d) (replaced f u d) (attributes_replaced f as' d) (nodes_replaced f xs d)

  pub attributes_replaced : (ℕ → ℕ → Cn) → Ats → ℕ → Ats
  attributes_replaced f no_attributes d = no_attributes
  attributes_replaced f (attribute p n e as') d = attribute p n (term_replaced f e d) (attributes_replaced f as' d)

  pub nodes_replaced : (ℕ → ℕ → Cn) → Xs → ℕ → Xs
  nodes_replaced f no_nodes d = no_nodes
  nodes_replaced f (a_node b e xs) d = a_node (replaced f b d) (term_replaced f e d) (nodes_replaced f xs d)

  pub exps_replaced : (ℕ → ℕ → Cn) → Exs → ℕ → Exs
  exps_replaced f no_exps d = no_exps
  exps_replaced f (an_exp e es) d = an_exp (term_replaced f e d) (exps_replaced f es d)

-- the term with `by` added to each free number in its constructors from `from` on
abbrev pub shift_in : ℕ → Ex → ℕ → Ex
shift_in by e from = term_replaced (moved by) e from

-- the term with a for the number d in its constructors, and each free number above it lowered by one
abbrev pub subst_in_at : Cn → Ex → ℕ → Ex
subst_in_at a e d = term_replaced (put a) e d

-- the term with a for the number 0 in its constructors, and each other free number lowered by one
abbrev pub subst_in : Ex → Cn → Ex
subst_in e a = subst_in_at a e 0
