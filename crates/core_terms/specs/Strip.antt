-- What is left of a term when what was inserted is dropped: its source, with names resolved.
-- Dropped are inserted constructors, guards, folders and instances at calls, and a call of which no item is left and
-- before whose head the source has no sigil. A constructor that was found for _ is _ again. Types, rows and contexts
-- that weren't written become (). A kind that isn't written at a binder is Type, and so belongs to the source.
use Rattle.std.specs.Prelude.{Bool, true, false}
use Rattle.con_terms.specs.Trees.{Kd, types, Cn, unit_con}
use Rattle.con_terms.specs.declared.place.Place.{Place}
use Rattle.core_terms.specs.declared.exp.Sigil.{Sigil}
use Rattle.core_terms.specs.declared.exp.Sigil.TheVariants.{Plain}
use Rattle.core_terms.specs.declared.exp.ConOrigin.{ConOrigin}
use Rattle.core_terms.specs.declared.exp.ConOrigin.TheVariants.{Written, Inserted, Wild}
use Rattle.core_terms.specs.Trees.{Pt, pattern, Pf, any, binds, is_number, is_text, is_bare, is_holding, has_fields, annotated, Pfs, no_pat_fields, pat_field, Ex, node, Fo, bound, top, foreign, basis, fold_over, number, text, built, fn, fn_con, fn_guard, call, let_in, case_of, ascribed, fields_of, select, concat, without, without_row, folder, element, literal, sql, Its, no_items, with_term, with_con, with_guard, Nms, no_named, named, Los, no_locals, local_val, local_rec, Brs, no_branches, branch, Fds, no_fields, field, El, tagged, Ats, no_attributes, attribute, Xs, no_nodes, a_node, Exs, no_exps, an_exp, De, val, vals, con_is, datatype, thing}

-- a type where it was written
abbrev pub if_written : Bool → Cn → Cn
if_written true t = t
if_written false t = unit_con

-- a con declaration's kind where it was written
abbrev pub kind_if_written : Bool → Kd → Kd
kind_if_written true k = k
kind_if_written false k = types

abbrev mutual
  pub strip_pattern : Pt → Pt
  strip_pattern (pattern p f) = pattern p (strip_pattern_form f)

  pub strip_pattern_form : Pf → Pf
  strip_pattern_form any = any
  strip_pattern_form (binds x t) = binds x unit_con
  strip_pattern_form (is_number z) = is_number z
  strip_pattern_form (is_text t) = is_text t
  strip_pattern_form (is_bare s j) = is_bare s j
  strip_pattern_form (is_holding s j p) = is_holding s j (strip_pattern p)
  strip_pattern_form (has_fields fs more) = has_fields (strip_pattern_fields fs) more
  strip_pattern_form (annotated p t) = annotated (strip_pattern p) t

  pub strip_pattern_fields : Pfs → Pfs
  strip_pattern_fields no_pat_fields = no_pat_fields
  strip_pattern_fields (pat_field p n q fs) = pat_field p n (strip_pattern q) (strip_pattern_fields fs)

-- an item that was written, before the others
abbrev pub keep_con : Place → ConOrigin → Cn → Its → Its
keep_con p Inserted c is = is
keep_con p Written c is = with_con p Written c is
keep_con p Wild c is = with_con p Wild unit_con is

abbrev pub keep_guard : Place → Bool → Its → Its
keep_guard p true is = is
keep_guard p false is = with_guard p false is

-- a term that was written, before the other items
abbrev pub keep_term : Bool → Ex → Its → Its
keep_term true e is = is
keep_term false e is = with_term e is

-- whether a term was inserted
abbrev pub was_added : Ex → Bool
was_added (node p a f) = a

-- what is left of a call: its head alone where no item is left, and nothing stands before it
abbrev pub call_left : Place → Bool → Ex → Sigil → Its → Ex
call_left p a (node q b f) Plain no_items = node q a f
call_left p a f s is = node p a (call f s is)

abbrev mutual
  pub strip : Ex → Ex
  strip (node p a f) = strip_form p a f

  pub strip_form : Place → Bool → Fo → Ex
  strip_form p a (bound i) = node p a (bound i)
  strip_form p a (top i) = node p a (top i)
  strip_form p a (foreign i) = node p a (foreign i)
  strip_form p a (basis b) = node p a (basis b)
  strip_form p a (fold_over k) = node p a (fold_over types)
  strip_form p a (number z) = node p a (number z)
  strip_form p a (text t) = node p a (text t)
  strip_form p a (built s j) = node p a (built s j)
  strip_form p a (fn q t e) = node p a (fn (strip_pattern q) unit_con (strip e))
  strip_form p a (fn_con x i w k e) = node p a (fn_con x i w k (strip e))
  strip_form p a (fn_guard c d e) = node p a (fn_guard c d (strip e))
  strip_form p a (call f s is) = call_left p a (strip f) s (strip_items is)
  strip_form p a (let_in ls e) = node p a (let_in (strip_locals ls) (strip e))
  strip_form p a (case_of e r q b bs) = node p a (case_of (strip e) r (strip_pattern q) (strip b) (strip_branches
      bs))
  strip_form p a (ascribed e t) = node p a (ascribed (strip e) t)
  strip_form p a (fields_of fs) = node p a (fields_of (strip_fields fs))
  strip_form p a (select e c) = node p a (select (strip e) c)
  strip_form p a (concat e d) = node p a (concat (strip e) (strip d))
  strip_form p a (without e c) = node p a (without (strip e) c)
  strip_form p a (without_row e c) = node p a (without_row (strip e) c)
  strip_form p a (folder k ps) = node p a (folder k ps)
  strip_form p a (element m) = node p a (element (strip_element m))
  strip_form p a (literal c u xs) = node p a (literal unit_con unit_con (strip_nodes xs))
  strip_form p a (sql k es) = node p a (sql k (strip_exps es))

  pub strip_items : Its → Its
  strip_items no_items = no_items
  strip_items (with_term e is) = keep_term (was_added e) (strip e) (strip_items is)
  strip_items (with_con p a c is) = keep_con p a c (strip_items is)
  strip_items (with_guard p a is) = keep_guard p a (strip_items is)

  pub strip_named : Nms → Nms
  strip_named no_named = no_named
  strip_named (named p x w t e ns) = named p x w (if_written w t) (strip e) (strip_named ns)

  pub strip_locals : Los → Los
  strip_locals no_locals = no_locals
  strip_locals (local_val p x w t e ls) = local_val p x w (if_written w t) (strip e) (strip_locals ls)
  strip_locals (local_rec ns ls) = local_rec (strip_named ns) (strip_locals ls)

  pub strip_branches : Brs → Brs
  strip_branches no_branches = no_branches
  strip_branches (branch p q e bs) = branch p (strip_pattern q) (strip e) (strip_branches bs)

  pub strip_fields : Fds → Fds
  strip_fields no_fields = no_fields
  strip_fields (field p n e fs) = field p n (strip e) (strip_fields fs)

  pub strip_element : El → El
  strip_element (tagged g n c u as' xs) = tagged g n unit_con unit_con (strip_attributes as') (strip_nodes xs)

  pub strip_attributes : Ats → Ats
  strip_attributes no_attributes = no_attributes
  strip_attributes (attribute p n e as') = attribute p n (strip e) (strip_attributes as')

  pub strip_nodes : Xs → Xs
  strip_nodes no_nodes = no_nodes
  strip_nodes (a_node c e xs) = a_node unit_con (strip e) (strip_nodes xs)

  pub strip_exps : Exs → Exs
  strip_exps no_exps = no_exps
  strip_exps (an_exp e es) = an_exp (strip e) (strip_exps es)

-- a declaration; a con declaration's kind counts as the types of values do
abbrev pub strip_decl : De → De
strip_decl (val path p x w t e) = val path p x w (if_written w t) (strip e)
strip_decl (vals path ns) = vals path (strip_named ns)
strip_decl (con_is path p x w k c) = con_is path p x w (kind_if_written w k) c
strip_decl (datatype d) = datatype d
strip_decl (thing path p x k t) = thing path p x k t
