-- What is left of a term has nothing inserted.
use Rattle.std.proofs.Common.{◌≡◌, Bool, true, false, refl, ap, ◌∙◌}
use Rattle.con_terms.specs.Trees.{Cn, unit_con}
use Rattle.con_terms.specs.declared.place.Place.{Place}
use Rattle.core_terms.specs.declared.exp.Sigil.{Sigil}
use Rattle.core_terms.specs.declared.exp.Sigil.TheVariants.{Plain, At, AtAt}
use Rattle.core_terms.specs.declared.exp.ConOrigin.{ConOrigin}
use Rattle.core_terms.specs.declared.exp.ConOrigin.TheVariants.{Written, Inserted, Wild}
use Rattle.core_terms.specs.Trees.{Pt, pattern, Pf, any, binds, is_number, is_text, is_bare, is_holding, has_fields, annotated, Pfs, no_pat_fields, pat_field, Ex, node, Fo, bound, top, foreign, basis, fold_over, number, text, built, fn, fn_con, fn_guard, call, let_in, case_of, ascribed, fields_of, select, concat, without, without_row, folder, element, literal, sql, Its, no_items, with_term, with_con, with_guard, Nms, no_named, named, Los, no_locals, local_val, local_rec, Brs, no_branches, branch, Fds, no_fields, field, El, tagged, Ats, no_attributes, attribute, Xs, no_nodes, a_node, Exs, no_exps, an_exp}
use Rattle.core_terms.specs.Strip.{if_written, strip_pattern, strip_pattern_form, strip_pattern_fields, keep_con, keep_guard, was_added, call_left, strip, strip_form, strip_items, strip_named, strip_locals, strip_branches, strip_fields, strip_element, strip_attributes, strip_nodes, strip_exps}

two : {A B C : Type 0} (f : A → B → C) {a a' : A} {b b' : B} → a ≡ a' → b ≡ b' → f a b ≡ f a' b'
two f {a} {a'} {b} {b'} e g = ap (λ x. f x b) e ∙ ap (f a') g

type_twice : (w : Bool) (t : Cn) → if_written w (if_written w t) ≡ if_written w t
type_twice true t = refl
type_twice false t = refl

mutual
  pattern_twice : (q : Pt) → strip_pattern (strip_pattern q) ≡ strip_pattern q
  pattern_twice (pattern p f) = ap (pattern p) (pattern_form_twice f)

  pattern_form_twice : (f : Pf) → strip_pattern_form (strip_pattern_form f) ≡ strip_pattern_form f
  pattern_form_twice any = refl
  pattern_form_twice (binds x t) = refl
  pattern_form_twice (is_number z) = refl
  pattern_form_twice (is_text t) = refl
  pattern_form_twice (is_bare s j) = refl
  pattern_form_twice (is_holding s j q) = ap (is_holding s j) (pattern_twice q)
  pattern_form_twice (has_fields fs more) = ap (λ gs. has_fields gs more) (pattern_fields_twice fs)
  pattern_form_twice (annotated q t) = ap (λ r. annotated r t) (pattern_twice q)

  pattern_fields_twice : (fs : Pfs) → strip_pattern_fields (strip_pattern_fields fs) ≡ strip_pattern_fields fs
  pattern_fields_twice no_pat_fields = refl
  pattern_fields_twice (pat_field p n q fs) = two (pat_field p n) (pattern_twice q) (pattern_fields_twice fs)

-- an item that was written stays, another is gone
con_kept : (p : Place) (o : ConOrigin) (c : Cn) (is : Its) → strip_items is ≡ is → strip_items (keep_con p o c is) ≡ keep_con p o c is
con_kept p Inserted c is e = e
con_kept p Written c is e = ap (with_con p Written c) e
con_kept p Wild c is e = ap (with_con p Wild unit_con) e

guard_kept : (p : Place) (a : Bool) (is : Its) → strip_items is ≡ is → strip_items (keep_guard p a is) ≡ keep_guard p a is
guard_kept p true is e = e
guard_kept p false is e = ap (with_guard p false) e

-- a term, as one that was written or inserted
abbrev marked : Bool → Ex → Ex
marked a (node p b f) = node p a f

left_marked : (p : Place) (a b : Bool) (f : Ex) (s : Sigil) (is : Its) → call_left p a f s is ≡ marked a (call_left p b f s is)
left_marked p a b (node q c f) Plain no_items = refl
left_marked p a b (node q c f) Plain (with_term e is) = refl
left_marked p a b (node q c f) Plain (with_con r i d is) = refl
left_marked p a b (node q c f) Plain (with_guard r i is) = refl
left_marked p a b (node q c f) At is = refl
left_marked p a b (node q c f) AtAt is = refl

form_marked : (p : Place) (a b : Bool) (f : Fo) → strip_form p a f ≡ marked a (strip_form p b f)
form_marked p a b (call f s is) = left_marked p a b (strip f) s (strip_items is)
form_marked p a b (bound i) = refl
form_marked p a b (top i) = refl
form_marked p a b (foreign i) = refl
form_marked p a b (basis d) = refl
form_marked p a b (fold_over k) = refl
form_marked p a b (number z) = refl
form_marked p a b (text t) = refl
form_marked p a b (built s j) = refl
form_marked p a b (fn q t e) = refl
form_marked p a b (fn_con x i w k e) = refl
form_marked p a b (fn_guard c d e) = refl
form_marked p a b (let_in ls e) = refl
form_marked p a b (case_of e r q d bs) = refl
form_marked p a b (ascribed e t) = refl
form_marked p a b (fields_of fs) = refl
form_marked p a b (select e c) = refl
form_marked p a b (concat e d) = refl
form_marked p a b (without e c) = refl
form_marked p a b (without_row e c) = refl
form_marked p a b (folder k ps) = refl
form_marked p a b (element m) = refl
form_marked p a b (literal c u xs) = refl
form_marked p a b (sql k es) = refl

-- whether it was inserted stays
added_mark : (a : Bool) (e : Ex) → was_added (marked a e) ≡ a
added_mark a (node p b f) = refl

still_added : (p : Place) (a : Bool) (f : Fo) → was_added (strip_form p a f) ≡ a
still_added p a f = ap was_added (form_marked p a a f) ∙ added_mark a (strip_form p a f)

-- a head that has nothing inserted, in its call's place
head_kept : (a : Bool) (f : Ex) → strip f ≡ f → strip (marked a f) ≡ marked a f
head_kept a (node q b f) e = form_marked q a b f ∙ ap (marked a) e

-- with a sigil it stays, whatever its items are
left_whole : (p : Place) (a : Bool) (f : Ex) (s : Sigil) (is : Its) → (s ≡ Plain → ⊥) → call_left p a f s is ≡ node p a (call f s is)
left_whole p a (node q b f) Plain is h = absurd (h refl)
left_whole p a (node q b f) At is h = refl
left_whole p a (node q b f) AtAt is h = refl

-- a call of which items are left, or with a sigil, stays
call_kept : (p : Place) (a : Bool) (f : Ex) (s : Sigil) (is : Its) → strip f ≡ f → strip_items is ≡ is → strip (call_left p a f s is) ≡ call_left p a f s is
call_kept p a (node q b f) Plain no_items e i = head_kept a (node q b f) e
call_kept p a (node q b f) Plain (with_term d is) e i = two (λ x y. call_left p a x Plain y) e i
call_kept p a (node q b f) Plain (with_con r c d is) e i = two (λ x y. call_left p a x Plain y) e i
call_kept p a (node q b f) Plain (with_guard r c is) e i = two (λ x y. call_left p a x Plain y) e i
call_kept p a (node q b f) At is e i = left_whole p a (strip (node q b f)) At (strip_items is) (λ h. cc) ∙ two (λ x y. node p a (call x At y)) e i
call_kept p a (node q b f) AtAt is e i = left_whole p a (strip (node q b f)) AtAt (strip_items is) (λ h. cc) ∙ two (λ x y. node p a (call x AtAt y)) e i

-- a written item stays
written_kept : (e : Ex) (is : Its) → was_added e ≡ false → strip e ≡ e → strip_items is ≡ is → strip_items (with_term e is) ≡ with_term e is
written_kept (node p true f) is h e i = cc
written_kept (node p false f) is h e i = two with_term e i

mutual
  pub strip_twice : (e : Ex) → strip (strip e) ≡ strip e
  strip_twice (node p a f) = form_twice p a f

  form_twice : (p : Place) (a : Bool) (f : Fo) → strip (strip_form p a f) ≡ strip_form p a f
  form_twice p a (bound i) = refl
  form_twice p a (top i) = refl
  form_twice p a (foreign i) = refl
  form_twice p a (basis b) = refl
  form_twice p a (fold_over k) = refl
  form_twice p a (number z) = refl
  form_twice p a (text t) = refl
  form_twice p a (built s j) = refl
  form_twice p a (fn q t e) = ap (node p a) (two (λ r d. fn r unit_con d) (pattern_twice q) (strip_twice e))
  form_twice p a (fn_con x i w k e) = ap (λ d. node p a (fn_con x i w k d)) (strip_twice e)
  form_twice p a (fn_guard c d e) = ap (node p a) (ap (fn_guard c d) (strip_twice e))
  form_twice p a (call f s is) = call_kept p a (strip f) s (strip_items is) (strip_twice f) (items_twice is)
  form_twice p a (let_in ls e) = ap (node p a) (two let_in (locals_twice ls) (strip_twice e))
  form_twice p a (case_of e y q d bs) =
      ap (node p a) (two (λ x r. case_of x y r (strip (strip d)) (strip_branches (strip_branches bs))) (strip_twice e) (pattern_twice q)
      ∙ two (case_of (strip e) y (strip_pattern q)) (strip_twice d) (branches_twice bs))
  form_twice p a (ascribed e t) = ap (node p a) (ap (λ x. ascribed x t) (strip_twice e))
  form_twice p a (fields_of fs) = ap (node p a) (ap fields_of (fields_twice fs))
  form_twice p a (select e c) = ap (node p a) (ap (λ x. select x c) (strip_twice e))
  form_twice p a (concat e d) = ap (node p a) (two concat (strip_twice e) (strip_twice d))
  form_twice p a (without e c) = ap (node p a) (ap (λ x. without x c) (strip_twice e))
  form_twice p a (without_row e c) = ap (node p a) (ap (λ x. without_row x c) (strip_twice e))
  form_twice p a (folder k ps) = refl
  form_twice p a (element m) = ap (node p a) (ap element (element_twice m))
  form_twice p a (literal c u xs) = ap (node p a) (ap (literal unit_con unit_con) (nodes_twice xs))
  form_twice p a (sql k es) = ap (node p a) (ap (sql k) (exps_twice es))

  items_twice : (is : Its) → strip_items (strip_items is) ≡ strip_items is
  items_twice no_items = refl
  items_twice (with_term (node p true f) is) = items_twice is
  items_twice (with_term (node p false f) is) = written_kept (strip_form p false f) (strip_items is) (still_added p false f) (form_twice p false f) (items_twice is)
  items_twice (with_con p a c is) = con_kept p a c (strip_items is) (items_twice is)
  items_twice (with_guard p a is) = guard_kept p a (strip_items is) (items_twice is)

  named_twice : (ns : Nms) → strip_named (strip_named ns) ≡ strip_named ns
  named_twice no_named = refl
  named_twice (named p x w t e ns) = two (λ u d. named p x w u d (strip_named (strip_named ns))) (type_twice w t) (strip_twice e) ∙ ap (named p x w (if_written w t) (strip e)) (named_twice ns)

  locals_twice : (ls : Los) → strip_locals (strip_locals ls) ≡ strip_locals ls
  locals_twice no_locals = refl
  locals_twice (local_val p x w t e ls) = two (λ u d. local_val p x w u d (strip_locals (strip_locals ls))) (type_twice w t) (strip_twice e) ∙ ap (local_val p x w (if_written w t) (strip e)) (locals_twice ls)
  locals_twice (local_rec ns ls) = two local_rec (named_twice ns) (locals_twice ls)

  branches_twice : (bs : Brs) → strip_branches (strip_branches bs) ≡ strip_branches bs
  branches_twice no_branches = refl
  branches_twice (branch p q e bs) = two (λ r d. branch p r d (strip_branches (strip_branches bs))) (pattern_twice q) (strip_twice e) ∙ ap (branch p (strip_pattern q) (strip e)) (branches_twice bs)

  fields_twice : (fs : Fds) → strip_fields (strip_fields fs) ≡ strip_fields fs
  fields_twice no_fields = refl
  fields_twice (field p n e fs) = two (field p n) (strip_twice e) (fields_twice fs)

  element_twice : (m : El) → strip_element (strip_element m) ≡ strip_element m
  element_twice (tagged g n c u as' xs) = two (tagged g n unit_con unit_con) (attributes_twice as') (nodes_twice xs)

  attributes_twice : (as' : Ats) → strip_attributes (strip_attributes as') ≡ strip_attributes as'
  attributes_twice no_attributes = refl
  attributes_twice (attribute p n e as') = two (attribute p n) (strip_twice e) (attributes_twice as')

  nodes_twice : (xs : Xs) → strip_nodes (strip_nodes xs) ≡ strip_nodes xs
  nodes_twice no_nodes = refl
  nodes_twice (a_node c e xs) = two (a_node unit_con) (strip_twice e) (nodes_twice xs)

  exps_twice : (es : Exs) → strip_exps (strip_exps es) ≡ strip_exps es
  exps_twice no_exps = refl
  exps_twice (an_exp e es) = two an_exp (strip_twice e) (exps_twice es)

-- a call with a sigil stays a call
pub sigil_kept : (p : Place) (a : Bool) (f : Ex) (s : Sigil) (is : Its) → (s ≡ Plain → ⊥) → strip (node p a (call f s is)) ≡ node p a (call (strip f) s (strip_items is))
sigil_kept p a f s is h = left_whole p a (strip f) s (strip_items is) h
