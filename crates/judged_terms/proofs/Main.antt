-- What is found for a term with a type and no fault is found by the rules, form by form.
use Rattle.std.proofs.Common.{◌≡◌, Bool, List, [], ◌∷◌, sym, subst}
use Rattle.con_terms.specs.Trees.{types, Cn}
use Rattle.con_terms.specs.declared.place.Place.{Place}
use Rattle.core_terms.specs.Lists.{item_list, field_list, name_list}
use Rattle.core_terms.specs.Trees.{node, bound, top, foreign, basis, fold_over, number, text, built, fn, fn_con, fn_guard, call, let_in, case_of, ascribed, fields_of, select, concat, without, without_row, folder, element, literal, sql, Its, no_items, with_term, with_con, with_guard, Nms, no_named, named, Los, no_locals, local_val, local_rec, Brs, no_branches, branch, Fds, no_fields, field, El, tagged, Ats, no_attributes, attribute, Xs, no_nodes, a_node}
use Rattle.core_typing.specs.Scopes.{Sc, under, under_con}
use Rattle.core_typing.specs.Cover.{Covers}
use Rattle.core_typing.specs.Own.{place_of, type_place}
use Rattle.core_typing.specs.Typed.{named_types}
use Rattle.core_typing.specs.Found.{let_has, element_has, at_end, LocalsFound, nothing_found, val_found, rec_found, NamedFound, no_name_found}
use Rattle.told_faults.specs.Computed.{Jd}
use Rattle.told_faults.proofs.Parts.{kind_is}
use Rattle.node_rules.specs.Calls.{Pa, starts, with_term_item, with_con_item, with_guard_item}
use Rattle.node_rules.specs.Locals.{Ls, none_yet, with_declared}
use Rattle.node_rules.specs.Records.{Rw, no_fields_yet, with_field}
use Rattle.pattern_rules.specs.Matching.{Cs, with_case}
use Rattle.markup_rules.specs.Laws.{Founds, attribute_terms, node_terms}
use Rattle.judged_terms.specs.Listed.{items_found, fields_found, names_found}
use Rattle.judged_terms.specs.Judge.{Judges, ElementJudges, ItemsJudge, FieldsJudge, NamesJudge, AttributesJudge, NodesJudge, LocalsJudge, BranchesJudge}
use Rattle.judged_terms.specs.Laws.{Sound, JudgedIsFound, Clean}
use Rattle.judged_terms.proofs.Basics.{untyped, as_judged}
use Rattle.judged_terms.proofs.Names.{variable_sound, top_sound, foreign_sound, basis_sound, number_sound, text_sound, fold_sound, built_sound, folder_sound}
use Rattle.judged_terms.proofs.Functions.{fn_sound, fn_con_sound, fn_guard_sound, ascribed_sound}
use Rattle.judged_terms.proofs.Calls.{Ends, Before, call_ends, term_step, con_step, guard_step, call_found}
use Rattle.judged_terms.proofs.Lets.{one_found, let_parts, name_step}
use Rattle.judged_terms.proofs.Records.{Fields, FieldsBehind, none_behind, field_step, row_parts, record_found}
use Rattle.judged_terms.proofs.Operations.{select_sound, without_sound, without_row_sound, concat_sound}
use Rattle.judged_terms.proofs.Markup.{elements, literals}
use Rattle.judged_terms.proofs.Cases.{Good, Later, none_later, case_step, case_sound}

pub not_empty : {j : Jd} {js : List Jd} → j ∷ js ≡ [] → ⊥
not_empty h = cc

clean_of : (r s : Ls) → s ≡ r → Clean s → Clean r
clean_of r s h c = subst (λ (z : Ls). Clean z) h c

none_declared : (G H : Sc) → H ≡ G → LocalsFound Covers G no_locals H
none_declared G H h = subst (λ (z : Sc). LocalsFound Covers G no_locals z) (sym h) nothing_found

mutual
  pub sound : JudgedIsFound
  sound G (node p a (bound i)) j h = as_judged j h (variable_sound G p a i)
  sound G (node p a (top i)) j h = as_judged j h (top_sound G p a i)
  sound G (node p a (foreign i)) j h = as_judged j h (foreign_sound G p a i)
  sound G (node p a (basis b)) j h = as_judged j h (basis_sound G p a b)
  sound G (node p a (fold_over k)) j h = as_judged j h (fold_sound G p a k)
  sound G (node p a (number z)) j h = as_judged j h (number_sound G p a z)
  sound G (node p a (text w)) j h = as_judged j h (text_sound G p a w)
  sound G (node p a (built s n)) j h = as_judged j h (built_sound G p a s n)
  sound G (node p a (fn q t e)) j h = fn_sound G p a q t e (λ H k. Judges H e k) j (λ H k x. sound H e k x) h
  sound G (node p a (fn_con x i w k e)) j (b, (y, h)) =
      as_judged j h (fn_con_sound G p a i w x k e b (sound (under_con x k G) e b y))
  sound G (node p a (fn_guard c d e)) j h =
      fn_guard_sound G p a c d e j (λ H k. Judges H e k) (λ H k x. sound H e k x) h
  sound G (node p a (call f s is)) j (i, js, (x, y, h)) =
      as_judged j h
      (λ t k n. call_found G p a f s is i (sound G f i x)
      (items_sound G (place_of f) (starts i) is js t y (call_ends (items_found G (place_of f) js (item_list is) (starts i)) k n)))
  sound G (node p a (let_in ls e)) j (H, r, b, (x, y, h)) =
      as_judged j h
      (λ t k n. let (c, u, m) = let_parts r b k n in let_has (locals_sound G none_yet ls H r x c).1 (sound H e b y t u m))
  sound G (node p a (case_of e q r b bs)) j (i, (x, y)) =
      case_sound G p q a e r b bs (λ t c d. BranchesJudge G t bs c d) (λ H k. Judges H b k) i j (sound G e i x)
      (λ H k z. sound H b k z) (λ t c d u z g. branches_sound G t bs c d u z g) y
  sound G (node p a (ascribed e t)) j (i, (x, h)) =
      as_judged j h (ascribed_sound G p (place_of e) a e t i (kind_is G t types) (sound G e i x))
  sound G (node p a (fields_of fs)) j (js, (x, h)) =
      as_judged j h
      (λ t k n. let (done, fields, m, i) = row_parts G p (fields_found G js (field_list fs) no_fields_yet) k n in
      record_found G p a fs (fields_sound G no_fields_yet fs js done x fields) m i)
  sound G (node p a (select e c)) j (i, (x, h)) = as_judged j h (select_sound G p (place_of e) a e c i (sound G e i x))
  sound G (node p a (concat e d)) j (i, k, (x, y, h)) =
      as_judged j h (concat_sound G p (place_of e) (place_of d) a e d i k (sound G e i x) (sound G d k y))
  sound G (node p a (without e c)) j (i, (x, h)) = as_judged j h (without_sound G p (place_of e) a e c i (sound G e i x))
  sound G (node p a (without_row e c)) j (i, (x, h)) =
      as_judged j h (without_row_sound G p (place_of e) a e c i (sound G e i x))
  sound G (node p a (folder k ps)) j h = as_judged j h (folder_sound G p a k ps)
  sound G (node p a (element m)) j h = element_sound G p a m j h
  sound G (node p a (literal c u xs)) j (js, (x, h)) =
      as_judged j h (λ t k n. literals G p a c u xs js t (nodes_sound G xs js x) k n)
  sound G (node p a (sql k es)) j (js, (x, h)) = as_judged j h untyped

  element_sound : (G : Sc) (p : Place) (a : Bool) (m : El) (j : Jd) → ElementJudges G p m j → Sound G (node p a (element m)) j
  element_sound G p a (tagged g n c u as' xs) j (js, ks, (x, y, h)) =
      λ t k l. element_has (elements G p (tagged g n c u as' xs) js ks j t (attributes_sound G as' js x) (nodes_sound G xs ks y) h k l)

  attributes_sound : (G : Sc) (as' : Ats) (js : List Jd) → AttributesJudge G as' js → Founds Covers G (attribute_terms as') js
  attributes_sound G no_attributes [] h = tt
  attributes_sound G no_attributes (j ∷ js) h = absurd (not_empty h)
  attributes_sound G (attribute p n e as') [] h = h
  attributes_sound G (attribute p n e as') (j ∷ js) (x, y) = (sound G e j x, attributes_sound G as' js y)

  nodes_sound : (G : Sc) (xs : Xs) (js : List Jd) → NodesJudge G xs js → Founds Covers G (node_terms xs) js
  nodes_sound G no_nodes [] h = tt
  nodes_sound G no_nodes (j ∷ js) h = absurd (not_empty h)
  nodes_sound G (a_node b e xs) [] h = h
  nodes_sound G (a_node b e xs) (j ∷ js) (x, y) = (sound G e j x, nodes_sound G xs js y)

  items_sound : (G : Sc) (p : Place) (r : Pa) (is : Its) (js : List Jd) (t : Cn) → ItemsJudge G is js → Ends (items_found G p js (item_list is) r) t → Before G r is t
  items_sound G p r no_items (j ∷ js) t h e = absurd (not_empty h)
  items_sound G p r no_items [] t h e = record { type = t; ends = e; leads = at_end }
  items_sound G p r (with_term f is) [] t h e = absurd h
  items_sound G p r (with_term f is) (j ∷ js) t (x, y) e =
      let z = items_sound G p (with_term_item G p (place_of f) j r) is js t y e in
      term_step G p (place_of f) f is j r (sound G f j x) z.ends z.leads
  items_sound G p r (with_con q o c is) [] t h e = absurd h
  items_sound G p r (with_con q o c is) (j ∷ js) t (x, y) e =
      let z = items_sound G p (with_con_item G p q o c r) is js t y e in
      con_step G p q o c is r z.ends z.leads
  items_sound G p r (with_guard q a is) [] t h e = absurd h
  items_sound G p r (with_guard q a is) (j ∷ js) t (x, y) e =
      let z = items_sound G p (with_guard_item G p q r) is js t y e in
      guard_step G p q a is r z.ends z.leads

  fields_sound : (G : Sc) (r : Rw) (fs : Fds) (js : List Jd) (done : List (Cn × Cn)) → FieldsJudge G fs js → Fields (fields_found G js (field_list fs) r) done → FieldsBehind G r fs done
  fields_sound G r no_fields (j ∷ js) done h f = absurd (not_empty h)
  fields_sound G r no_fields [] done h f = none_behind G r done f
  fields_sound G r (field q n e fs) [] done h f = absurd h
  fields_sound G r (field q n e fs) (j ∷ js) done (x, y) f =
      field_step G q n e fs j r (sound G e j x) (fields_sound G (with_field G q n j r) fs js done y f)

  locals_sound : (G : Sc) (r : Ls) (ls : Los) (H : Sc) (s : Ls) → LocalsJudge G r ls H s → Clean s → Clean r × LocalsFound Covers G ls H
  locals_sound G r no_locals H s (h, k) c = (clean_of r s k c, none_declared G H h)
  locals_sound G r (local_val p x w t e ls) H s (j, (y, z)) c =
      let (b, l) = locals_sound (under (t ∷ []) G) (with_declared G (type_place w p e) (place_of e) t j r) ls H s z c in
      let (a, d) = one_found G G (type_place w p e) (place_of e) t e j r (sound G e j y) b in
      (a, val_found d.kind d.found d.same l)
  locals_sound G r (local_rec ns ls) H s (js, (y, z)) c =
      let (b, l) = locals_sound (under (named_types ns) G) (names_found G js (name_list ns) r) ls H s z c in
      let (a, n) = named_sound G (under (named_types ns) G) ns js r y b in
      (a, rec_found n l)

  pub named_sound : (G H : Sc) (ns : Nms) (js : List Jd) (r : Ls) → NamesJudge H ns js → Clean (names_found G js (name_list ns) r) → Clean r × NamedFound Covers G H ns
  named_sound G H no_named (j ∷ js) r h c = absurd (not_empty h)
  named_sound G H no_named [] r h c = (c, no_name_found)
  named_sound G H (named p x w t e ns) [] r h c = absurd h
  named_sound G H (named p x w t e ns) (j ∷ js) r (y, z) c =
      name_step G H (type_place w p e) (place_of e) p x w t e ns j r (sound H e j y)
      (named_sound G H ns js (with_declared G (type_place w p e) (place_of e) t j r) z c)

  branches_sound : (G : Sc) (t : Cn) (bs : Brs) (c d : Cs) (u : Cn) → BranchesJudge G t bs c d → Good d u → Later G t bs c d u
  branches_sound G t no_branches c d u h g = none_later G t c d u h g
  branches_sound G t (branch p q e bs) c d u (x, (y, z)) g =
      case_step G t p (place_of e) q e bs (λ H k. Judges H e k) x c d u (λ H k i. sound H e k i) y
      (branches_sound G t bs (with_case G (place_of e) x c) d u z g)
