-- A term that is found to have a type has it.
use Rattle.con_terms.specs.Trees.{Cn, Prs, record_of, cat}
use Rattle.con_terms.specs.Equal.{Equal, same, back, step, in_app, in_record, in_cat, in_row, one_pair, none_pairs}
use Rattle.con_terms.specs.Apart.{Guards, Apart, apart}
use Rattle.row_normal.specs.Ordered.{ordered}
use Rattle.row_normal.proofs.OrderEqual.{ordered_equal}
use Rattle.xml_trees.specs.declared.source_name.TagName.{TagName}
use Rattle.core_terms.specs.Trees.{Ex, Its, Nms, Los, Brs, Fds, El, Ats, Xs}
use Rattle.core_terms.specs.Types.{one_field, xml_of}
use Rattle.core_typing.specs.Scopes.{Sc}
use Rattle.core_typing.specs.Asks.{Asks, CoverAsked, asking_cover}
use Rattle.core_typing.specs.Typed.{Typed, by_equal, of_bound, of_top, of_foreign, of_basis, of_fold, of_number, of_text, of_built, of_fn, of_fn_con, of_fn_guard, of_call, of_let, of_case, of_ascribed, of_fields, of_select, of_concat, of_without, of_without_row, of_folder, of_element, Applies, to_nothing, to_equal, to_term, to_con, to_guard, EachTyped, no_branch, each_branch, FieldsTyped, no_field, each_field, Declares, nothing, one_name, names_together, NamedTyped, no_name, each_name, ElementTyped, of_holding, of_words_alone, of_empty, of_form, of_input, of_button, AttributesTyped, no_attribute, each_attribute, NodesTyped, no_node, each_node, of_literal, last_node}
use Rattle.core_typing.specs.Found.{FoundBy, bound_has, top_has, foreign_has, basis_has, fold_has, number_has, text_has, built_has, fn_has, fn_con_has, fn_guard_has, call_has, let_has, case_has, ascribed_has, fields_have, select_has, concat_has, without_has, without_row_has, folder_has, element_has, Leads, at_end, past_term, past_con, past_guard, EachFound, no_branch_found, branch_found, FieldsFound, no_field_found, field_found, LocalsFound, nothing_found, val_found, rec_found, NamedFound, no_name_found, name_found, ElementFound, holding_found, words_found, empty_found, form_found, input_found, button_found, AttributesFound, no_attribute_found, attribute_found, NodesFound, no_node_found, node_found, literal_has, last_found}
use Rattle.core_typing.proofs.Normal.{normal_equal, first_form, second_equal, alike_equal, disjoint_apart, field_equal, field_left, part_left}
use Rattle.core_typing.proofs.Judging.{has_kind, guard_sides, folder_there}
use Rattle.core_typing.proofs.LargerScopes.{typed_under_equal_guard}
use Rattle.core_typing.proofs.Matched.{pattern_typed}

-- a record with a field of a name
field_of : {t r c n v : Cn} {rest : Cn} → Equal t (record_of r) → Equal c n → Equal r (cat (one_field n v) rest) → Equal t (record_of (cat (one_field c v) rest))
field_of h k e = step h (in_record (step e (in_cat (in_row (one_pair (back k) same none_pairs)) same)))

-- the tree that a node wants, where another equal row is filled before
wanted_tree : {c u v b : Cn} → Equal v u → Equal (xml_of c u b) (xml_of c v b)
wanted_tree h = in_app (in_app same (back h)) same

apart_along : {gs : Guards} {a b m n : Cn} → Equal a m → Equal b n → Apart gs m n → Apart gs a b
apart_along h k (apart p q s) = apart (step h p) (step k q) s

-- rows that are put together, and the same in order
put_in_order : {a b m n : Cn} → Equal a m → Equal b n → Equal (cat a b) (ordered (cat m n))
put_in_order {m = m} {n = n} h k = step (in_cat h k) (ordered_equal (cat m n))

-- an element and nodes are typed with an equal type, and with equal fills
record ElementIs (A : Asks) (G : Sc) (m : El) (t : Cn) : Type 0 where
  pub own_type : Cn
  pub of_type : ElementTyped A G m own_type
  pub equal : Equal own_type t

record NodesAre (A : Asks) (G : Sc) (c u : Cn) (xs : Xs) (b : Cn) : Type 0 where
  pub fills : Cn
  pub filled : NodesTyped A G c u xs fills
  pub equal : Equal fills b

mutual
  pub found_typed : {C : CoverAsked} {G : Sc} {e : Ex} {t : Cn} → FoundBy C G e t → Typed (asking_cover C) G e t
  found_typed (bound_has h) = of_bound h
  found_typed (top_has h) = of_top h
  found_typed (foreign_has h) = of_foreign h
  found_typed basis_has = of_basis
  found_typed {G = G} (fold_has {k = k} {s = s} h) = of_fold (folder_there G.folders k s h)
  found_typed number_has = of_number
  found_typed text_has = of_text
  found_typed (built_has h k) = of_built h k
  found_typed (fn_has k q c e) = of_fn (has_kind k) (pattern_typed q) c (found_typed e)
  found_typed (fn_con_has e) = of_fn_con (found_typed e)
  found_typed {G = G} (fn_guard_has {c = c} {d = d} {m = m} {n = n} h e) = let w = guard_sides G.kinds c d m n h in of_fn_guard w.left w.right (typed_under_equal_guard w.left_form w.right_form (found_typed e))
  found_typed (call_has f is) = of_call (found_typed f) (leads_applies is)
  found_typed (let_has ls e) = of_let (locals_declare ls) (found_typed e)
  found_typed (case_has e q b bs c) = of_case (found_typed e) (pattern_typed q) (found_typed b) (each_typed bs) c
  found_typed (ascribed_has k e h) = of_ascribed (has_kind k) (by_equal (found_typed e) (back (alike_equal h)) tt)
  found_typed (fields_have fs k) = of_fields (fields_typed fs) (has_kind k)
  found_typed (select_has {c = c} {n = x} {t = t} {r = r} {v = v} {rest = rest} e n k h) = of_select (has_kind k) (by_equal (found_typed e) (field_of (normal_equal (first_form t c n)) (second_equal t c n) (field_equal r x v rest h)) tt)
  found_typed (concat_has e d n m h) = of_concat (by_equal (found_typed e) (normal_equal n) tt) (by_equal (found_typed d) (normal_equal m) tt) (disjoint_apart h)
  found_typed (without_has {c = c} {n = x} {t = t} {r = r} {v = v} {rest = rest} e n k h) = of_without (has_kind k) (by_equal (found_typed e) (field_of (normal_equal (first_form t c n)) (second_equal t c n) (field_left r x v rest h)) tt)
  found_typed (without_row_has {c = c} {n = x} {t = t} {r = r} {rest = rest} e n k h) = of_without_row (has_kind k) (by_equal (found_typed e) (step (normal_equal (first_form t c n)) (in_record (step (part_left r x rest h) (in_cat (back (second_equal t c n)) same)))) tt)
  found_typed {G = G} (folder_has {k = k} {s = s} h x) = of_folder (folder_there G.folders k s h) (has_kind x)
  found_typed (element_has m) = let r = element_typed m in by_equal (of_element r.of_type) r.equal tt
  found_typed (literal_has k l xs) = let r = nodes_typed xs same in by_equal (of_literal (has_kind k) (has_kind l) r.filled tt) (in_app same r.equal) tt

  leads_applies : {C : CoverAsked} {G : Sc} {t u : Cn} {is : Its} → Leads C G t is u → Applies (asking_cover C) G t is u
  leads_applies at_end = to_nothing
  leads_applies (past_term n e h is) = to_equal (normal_equal n) tt (to_term (by_equal (found_typed e) (back (alike_equal h)) tt) (leads_applies is))
  leads_applies (past_con n k is) = to_equal (normal_equal n) tt (to_con (has_kind k) (leads_applies is))
  leads_applies (past_guard n d is) = to_equal (normal_equal n) tt (to_guard (disjoint_apart d) tt (leads_applies is))

  each_typed : {C : CoverAsked} {G : Sc} {t u : Cn} {bs : Brs} → EachFound C G t bs u → EachTyped (asking_cover C) G t bs u
  each_typed no_branch_found = no_branch
  each_typed (branch_found q e h bs) = each_branch (pattern_typed q) (by_equal (found_typed e) (back (alike_equal h)) tt) (each_typed bs)

  fields_typed : {C : CoverAsked} {G : Sc} {fs : Fds} {ps : Prs} → FieldsFound C G fs ps → FieldsTyped (asking_cover C) G fs ps
  fields_typed no_field_found = no_field
  fields_typed (field_found k e fs) = each_field (has_kind k) (found_typed e) (fields_typed fs)

  locals_declare : {C : CoverAsked} {G H : Sc} {ls : Los} → LocalsFound C G ls H → Declares (asking_cover C) G ls H
  locals_declare nothing_found = nothing
  locals_declare (val_found k e h ls) = one_name (has_kind k) (by_equal (found_typed e) (back (alike_equal h)) tt) (locals_declare ls)
  locals_declare (rec_found ns ls) = names_together (named_typed ns) (locals_declare ls)

  pub named_typed : {C : CoverAsked} {G H : Sc} {ns : Nms} → NamedFound C G H ns → NamedTyped (asking_cover C) G H ns
  named_typed no_name_found = no_name
  named_typed (name_found k e h ns) = each_name (has_kind k) (by_equal (found_typed e) (back (alike_equal h)) tt) (named_typed ns)

  element_typed : {C : CoverAsked} {G : Sc} {m : El} {t : Cn} → ElementFound C G m t → ElementIs (asking_cover C) G m t
  element_typed (holding_found o s i h y k as' xs) = let r = nodes_typed xs same in record { own_type = _; of_type = of_holding o s i (back (alike_equal h)) (has_kind y) (has_kind k) (attributes_typed as') r.filled tt; equal = in_app same r.equal }
  element_typed (words_found o s h y k as' w xs) = let r = nodes_typed xs same in record { own_type = _; of_type = of_words_alone o s (back (alike_equal h)) (has_kind y) (has_kind k) (attributes_typed as') w r.filled tt; equal = in_app same r.equal }
  element_typed (empty_found o s h y k as') = record { own_type = _; of_type = of_empty o s (back (alike_equal h)) (has_kind y) (has_kind k) (attributes_typed as') tt; equal = same }
  element_typed (form_found s h k y l as' xs) = let r = nodes_typed xs same in record { own_type = _; of_type = of_form s (back (alike_equal h)) (back (alike_equal k)) (has_kind y) (has_kind l) (attributes_typed as') r.filled tt; equal = same }
  element_typed (input_found s h y k l as') = record { own_type = _; of_type = of_input s (back (alike_equal h)) (has_kind y) (has_kind k) (has_kind l) (attributes_typed as') tt; equal = same }
  element_typed (button_found s h y k as' a) = record { own_type = _; of_type = of_button s (back (alike_equal h)) (has_kind y) (has_kind k) (attributes_typed as') a tt; equal = same }

  attributes_typed : {C : CoverAsked} {G : Sc} {u : Cn} {g : TagName} {as' : Ats} → AttributesFound C G u g as' → AttributesTyped (asking_cover C) G u g as'
  attributes_typed no_attribute_found = no_attribute
  attributes_typed (attribute_found a e h l o as') = each_attribute a (by_equal (found_typed e) (back (alike_equal h)) tt) l o (attributes_typed as')

  nodes_typed : {C : CoverAsked} {G : Sc} {c u v b : Cn} {xs : Xs} → NodesFound C G c u xs b → Equal v u → NodesAre (asking_cover C) G c v xs b
  nodes_typed no_node_found i = record { fills = _; filled = no_node; equal = same }
  nodes_typed (last_found k e h) i = record {
    fills = _;
    filled = last_node (has_kind k) (by_equal (found_typed e) (step (back (alike_equal h)) (wanted_tree i)) tt);
    equal = same;
  }
  nodes_typed (node_found k e h a xs b) i =
      let r = nodes_typed xs (put_in_order i same) in
      record {
        fills = _;
        filled = each_node (has_kind k) (by_equal (found_typed e) (step (back (alike_equal h)) (wanted_tree i)) tt) (apart_along i same (disjoint_apart a)) r.filled (apart_along same r.equal (disjoint_apart b));
        equal = put_in_order same r.equal;
      }
