-- What is found with more asked of cover is found with less.
use Rattle.std.specs.Prelude.{List}
use Rattle.con_terms.specs.Trees.{Cn, Prs}
use Rattle.xml_trees.specs.declared.source_name.TagName.{TagName}
use Rattle.core_terms.specs.Trees.{Pt, Ex, Its, Nms, Los, Brs, Fds, El, Ats, Xs, Dt}
use Rattle.core_typing.specs.Asks.{CoverAsked}
use Rattle.core_typing.specs.Scopes.{Sc}
use Rattle.core_typing.specs.TypingLaws.{FoundAskingLess}
use Rattle.core_typing.specs.Found.{FoundBy, bound_has, top_has, foreign_has, basis_has, fold_has, number_has, text_has, built_has, fn_has, fn_con_has, fn_guard_has, call_has, let_has, case_has, ascribed_has, fields_have, select_has, concat_has, without_has, without_row_has, folder_has, element_has, Leads, at_end, past_term, past_con, past_guard, EachFound, no_branch_found, branch_found, FieldsFound, no_field_found, field_found, LocalsFound, nothing_found, val_found, rec_found, NamedFound, no_name_found, name_found, ElementFound, holding_found, words_found, empty_found, form_found, input_found, button_found, AttributesFound, no_attribute_found, attribute_found, NodesFound, no_node_found, node_found, literal_has, last_found}

-- each thing that C asks of patterns implies what D asks
abbrev Implies : CoverAsked → CoverAsked → Type 0
Implies C D = (ds : List Dt) (ps : List Pt) (u : Cn) → C ds ps u → D ds ps u

mutual
  found_less : {C D : CoverAsked} {G : Sc} {e : Ex} {t : Cn} → Implies C D → FoundBy C G e t → FoundBy D G e t
  found_less z (bound_has a) = bound_has a
  found_less z (top_has a) = top_has a
  found_less z (foreign_has a) = foreign_has a
  found_less z basis_has = basis_has
  found_less z (fold_has a) = fold_has a
  found_less z number_has = number_has
  found_less z text_has = text_has
  found_less z (built_has a b) = built_has a b
  found_less z (fn_has a b c d) = fn_has a b (z _ _ _ c) (found_less z d)
  found_less z (fn_con_has a) = fn_con_has (found_less z a)
  found_less z (fn_guard_has a b) = fn_guard_has a (found_less z b)
  found_less z (call_has a b) = call_has (found_less z a) (leads_less z b)
  found_less z (let_has a b) = let_has (locals_less z a) (found_less z b)
  found_less z (case_has a b c d e) = case_has (found_less z a) b (found_less z c) (each_less z d) (z _ _ _ e)
  found_less z (ascribed_has a b c) = ascribed_has a (found_less z b) c
  found_less z (fields_have a b) = fields_have (fields_less z a) b
  found_less z (select_has a b c d) = select_has (found_less z a) b c d
  found_less z (concat_has a b c d e) = concat_has (found_less z a) (found_less z b) c d e
  found_less z (without_has a b c d) = without_has (found_less z a) b c d
  found_less z (without_row_has a b c d) = without_row_has (found_less z a) b c d
  found_less z (folder_has a b) = folder_has a b
  found_less z (element_has a) = element_has (element_less z a)
  found_less z (literal_has a b c) = literal_has a b (nodes_less z c)

  leads_less : {C D : CoverAsked} {G : Sc} {t u : Cn} {is : Its} → Implies C D → Leads C G t is u → Leads D G t is u
  leads_less z at_end = at_end
  leads_less z (past_term a b c d) = past_term a (found_less z b) c (leads_less z d)
  leads_less z (past_con a b c) = past_con a b (leads_less z c)
  leads_less z (past_guard a b c) = past_guard a b (leads_less z c)

  each_less : {C D : CoverAsked} {G : Sc} {t u : Cn} {bs : Brs} → Implies C D → EachFound C G t bs u → EachFound D G t bs u
  each_less z no_branch_found = no_branch_found
  each_less z (branch_found a b c d) = branch_found a (found_less z b) c (each_less z d)

  pub fields_less : {C D : CoverAsked} {G : Sc} {fs : Fds} {ps : Prs} → Implies C D → FieldsFound C G fs ps → FieldsFound D G fs ps
  fields_less z no_field_found = no_field_found
  fields_less z (field_found a b c) = field_found a (found_less z b) (fields_less z c)

  locals_less : {C D : CoverAsked} {G H : Sc} {ls : Los} → Implies C D → LocalsFound C G ls H → LocalsFound D G ls H
  locals_less z nothing_found = nothing_found
  locals_less z (val_found a b c d) = val_found a (found_less z b) c (locals_less z d)
  locals_less z (rec_found a b) = rec_found (named_less z a) (locals_less z b)

  named_less : {C D : CoverAsked} {G H : Sc} {ns : Nms} → Implies C D → NamedFound C G H ns → NamedFound D G H ns
  named_less z no_name_found = no_name_found
  named_less z (name_found a b c d) = name_found a (found_less z b) c (named_less z d)

  element_less : {C D : CoverAsked} {G : Sc} {m : El} {t : Cn} → Implies C D → ElementFound C G m t → ElementFound D G m t
  element_less z (holding_found o a b c y d e f) = holding_found o a b c y d (attributes_less z e) (nodes_less z f)
  element_less z (words_found o a b y c d e f) = words_found o a b y c (attributes_less z d) e (nodes_less z f)
  element_less z (empty_found o a b y c d) = empty_found o a b y c (attributes_less z d)
  element_less z (form_found a b c y d e f) = form_found a b c y d (attributes_less z e) (nodes_less z f)
  element_less z (input_found a b y c d e) = input_found a b y c d (attributes_less z e)
  element_less z (button_found a b y c d e) = button_found a b y c (attributes_less z d) e

  attributes_less : {C D : CoverAsked} {G : Sc} {u : Cn} {g : TagName} {as' : Ats} → Implies C D → AttributesFound C G u g as' → AttributesFound D G u g as'
  attributes_less z no_attribute_found = no_attribute_found
  attributes_less z (attribute_found a b c d e f) = attribute_found a (found_less z b) c d e (attributes_less z f)

  pub nodes_less : {C D : CoverAsked} {G : Sc} {c u b : Cn} {xs : Xs} → Implies C D → NodesFound C G c u xs b → NodesFound D G c u xs b
  nodes_less z no_node_found = no_node_found
  nodes_less z (last_found a b c) = last_found a (found_less z b) c
  nodes_less z (node_found a b c d e f) = node_found a (found_less z b) c d (nodes_less z e) f

pub found_asking_less : FoundAskingLess
found_asking_less G e t h = found_less (λ ds ps u c. tt) h
