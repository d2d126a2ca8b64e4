-- What is told of a term excludes that it is found with cover.
use Rattle.std.proofs.Common.{◌≡◌, ℕ, Bool, true, false, List, [], ◌∷◌, Option, Some, None, Result, Ok, Err, refl, ap, ap₂, sym, ◌∙◌, subst, subst₂}
use Rattle.con_terms.specs.Trees.{Kd, types, row_of, Cn, Prs}
use Rattle.con_terms.specs.Substitution.{subst as put}
use Rattle.con_terms.specs.Apart.{Guards}
use Rattle.con_terms.specs.declared.place.Place.{Place}
use Rattle.row_normal.specs.Ordered.{ordered_pieces}
use Rattle.row_normal.specs.NormalForm.{nf}
use Rattle.kind_rules.specs.Flaws.{Flw}
use Rattle.kind_rules.specs.Compared.{comparison_units, normal_forms, with_second, forms_flaw}
use Rattle.xml_trees.specs.declared.source_name.TagName.{TagName}
use Rattle.xml_trees.specs.declared.source_name.TagName.TheVariants as tag
use Rattle.xml_trees.specs.declared.source_name.AttrName.{AttrName}
use Rattle.core_terms.specs.Trees.{Pt, Pfs, Ex, Its, Nms, Los, Brs, Fds, El, Ats, Xs, Cd, Dt}
use Rattle.core_terms.specs.Types.{type_row, xml_of}
use Rattle.core_terms.specs.Datatypes.{held_at}
use Rattle.core_typing.specs.Scopes.{Sc, under, normal_of}
use Rattle.core_typing.specs.Seen.{a_datatype, seen}
use Rattle.core_typing.specs.Cover.{Covers}
use Rattle.core_terms.specs.Markup.{Where, in_html, in_head, in_body, in_table, in_tr, context_row, MayBeInForm, Sort, holding, of_words, stands, sort_of}
use Rattle.core_typing.specs.Typed.{IsCallOf, alone, applied, IsLinked, as_link, as_action, HasAttribute, NodesAreWords}
use Rattle.core_typing.specs.Typed as typed
use Rattle.core_typing.specs.Compared.{Alike, Differ, Large, Disjoint, field_of, without_pieces}
use Rattle.core_typing.specs.Judged.{HasKind, has, LacksKind, lacks}
use Rattle.core_typing.specs.Faults.{Fault}
use Rattle.core_typing.specs.PatternFaults.{Constructs, AtData, PatFound, any_binds, binds_one, number_binds, text_binds, bare_binds, holding_binds, fields_bind, more_fields_bind, annotated_binds, PatFieldsFound, none_bind, one_binds, PatFault, PatFieldsFault}
use Rattle.core_typing.specs.PatternFaults as pat
use Rattle.core_typing.specs.Found.{FoundBy, Found, bound_has, top_has, foreign_has, fold_has, built_has, fn_has, fn_guard_has, call_has, let_has, case_has, ascribed_has, fields_have, select_has, concat_has, without_has, without_row_has, folder_has, element_has, Leads, past_term, past_con, past_guard, EachFound, branch_found, FieldsFound, field_found, LocalsFound, val_found, rec_found, NamedFound, name_found, ElementFound, holding_found, words_found, empty_found, form_found, input_found, button_found, AttributesFound, attribute_found, NodesFound, node_found, literal_has, last_found}
use Rattle.core_typing.specs.Own.{Wants, other, large, NotOf, other_form, large_form, IsFunction, IsPoly, IsGuarded, IsRecord, Meets, they_touch, they_are_large, Uncovered, misses, large_part, CallsTop, top_alone, top_called, NotLinked, ItemFault, NamedFault, LocalFault, BranchFault, BranchDiffers, FieldFault, AttributeFault, SecondAt, AttributeTwice, NodeFault, NotWords, this_node, later_words, StandsEitherWay, ElementFault, Own}
use Rattle.core_typing.specs.Own as own
use Rattle.core_typing.proofs.Normal.{first_form, same_second}
use Rattle.core_typing.proofs.OneType.{one_value, one_answer, one_record, other_sort, one_constructor, held_alike, one_pattern, one_left, one_found, one_nodes, one_row, one_result, one_argument, one_body, one_kind_asked, one_behind, one_left_side, one_right_side}

-- one of two answers
no_value : {X : Type 0} {o : Option X} {x : X} → o ≡ None → o ≡ Some x → ⊥
no_value h k = let e = sym h ∙ k in cc

no_error : {X : Type 0} {r : Result X Flw} {x : X} {w : Flw} → r ≡ Ok x → r ≡ Err w → ⊥
no_error h k = let e = sym h ∙ k in cc

-- comparisons
both_alike : {k m n : Cn} → ◌≡◌ {A = Cn × Cn} (k, k) (m, n) → m ≡ n
both_alike e = sym (ap (λ (x : Cn × Cn). x.0) e) ∙ ap (λ (x : Cn × Cn). x.1) e

pub differ_out : {t u m n : Cn} → Alike t u → Differ t u m n → ⊥
differ_out a d = d.differ (both_alike (one_answer a.forms d.normal))

pub large_out : {t u : Cn} → Alike t u → Large t u → ⊥
large_out a l = no_error a.forms l

pub wants_out : {G : Sc} {p : Place} {t u : Cn} {f : Fault} → Alike t u → Wants G p t u f → ⊥
wants_out a (other d) = differ_out a d
wants_out a (large l) = large_out a l

alike_both : {a b c d : Cn} → a ≡ c → b ≡ d → Alike c d → Alike a b
alike_both p q x = subst₂ (λ y z. Alike y z) (sym p) (sym q) x

disjoint_both : {gs : Guards} {a b c d : Cn} → a ≡ c → b ≡ d → Disjoint gs c d → Disjoint gs a b
disjoint_both {gs} p q x = subst₂ (λ y z. Disjoint gs y z) (sym p) (sym q) x

covers_both : {ds : List Dt} {ps : List Pt} {t u : Cn} → t ≡ u → Covers ds ps u → Covers ds ps t
covers_both {ds} {ps} p x = subst (λ y. Covers ds ps y) (sym p) x

pub form_out : {F : Cn → Type 0} {G : Sc} {p : Place} {w t n : Cn} {f : Fault} → NotOf F G p w t f → normal_of t ≡ Some n → F n → ⊥
form_out {F = F} (other_form h none) k x = none (subst F (one_value k h) x)
form_out (large_form h) k x = no_value h k

pub kind_out : {G : Sc} {p : Place} {c : Cn} {k : Kd} {f : Fault} → HasKind G c k → LacksKind G p c k f → ⊥
kind_out (has h) (lacks e) = no_error h e

pub meets_out : {G : Sc} {p : Place} {a b : Cn} {f : Fault} → Disjoint G.kinds.guards a b → Meets G p a b f → ⊥
meets_out d (they_touch t) = no_value d.none_touch t
meets_out {G} {a = a} {b = b} d (they_are_large l) = no_value d.none_touch (ap (forms_flaw G.kinds.guards) l)

pub cover_out : {G : Sc} {p : Place} {ps : List Pt} {t : Cn} {f : Fault} → Covers G.datatypes ps t → Uncovered G p ps t f → ⊥
cover_out c (misses {s = s} small m) = let e = sym m.missed ∙ c.taken s m.shape in cc
cover_out c (large_part l) = c.small l

-- patterns
pub other_out : {G : Sc} {s j i : ℕ} {t n : Cn} {d : Dt} {c b : Cd} {args : List Cn} → Constructs G s i d b → normal_of t ≡ Some n → ((as' : List Cn) → seen G.datatypes n ≡ a_datatype d as' → ⊥) → AtData G s j t c args → ⊥
other_out {G} {args = args} x h none a =
    let d = one_value a.constructs.declared x.declared in
    let n = one_value a.normal h in
    none args (sym (ap (seen G.datatypes) n) ∙ a.at_datatype ∙ ap (λ e. a_datatype e args) d)

pub holds_out : {G : Sc} {s j : ℕ} {t held : Cn} {c b : Cd} {args more : List Cn} → AtData G s j t c args → AtData G s j t b more → c.holds ≡ Some held → b.holds ≡ None → ⊥
holds_out x y h k = let (e, a) = one_constructor x y in no_value (ap (λ (z : Cd). z.holds) e ∙ k) h

pub none_left : {c : Cn} {cs : List Cn} → c ∷ cs ≡ [] → ⊥
none_left e = cc

mutual
  pattern_out : {G : Sc} {q : Pt} {t : Cn} {ts : List Cn} {f : Fault} → PatFault G q t f → PatFound G q t ts → ⊥
  pattern_out (pat.bad_kind f) (binds_one k h) = kind_out k f
  pattern_out (pat.other_type l d) (binds_one k h) = differ_out h d
  pattern_out (pat.large_type l d) (binds_one k h) = large_out h d
  pattern_out (pat.no_number d) (number_binds h) = differ_out h d
  pattern_out (pat.large_number l) (number_binds h) = large_out h l
  pattern_out (pat.no_text d) (text_binds h) = differ_out h d
  pattern_out (pat.large_text l) (text_binds h) = large_out h l
  pattern_out (pat.no_bare e) (bare_binds {c = c} a h) = e a.d c a.constructs
  pattern_out (pat.no_holding e) (holding_binds {c = c} a h q) = e a.d c a.constructs
  pattern_out (pat.other_bare x n e) (bare_binds a h) = other_out x n e a
  pattern_out (pat.other_holding x n e) (holding_binds a h q) = other_out x n e a
  pattern_out (pat.large_bare n) (bare_binds a h) = no_value n a.normal
  pattern_out (pat.large_holding n) (holding_binds a h q) = no_value n a.normal
  pattern_out (pat.holds_more a h d e) (bare_binds b g) = holds_out a b h g
  pattern_out (pat.holds_too_much a h d) (bare_binds b g) = holds_out a b h g
  pattern_out (pat.holds_less a h n) (holding_binds b g q) = holds_out b a g h
  pattern_out {G} (pat.in_held {held = m} {f = f} a h q) (holding_binds {ts = ts} {q = r} b g x) =
      let (c, as') = one_constructor a b in
      pattern_out q (subst (λ t. PatFound G r t ts) (sym (ap₂ held_at as' (held_alike c h g))) x)
  pattern_out (pat.no_record {n = n} e d) (fields_bind {r = r} h fs) = d r (one_value e h)
  pattern_out (pat.no_record {n = n} e d) (more_fields_bind {r = r} h fs) = d r (one_value e h)
  pattern_out (pat.large_record n) (fields_bind h fs) = no_value n h
  pattern_out (pat.large_record n) (more_fields_bind h fs) = no_value n h
  pattern_out {G} (pat.in_fields n f) (fields_bind {fs = fs} {ts = ts} h x) = fields_pattern_out f (subst (λ r. PatFieldsFound G fs (ordered_pieces r) [] ts) (sym (one_record n h)) x)
  pattern_out {G} (pat.in_fields n f) (more_fields_bind {fs = fs} {rest = rest} {ts = ts} h x) = fields_pattern_out f (subst (λ r. PatFieldsFound G fs (ordered_pieces r) rest ts) (sym (one_record n h)) x)
  pattern_out {G} (pat.fields_left n f) (fields_bind {fs = fs} {ts = ts} h x) = none_left (one_left f (subst (λ r. PatFieldsFound G fs (ordered_pieces r) [] ts) (sym (one_record n h)) x))
  pattern_out (pat.bad_annotation f) (annotated_binds k h q) = kind_out k f
  pattern_out (pat.other_annotation l d) (annotated_binds k h q) = differ_out h d
  pattern_out (pat.large_annotation l d) (annotated_binds k h q) = large_out h d
  pattern_out (pat.in_annotated l f) (annotated_binds k h q) = pattern_out f q

  fields_pattern_out : {G : Sc} {fs : Pfs} {ps rs ts : List Cn} {f : Fault} → PatFieldsFault G fs ps f → PatFieldsFound G fs ps rs ts → ⊥
  fields_pattern_out (pat.bad_name f) (one_binds k n p q fs) = kind_out k f
  fields_pattern_out (pat.large_name e) (one_binds k n p q fs) = no_value e n
  fields_pattern_out (pat.no_field {ps = ps} l m e) (one_binds k n p q fs) = no_value (ap (λ x. field_of x ps) (one_value n m) ∙ e) p
  fields_pattern_out {G} (pat.in_field {ps = ps} l m r f) (one_binds {q = q} {ts = ts} k n p x fs) =
      pattern_out f (subst (λ (y : Cn × List Cn). PatFound G q y.0 ts) (one_value p (ap (λ z. field_of z ps) (one_value n m) ∙ r)) x)
  fields_pattern_out {G} (pat.in_later_field {fs = gs} {ps = ps} l m r f) (one_binds {rs = rs} {us = us} k n p x fs) =
      fields_pattern_out f (subst (λ (y : Cn × List Cn). PatFieldsFound G gs y.1 rs us) (one_value p (ap (λ z. field_of z ps) (one_value n m) ∙ r)) fs)

-- calls, declarations, branches, fields
items_out : {G : Sc} {at : Place} {t u v : Cn} {is : Its} {f : Fault} → ItemFault G at t is f → Leads Covers G u is v → t ≡ u → ⊥
items_out (own.no_function h) (past_term {u = u} {d = d} n e a is) i = form_out h (ap normal_of i ∙ n) (u, d, refl)
items_out (own.argument m g w) (past_term n e a is) i =
    wants_out (alike_both (one_argument (one_value m (ap normal_of i ∙ n))) (one_found g e) a) w
items_out (own.after_term m g b f) (past_term n e a is) i = items_out f is (one_result (one_value m (ap normal_of i ∙ n)))
items_out (own.no_poly h) (past_con {i = b} {k = k} {d = d} n x is) i = form_out h (ap normal_of i ∙ n) (b, k, d, refl)
items_out {G} (own.constructor_kind m f) (past_con {c = c} n x is) i = kind_out (subst (λ k. HasKind G c k) (sym (one_kind_asked (one_value m (ap normal_of i ∙ n)))) x) f
items_out (own.after_con {c = c} m x f) (past_con n y is) i = items_out f is (ap (λ b. put b c) (one_body (one_value m (ap normal_of i ∙ n))))
items_out (own.no_guard h) (past_guard {c = c} {d = d} {b = b} n x is) i = form_out h (ap normal_of i ∙ n) (c, d, b, refl)
items_out (own.guard_fails m f) (past_guard n x is) i =
    let e = one_value m (ap normal_of i ∙ n) in
    meets_out (disjoint_both (one_left_side e) (one_right_side e) x) f
items_out (own.after_guard m d f) (past_guard n x is) i = items_out f is (one_behind (one_value m (ap normal_of i ∙ n)))

-- a type that is found is alike, also where it is found again
pub alike_found : {G : Sc} {e : Ex} {t u v : Cn} → Found G e u → FoundBy Covers G e v → Alike t v → Alike t u
alike_found {t = t} g e a = subst (λ x. Alike t x) (sym (one_found g e)) a

pub named_out : {G H : Sc} {ns : Nms} {f : Fault} → NamedFault G H ns f → NamedFound Covers G H ns → ⊥
named_out (own.name_kind f) (name_found k e a ns) = kind_out k f
named_out (own.name_type l g w) (name_found k e a ns) = wants_out (alike_found g e a) w
named_out (own.later_name f) (name_found k e a ns) = named_out f ns

locals_out : {G H : Sc} {ls : Los} {f : Fault} → LocalFault G ls f → LocalsFound Covers G ls H → ⊥
locals_out (own.val_kind f) (val_found k e a ls) = kind_out k f
locals_out (own.val_type l g w) (val_found k e a ls) = wants_out (alike_found g e a) w
locals_out (own.after_val f) (val_found k e a ls) = locals_out f ls
locals_out (own.in_rec f) (rec_found ns ls) = named_out f ns
locals_out (own.after_rec f) (rec_found ns ls) = locals_out f ls

branches_out : {G : Sc} {t v u : Cn} {bs : Brs} {f : Fault} → BranchFault G t bs f → EachFound Covers G v bs u → t ≡ v → ⊥
branches_out {G} (own.branch_pattern f) (branch_found {q = q} {ts = ts} p e a bs) i = pattern_out f (subst (λ t. PatFound G q t ts) (sym i) p)
branches_out (own.later_pattern f) (branch_found p e a bs) i = branches_out f bs i

bodies_out : {G : Sc} {t v u w : Cn} {bs : Brs} {f : Fault} → BranchDiffers G t u bs f → EachFound Covers G v bs w → t ≡ v → u ≡ w → ⊥
bodies_out {G} (own.this_differs {e = e} p g h) (branch_found {v = y} {q = q} {ts = ts} r d a bs) i j =
    let l = one_pattern p (subst (λ t. PatFound G q t ts) (sym i) r) in
    wants_out (alike_both j refl (alike_found g (subst (λ us. FoundBy Covers (under us G) e y) (sym l) d) a)) h
bodies_out (own.later_differs f) (branch_found r d a bs) i j = bodies_out f bs i j

fields_out : {G : Sc} {fs : Fds} {ps : Prs} {f : Fault} → FieldFault G fs f → FieldsFound Covers G fs ps → ⊥
fields_out (own.field_kind f) (field_found k e fs) = kind_out k f
fields_out (own.later_field f) (field_found k e fs) = fields_out f fs

-- attributes
is_call : {e : Ex} {i n : ℕ} → IsCallOf e i n → CallsTop e
is_call alone = top_alone
is_call (applied is) = top_called

linked_out : {G : Sc} {p : Place} {n : AttrName} {t v : Cn} {e : Ex} {f : Fault} → NotLinked G p n t e f → FoundBy Covers G e v → Alike t v → IsLinked G n e → ⊥
linked_out (own.link_calls_none none) h a (as_link c i s) = none (is_call c)
linked_out (own.action_calls_none none) h a (as_action c i s) = none (is_call c)
linked_out (own.link_lacks c g none m) h a l = none (alike_found g h a)
linked_out (own.action_has_all c g none m d x) h a l = none (alike_found g h a)
linked_out (own.action_lacks c g none m n) h a l = none (alike_found g h a)
linked_out (own.cannot_travel c g none m x) h a l = none (alike_found g h a)
linked_out (own.not_carried c g b none) h a l = none l

pub second_there : {n : AttrName} {as' : Ats} {f : Fault} → SecondAt n as' f → HasAttribute as' n
second_there own.here = typed.first
second_there (own.further h) = typed.later (second_there h)

twice_out : {G : Sc} {u : Cn} {g : TagName} {as' : Ats} {f : Fault} → AttributeTwice as' f → AttributesFound Covers G u g as' → ⊥
twice_out (own.second_of h) (attribute_found a e b l none as') = none (second_there h)
twice_out (own.later_twice h) (attribute_found a e b l none as') = twice_out h as'

attributes_out : {G : Sc} {u : Cn} {g : TagName} {as' : Ats} {f : Fault} → AttributeFault G u g as' f → AttributesFound Covers G u g as' → ⊥
attributes_out (own.no_attribute h) (attribute_found a e b l o as') = no_value h a
attributes_out (own.attribute_differs {v = v} h g w) (attribute_found a e b l o as') = wants_out (subst (λ t. Alike t v) (one_value a h) (alike_found g e b)) w
attributes_out (own.not_linked h n) (attribute_found {v = v} a e b l o as') = linked_out n e (subst (λ t. Alike t v) (one_value a h) b) l
attributes_out (own.later_attribute f) (attribute_found a e b l o as') = attributes_out f as'

-- nodes
pub words_out : {xs : Xs} {e : Ex} → NotWords xs e → NodesAreWords xs → ⊥
words_out (this_node none) w = none w.0
words_out (later_words h d) w = words_out d w.1

nodes_out : {G : Sc} {c d u b : Cn} {xs : Xs} {f : Fault} → NodeFault G c u xs f → NodesFound Covers G d u xs b → c ≡ d → ⊥
nodes_out (own.fills_kind f) (last_found k e a) i = kind_out k f
nodes_out (own.fills_kind f) (node_found k e a h xs j) i = kind_out k f
nodes_out (own.other_place {u = u} {b = b} l g w) (last_found k e a) i = wants_out (alike_both (ap (λ y. xml_of y u b) i) (one_found g e) a) w
nodes_out (own.other_place {u = u} {b = b} l g w) (node_found k e a h xs j) i = wants_out (alike_both (ap (λ y. xml_of y u b) i) (one_found g e) a) w
nodes_out (own.filled_before l f) (node_found k e a h xs j) i = meets_out h f
nodes_out (own.filled_behind l ys f) (node_found k e a h xs j) i = meets_out (disjoint_both refl (one_nodes ys xs) j) f
nodes_out (own.later_node l f) (node_found k e a h ys j) i = nodes_out f ys i

-- where tags stand
words_stand : (g : TagName) → sort_of g ≡ of_words → stands g ≡ in_head
words_stand tag.Head h = cc
words_stand tag.Body h = cc
words_stand tag.Title h = refl
words_stand tag.P h = cc
words_stand tag.Div h = cc
words_stand tag.Span h = cc
words_stand tag.B h = cc
words_stand tag.I h = cc
words_stand tag.Em h = cc
words_stand tag.Strong h = cc
words_stand tag.H1 h = cc
words_stand tag.H2 h = cc
words_stand tag.H3 h = cc
words_stand tag.H4 h = cc
words_stand tag.Ul h = cc
words_stand tag.Ol h = cc
words_stand tag.Li h = cc
words_stand tag.Code h = cc
words_stand tag.Blockquote h = cc
words_stand tag.Br h = cc
words_stand tag.Hr h = cc
words_stand tag.A h = cc
words_stand tag.Img h = cc
words_stand tag.Table h = cc
words_stand tag.Tr h = cc
words_stand tag.Th h = cc
words_stand tag.Td h = cc
words_stand tag.Form h = cc
words_stand tag.Textbox h = cc
words_stand tag.Password h = cc
words_stand tag.Hidden h = cc
words_stand tag.Checkbox h = cc
words_stand tag.Submit h = cc

one_place : {x : Sort} {w v : Where} → x ≡ holding w → x ≡ holding v → w ≡ v
one_place h k = let e = sym h ∙ k in cc

head_alike : (w : Where) (o q : Bool) → w ≡ in_head → context_row w o ≡ context_row w q
head_alike w o q i = ap (λ v. context_row v o) i ∙ sym (ap (λ v. context_row v q) i)

-- a context with a form around it isn't one without
pub second_is : (m : Cn) (o : Option (Cn × ℕ)) (n : Cn) → with_second m o ≡ Ok (n, n) → elim o [ None ↦ None | Some r ↦ Some r.0 ] ≡ Some m
second_is m None n e = cc
second_is m (Some r) n e = ap (λ x. Some x) (sym (both_parts (one_answer {r = Ok (m, r.0)} refl e)))
  where
    both_parts : ◌≡◌ {A = Cn × Cn} (m, r.0) (n, n) → m ≡ r.0
    both_parts i = ap (λ (x : Cn × Cn). x.0) i ∙ sym (ap (λ (x : Cn × Cn). x.1) i)

pub context_form : (w : Where) (o : Bool) (c : Cn) → Alike (context_row w o) c → normal_of c ≡ Some (context_row w o)
unfolding comparison_units
context_form in_html o c a = second_is (context_row in_html false) (nf comparison_units c) a.form a.forms
context_form in_head o c a = second_is (context_row in_head false) (nf comparison_units c) a.form a.forms
context_form in_body false c a = second_is (context_row in_body false) (nf comparison_units c) a.form a.forms
context_form in_body true c a = second_is (context_row in_body true) (nf comparison_units c) a.form a.forms
context_form in_table false c a = second_is (context_row in_table false) (nf comparison_units c) a.form a.forms
context_form in_table true c a = second_is (context_row in_table true) (nf comparison_units c) a.form a.forms
context_form in_tr false c a = second_is (context_row in_tr false) (nf comparison_units c) a.form a.forms
context_form in_tr true c a = second_is (context_row in_tr true) (nf comparison_units c) a.form a.forms

pub differ_by_form : (w : Where) → MayBeInForm w true → context_row w false ≡ context_row w true → ⊥
differ_by_form in_html m e = m
differ_by_form in_head m e = m
differ_by_form in_body m e = cc
differ_by_form in_table m e = cc
differ_by_form in_tr m e = cc

same_flag : (w : Where) (o q : Bool) (c : Cn) → MayBeInForm w o → MayBeInForm w q → Alike (context_row w o) c → Alike (context_row w q) c → o ≡ q
same_flag w false false c i j a b = refl
same_flag w true true c i j a b = refl
same_flag w false true c i j a b = absurd (differ_by_form w j (one_value (context_form w false c a) (context_form w true c b)))
same_flag w true false c i j a b = absurd (differ_by_form w i (one_value (context_form w false c b) (context_form w true c a)))

-- elements
element_out : {G : Sc} {p : Place} {m : El} {t : Cn} {f : Fault} → ElementFault G p m f → ElementFound Covers G m t → ⊥
element_out (own.stands_elsewhere z e w) (holding_found o s2 i h y k as' xs) = e o h
element_out (own.stands_elsewhere z e w) (words_found o s2 h y k as' ws xs) = e o h
element_out (own.stands_elsewhere z e w) (empty_found o s2 h y k as') = e o h
element_out (own.stands_elsewhere z e w) (form_found s2 h k y l as' xs) = subst StandsEitherWay s2 z
element_out (own.stands_elsewhere z e w) (button_found s2 h y k as' a) = subst StandsEitherWay s2 z
element_out (own.stands_elsewhere z e w) (input_found s2 h y k l as') = subst StandsEitherWay s2 z
element_out (own.form_in_form s w) (holding_found o s2 i h y k as' xs) = other_sort s s2 tt
element_out (own.form_in_form s w) (words_found o s2 h y k as' ws xs) = other_sort s s2 tt
element_out (own.form_in_form s w) (empty_found o s2 h y k as') = other_sort s s2 tt
element_out (own.form_in_form s w) (form_found s2 h k y l as' xs) = wants_out h w
element_out (own.form_in_form s w) (button_found s2 h y k as' a) = other_sort s s2 tt
element_out (own.form_in_form s w) (input_found s2 h y k l as') = other_sort s s2 tt
element_out (own.input_outside s w) (holding_found o s2 i h y k as' xs) = other_sort s s2 tt
element_out (own.input_outside s w) (words_found o s2 h y k as' ws xs) = other_sort s s2 tt
element_out (own.input_outside s w) (empty_found o s2 h y k as') = other_sort s s2 tt
element_out (own.input_outside s w) (form_found s2 h k y l as' xs) = other_sort s s2 tt
element_out (own.input_outside s w) (button_found s2 h y k as' a) = other_sort s s2 tt
element_out (own.input_outside s w) (input_found s2 h y k l as') = wants_out h w
element_out (own.button_outside s w) (holding_found o s2 i h y k as' xs) = other_sort s s2 tt
element_out (own.button_outside s w) (words_found o s2 h y k as' ws xs) = other_sort s s2 tt
element_out (own.button_outside s w) (empty_found o s2 h y k as') = other_sort s s2 tt
element_out (own.button_outside s w) (form_found s2 h k y l as' xs) = other_sort s s2 tt
element_out (own.button_outside s w) (button_found s2 h y k as' a) = wants_out h w
element_out (own.button_outside s w) (input_found s2 h y k l as') = other_sort s s2 tt
element_out (own.form_filled_before s w) (holding_found o s2 i h y k as' xs) = other_sort s s2 tt
element_out (own.form_filled_before s w) (words_found o s2 h y k as' ws xs) = other_sort s s2 tt
element_out (own.form_filled_before s w) (empty_found o s2 h y k as') = other_sort s s2 tt
element_out (own.form_filled_before s w) (form_found s2 h k y l as' xs) = wants_out k w
element_out (own.form_filled_before s w) (button_found s2 h y k as' a) = other_sort s s2 tt
element_out (own.form_filled_before s w) (input_found s2 h y k l as') = other_sort s s2 tt
element_out (own.context_kind f) (holding_found o s2 i h y k as' xs) = kind_out y f
element_out (own.context_kind f) (words_found o s2 h y k as' ws xs) = kind_out y f
element_out (own.context_kind f) (empty_found o s2 h y k as') = kind_out y f
element_out (own.context_kind f) (form_found s2 h k y l as' xs) = kind_out y f
element_out (own.context_kind f) (button_found s2 h y k as' a) = kind_out y f
element_out (own.context_kind f) (input_found s2 h y k l as') = kind_out y f
element_out (own.uses_kind f) (holding_found o s2 i h y k as' xs) = kind_out k f
element_out (own.uses_kind f) (words_found o s2 h y k as' ws xs) = kind_out k f
element_out (own.uses_kind f) (empty_found o s2 h y k as') = kind_out k f
element_out (own.uses_kind f) (form_found s2 h k y l as' xs) = kind_out l f
element_out (own.uses_kind f) (button_found s2 h y k as' a) = kind_out k f
element_out (own.uses_kind f) (input_found s2 h y k l as') = kind_out k f
element_out (own.in_attributes f) (holding_found o s2 i h y k as' xs) = attributes_out f as'
element_out (own.in_attributes f) (words_found o s2 h y k as' ws xs) = attributes_out f as'
element_out (own.in_attributes f) (empty_found o s2 h y k as') = attributes_out f as'
element_out (own.in_attributes f) (form_found s2 h k y l as' xs) = attributes_out f as'
element_out (own.in_attributes f) (button_found s2 h y k as' a) = attributes_out f as'
element_out (own.in_attributes f) (input_found s2 h y k l as') = attributes_out f as'
element_out (own.same_attribute f) (holding_found o s2 i h y k as' xs) = twice_out f as'
element_out (own.same_attribute f) (words_found o s2 h y k as' ws xs) = twice_out f as'
element_out (own.same_attribute f) (empty_found o s2 h y k as') = twice_out f as'
element_out (own.same_attribute f) (form_found s2 h k y l as' xs) = twice_out f as'
element_out (own.same_attribute f) (button_found s2 h y k as' a) = twice_out f as'
element_out (own.same_attribute f) (input_found s2 h y k l as') = twice_out f as'
element_out (own.no_name s) (holding_found o s2 i h y k as' xs) = other_sort s s2 tt
element_out (own.no_name s) (words_found o s2 h y k as' ws xs) = other_sort s s2 tt
element_out (own.no_name s) (empty_found o s2 h y k as') = other_sort s s2 tt
element_out (own.no_name s) (form_found s2 h k y l as' xs) = other_sort s s2 tt
element_out (own.no_name s) (button_found s2 h y k as' a) = other_sort s s2 tt
element_out (own.name_kind_of f) (input_found s2 h y k l as') = kind_out l f
element_out (own.name_on_other e f n) (input_found {t = t} s2 h y k l as') = e t s2
element_out (own.large_on_other e f n) (input_found {t = t} s2 h y k l as') = e t s2
element_out (own.holds_nothing s e f) (holding_found o s2 i h y k as' xs) = other_sort s s2 tt
element_out (own.holds_nothing s e f) (words_found o s2 h y k as' ws xs) = other_sort s s2 tt
element_out (own.holds_nothing s e f) (form_found s2 h k y l as' xs) = other_sort s s2 tt
element_out (own.input_holds_nothing s e f) (holding_found o s2 i h y k as' xs) = other_sort s s2 tt
element_out (own.input_holds_nothing s e f) (words_found o s2 h y k as' ws xs) = other_sort s s2 tt
element_out (own.input_holds_nothing s e f) (form_found s2 h k y l as' xs) = other_sort s s2 tt
element_out (own.button_holds_nothing s e f) (holding_found o s2 i h y k as' xs) = other_sort s s2 tt
element_out (own.button_holds_nothing s e f) (words_found o s2 h y k as' ws xs) = other_sort s s2 tt
element_out (own.button_holds_nothing s e f) (form_found s2 h k y l as' xs) = other_sort s s2 tt
element_out (own.no_words s d e n) (holding_found o s2 i h y k as' xs) = other_sort s s2 tt
element_out (own.no_words s d e n) (words_found o s2 h y k as' ws xs) = words_out d ws
element_out (own.no_words s d e n) (empty_found o s2 h y k as') = other_sort s s2 tt
element_out (own.no_words s d e n) (form_found s2 h k y l as' xs) = other_sort s s2 tt
element_out (own.no_words s d e n) (button_found s2 h y k as' a) = other_sort s s2 tt
element_out (own.no_words s d e n) (input_found s2 h y k l as') = other_sort s s2 tt
element_out (own.large_words s d e n) (holding_found o s2 i h y k as' xs) = other_sort s s2 tt
element_out (own.large_words s d e n) (words_found o s2 h y k as' ws xs) = words_out d ws
element_out (own.large_words s d e n) (empty_found o s2 h y k as') = other_sort s s2 tt
element_out (own.large_words s d e n) (form_found s2 h k y l as' xs) = other_sort s s2 tt
element_out (own.large_words s d e n) (button_found s2 h y k as' a) = other_sort s s2 tt
element_out (own.large_words s d e n) (input_found s2 h y k l as') = other_sort s s2 tt
element_out (own.in_nodes {g = g} {w = w} o2 {c = c} s i2 a2 f) (holding_found {w = v} o s2 i h y k as' xs) = nodes_out f xs (ap₂ context_row (one_place s s2) (same_flag (stands g) o2 o c i2 i a2 h))
element_out (own.in_nodes o2 s i2 a2 f) (words_found o s2 h y k as' ws xs) = other_sort s s2 tt
element_out (own.in_nodes o2 s i2 a2 f) (empty_found o s2 h y k as') = other_sort s s2 tt
element_out (own.in_nodes o2 s i2 a2 f) (form_found s2 h k y l as' xs) = other_sort s s2 tt
element_out (own.in_nodes o2 s i2 a2 f) (button_found s2 h y k as' a) = other_sort s s2 tt
element_out (own.in_nodes o2 s i2 a2 f) (input_found s2 h y k l as') = other_sort s s2 tt
element_out (own.in_title o2 s a2 f) (holding_found o s2 i h y k as' xs) = other_sort s s2 tt
element_out (own.in_title {g = g} o2 s a2 f) (words_found o s2 h y k as' ws xs) = nodes_out f xs (head_alike (stands g) o2 o (words_stand g s))
element_out (own.in_title o2 s a2 f) (empty_found o s2 h y k as') = other_sort s s2 tt
element_out (own.in_title o2 s a2 f) (form_found s2 h k y l as' xs) = other_sort s s2 tt
element_out (own.in_title o2 s a2 f) (button_found s2 h y k as' a) = other_sort s s2 tt
element_out (own.in_title o2 s a2 f) (input_found s2 h y k l as') = other_sort s s2 tt
element_out (own.in_form_nodes s f) (holding_found o s2 i h y k as' xs) = other_sort s s2 tt
element_out (own.in_form_nodes s f) (words_found o s2 h y k as' ws xs) = other_sort s s2 tt
element_out (own.in_form_nodes s f) (empty_found o s2 h y k as') = other_sort s s2 tt
element_out (own.in_form_nodes s f) (form_found s2 h k y l as' xs) = nodes_out f xs refl
element_out (own.in_form_nodes s f) (button_found s2 h y k as' a) = other_sort s s2 tt
element_out (own.in_form_nodes s f) (input_found s2 h y k l as') = other_sort s s2 tt
element_out (own.no_action s e) (holding_found o s2 i h y k as' xs) = other_sort s s2 tt
element_out (own.no_action s e) (words_found o s2 h y k as' ws xs) = other_sort s s2 tt
element_out (own.no_action s e) (empty_found o s2 h y k as') = other_sort s s2 tt
element_out (own.no_action s e) (form_found s2 h k y l as' xs) = other_sort s s2 tt
element_out (own.no_action s e) (button_found s2 h y k as' a) = e a
element_out (own.no_action s e) (input_found s2 h y k l as') = other_sort s s2 tt

no_field : {r s m n : Cn} {x : Cn × List Cn} → r ≡ s → m ≡ n → field_of m (ordered_pieces r) ≡ None → field_of n (ordered_pieces s) ≡ Some x → ⊥
no_field p q h k = no_value h (ap₂ (λ a b. field_of a (ordered_pieces b)) q p ∙ k)

no_part : {r s m n : Cn} {x : List Cn} → r ≡ s → m ≡ n → without_pieces (ordered_pieces m) (ordered_pieces r) ≡ None → without_pieces (ordered_pieces n) (ordered_pieces s) ≡ Some x → ⊥
no_part p q h k = no_value h (ap₂ (λ a b. without_pieces (ordered_pieces a) (ordered_pieces b)) q p ∙ k)

-- a node's own fault
pub own_out : {G : Sc} {e : Ex} {t : Cn} {f : Fault} → Own G e f → FoundBy Covers G e t → ⊥
own_out (own.no_variable n) (bound_has h) = no_value n h
own_out (own.no_value n) (top_has h) = no_value n h
own_out (own.no_effect n) (foreign_has h) = n h
own_out (own.no_fold n) (fold_has h) = no_value n h
own_out (own.no_constructor n) (built_has {d = d} {c = c} h k) = n d c h k
own_out (own.parameter_kind f) (fn_has k q c e) = kind_out k f
own_out (own.parameter_pattern l f) (fn_has k q c e) = pattern_out f q
own_out (own.parameter_cover l r f) (fn_has k q c e) = cover_out c f
own_out (own.bad_guard f) (fn_guard_has h e) = no_error h f
own_out (own.an_item g f) (call_has h is) = items_out f is (one_found g h)
own_out (own.a_local f) (let_has ls e) = locals_out f ls
own_out {G} (own.first_pattern {r = r} g f) (case_has {ts = ts} e q b bs c) = pattern_out f (subst (λ t. PatFound G r t ts) (sym (one_found g e)) q)
own_out (own.a_later_pattern g f) (case_has e q b bs c) = branches_out f bs (one_found g e)
own_out {G} (own.branches_differ {b = b} {r = r} g p h f) (case_has {u = y} {ts = ts} e q d bs c) =
    let i = one_found g e in
    let l = one_pattern p (subst (λ t. PatFound G r t ts) (sym i) q) in
    bodies_out f bs i (one_found h (subst (λ us. FoundBy Covers (under us G) b y) (sym l) d))
own_out (own.not_covered g p f) (case_has e q b bs c) = cover_out (covers_both (one_found g e) c) f
own_out (own.written_kind f) (ascribed_has k e a) = kind_out k f
own_out (own.not_as_written l g w) (ascribed_has k e a) = wants_out (alike_found g e a) w
own_out (own.a_field f) (fields_have fs k) = fields_out f fs
own_out {G} (own.same_names gs f) (fields_have fs k) = kind_out (subst (λ ps. HasKind G (type_row ps) (row_of types)) (sym (one_row gs fs)) k) f
own_out (own.select_no_record g f) (select_has {c = c} {t = t} {r = r} e n k h) = form_out f (ap normal_of (one_found g e) ∙ first_form t c n) (r, refl)
own_out (own.select_kind f) (select_has e n k h) = kind_out k f
own_out (own.select_large g x l f) (select_has {c = c} e n k h) = no_error (ap (λ a. normal_forms comparison_units a c) (one_found g e) ∙ n) f
own_out (own.select_no_field {t = u} g x l f) (select_has {c = c} {t = t} e n k h) = no_field (one_record (first_form u c x) (ap normal_of (one_found g e) ∙ first_form t c n)) (same_second u t c x n (one_found g e)) f h
own_out (own.left_no_record g f) (concat_has {r = r} e d n m h) = form_out f (ap normal_of (one_found g e) ∙ n) (r, refl)
own_out (own.right_no_record g f) (concat_has {s = s} e d n m h) = form_out f (ap normal_of (one_found g d) ∙ m) (s, refl)
own_out (own.clash g l x y f) (concat_has e d n m h) =
    let i = one_record x (ap normal_of (one_found g e) ∙ n) in
    let j = one_record y (ap normal_of (one_found l d) ∙ m) in
    meets_out (disjoint_both i j h) f
own_out (own.without_no_record g f) (without_has {c = c} {t = t} {r = r} e n k h) = form_out f (ap normal_of (one_found g e) ∙ first_form t c n) (r, refl)
own_out (own.without_kind f) (without_has e n k h) = kind_out k f
own_out (own.without_large g x l f) (without_has {c = c} e n k h) = no_error (ap (λ a. normal_forms comparison_units a c) (one_found g e) ∙ n) f
own_out (own.without_no_field {t = u} g x l f) (without_has {c = c} {t = t} e n k h) = no_field (one_record (first_form u c x) (ap normal_of (one_found g e) ∙ first_form t c n)) (same_second u t c x n (one_found g e)) f h
own_out (own.row_no_record g f) (without_row_has {c = c} {t = t} {r = r} e n k h) = form_out f (ap normal_of (one_found g e) ∙ first_form t c n) (r, refl)
own_out (own.row_kind f) (without_row_has e n k h) = kind_out k f
own_out (own.row_large g x l f) (without_row_has {c = c} e n k h) = no_error (ap (λ a. normal_forms comparison_units a c) (one_found g e) ∙ n) f
own_out (own.row_not_there {t = u} g x l f) (without_row_has {c = c} {t = t} e n k h) = no_part (one_record (first_form u c x) (ap normal_of (one_found g e) ∙ first_form t c n)) (same_second u t c x n (one_found g e)) f h
own_out (own.no_folder n) (folder_has h k) = no_value n h
own_out (own.folder_kind f) (folder_has h k) = kind_out k f
own_out (own.an_element f) (element_has m) = element_out f m
own_out (own.literal_context f) (literal_has k l xs) = kind_out k f
own_out (own.literal_uses f) (literal_has k l xs) = kind_out l f
own_out (own.literal_node i j f) (literal_has k l xs) = nodes_out f xs refl
own_out own.no_rule h = elim h [ ]
