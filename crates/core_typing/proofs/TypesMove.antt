-- Typing under a walk over constructors.
use Rattle.std.proofs.Common.{◌≡◌, ℕ, ◌<◌, Bool, true, false, List, [], ◌∷◌, ◌++◌, map, option_map, slice_get, refl, ap, sym, subst, ◌∙◌}
use Rattle.std.proofs.lemmas.List.{length-map}
use Rattle.std.specs.List.{Contains}
use Rattle.con_terms.specs.Trees.{Kd, Cn, basic, Prs}
use Rattle.con_terms.specs.Substitution.{replaced, replaced_pairs}
use Rattle.con_terms.specs.Equal.{Equal}
use Rattle.con_terms.specs.Apart.{Apart}
use Rattle.con_terms.specs.Kinded.{Scope, Kinded}
use Rattle.xml_trees.specs.declared.source_name.TagName.{TagName}
use Rattle.xml_trees.specs.declared.source_name.TagName.TheVariants.{P, Div, Span, B, I, Em, Strong, H1, H2, H3, H4, Ul, Ol, Li, Code, Blockquote, A, Img, Table, Th, Td, Textbox, Password, Hidden, Checkbox, Submit}
use Rattle.xml_trees.specs.declared.source_name.AttrName.{AttrName}
use Rattle.xml_trees.specs.declared.source_name.AttrName.TheVariants as attr
use Rattle.core_terms.specs.Trees.{Pt, Pfs, Ex, Its, Nms, no_named, named, Los, Brs, no_branches, branch, Fds, El, Ats, no_attributes, attribute, Xs, no_nodes, a_node, Cd, arity}
use Rattle.core_typing.specs.Asks.{Asks}
use Rattle.core_terms.specs.Types.{one_field, xml_of}
use Rattle.core_terms.specs.Datatypes.{datatype_of}
use Rattle.core_terms.specs.Markup.{Where, in_html, in_head, in_body, in_table, in_tr, context_row, an_input, Sort, stands, sort_of, attribute_type}
use Rattle.core_typing.specs.Scopes.{Sc, under}
use Rattle.core_typing.specs.Patterns.{PatTyped, PatFieldsTyped, AtConstructor}
use Rattle.core_typing.specs.Patterns as pat
use Rattle.core_typing.specs.Typed.{Typed, by_equal, of_bound, of_top, of_foreign, of_basis, of_fold, of_number, of_text, of_built, of_fn, of_fn_con, of_fn_guard, of_call, of_let, of_case, of_ascribed, of_fields, of_select, of_concat, of_without, of_without_row, of_folder, of_element, Applies, to_nothing, to_equal, to_term, to_con, to_guard, EachTyped, no_branch, each_branch, FieldsTyped, no_field, each_field, Declares, nothing, one_name, names_together, NamedTyped, no_name, each_name, ElementTyped, of_holding, of_words_alone, of_empty, of_form, of_input, of_button, AttributesTyped, no_attribute, each_attribute, NodesTyped, no_node, each_node, AreTerms, no_term, one_more, IsCallOf, alone, applied, IsLinked, as_link, as_action, as_title, as_href, as_src, as_alt, as_border, as_value, as_size, HasAttribute, first, later, IsWords, of_cdata, of_txt, NodesAreWords, named_types, branch_patterns, of_literal, last_node}
use Rattle.core_typing.specs.Carried.{ShowsPage, SendsForm}
use Rattle.core_typing.specs.ConSubstitution.{pattern_replaced, pattern_fields_replaced, term_replaced, items_replaced, named_replaced, locals_replaced, branches_replaced, fields_replaced, element_replaced, attributes_replaced, nodes_replaced}
use Rattle.core_typing.proofs.Moving.{Walks, kinded_moved, apart_moved}
use Rattle.core_typing.proofs.ScopesMove.{Goes, Walked, walked_under, walked_con, walked_guard, local_moved, top_closed, basis_closed, fold_closed, built_closed, held_moved, at_types_moved}
use Rattle.std.proofs.lemmas.List.{map-append}

-- kinds and apartness
kinds_move : {A : Asks} {I : Scope → Cn → Kd → Type 0} {f : ℕ → ℕ → Cn} {n : ℕ} {G H : Sc} {c : Cn} {k : Kd} → Goes A I f → Walked I f n G H → Kinded G.kinds c k → Kinded H.kinds (replaced f c n) k
kinds_move g w h = kinded_moved g.images g.walks w.kinds h

apart_moves : {A : Asks} {I : Scope → Cn → Kd → Type 0} {f : ℕ → ℕ → Cn} {n : ℕ} {G H : Sc} {c d : Cn} → Goes A I f → Walked I f n G H → Apart G.kinds.guards c d → Apart H.kinds.guards (replaced f c n) (replaced f d n)
apart_moves {f = f} {n = n} {c = c} {d = d} g w h = subst (λ gs. Apart gs (replaced f c n) (replaced f d n)) (sym w.kinds.guards) (apart_moved g.walks n h)

covers_move : {A : Asks} {I : Scope → Cn → Kd → Type 0} {f : ℕ → ℕ → Cn} {n : ℕ} {G H : Sc} {ps : List Pt} {t : Cn} → Goes A I f → Walked I f n G H → A.cover G.datatypes ps t → A.cover H.datatypes (map (λ p. pattern_replaced f p n) ps) (replaced f t n)
covers_move {A} {f = f} {n = n} {G = G} {ps = ps} {t = t} g w h = subst (λ ds. A.cover ds (map (λ p. pattern_replaced f p n) ps) (replaced f t n)) (sym w.datatypes) (g.cover n G.datatypes ps t h)

-- patterns
constructor_moves : {I : Scope → Cn → Kd → Type 0} {f : ℕ → ℕ → Cn} {n s j : ℕ} {G H : Sc} {args : List Cn} {c : Cd} → Walked I f n G H → AtConstructor G s j args c → AtConstructor H s j (map (λ t. replaced f t n) args) c
constructor_moves {f = f} {n = n} {s = s} {args = args} w a = record {
  declared_as = a.declared_as;
  declared = ap (λ ds. datatype_of ds s) w.datatypes ∙ a.declared;
  constructor = a.constructor;
  number_of_types = length-map args (λ t. replaced f t n) ∙ a.number_of_types;
}

mutual
  pub pattern_moves : {A : Asks} {I : Scope → Cn → Kd → Type 0} {f : ℕ → ℕ → Cn} {n : ℕ} {G H : Sc} {q : Pt} {t : Cn} {ts : List Cn} → Goes A I f → Walked I f n G H → PatTyped A G q t ts → PatTyped A H (pattern_replaced f q n) (replaced f t n) (map (λ x. replaced f x n) ts)
  pattern_moves {n = n} g w (pat.by_equal q e x) = pat.by_equal (pattern_moves g w q) (g.walks.equal e n) (g.exchange w.kinds x)
  pattern_moves g w pat.of_any = pat.of_any
  pattern_moves g w (pat.of_binds k) = pat.of_binds (kinds_move g w k)
  pattern_moves g w pat.of_number = pat.of_number
  pattern_moves g w pat.of_text = pat.of_text
  pattern_moves {A} {f = f} {n = n} {H = H} {q = q} g w (pat.of_bare {s = s} {args = args} a h) =
      subst (λ x. PatTyped A H (pattern_replaced f q n) x []) (sym (at_types_moved f n (basic s) args)) (pat.of_bare (constructor_moves w a) h)
  pattern_moves {A} {f = f} {n = n} {G = G} {H = H} {q = q} {ts = ts} g w (pat.of_holding {s = s} {j = j} {args = args} {c = c} {held = held} {q = r} a h p) =
      let same = held_moved g.walks n (arity a.declared_as) args held a.number_of_types (w.grounded.held s j a.declared_as c held a.declared a.constructor h) in
      let inner = subst (λ x. PatTyped A H (pattern_replaced f r n) x (map (λ x. replaced f x n) ts)) same (pattern_moves g w p) in
      subst (λ x. PatTyped A H (pattern_replaced f q n) x (map (λ x. replaced f x n) ts)) (sym (at_types_moved f n (basic s) args)) (pat.of_holding (constructor_moves w a) h inner)
  pattern_moves g w (pat.of_fields fs) = pat.of_fields (pattern_fields_move g w fs)
  pattern_moves g w (pat.of_more_fields fs) = pat.of_more_fields (pattern_fields_move g w fs)
  pattern_moves g w (pat.of_annotated k q) = pat.of_annotated (kinds_move g w k) (pattern_moves g w q)

  pattern_fields_move : {A : Asks} {I : Scope → Cn → Kd → Type 0} {f : ℕ → ℕ → Cn} {n : ℕ} {G H : Sc} {fs : Pfs} {ps : Prs} {ts : List Cn} → Goes A I f → Walked I f n G H → PatFieldsTyped A G fs ps ts → PatFieldsTyped A H (pattern_fields_replaced f fs n) (replaced_pairs f ps n) (map (λ x. replaced f x n) ts)
  pattern_fields_move g w pat.of_none = pat.of_none
  pattern_fields_move {A} {f = f} {n = n} {H = H} {fs = fs} {ps = ps} g w (pat.of_one {ts = ts} {us = us} k q rest) =
      subst (λ xs. PatFieldsTyped A H (pattern_fields_replaced f fs n) (replaced_pairs f ps n) xs) (sym (map-append (λ x. replaced f x n) us ts)) (pat.of_one (kinds_move g w k) (pattern_moves g w q) (pattern_fields_move g w rest))

patterns_of : (f : ℕ → ℕ → Cn) (bs : Brs) (n : ℕ) → branch_patterns (branches_replaced f bs n) ≡ map (λ p. pattern_replaced f p n) (branch_patterns bs)
patterns_of f no_branches n = refl
patterns_of f (branch p q e bs) n = ap (λ ps. pattern_replaced f q n ∷ ps) (patterns_of f bs n)

types_of : (f : ℕ → ℕ → Cn) (ns : Nms) (n : ℕ) → named_types (named_replaced f ns n) ≡ map (λ t. replaced f t n) (named_types ns)
types_of f no_named n = refl
types_of f (named p x w t e ns) n = ap (λ ts. ts ++ replaced f t n ∷ []) (types_of f ns n) ∙ sym (map-append (λ t. replaced f t n) (named_types ns) (t ∷ []))

-- calls, words and attributes
terms_move : (f : ℕ → ℕ → Cn) {is : Its} {m : ℕ} (n : ℕ) → AreTerms is m → AreTerms (items_replaced f is n) m
terms_move f n no_term = no_term
terms_move f n (one_more h) = one_more (terms_move f n h)

call_moves : (f : ℕ → ℕ → Cn) {e : Ex} {i m : ℕ} (n : ℕ) → IsCallOf e i m → IsCallOf (term_replaced f e n) i m
call_moves f n alone = alone
call_moves f n (applied h) = applied (terms_move f n h)

link_moves : {I : Scope → Cn → Kd → Type 0} {f : ℕ → ℕ → Cn} {n : ℕ} {G H : Sc} {a : AttrName} {e : Ex} → Walked I f n G H → IsLinked G a e → IsLinked H a (term_replaced f e n)
link_moves {f = f} {n = n} w (as_link {i = i} {n = m} {t = t} c h s) = as_link (call_moves f n c) (ap (λ ts. slice_get ts i) w.tops ∙ h) (subst (λ ds. ShowsPage ds m t) (sym w.datatypes) s)
link_moves {f = f} {n = n} w (as_action {i = i} {n = m} {t = t} c h s) = as_action (call_moves f n c) (ap (λ ts. slice_get ts i) w.tops ∙ h) (subst (λ ds. SendsForm ds m t) (sym w.datatypes) s)
link_moves w as_title = as_title
link_moves w as_href = as_href
link_moves w as_src = as_src
link_moves w as_alt = as_alt
link_moves w as_border = as_border
link_moves w as_value = as_value
link_moves w as_size = as_size

words_move : (f : ℕ → ℕ → Cn) {e : Ex} (n : ℕ) → IsWords e → IsWords (term_replaced f e n)
words_move f n of_cdata = of_cdata
words_move f n of_txt = of_txt

nodes_are_words_move : (f : ℕ → ℕ → Cn) (xs : Xs) (n : ℕ) → NodesAreWords xs → NodesAreWords (nodes_replaced f xs n)
nodes_are_words_move f no_nodes n h = tt
nodes_are_words_move f (a_node b e xs) n h = (words_move f n h.0, nodes_are_words_move f xs n h.1)

has_moves : (f : ℕ → ℕ → Cn) {as' : Ats} {a : AttrName} (n : ℕ) → HasAttribute as' a → HasAttribute (attributes_replaced f as' n) a
has_moves f n first = first
has_moves f n (later h) = later (has_moves f n h)

has_none : {a : AttrName} {X : Type 0} → HasAttribute no_attributes a → X
has_none h = elim h [ ]

had_before : (f : ℕ → ℕ → Cn) (as' : Ats) {a : AttrName} (n : ℕ) → HasAttribute (attributes_replaced f as' n) a → HasAttribute as' a
had_before f no_attributes n h = has_none h
had_before f (attribute p b e as') n first = first
had_before f (attribute p b e as') n (later h) = later (had_before f as' n h)

-- what is told of tags
attribute_moves : (f : ℕ → ℕ → Cn) (n : ℕ) (u : Cn) (g : TagName) (a : AttrName) → attribute_type (replaced f u n) g a ≡ option_map (λ t. replaced f t n) (attribute_type u g a)
attribute_moves f n u P attr.Title = refl
attribute_moves f n u Div attr.Title = refl
attribute_moves f n u Span attr.Title = refl
attribute_moves f n u B attr.Title = refl
attribute_moves f n u I attr.Title = refl
attribute_moves f n u Em attr.Title = refl
attribute_moves f n u Strong attr.Title = refl
attribute_moves f n u H1 attr.Title = refl
attribute_moves f n u H2 attr.Title = refl
attribute_moves f n u H3 attr.Title = refl
attribute_moves f n u H4 attr.Title = refl
attribute_moves f n u Ul attr.Title = refl
attribute_moves f n u Ol attr.Title = refl
attribute_moves f n u Li attr.Title = refl
attribute_moves f n u Code attr.Title = refl
attribute_moves f n u Blockquote attr.Title = refl
attribute_moves f n u Th attr.Title = refl
attribute_moves f n u Td attr.Title = refl
attribute_moves f n u A attr.Link = refl
attribute_moves f n u A attr.Href = refl
attribute_moves f n u A attr.Title = refl
attribute_moves f n u Img attr.Src = refl
attribute_moves f n u Img attr.Alt = refl
attribute_moves f n u Table attr.Border = refl
attribute_moves f n u Textbox attr.Value = refl
attribute_moves f n u Textbox attr.Size = refl
attribute_moves f n u Password attr.Value = refl
attribute_moves f n u Hidden attr.Value = refl
attribute_moves f n u Submit attr.Action = refl
attribute_moves f n u Submit attr.Value = refl
attribute_moves f n u _ _ = refl

context_moves : (f : ℕ → ℕ → Cn) (n : ℕ) (w : Where) (o : Bool) → replaced f (context_row w o) n ≡ context_row w o
context_moves f n in_html o = refl
context_moves f n in_head o = refl
context_moves f n in_body false = refl
context_moves f n in_body true = refl
context_moves f n in_table false = refl
context_moves f n in_table true = refl
context_moves f n in_tr false = refl
context_moves f n in_tr true = refl

-- the type of an input's field stays
abbrev FieldStays : (ℕ → ℕ → Cn) → ℕ → Sort → Type 0
FieldStays f n (an_input t) = replaced f t n ≡ t
FieldStays f n _ = Unit {0}

field_stays : (f : ℕ → ℕ → Cn) (n : ℕ) (g : TagName) → FieldStays f n (sort_of g)
field_stays f n Textbox = refl
field_stays f n Password = refl
field_stays f n Hidden = refl
field_stays f n Checkbox = refl
field_stays f n _ = tt

field_of : (f : ℕ → ℕ → Cn) (n : ℕ) (g : TagName) (t : Cn) → sort_of g ≡ an_input t → replaced f t n ≡ t
field_of f n g t h = subst (FieldStays f n) h (field_stays f n g)

equal_context : {f : ℕ → ℕ → Cn} {c : Cn} → Walks f → (n : ℕ) (v : Where) (o : Bool) → Equal c (context_row v o) → Equal (replaced f c n) (context_row v o)
equal_context {f} {c} w n v o h = subst (λ x. Equal (replaced f c n) x) (context_moves f n v o) (w.equal h n)

in_context : {A : Asks} {H : Sc} {u b : Cn} {xs : Xs} (f : ℕ → ℕ → Cn) (n : ℕ) (v : Where) (o : Bool) → NodesTyped A H (replaced f (context_row v o) n) u xs b → NodesTyped A H (context_row v o) u xs b
in_context {A} {H} {u} {b} {xs} f n v o h = subst (λ c. NodesTyped A H c u xs b) (context_moves f n v o) h

-- the scope behind declarations
record Behind (A : Asks) (I : Scope → Cn → Kd → Type 0) (f : ℕ → ℕ → Cn) (n : ℕ) (G' H : Sc) (ls : Los) : Type 0 where
  scope : Sc
  declares : Declares A H ls scope
  walked : Walked I f n G' scope

mutual
  pub typed_moves : {A : Asks} {I : Scope → Cn → Kd → Type 0} {f : ℕ → ℕ → Cn} {n : ℕ} {G H : Sc} {e : Ex} {t : Cn} → Goes A I f → Walked I f n G H → Typed A G e t → Typed A H (term_replaced f e n) (replaced f t n)
  typed_moves {n = n} g w (by_equal e h x) = by_equal (typed_moves g w e) (g.walks.equal h n) (g.exchange w.kinds x)
  typed_moves g w (of_bound {i = i} {t = t} h) = of_bound (local_moved w i t h)
  typed_moves {A} {f = f} {n = n} {H = H} {e = e} g w (of_top {i = i} {t = t} h) =
      subst (λ x. Typed A H (term_replaced f e n) x) (sym (top_closed g.walks w.grounded n i t h)) (of_top (ap (λ ts. slice_get ts i) w.tops ∙ h))
  typed_moves {H = H} g w (of_foreign {i = i} h) = of_foreign (subst (λ m. i < m) (sym w.effects) h)
  typed_moves {A} {f = f} {n = n} {H = H} {e = e} g w (of_basis {b = b}) = subst (λ x. Typed A H (term_replaced f e n) x) (sym (basis_closed g.walks w.grounded n b)) of_basis
  typed_moves {A} {f = f} {n = n} {H = H} {e = e} g w (of_fold {k = k} {s = s} h) =
      subst (λ x. Typed A H (term_replaced f e n) x) (sym (fold_closed g.walks w.grounded n k s h)) (of_fold (subst (λ fs. Contains fs (k, s)) (sym w.folders) h))
  typed_moves g w of_number = of_number
  typed_moves g w of_text = of_text
  typed_moves {A} {f = f} {n = n} {H = H} {e = e} g w (of_built {s = s} {j = j} {d = d} {c = c} h k) =
      subst (λ x. Typed A H (term_replaced f e n) x) (sym (built_closed g.walks w.grounded n s j d c h k)) (of_built (ap (λ ds. datatype_of ds s) w.datatypes ∙ h) k)
  typed_moves g w (of_fn {ts = ts} k q c e) = of_fn (kinds_move g w k) (pattern_moves g w q) (covers_move g w c) (typed_moves g (walked_under ts w) e)
  typed_moves g w (of_fn_con {k = k} e) = of_fn_con (typed_moves g (walked_con k g.images g.walks w) e)
  typed_moves g w (of_fn_guard {c = c} {d = d} k l e) = of_fn_guard (kinds_move g w k) (kinds_move g w l) (typed_moves g (walked_guard c d g.images w) e)
  typed_moves g w (of_call e is) = of_call (typed_moves g w e) (applies_move g w is)
  typed_moves g w (of_let ls e) = let b = declares_move g w ls in of_let b.declares (typed_moves g b.walked e)
  typed_moves {A} {f = f} {n = n} {H = H} g w (of_case {r = r} {bs = bs} {t = t} {ts = ts} e q b rest c) =
      of_case (typed_moves g w e) (pattern_moves g w q) (typed_moves g (walked_under ts w) b) (each_move g w rest)
      (subst (λ ps. A.cover H.datatypes (pattern_replaced f r n ∷ ps) (replaced f t n)) (sym (patterns_of f bs n)) (covers_move {ps = r ∷ branch_patterns bs} g w c))
  typed_moves g w (of_ascribed k e) = of_ascribed (kinds_move g w k) (typed_moves g w e)
  typed_moves g w (of_fields fs k) = of_fields (fields_move g w fs) (kinds_move g w k)
  typed_moves g w (of_select k e) = of_select (kinds_move g w k) (typed_moves g w e)
  typed_moves g w (of_concat e d h) = of_concat (typed_moves g w e) (typed_moves g w d) (apart_moves g w h)
  typed_moves g w (of_without k e) = of_without (kinds_move g w k) (typed_moves g w e)
  typed_moves g w (of_without_row k e) = of_without_row (kinds_move g w k) (typed_moves g w e)
  typed_moves g w (of_folder {k = k} {s = s} h j) = of_folder (subst (λ fs. Contains fs (k, s)) (sym w.folders) h) (kinds_move g w j)
  typed_moves g w (of_element m) = of_element (element_moves g w m)
  typed_moves g w (of_literal k l xs x) = of_literal (kinds_move g w k) (kinds_move g w l) (nodes_move g w xs) (g.exchange w.kinds x)

  applies_move : {A : Asks} {I : Scope → Cn → Kd → Type 0} {f : ℕ → ℕ → Cn} {n : ℕ} {G H : Sc} {is : Its} {t u : Cn} → Goes A I f → Walked I f n G H → Applies A G t is u → Applies A H (replaced f t n) (items_replaced f is n) (replaced f u n)
  applies_move g w to_nothing = to_nothing
  applies_move {n = n} g w (to_equal h x is) = to_equal (g.walks.equal h n) (g.exchange w.kinds x) (applies_move g w is)
  applies_move g w (to_term e is) = to_term (typed_moves g w e) (applies_move g w is)
  applies_move {A} {f = f} {n = n} {H = H} {u = u} g w (to_con {c = c} {t = t} {is = is} k rest) =
      to_con (kinds_move g w k) (subst (λ x. Applies A H x (items_replaced f is n) (replaced f u n)) (g.walks.put t c n) (applies_move g w rest))
  applies_move g w (to_guard h x is) = to_guard (apart_moves g w h) (g.exchange w.kinds x) (applies_move g w is)

  each_move : {A : Asks} {I : Scope → Cn → Kd → Type 0} {f : ℕ → ℕ → Cn} {n : ℕ} {G H : Sc} {bs : Brs} {t u : Cn} → Goes A I f → Walked I f n G H → EachTyped A G t bs u → EachTyped A H (replaced f t n) (branches_replaced f bs n) (replaced f u n)
  each_move g w no_branch = no_branch
  each_move g w (each_branch {ts = ts} q e bs) = each_branch (pattern_moves g w q) (typed_moves g (walked_under ts w) e) (each_move g w bs)

  fields_move : {A : Asks} {I : Scope → Cn → Kd → Type 0} {f : ℕ → ℕ → Cn} {n : ℕ} {G H : Sc} {fs : Fds} {ps : Prs} → Goes A I f → Walked I f n G H → FieldsTyped A G fs ps → FieldsTyped A H (fields_replaced f fs n) (replaced_pairs f ps n)
  fields_move g w no_field = no_field
  fields_move g w (each_field k e fs) = each_field (kinds_move g w k) (typed_moves g w e) (fields_move g w fs)

  declares_move : {A : Asks} {I : Scope → Cn → Kd → Type 0} {f : ℕ → ℕ → Cn} {n : ℕ} {G H G' : Sc} {ls : Los} → Goes A I f → Walked I f n G H → Declares A G ls G' → Behind A I f n G' H (locals_replaced f ls n)
  declares_move {H = H} g w nothing = record { scope = H; declares = nothing; walked = w }
  declares_move g w (one_name {t = t} k e ls) =
      let b = declares_move g (walked_under (t ∷ []) w) ls in
      record { scope = b.scope; declares = one_name (kinds_move g w k) (typed_moves g w e) b.declares; walked = b.walked }
  declares_move {A} {I} {f = f} {n = n} {H = H} {G' = G'} g w (names_together {ns = ns} {ls = ls} h rest) =
      let s = walked_under (named_types ns) w in
      let b = declares_move g s rest in
      let same = sym (types_of f ns n) in
      record {
        scope = b.scope;
        declares = names_together (subst (λ ts. NamedTyped A H (under ts H) (named_replaced f ns n)) same (named_move g w s h)) (subst (λ ts. Declares A (under ts H) (locals_replaced f ls n) b.scope) same b.declares);
        walked = b.walked;
      }

  named_move : {A : Asks} {I : Scope → Cn → Kd → Type 0} {f : ℕ → ℕ → Cn} {n : ℕ} {G H G' H' : Sc} {ns : Nms} → Goes A I f → Walked I f n G H → Walked I f n G' H' → NamedTyped A G G' ns → NamedTyped A H H' (named_replaced f ns n)
  named_move g w s no_name = no_name
  named_move g w s (each_name k e ns) = each_name (kinds_move g w k) (typed_moves g s e) (named_move g w s ns)

  element_moves : {A : Asks} {I : Scope → Cn → Kd → Type 0} {f : ℕ → ℕ → Cn} {n : ℕ} {G H : Sc} {m : El} {t : Cn} → Goes A I f → Walked I f n G H → ElementTyped A G m t → ElementTyped A H (element_replaced f m n) (replaced f t n)
  element_moves {f = f} {n = n} g w (of_holding {g = tag} {w = v} o s i h y k as' xs x) =
      of_holding o s i (equal_context g.walks n (stands tag) o h) (kinds_move g w y) (kinds_move g w k) (attributes_move g w as') (in_context f n v o (nodes_move g w xs)) (g.exchange w.kinds x)
  element_moves {f = f} {n = n} g w (of_words_alone {g = tag} o {xs = ns} s h y k as' q xs x) =
      of_words_alone o s (equal_context g.walks n (stands tag) o h) (kinds_move g w y) (kinds_move g w k) (attributes_move g w as') (nodes_are_words_move f ns n q) (in_context f n (stands tag) o (nodes_move g w xs)) (g.exchange w.kinds x)
  element_moves {n = n} g w (of_empty {g = tag} o s h y k as' x) =
      of_empty o s (equal_context g.walks n (stands tag) o h) (kinds_move g w y) (kinds_move g w k) (attributes_move g w as') (g.exchange w.kinds x)
  element_moves {f = f} {n = n} g w (of_form s h e y k as' xs x) =
      of_form s (equal_context g.walks n in_body false h) (g.walks.equal e n) (kinds_move g w y) (kinds_move g w k) (attributes_move g w as') (in_context f n in_body true (nodes_move g w xs)) (g.exchange w.kinds x)
  element_moves {A} {f = f} {n = n} {H = H} {m = m} g w (of_input {g = tag} {t = t} {n = l} {c = c} {u = u} s h y k i as' x) =
      let stays = field_of f n tag t s in
      let result : Cn → Cn = λ y. xml_of (replaced f c n) (replaced f u n) (one_field (replaced f l n) y) in
      subst (λ y. ElementTyped A H (element_replaced f m n) (result y)) (sym stays)
      (of_input s (equal_context g.walks n in_body true h) (kinds_move g w y) (kinds_move g w k) (kinds_move g w i) (attributes_move g w as') (subst (λ y. A.exchange H.kinds (result y)) stays (g.exchange w.kinds x)))
  element_moves {f = f} {n = n} g w (of_button s h y k as' a x) =
      of_button s (equal_context g.walks n in_body true h) (kinds_move g w y) (kinds_move g w k) (attributes_move g w as') (has_moves f n a) (g.exchange w.kinds x)

  attributes_move : {A : Asks} {I : Scope → Cn → Kd → Type 0} {f : ℕ → ℕ → Cn} {n : ℕ} {G H : Sc} {u : Cn} {tag : TagName} {as' : Ats} → Goes A I f → Walked I f n G H → AttributesTyped A G u tag as' → AttributesTyped A H (replaced f u n) tag (attributes_replaced f as' n)
  attributes_move g w no_attribute = no_attribute
  attributes_move {f = f} {n = n} {u = u} {tag = tag} g w (each_attribute {n = a} {as' = rest} h e l o as') =
      each_attribute (attribute_moves f n u tag a ∙ ap (option_map (λ t. replaced f t n)) h) (typed_moves g w e) (link_moves w l) (λ i. o (had_before f rest n i)) (attributes_move g w as')

  nodes_move : {A : Asks} {I : Scope → Cn → Kd → Type 0} {f : ℕ → ℕ → Cn} {n : ℕ} {G H : Sc} {c u b : Cn} {xs : Xs} → Goes A I f → Walked I f n G H → NodesTyped A G c u xs b → NodesTyped A H (replaced f c n) (replaced f u n) (nodes_replaced f xs n) (replaced f b n)
  nodes_move g w no_node = no_node
  nodes_move g w (last_node k e) = last_node (kinds_move g w k) (typed_moves g w e)
  nodes_move g w (each_node k e a xs b) = each_node (kinds_move g w k) (typed_moves g w e) (apart_moves g w a) (nodes_move g w xs) (apart_moves g w b)
