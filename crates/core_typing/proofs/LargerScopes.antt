-- A typing stays in a larger scope.
use Rattle.std.proofs.Common.{◌≡◌, ℕ, zero, suc, ◌≤◌, List, [], ◌∷◌, ◌++◌, map, Some, option_map, slice_get, refl, ap, sym, subst, ◌∙◌, arith}
use Rattle.std.proofs.lemmas.Option.{slice_get-map}
use Rattle.std.specs.List.{Contains}
use Rattle.con_terms.specs.Trees.{Kd, Cn, Prs}
use Rattle.con_terms.specs.Substitution.{shift}
use Rattle.con_terms.specs.Equal.{Equal, back}
use Rattle.con_terms.specs.Apart.{Apart}
use Rattle.con_terms.specs.Kinded.{Scope, bind, assume, Kinded}
use Rattle.row_normal.proofs.Options.{option_map_from}
use Rattle.kind_rules.proofs.Guarded.{one_guard, all_equal, Alike, apart_too, assuming, kinded_too}
use Rattle.kind_rules.proofs.Guarded as guarded
use Rattle.xml_trees.specs.declared.source_name.TagName.{TagName}
use Rattle.xml_trees.specs.declared.source_name.AttrName.{AttrName}
use Rattle.core_terms.specs.Trees.{Pt, Pfs, Ex, Its, Nms, Los, Brs, Fds, El, Ats, Xs, Cd, Dt}
use Rattle.core_terms.specs.Datatypes.{datatype_of}
use Rattle.core_typing.specs.Scopes.{Sc, under, under_con, under_guard}
use Rattle.core_typing.specs.Asks.{CoverAsked, Asks, AsksMore, asking_cover, nothing_asked, cover_asked, kinds_asked}
use Rattle.core_typing.specs.Patterns.{PatTyped, PatFieldsTyped, AtConstructor}
use Rattle.core_typing.specs.Patterns as pat
use Rattle.core_typing.specs.Typed.{Typed, by_equal, of_bound, of_top, of_foreign, of_basis, of_fold, of_number, of_text, of_built, of_fn, of_fn_con, of_fn_guard, of_call, of_let, of_case, of_ascribed, of_fields, of_select, of_concat, of_without, of_without_row, of_folder, of_element, Applies, to_nothing, to_equal, to_term, to_con, to_guard, EachTyped, no_branch, each_branch, FieldsTyped, no_field, each_field, Declares, nothing, one_name, names_together, NamedTyped, no_name, each_name, ElementTyped, of_holding, of_words_alone, of_empty, of_form, of_input, of_button, AttributesTyped, no_attribute, each_attribute, NodesTyped, no_node, each_node, IsLinked, as_link, as_action, as_title, as_href, as_src, as_alt, as_border, as_value, as_size, named_types, of_literal, last_node}
use Rattle.core_typing.specs.Carried.{ShowsPage, SendsForm}
use Rattle.core_typing.specs.KindLaws.{Widens}
use Rattle.core_typing.specs.TypingLaws.{Extends, TypingsStay, AskingLess}
use Rattle.core_typing.proofs.KindsStay.{widens_bind, widens_assume, kinded_wider, apart_wider}

-- what stands at a place stands there too
abbrev Keeps : List Cn → List Cn → Type 0
Keeps xs ys = (i : ℕ) (t : Cn) → slice_get xs i ≡ Some t → slice_get ys i ≡ Some t

keeps_behind : (ts xs ys : List Cn) → Keeps xs ys → Keeps (ts ++ xs) (ts ++ ys)
keeps_behind [] xs ys k i t h = k i t h
keeps_behind (u ∷ ts) xs ys k zero t h = h
keeps_behind (u ∷ ts) xs ys k (suc i) t h = keeps_behind ts xs ys k i t h

keeps_map : (f : Cn → Cn) (xs ys : List Cn) → Keeps xs ys → Keeps (map f xs) (map f ys)
keeps_map f xs ys k i t h =
    let (x, is, e) = option_map_from f (slice_get xs i) t (sym (slice_get-map f xs i) ∙ h) in
    slice_get-map f ys i ∙ ap (option_map f) (k i x is) ∙ ap (λ y. Some y) e

-- How a typing that asks A in one scope becomes one that asks B in another, where their kinds are so related: that stays under binders and guards, and kinds, what is apart and what is asked carry over.
pub record Carries (A B : Asks) (R : Scope → Scope → Type 0) : Type 0 where
  pub bound : (k : Kd) (G H : Scope) → R G H → R (bind k G) (bind k H)
  pub assumed : (c d : Cn) (G H : Scope) → R G H → R (assume c d G) (assume c d H)
  pub kinded : (G H : Scope) (c : Cn) (k : Kd) → R G H → Kinded G c k → Kinded H c k
  pub apart : (G H : Scope) (c d : Cn) → R G H → Apart G.guards c d → Apart H.guards c d
  pub cover : (ds : List Dt) (ps : List Pt) (t : Cn) → A.cover ds ps t → B.cover ds ps t
  pub exchange : (G H : Scope) (t : Cn) → R G H → A.exchange G t → B.exchange H t

-- a larger scope
pub record Richer (A B : Asks) (R : Scope → Scope → Type 0) (G H : Sc) : Type 0 where
  pub carries : Carries A B R
  pub related : R G.kinds H.kinds
  pub locals : Keeps G.locals H.locals
  pub tops : Keeps G.tops H.tops
  pub datatypes : H.datatypes ≡ G.datatypes
  pub folders : (f : Kd × ℕ) → Contains G.folders f → Contains H.folders f
  pub effects : G.effects ≤ H.effects

richer_under : {A B : Asks} {R : Scope → Scope → Type 0} {G H : Sc} (ts : List Cn) → Richer A B R G H → Richer A B R (under ts G) (under ts H)
richer_under {G = G} {H = H} ts r = record { carries = r.carries; related = r.related; locals = keeps_behind ts G.locals H.locals r.locals; tops = r.tops; datatypes = r.datatypes; folders = r.folders; effects = r.effects }

richer_con : {A B : Asks} {R : Scope → Scope → Type 0} {G H : Sc} {x : ℕ} (k : Kd) → Richer A B R G H → Richer A B R (under_con x k G) (under_con x k H)
richer_con {G = G} {H = H} k r = record { carries = r.carries; related = r.carries.bound k G.kinds H.kinds r.related; locals = keeps_map (λ t. shift 1 t 0) G.locals H.locals r.locals; tops = r.tops; datatypes = r.datatypes; folders = r.folders; effects = r.effects }

richer_guard : {A B : Asks} {R : Scope → Scope → Type 0} {G H : Sc} (c d : Cn) → Richer A B R G H → Richer A B R (under_guard c d G) (under_guard c d H)
richer_guard {G = G} {H = H} c d r = record { carries = r.carries; related = r.carries.assumed c d G.kinds H.kinds r.related; locals = r.locals; tops = r.tops; datatypes = r.datatypes; folders = r.folders; effects = r.effects }

covers_still : {A B : Asks} {R : Scope → Scope → Type 0} {G H : Sc} {ps : List Pt} {t : Cn} → Richer A B R G H → A.cover G.datatypes ps t → B.cover H.datatypes ps t
covers_still {B = B} {G = G} {ps = ps} {t = t} r c = subst (λ ds. B.cover ds ps t) (sym r.datatypes) (r.carries.cover G.datatypes ps t c)

kinded_still : {A B : Asks} {R : Scope → Scope → Type 0} {G H : Sc} {c : Cn} {k : Kd} → Richer A B R G H → Kinded G.kinds c k → Kinded H.kinds c k
kinded_still {G = G} {H = H} {c = c} {k = k} r x = r.carries.kinded G.kinds H.kinds c k r.related x

apart_still : {A B : Asks} {R : Scope → Scope → Type 0} {G H : Sc} {c d : Cn} → Richer A B R G H → Apart G.kinds.guards c d → Apart H.kinds.guards c d
apart_still {G = G} {H = H} {c = c} {d = d} r x = r.carries.apart G.kinds H.kinds c d r.related x

exchanged : {A B : Asks} {R : Scope → Scope → Type 0} {G H : Sc} {t : Cn} → Richer A B R G H → A.exchange G.kinds t → B.exchange H.kinds t
exchanged {G = G} {H = H} {t = t} r x = r.carries.exchange G.kinds H.kinds t r.related x

linked_still : {A B : Asks} {R : Scope → Scope → Type 0} {G H : Sc} {n : AttrName} {e : Ex} → Richer A B R G H → IsLinked G n e → IsLinked H n e
linked_still r (as_link {i = i} {n = n} {t = t} c h s) = as_link c (r.tops i t h) (subst (λ ds. ShowsPage ds n t) (sym r.datatypes) s)
linked_still r (as_action {i = i} {n = n} {t = t} c h s) = as_action c (r.tops i t h) (subst (λ ds. SendsForm ds n t) (sym r.datatypes) s)
linked_still r as_title = as_title
linked_still r as_href = as_href
linked_still r as_src = as_src
linked_still r as_alt = as_alt
linked_still r as_border = as_border
linked_still r as_value = as_value
linked_still r as_size = as_size

constructor_still : {A B : Asks} {R : Scope → Scope → Type 0} {G H : Sc} {s j : ℕ} {args : List Cn} {c : Cd} → Richer A B R G H → AtConstructor G s j args c → AtConstructor H s j args c
constructor_still {s = s} r a = record { declared_as = a.declared_as; declared = ap (λ ds. datatype_of ds s) r.datatypes ∙ a.declared; constructor = a.constructor; number_of_types = a.number_of_types }

mutual
  pattern_still : {A B : Asks} {R : Scope → Scope → Type 0} {G H : Sc} {p : Pt} {t : Cn} {ts : List Cn} → Richer A B R G H → PatTyped A G p t ts → PatTyped B H p t ts
  pattern_still r (pat.by_equal p e x) = pat.by_equal (pattern_still r p) e (exchanged r x)
  pattern_still r pat.of_any = pat.of_any
  pattern_still r (pat.of_binds k) = pat.of_binds (kinded_still r k)
  pattern_still r pat.of_number = pat.of_number
  pattern_still r pat.of_text = pat.of_text
  pattern_still r (pat.of_bare a h) = pat.of_bare (constructor_still r a) h
  pattern_still r (pat.of_holding a h q) = pat.of_holding (constructor_still r a) h (pattern_still r q)
  pattern_still r (pat.of_fields fs) = pat.of_fields (pattern_fields_still r fs)
  pattern_still r (pat.of_more_fields fs) = pat.of_more_fields (pattern_fields_still r fs)
  pattern_still r (pat.of_annotated k q) = pat.of_annotated (kinded_still r k) (pattern_still r q)

  pattern_fields_still : {A B : Asks} {R : Scope → Scope → Type 0} {G H : Sc} {fs : Pfs} {ps : Prs} {ts : List Cn} → Richer A B R G H → PatFieldsTyped A G fs ps ts → PatFieldsTyped B H fs ps ts
  pattern_fields_still r pat.of_none = pat.of_none
  pattern_fields_still r (pat.of_one k q fs) = pat.of_one (kinded_still r k) (pattern_still r q) (pattern_fields_still r fs)

-- the scope behind declarations
record Behind (A B : Asks) (R : Scope → Scope → Type 0) (H' : Sc) (G' : Sc) (ls : Los) : Type 0 where
  scope : Sc
  declares : Declares B G' ls scope
  richer : Richer A B R H' scope

mutual
  pub typed_still : {A B : Asks} {R : Scope → Scope → Type 0} {G H : Sc} {e : Ex} {t : Cn} → Richer A B R G H → Typed A G e t → Typed B H e t
  typed_still r (by_equal e h x) = by_equal (typed_still r e) h (exchanged r x)
  typed_still r (of_bound {i = i} {t = t} h) = of_bound (r.locals i t h)
  typed_still r (of_top {i = i} {t = t} h) = of_top (r.tops i t h)
  typed_still r (of_foreign {i = i} h) = of_foreign (omega (arith, h, r.effects))
  typed_still r of_basis = of_basis
  typed_still r (of_fold {k = k} {s = s} h) = of_fold (r.folders (k, s) h)
  typed_still r of_number = of_number
  typed_still r of_text = of_text
  typed_still r (of_built {s = s} h k) = of_built (ap (λ ds. datatype_of ds s) r.datatypes ∙ h) k
  typed_still r (of_fn {ts = ts} k q c e) = of_fn (kinded_still r k) (pattern_still r q) (covers_still r c) (typed_still (richer_under ts r) e)
  typed_still r (of_fn_con {k = k} e) = of_fn_con (typed_still (richer_con k r) e)
  typed_still r (of_fn_guard {c = c} {d = d} k l e) = of_fn_guard (kinded_still r k) (kinded_still r l) (typed_still (richer_guard c d r) e)
  typed_still r (of_call f is) = of_call (typed_still r f) (applies_still r is)
  typed_still r (of_let ls e) = let w = declares_still r ls in of_let w.declares (typed_still w.richer e)
  typed_still r (of_case {ts = ts} e q b bs c) = of_case (typed_still r e) (pattern_still r q) (typed_still (richer_under ts r) b) (each_still r bs) (covers_still r c)
  typed_still r (of_ascribed k e) = of_ascribed (kinded_still r k) (typed_still r e)
  typed_still r (of_fields fs k) = of_fields (fields_still r fs) (kinded_still r k)
  typed_still r (of_select k e) = of_select (kinded_still r k) (typed_still r e)
  typed_still r (of_concat e d h) = of_concat (typed_still r e) (typed_still r d) (apart_still r h)
  typed_still r (of_without k e) = of_without (kinded_still r k) (typed_still r e)
  typed_still r (of_without_row k e) = of_without_row (kinded_still r k) (typed_still r e)
  typed_still r (of_folder {k = k} {s = s} h j) = of_folder (r.folders (k, s) h) (kinded_still r j)
  typed_still r (of_element m) = of_element (element_still r m)
  typed_still r (of_literal k l xs x) = of_literal (kinded_still r k) (kinded_still r l) (nodes_still r xs) (exchanged r x)

  applies_still : {A B : Asks} {R : Scope → Scope → Type 0} {G H : Sc} {t u : Cn} {is : Its} → Richer A B R G H → Applies A G t is u → Applies B H t is u
  applies_still r to_nothing = to_nothing
  applies_still r (to_equal h x is) = to_equal h (exchanged r x) (applies_still r is)
  applies_still r (to_term e is) = to_term (typed_still r e) (applies_still r is)
  applies_still r (to_con k is) = to_con (kinded_still r k) (applies_still r is)
  applies_still r (to_guard h x is) = to_guard (apart_still r h) (exchanged r x) (applies_still r is)

  each_still : {A B : Asks} {R : Scope → Scope → Type 0} {G H : Sc} {t u : Cn} {bs : Brs} → Richer A B R G H → EachTyped A G t bs u → EachTyped B H t bs u
  each_still r no_branch = no_branch
  each_still r (each_branch {ts = ts} q e bs) = each_branch (pattern_still r q) (typed_still (richer_under ts r) e) (each_still r bs)

  fields_still : {A B : Asks} {R : Scope → Scope → Type 0} {G H : Sc} {fs : Fds} {ps : Prs} → Richer A B R G H → FieldsTyped A G fs ps → FieldsTyped B H fs ps
  fields_still r no_field = no_field
  fields_still r (each_field k e fs) = each_field (kinded_still r k) (typed_still r e) (fields_still r fs)

  declares_still : {A B : Asks} {R : Scope → Scope → Type 0} {G H G' : Sc} {ls : Los} → Richer A B R G H → Declares A G ls G' → Behind A B R G' H ls
  declares_still {H = H} r nothing = record { scope = H; declares = nothing; richer = r }
  declares_still r (one_name {t = t} k e ls) =
      let w = declares_still (richer_under (t ∷ []) r) ls in
      record { scope = w.scope; declares = one_name (kinded_still r k) (typed_still r e) w.declares; richer = w.richer }
  declares_still r (names_together {ns = ns} h ls) =
      let w = declares_still (richer_under (named_types ns) r) ls in
      record { scope = w.scope; declares = names_together (named_still r (richer_under (named_types ns) r) h) w.declares; richer = w.richer }

  named_still : {A B : Asks} {R : Scope → Scope → Type 0} {G H G' H' : Sc} {ns : Nms} → Richer A B R G H → Richer A B R G' H' → NamedTyped A G G' ns → NamedTyped B H H' ns
  named_still r s no_name = no_name
  named_still r s (each_name k e ns) = each_name (kinded_still r k) (typed_still s e) (named_still r s ns)

  element_still : {A B : Asks} {R : Scope → Scope → Type 0} {G H : Sc} {m : El} {t : Cn} → Richer A B R G H → ElementTyped A G m t → ElementTyped B H m t
  element_still r (of_holding o s i h y k as' xs x) = of_holding o s i h (kinded_still r y) (kinded_still r k) (attributes_still r as') (nodes_still r xs) (exchanged r x)
  element_still r (of_words_alone o s h y k as' w xs x) = of_words_alone o s h (kinded_still r y) (kinded_still r k) (attributes_still r as') w (nodes_still r xs) (exchanged r x)
  element_still r (of_empty o s h y k as' x) = of_empty o s h (kinded_still r y) (kinded_still r k) (attributes_still r as') (exchanged r x)
  element_still r (of_form s h k y l as' xs x) = of_form s h k (kinded_still r y) (kinded_still r l) (attributes_still r as') (nodes_still r xs) (exchanged r x)
  element_still r (of_input s h y k l as' x) = of_input s h (kinded_still r y) (kinded_still r k) (kinded_still r l) (attributes_still r as') (exchanged r x)
  element_still r (of_button s h y k as' a x) = of_button s h (kinded_still r y) (kinded_still r k) (attributes_still r as') a (exchanged r x)

  attributes_still : {A B : Asks} {R : Scope → Scope → Type 0} {G H : Sc} {u : Cn} {g : TagName} {as' : Ats} → Richer A B R G H → AttributesTyped A G u g as' → AttributesTyped B H u g as'
  attributes_still r no_attribute = no_attribute
  attributes_still r (each_attribute a e l o as') = each_attribute a (typed_still r e) (linked_still r l) o (attributes_still r as')

  nodes_still : {A B : Asks} {R : Scope → Scope → Type 0} {G H : Sc} {c u b : Cn} {xs : Xs} → Richer A B R G H → NodesTyped A G c u xs b → NodesTyped B H c u xs b
  nodes_still r no_node = no_node
  nodes_still r (last_node k e) = last_node (kinded_still r k) (typed_still r e)
  nodes_still r (each_node k e a xs b) = each_node (kinded_still r k) (typed_still r e) (apart_still r a) (nodes_still r xs) (apart_still r b)

-- what is asked of an exchanged type holds where more guards are assumed
abbrev StaysAsked : Asks → Type 0
StaysAsked A = (G H : Scope) (t : Cn) → Widens G H → A.exchange G t → A.exchange H t

-- in a larger scope
typed_in_larger : (A : Asks) (G H : Sc) (e : Ex) (t : Cn) → StaysAsked A → Extends G H → Typed A G e t → Typed A H e t
typed_in_larger A G H e t s x h = typed_still (record { carries = carries; related = x.kinds; locals = x.locals; tops = x.tops; datatypes = x.datatypes; folders = x.folders; effects = x.effects }) h
  where
    carries : Carries A A Widens
    carries = record {
      bound = λ k G H w. widens_bind k w;
      assumed = λ c d G H w. widens_assume c d w;
      kinded = λ G H c k w x. kinded_wider w x;
      apart = λ G H c d w x. apart_wider w.guards x;
      cover = λ ds ps t c. c;
      exchange = s;
    }

pub typings_stay : TypingsStay
typings_stay = (
  (λ G H e t. typed_in_larger nothing_asked G H e t (λ G H t w x. x)),
  (λ G H e t. typed_in_larger cover_asked G H e t (λ G H t w x. x)),
  (λ G H e t. typed_in_larger kinds_asked G H e t (λ G H t w x. kinded_wider w x)),
)

-- where less is asked
abbrev Is : Scope → Scope → Type 0
Is G H = G ≡ H

less : (A B : Asks) → AsksMore A B → Carries A B Is
less A B m = record {
  bound = λ k G H e. ap (bind k) e;
  assumed = λ c d G H e. ap (assume c d) e;
  kinded = λ G H c k e x. subst (λ K. Kinded K c k) e x;
  apart = λ G H c d e x. subst (λ K. Apart K.guards c d) e x;
  cover = m.cover;
  exchange = λ G H t e x. subst (λ K. B.exchange K t) e (m.exchange G t x);
}

typed_asking_less : (A B : Asks) (G : Sc) (e : Ex) (t : Cn) → AsksMore A B → Typed A G e t → Typed B G e t
typed_asking_less A B G e t m h = typed_still (record { carries = less A B m; related = refl; locals = λ i t e. e; tops = λ i t e. e; datatypes = refl; folders = λ f c. c; effects = omega arith }) h

pub typings_ask_less : AskingLess
typings_ask_less = (
  (λ G e t h. h),
  (λ G e t. typed_asking_less cover_asked nothing_asked G e t (record { cover = λ ds ps t c. tt; exchange = λ G t x. x })),
  (λ G e t. typed_asking_less kinds_asked nothing_asked G e t (record { cover = λ ds ps t c. c; exchange = λ G t x. tt })),
)

-- under a guard with equal sides
equal_guards : (C : CoverAsked) → Carries (asking_cover C) (asking_cover C) Alike
equal_guards C = record {
  bound = λ k G H s. guarded.under k s;
  assumed = λ c d G H s. assuming c d s;
  kinded = λ G H c k s x. kinded_too s x;
  apart = λ G H c d s x. apart_too s.guards x;
  cover = λ ds ps t c. c;
  exchange = λ G H t s x. tt;
}

pub typed_under_equal_guard : {C : CoverAsked} {G : Sc} {c d m n t : Cn} {e : Ex} → Equal c m → Equal d n → Typed (asking_cover C) (under_guard m n G) e t → Typed (asking_cover C) (under_guard c d G) e t
typed_under_equal_guard {C} {G} p q h =
    typed_still (record { carries = equal_guards C; related = record { binders = refl; guards = one_guard (back p) (back q) (all_equal G.kinds.guards); basics = refl }; locals = λ i t e. e; tops = λ i t e. e; datatypes = refl; folders = λ f c. c; effects = omega arith }) h
