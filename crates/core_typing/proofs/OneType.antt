-- What is found of a term is one type, and of a pattern one list of types.
use Rattle.std.proofs.Common.{◌≡◌, ℕ, Bool, List, [], ◌++◌, Option, Some, slice_get, Result, Ok, refl, ap, ap₂, sym, ◌∙◌, subst}
use Rattle.con_terms.specs.Trees.{Kd, types, Cn, arrow, poly, guarded, record_of, app, basic, row, cat, Prs, pair}
use Rattle.con_terms.specs.Substitution.{subst as put}
use Rattle.row_normal.specs.Ordered.{ordered, ordered_pieces, joined}
use Rattle.kind_rules.specs.Flaws.{Flw}
use Rattle.core_terms.specs.Trees.{Pt, Pfs, Ex, Its, Los, Fds, El, Xs, Cd, Dt}
use Rattle.core_terms.specs.Types.{type_row, one_field, xml_of}
use Rattle.core_terms.specs.Basis.{fold_type}
use Rattle.core_terms.specs.Datatypes.{constructor_type, held_at}
use Rattle.core_typing.specs.Scopes.{Sc, under, under_guard, normal_of}
use Rattle.core_typing.specs.Seen.{a_datatype, seen}
use Rattle.core_terms.specs.Markup.{Sort, holding, of_words, empty, a_form, an_input, a_button}
use Rattle.core_typing.specs.Asks.{CoverAsked}
use Rattle.core_typing.specs.Compared.{field_of, without_pieces}
use Rattle.core_typing.specs.PatternFaults.{AtData, PatFound, any_binds, binds_one, number_binds, text_binds, bare_binds, holding_binds, fields_bind, more_fields_bind, annotated_binds, PatFieldsFound, none_bind, one_binds}
use Rattle.core_typing.specs.Found.{FoundBy, bound_has, top_has, foreign_has, basis_has, fold_has, number_has, text_has, built_has, fn_has, fn_con_has, fn_guard_has, call_has, let_has, case_has, ascribed_has, fields_have, select_has, concat_has, without_has, without_row_has, folder_has, element_has, Leads, at_end, past_term, past_con, past_guard, FieldsFound, no_field_found, field_found, LocalsFound, nothing_found, val_found, rec_found, ElementFound, holding_found, words_found, empty_found, form_found, input_found, button_found, NodesFound, no_node_found, node_found, literal_has, last_found}
use Rattle.core_typing.specs.TypingLaws.{OneTypeIsFound, OneListIsBound}
use Rattle.core_typing.proofs.Normal.{first_form, same_second}
use Rattle.core_typing.proofs.LeftOver.{inside}
pub use Rattle.link_router.proofs.Listed.{one_value}

pub one_answer : {X : Type 0} {r : Result X Flw} {x y : X} → r ≡ Ok x → r ≡ Ok y → x ≡ y
one_answer h k = let e = sym h ∙ k in cc

pub one_record : {o : Option Cn} {r s : Cn} → o ≡ Some (record_of r) → o ≡ Some (record_of s) → r ≡ s
one_record h k = inside (one_value h k)

-- sorts that aren't one
abbrev Differ : Sort → Sort → Type 0
Differ (holding w) (holding v) = ⊥
Differ of_words of_words = ⊥
Differ empty empty = ⊥
Differ a_form a_form = ⊥
Differ (an_input t) (an_input u) = ⊥
Differ a_button a_button = ⊥
Differ x y = Unit {0}

no_difference : (x : Sort) → Differ x x → ⊥
no_difference (holding w) d = d
no_difference of_words d = d
no_difference empty d = d
no_difference a_form d = d
no_difference (an_input t) d = d
no_difference a_button d = d

pub other_sort : {x y z : Sort} → x ≡ y → x ≡ z → Differ y z → ⊥
other_sort {x} {y} {z} h k d = no_difference z (subst (λ s. Differ s z) (sym h ∙ k) d)

input_type : {x : Sort} {t u : Cn} → x ≡ an_input t → x ≡ an_input u → t ≡ u
input_type h k = let e = sym h ∙ k in cc

-- a datatype's type is at one list of arguments, and its constructor is one
pub one_constructor : {G : Sc} {s j : ℕ} {t : Cn} {c b : Cd} {args more : List Cn} → AtData G s j t c args → AtData G s j t b more → (c ≡ b) × (args ≡ more)
one_constructor {G} {s} {j} {t} {c} {b} {args} {more} x y =
    let d : x.d ≡ y.d = one_value x.constructs.declared y.constructs.declared in
    let n : x.n ≡ y.n = one_value x.normal y.normal in
    let k : c ≡ b = one_value (ap (λ (e : Dt). slice_get e.constructors j) (sym d) ∙ x.constructs.constructor) y.constructs.constructor in
    let m : a_datatype x.d args ≡ a_datatype y.d more = sym x.at_datatype ∙ ap (seen G.datatypes) n ∙ y.at_datatype in
    (k, same_arguments m)
  where
    same_arguments : {d e : Dt} {xs ys : List Cn} → a_datatype d xs ≡ a_datatype e ys → xs ≡ ys
    same_arguments m = cc

pub held_alike : {c b : Cd} {h k : Cn} → c ≡ b → c.holds ≡ Some h → b.holds ≡ Some k → h ≡ k
held_alike e p q = one_value (sym (ap (λ (x : Cd). x.holds) e) ∙ p) q

one_field_of : {r s m n : Cn} {x y : Cn × List Cn} → r ≡ s → m ≡ n → field_of m (ordered_pieces r) ≡ Some x → field_of n (ordered_pieces s) ≡ Some y → x ≡ y
one_field_of p q h k = one_value h (ap₂ (λ a b. field_of a (ordered_pieces b)) q p ∙ k)

one_rest : {r s m n : Cn} {x y : List Cn} → r ≡ s → m ≡ n → without_pieces (ordered_pieces m) (ordered_pieces r) ≡ Some x → without_pieces (ordered_pieces n) (ordered_pieces s) ≡ Some y → x ≡ y
one_rest p q h k = one_value h (ap₂ (λ a b. without_pieces (ordered_pieces a) (ordered_pieces b)) q p ∙ k)

-- what stands behind an argument
pub one_result : {a b c d : Cn} → arrow a b ≡ arrow c d → b ≡ d
one_result e = cc

pub one_argument : {a b c d : Cn} → arrow a b ≡ arrow c d → a ≡ c
one_argument e = cc

pub one_kind_asked : {i j : Bool} {k l : Kd} {b d : Cn} → poly i k b ≡ poly j l d → k ≡ l
one_kind_asked e = cc

pub one_left_side : {a b c d x y : Cn} → guarded a b x ≡ guarded c d y → a ≡ c
one_left_side e = cc

pub one_right_side : {a b c d x y : Cn} → guarded a b x ≡ guarded c d y → b ≡ d
one_right_side e = cc

pub one_body : {i j : Bool} {k l : Kd} {b d : Cn} → poly i k b ≡ poly j l d → b ≡ d
one_body e = cc

pub one_behind : {a b c d x y : Cn} → guarded a b x ≡ guarded c d y → x ≡ y
one_behind e = cc

pub one_fill : {a b c d x y : Cn} → xml_of a b x ≡ xml_of c d y → x ≡ y
one_fill e = cc

mutual
  pub one_pattern : {G : Sc} {q : Pt} {t : Cn} {ts us : List Cn} → PatFound G q t ts → PatFound G q t us → ts ≡ us
  one_pattern any_binds any_binds = refl
  one_pattern (binds_one k h) (binds_one l g) = refl
  one_pattern (number_binds h) (number_binds g) = refl
  one_pattern (text_binds h) (text_binds g) = refl
  one_pattern (bare_binds x h) (bare_binds y g) = refl
  one_pattern {G = G} {us = us} (holding_binds {held = m} {args = as'} {q = q} x h p) (holding_binds {held = n} {args = bs} y g r) =
      let (c, a) = one_constructor x y in
      one_pattern p (subst (λ t. PatFound G q t us) (sym (ap₂ held_at a (held_alike c h g))) r)
  one_pattern {G = G} {us = us} (fields_bind {fs = fs} n h) (fields_bind m g) = one_list h (subst (λ r. PatFieldsFound G fs (ordered_pieces r) [] us) (sym (one_record n m)) g)
  one_pattern {G = G} {us = us} (more_fields_bind {fs = fs} n h) (more_fields_bind {rest = rest} m g) = one_list h (subst (λ r. PatFieldsFound G fs (ordered_pieces r) rest us) (sym (one_record n m)) g)
  one_pattern (annotated_binds k h p) (annotated_binds l g r) = one_pattern p r

  pub one_list : {G : Sc} {fs : Pfs} {ps rs qs ts us : List Cn} → PatFieldsFound G fs ps rs ts → PatFieldsFound G fs ps qs us → ts ≡ us
  one_list none_bind none_bind = refl
  one_list {G = G} (one_binds {q = q} {fs = fs} {ps = ps} k n p h hs) (one_binds {rs = rs} {ts = ts} {us = us} l m r g gs) =
      let i = one_value p (ap (λ x. field_of x ps) (one_value n m) ∙ r) in
      ap₂ (λ xs ys. xs ++ ys) (one_list hs (subst (λ (x : Cn × List Cn). PatFieldsFound G fs x.1 rs us) (sym i) gs)) (one_pattern h (subst (λ (x : Cn × List Cn). PatFound G q x.0 ts) (sym i) g))

pub one_left : {G : Sc} {fs : Pfs} {ps rs qs ts us : List Cn} → PatFieldsFound G fs ps rs ts → PatFieldsFound G fs ps qs us → rs ≡ qs
one_left none_bind none_bind = refl
one_left {G = G} (one_binds {fs = fs} {ps = ps} k n p h hs) (one_binds {rs = rs} {us = us} l m r g gs) =
    let i = one_value p (ap (λ x. field_of x ps) (one_value n m) ∙ r) in
    one_left hs (subst (λ (x : Cn × List Cn). PatFieldsFound G fs x.1 rs us) (sym i) gs)

mutual
  pub one_found : {C D : CoverAsked} {G : Sc} {e : Ex} {t u : Cn} → FoundBy C G e t → FoundBy D G e u → t ≡ u
  one_found (bound_has h) (bound_has k) = one_value h k
  one_found (top_has h) (top_has k) = one_value h k
  one_found (foreign_has h) (foreign_has k) = refl
  one_found basis_has basis_has = refl
  one_found (fold_has {k = k} h) (fold_has g) = ap (fold_type k) (one_value h g)
  one_found number_has number_has = refl
  one_found text_has text_has = refl
  one_found (built_has {j = j} h k) (built_has g l) =
      let d = one_value h g in
      ap₂ constructor_type d (one_value (ap (λ (e : Dt). slice_get e.constructors j) (sym d) ∙ k) l)
  one_found {D = D} {G = G} (fn_has {t = t} k q c e) (fn_has {u = u} {e = b} l r d f) = ap (arrow t) (one_found e (subst (λ ts. FoundBy D (under ts G) b u) (sym (one_pattern q r)) f))
  one_found (fn_con_has {i = i} {k = k} e) (fn_con_has f) = ap (poly i k) (one_found e f)
  one_found {D = D} {G = G} (fn_guard_has {c = c} {d = d} h e) (fn_guard_has {t = u} {e = b} g f) =
      ap (guarded c d) (one_found e (subst (λ (x : Cn × Cn). FoundBy D (under_guard x.0 x.1 G) b u) (sym (one_answer h g)) f))
  one_found {D = D} {G = G} (call_has f is) (call_has {is = ns} {u = u} g ms) = one_lead is (subst (λ t. Leads D G t ns u) (sym (one_found f g)) ms)
  one_found {D = D} (let_has ls e) (let_has {e = b} {t = u} ms f) = one_found e (subst (λ H. FoundBy D H b u) (sym (one_scope ls ms)) f)
  one_found {D = D} {G = G} (case_has e q b bs c) (case_has {b = x} {r = r} {u = u} {ts = us} f p d ds k) =
      one_found b (subst (λ ts. FoundBy D (under ts G) x u) (sym (one_pattern q (subst (λ t. PatFound G r t us) (sym (one_found e f)) p))) d)
  one_found (ascribed_has k e h) (ascribed_has l f g) = refl
  one_found (fields_have fs k) (fields_have gs l) = ap (λ ps. record_of (type_row ps)) (one_row fs gs)
  one_found (select_has {c = c} {t = t} e h k f) (select_has {t = u} d g l j) = ap (λ (x : Cn × List Cn). x.0) (one_field_of (one_record (first_form t c h) (ap normal_of (one_found e d) ∙ first_form u c g)) (same_second t u c h g (one_found e d)) f j)
  one_found (concat_has e d h k a) (concat_has f g l m b) =
      ap₂ (λ r s. record_of (cat r s)) (one_record h (ap normal_of (one_found e f) ∙ l)) (one_record k (ap normal_of (one_found d g) ∙ m))
  one_found (without_has {c = c} {t = t} e h k f) (without_has {t = u} d g l j) = ap (λ (x : Cn × List Cn). record_of (ordered (joined types x.1))) (one_field_of (one_record (first_form t c h) (ap normal_of (one_found e d) ∙ first_form u c g)) (same_second t u c h g (one_found e d)) f j)
  one_found (without_row_has {c = c} {t = t} e h k f) (without_row_has {t = u} d g l j) = ap (λ x. record_of (ordered (joined types x))) (one_rest (one_record (first_form t c h) (ap normal_of (one_found e d) ∙ first_form u c g)) (same_second t u c h g (one_found e d)) f j)
  one_found (folder_has {k = k} {ps = ps} h j) (folder_has g l) = ap (λ s. app (basic s) (row k ps)) (one_value h g)
  one_found (element_has m) (element_has n) = one_element m n
  one_found (literal_has {c = c} {u = u} k l xs) (literal_has k2 l2 ys) = ap (xml_of c u) (one_nodes xs ys)

  pub one_lead : {C D : CoverAsked} {G : Sc} {t u v : Cn} {is : Its} → Leads C G t is u → Leads D G t is v → u ≡ v
  one_lead at_end at_end = refl
  one_lead {D = D} {G = G} (past_term n e h is) (past_term {v = v} {is = ns} m f g ms) = one_lead is (subst (λ t. Leads D G t ns v) (sym (one_result (one_value n m))) ms)
  one_lead {D = D} {G = G} (past_con n k is) (past_con {c = c} {v = v} {is = ns} m l ms) = one_lead is (subst (λ t. Leads D G (put t c) ns v) (sym (one_body (one_value n m))) ms)
  one_lead {D = D} {G = G} (past_guard n h is) (past_guard {v = v} {is = ns} m g ms) = one_lead is (subst (λ t. Leads D G t ns v) (sym (one_behind (one_value n m))) ms)

  pub one_row : {C D : CoverAsked} {G : Sc} {fs : Fds} {ps qs : Prs} → FieldsFound C G fs ps → FieldsFound D G fs qs → ps ≡ qs
  one_row no_field_found no_field_found = refl
  one_row (field_found {n = n} k e fs) (field_found l f gs) = ap₂ (pair n) (one_found e f) (one_row fs gs)

  pub one_scope : {C D : CoverAsked} {G H K : Sc} {ls : Los} → LocalsFound C G ls H → LocalsFound D G ls K → H ≡ K
  one_scope nothing_found nothing_found = refl
  one_scope (val_found k e h ls) (val_found l f g ms) = one_scope ls ms
  one_scope (rec_found ns ls) (rec_found ms ks) = one_scope ls ks

  one_element : {C D : CoverAsked} {G : Sc} {m : El} {t u : Cn} → ElementFound C G m t → ElementFound D G m u → t ≡ u
  one_element (holding_found o {c = c} {u = u} s i h y k as' xs) (holding_found o2 s2 i2 h2 y2 k2 bs xs2) = ap (xml_of c u) (one_nodes xs xs2)
  one_element (holding_found o s i h y k as' xs) (words_found o2 s2 h2 y2 k2 bs w2 xs2) = absurd (other_sort s s2 tt)
  one_element (holding_found o s i h y k as' xs) (empty_found o2 s2 h2 y2 k2 bs) = absurd (other_sort s s2 tt)
  one_element (holding_found o s i h y k as' xs) (form_found s2 h2 k2 y2 l2 bs xs2) = absurd (other_sort s s2 tt)
  one_element (holding_found o s i h y k as' xs) (button_found s2 h2 y2 k2 bs a2) = absurd (other_sort s s2 tt)
  one_element (words_found o s h y k as' w xs) (holding_found o2 s2 i2 h2 y2 k2 bs xs2) = absurd (other_sort s s2 tt)
  one_element (words_found o {c = c} {u = u} s h y k as' w xs) (words_found o2 s2 h2 y2 k2 bs w2 xs2) = ap (xml_of c u) (one_nodes xs xs2)
  one_element (words_found o s h y k as' w xs) (empty_found o2 s2 h2 y2 k2 bs) = absurd (other_sort s s2 tt)
  one_element (words_found o s h y k as' w xs) (form_found s2 h2 k2 y2 l2 bs xs2) = absurd (other_sort s s2 tt)
  one_element (words_found o s h y k as' w xs) (button_found s2 h2 y2 k2 bs a2) = absurd (other_sort s s2 tt)
  one_element (empty_found o s h y k as') (holding_found o2 s2 i2 h2 y2 k2 bs xs2) = absurd (other_sort s s2 tt)
  one_element (empty_found o s h y k as') (words_found o2 s2 h2 y2 k2 bs w2 xs2) = absurd (other_sort s s2 tt)
  one_element (empty_found o s h y k as') (empty_found o2 s2 h2 y2 k2 bs) = refl
  one_element (empty_found o s h y k as') (form_found s2 h2 k2 y2 l2 bs xs2) = absurd (other_sort s s2 tt)
  one_element (empty_found o s h y k as') (button_found s2 h2 y2 k2 bs a2) = absurd (other_sort s s2 tt)
  one_element (form_found s h k y l as' xs) (holding_found o2 s2 i2 h2 y2 k2 bs xs2) = absurd (other_sort s s2 tt)
  one_element (form_found s h k y l as' xs) (words_found o2 s2 h2 y2 k2 bs w2 xs2) = absurd (other_sort s s2 tt)
  one_element (form_found s h k y l as' xs) (empty_found o2 s2 h2 y2 k2 bs) = absurd (other_sort s s2 tt)
  one_element (form_found s h k y l as' xs) (form_found s2 h2 k2 y2 l2 bs xs2) = refl
  one_element (form_found s h k y l as' xs) (button_found s2 h2 y2 k2 bs a2) = absurd (other_sort s s2 tt)
  one_element (button_found s h y k as' a) (holding_found o2 s2 i2 h2 y2 k2 bs xs2) = absurd (other_sort s s2 tt)
  one_element (button_found s h y k as' a) (words_found o2 s2 h2 y2 k2 bs w2 xs2) = absurd (other_sort s s2 tt)
  one_element (button_found s h y k as' a) (empty_found o2 s2 h2 y2 k2 bs) = absurd (other_sort s s2 tt)
  one_element (button_found s h y k as' a) (form_found s2 h2 k2 y2 l2 bs xs2) = absurd (other_sort s s2 tt)
  one_element (button_found s h y k as' a) (button_found s2 h2 y2 k2 bs a2) = refl
  one_element (input_found {n = n} {c = c} {u = u} s h y k l as') (input_found s2 h2 y2 k2 l2 bs) = ap (λ x. xml_of c u (one_field n x)) (input_type s s2)

  pub one_nodes : {C D : CoverAsked} {G : Sc} {c d u v b k : Cn} {xs : Xs} → NodesFound C G c u xs b → NodesFound D G d v xs k → b ≡ k
  one_nodes no_node_found no_node_found = refl
  one_nodes (last_found k e h) (last_found k2 f g) = refl
  one_nodes (node_found {b = b} k e h a xs d) (node_found k2 f g l ys m) = ap (λ y. ordered (cat b y)) (one_nodes xs ys)

pub one_type_is_found : OneTypeIsFound
one_type_is_found G e t u h k = one_found h k

pub one_list_is_bound : OneListIsBound
one_list_is_bound G q t ts us h k = one_pattern h k
