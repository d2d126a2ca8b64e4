-- The type of a typed term has kind Type, where the types that are exchanged for others have it.
use Rattle.std.proofs.Common.{◌≡◌, ℕ, Bool, zero, suc, List, [], ◌∷◌, ◌++◌, map, length, Some, slice_get, refl, sym, subst, ◌∙◌, arith}
use Rattle.std.proofs.lemmas.List.{append-nil}
use Rattle.std.proofs.lemmas.Option.{slice_get-map}
use Rattle.row_normal.proofs.Options.{option_map_from}
use Rattle.con_terms.specs.Trees.{Kd, types, row_of, Cn, arrow, poly, record_of, cat, Prs}
use Rattle.con_terms.specs.Substitution.{shift}
use Rattle.con_terms.specs.Kinded.{Scope, bind, Kinded, of_basic, of_arrow, of_poly, of_guarded, of_record, of_app, of_row, of_cat, a_field}
use Rattle.core_terms.specs.Trees.{Pt, Pfs, Ex, Its, Nms, Los, El}
use Rattle.core_typing.specs.Asks.{kinds_asked}
use Rattle.core_terms.specs.Types.{one_field}
use Rattle.core_typing.specs.Scopes.{Sc, under, under_con, under_guard}
use Rattle.core_typing.specs.Patterns.{PatTyped, PatFieldsTyped}
use Rattle.core_typing.specs.Patterns as pat
use Rattle.core_typing.specs.Typed.{Typed, by_equal, of_bound, of_top, of_foreign, of_basis, of_fold, of_number, of_text, of_built, of_fn, of_fn_con, of_fn_guard, of_call, of_let, of_case, of_ascribed, of_fields, of_select, of_concat, of_without, of_without_row, of_folder, of_element, Applies, to_nothing, to_equal, to_term, to_con, to_guard, Declares, nothing, one_name, names_together, NamedTyped, no_name, each_name, ElementTyped, of_holding, of_words_alone, of_empty, of_form, of_input, of_button, named_types, of_literal}
use Rattle.core_typing.specs.Grounded.{HasTypes, at_top}
use Rattle.core_typing.proofs.Closed.{closed}
use Rattle.core_typing.proofs.KindsStay.{kinds_stay, shift_walks, kinded_wider, kinds_substitute, under_one, assumed_too}
use Rattle.core_typing.proofs.BasisKinds.{Basics, basis_kind, fold_kind, string_kind, int_kind, transaction_kind, unit_kind}
use Rattle.core_typing.proofs.ScopesMove.{grounded_under, grounded_con, grounded_guard, constructor_type_kind}

-- what has a kind at the top has it everywhere
at_top_too : {G : Scope} {c : Cn} {k : Kd} → Kinded (at_top 0 G.basics) c k → Kinded G c k
at_top_too {G} {c} {k} h =
    let by = length G.binders in
    let there : Kinded (record { binders = G.binders ++ []; guards = []; basics = G.basics }) (shift by c 0) k = kinds_stay [] [] G.binders [] G.basics c k h in
    let bare : Scope = record { binders = G.binders; guards = []; basics = G.basics } in
    let here : Kinded bare (shift by c 0) k = subst (λ bs. Kinded (record { binders = bs; guards = []; basics = G.basics }) (shift by c 0) k) (append-nil G.binders) there in
    let same : shift by c 0 ≡ c = closed (shift_walks by) 0 (omega arith) h in
    kinded_wider {G = bare} {H = G} (record { binders = refl; guards = λ g x. absurd (omega (arith, x.1)); basics = refl }) (subst (λ x. Kinded bare x k) same here)

-- each of some types has kind Type
abbrev pub AreTypes : Scope → List Cn → Type 0
AreTypes G ts = (i : ℕ) (t : Cn) → slice_get ts i ≡ Some t → Kinded G t types

pub none_are : {G : Scope} → AreTypes G []
none_are i t h = cc

pub more_are : {G : Scope} (t : Cn) (ts : List Cn) → Kinded G t types → AreTypes G ts → AreTypes G (t ∷ ts)
more_are {G} t ts k h zero u e = let same : t ≡ u = cc in subst (λ x. Kinded G x types) same k
more_are t ts k h (suc i) u e = h i u e

pub both_are : {G : Scope} (ts us : List Cn) → AreTypes G ts → AreTypes G us → AreTypes G (ts ++ us)
both_are [] us h k = k
both_are {G} (t ∷ ts) us h k = more_are t (ts ++ us) (h 0 t refl) (both_are ts us (λ i u e. h (suc i) u e) k)

-- scopes whose variables have types
has_under : {G : Sc} (ts : List Cn) → AreTypes G.kinds ts → HasTypes G → HasTypes (under ts G)
has_under {G} ts k h = record { grounded = grounded_under ts h.grounded; locals = both_are ts G.locals k h.locals }

has_con : {G : Sc} {x : ℕ} (k : Kd) → HasTypes G → HasTypes (under_con x k G)
has_con {G} k h = record { grounded = grounded_con k h.grounded; locals = each }
  where
    each : AreTypes (bind k G.kinds) (map (λ t. shift 1 t 0) G.locals)
    each i t e =
        let (x, is, same) = option_map_from (λ u. shift 1 u 0) (slice_get G.locals i) t (sym (slice_get-map (λ u. shift 1 u 0) G.locals i) ∙ e) in
        subst (λ u. Kinded (bind k G.kinds) u types) same (under_one (h.locals i x is))

has_guard : {G : Sc} (c d : Cn) → HasTypes G → HasTypes (under_guard c d G)
has_guard c d h = record { grounded = grounded_guard c d h.grounded; locals = λ i t e. assumed_too (h.locals i t e) }

-- what patterns bind
mutual
  bound_are : {G : Sc} {q : Pt} {t : Cn} {ts : List Cn} → PatTyped kinds_asked G q t ts → AreTypes G.kinds ts
  bound_are (pat.by_equal q e x) = bound_are q
  bound_are pat.of_any = none_are
  bound_are (pat.of_binds {t = t} k) = more_are t [] k none_are
  bound_are pat.of_number = none_are
  bound_are pat.of_text = none_are
  bound_are (pat.of_bare a h) = none_are
  bound_are (pat.of_holding a h q) = bound_are q
  bound_are (pat.of_fields fs) = all_bound_are fs
  bound_are (pat.of_more_fields fs) = all_bound_are fs
  bound_are (pat.of_annotated k q) = bound_are q

  all_bound_are : {G : Sc} {fs : Pfs} {ps : Prs} {ts : List Cn} → PatFieldsTyped kinds_asked G fs ps ts → AreTypes G.kinds ts
  all_bound_are pat.of_none = none_are
  all_bound_are (pat.of_one {ts = ts} {us = us} k q fs) = both_are us ts (all_bound_are fs) (bound_are q)

named_are : {G H : Sc} {ns : Nms} → NamedTyped kinds_asked G H ns → AreTypes G.kinds (named_types ns)
named_are no_name = none_are
named_are (each_name {t = t} {ns = ns} k e rest) = both_are (named_types ns) (t ∷ []) (named_are rest) (more_are t [] k none_are)

-- the parts of types
result_of : {G : Scope} {t u : Cn} → Kinded G (arrow t u) types → Kinded G u types
result_of (of_arrow h k) = k

body_of : {G : Scope} {i : Bool} {k : Kd} {t : Cn} → Kinded G (poly i k t) types → Kinded (bind k G) t types
body_of (of_poly h) = h

row_in : {G : Scope} {r : Cn} → Kinded G (record_of r) types → Kinded G r (row_of types)
row_in (of_record h) = h

field_in : {G : Scope} {c t r : Cn} → Kinded G (cat (one_field c t) r) (row_of types) → Kinded G t types
field_in (of_cat (of_row (a_field n v rest) m) r a) = v

rest_in : {G : Scope} {c r : Cn} → Kinded G (cat c r) (row_of types) → Kinded G r (row_of types)
rest_in (of_cat c r a) = r

element_kind : {G : Sc} {m : El} {t : Cn} → ElementTyped kinds_asked G m t → Kinded G.kinds t types
element_kind (of_holding o s i h y k as' xs x) = x
element_kind (of_words_alone o s h y k as' q xs x) = x
element_kind (of_empty o s h y k as' x) = x
element_kind (of_form s h e y k as' xs x) = x
element_kind (of_input s h y k i as' x) = x
element_kind (of_button s h y k as' a x) = x

pub basics : {G : Sc} → HasTypes G → Basics G.kinds.basics
basics h = record { basis = h.grounded.basis; bools = h.grounded.bools; options = h.grounded.options; lists = h.grounded.lists }

mutual
  pub type_kind : {G : Sc} {e : Ex} {t : Cn} → HasTypes G → Typed kinds_asked G e t → Kinded G.kinds t types
  type_kind h (by_equal e q x) = x
  type_kind h (of_bound {i = i} {t = t} e) = h.locals i t e
  type_kind h (of_top {i = i} {t = t} e) = at_top_too (h.grounded.tops i t e)
  type_kind h (of_foreign e) = of_arrow (string_kind (basics h)) (transaction_kind (basics h) unit_kind)
  type_kind h (of_basis {b = b}) = basis_kind (basics h) b
  type_kind h (of_fold {k = k} {s = s} e) = fold_kind (h.grounded.folders k s e)
  type_kind h of_number = int_kind (basics h)
  type_kind h of_text = string_kind (basics h)
  type_kind h (of_built {s = s} {j = j} {d = d} {c = c} e k) = at_top_too (constructor_type_kind h.grounded s j d c e k)
  type_kind h (of_fn {ts = ts} k q c e) = of_arrow k (type_kind (has_under ts (bound_are q) h) e)
  type_kind h (of_fn_con {k = k} e) = of_poly (type_kind (has_con k h) e)
  type_kind h (of_fn_guard {c = c} {d = d} k l e) = of_guarded k l (type_kind (has_guard c d h) e)
  type_kind h (of_call e is) = result_kind h (type_kind h e) is
  type_kind h (of_let {t = t} ls e) = let b = behind h ls in subst (λ s. Kinded s t types) b.1 (type_kind b.0 e)
  type_kind h (of_case {ts = ts} e q b bs c) = type_kind (has_under ts (bound_are q) h) b
  type_kind h (of_ascribed k e) = k
  type_kind h (of_fields fs k) = of_record k
  type_kind h (of_select k e) = field_in (row_in (type_kind h e))
  type_kind h (of_concat e d a) = of_record (of_cat (row_in (type_kind h e)) (row_in (type_kind h d)) a)
  type_kind h (of_without k e) = of_record (rest_in (row_in (type_kind h e)))
  type_kind h (of_without_row k e) = of_record (rest_in (row_in (type_kind h e)))
  type_kind h (of_folder {k = k} {s = s} e j) = of_app (of_basic (h.grounded.folders k s e)) j
  type_kind h (of_element m) = element_kind m
  type_kind h (of_literal k l xs x) = x

  -- of what a function of this type gives
  result_kind : {G : Sc} {t u : Cn} {is : Its} → HasTypes G → Kinded G.kinds t types → Applies kinds_asked G t is u → Kinded G.kinds u types
  result_kind h k to_nothing = k
  result_kind h k (to_equal q x is) = result_kind h x is
  result_kind h k (to_term e is) = result_kind h (result_of k) is
  result_kind {G} h k (to_con {k = l} {c = c} {t = t} j is) = result_kind h (kinds_substitute G.kinds l c t types j (body_of k)) is
  result_kind h k (to_guard a x is) = result_kind h x is

  -- the scope behind declarations has types for its variables, and the same kinds
  behind : {G H : Sc} {ls : Los} → HasTypes G → Declares kinds_asked G ls H → HasTypes H × (H.kinds ≡ G.kinds)
  behind h nothing = (h, refl)
  behind h (one_name {t = t} k e ls) = behind (has_under (t ∷ []) (more_are t [] k none_are) h) ls
  behind h (names_together {ns = ns} x ls) = behind (has_under (named_types ns) (named_are x) h) ls
