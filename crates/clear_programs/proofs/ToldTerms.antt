-- A fault of a term before which none stands is told, or one at its place is: an own fault is told unless a part has
-- a fault that doesn't stand later, and that part is smaller.
use Rattle.std.proofs.Common.{◌≡◌, Bool, true, false, refl}
use Rattle.core_terms.specs.Trees.{Pt, Ex, node, Fo, bound, top, foreign, basis, fold_over, number, text, built, fn}
use Rattle.core_terms.specs.Trees.{fn_con, fn_guard, call, let_in, case_of, ascribed, fields_of, select, concat}
use Rattle.core_terms.specs.Trees.{without, without_row, folder, element, literal, sql, Its, no_items, with_term}
use Rattle.core_terms.specs.Trees.{with_con, with_guard, Nms, no_named, named, Los, no_locals, local_val, local_rec}
use Rattle.core_terms.specs.Trees.{Brs, no_branches, branch, Fds, no_fields, field, tagged, Ats, no_attributes}
use Rattle.core_terms.specs.Trees.{attribute, Xs, no_nodes, a_node, Exs, no_exps, an_exp}
use Rattle.con_terms.specs.declared.place.Place.{Place}
use Rattle.core_typing.specs.Scopes.{Sc}
use Rattle.core_typing.specs.Own.{Own}
use Rattle.core_typing.specs.Faults.{Fault, at, Earlier}
use Rattle.core_typing.specs.Tells.{InItems, this_item, past_item, past_con, past_guard, InFields, this_field}
use Rattle.core_typing.specs.Tells.{past_field, InBranches, this_branch, past_branch, InNamed, this_name, past_name}
use Rattle.core_typing.specs.Tells.{InNodes, this_node, past_node, InExps, this_exp, past_exp, InLocals, this_val}
use Rattle.core_typing.specs.Tells.{past_val, this_rec, past_rec, InAttributes, this_attribute, past_attribute, Sub}
use Rattle.core_typing.specs.Tells.{Fails, itself, inside, Tells, tells_own, tells_inner}
use Rattle.core_typing.specs.Tells as tells
use Rattle.told_faults.specs.Computed.{sooner}
use Rattle.told_faults.proofs.Ordering.{sooner_is, sooner_isnt, none_before, not_itself}

-- none of these stands before a fault
abbrev pub IsFirst : (Fault → Type 0) → Fault → Type 0
IsFirst F f = (g : Fault) → F g → Earlier (at g) (at f) → ⊥

-- it can't be that no fault is told up to a fault
abbrev pub IsToldBy : (Fault → Type 0) → Fault → Type 0
IsToldBy T f = ((t : Fault) → T t → (Earlier (at f) (at t) → ⊥) → ⊥) → ⊥

-- of a term a fault is told that stands no later than a first one
abbrev pub TellsFirst : Ex → Type 0
TellsFirst e = (G : Sc) (f : Fault) → Fails G e f → IsFirst (Fails G e) f → IsToldBy (Tells G e) f

-- whether a fault stands strictly later
pub stands_later : (f g : Fault) → ((Earlier (at f) (at g) → ⊥) → ⊥) → Earlier (at f) (at g)
stands_later f g h = by_test (sooner (at f) (at g)) refl
  where
    by_test : (b : Bool) → sooner (at f) (at g) ≡ b → Earlier (at f) (at g)
    by_test true e = sooner_is (at f) (at g) e
    by_test false e = absurd (h (sooner_isnt (at f) (at g) e))

-- a part that tells a fault up to g, where g stands no later than f, and none stands before f
inner_told : (e c : Ex) (G H : Sc) (f g t : Fault) → Sub G e H c → IsFirst (Fails G e) f
    → (Earlier (at f) (at g) → ⊥) → Tells H c t → (Earlier (at g) (at t) → ⊥) → Tells G e t
inner_told e c G H f g t s least l x k = tells_inner s x (λ i y.
    none_before (at i) (at t) (at f) (least i y) (none_before (at f) (at t) (at g) l k))

-- a part of a term, of which a fault stands no later than a first one of the term
in_part : (e c : Ex) (G H : Sc) (f g : Fault) → TellsFirst c → Sub G e H c → IsFirst (Fails G e) f
    → (Earlier (at f) (at g) → ⊥) → Fails H c g → IsToldBy (Tells G e) f
in_part e c G H f g part s least l x none =
    part H g x (λ i y. none_before (at i) (at g) (at f) (least i (inside s y)) l)
    (λ t y k. none t (inner_told e c G H f g t s least l y k) (none_before (at f) (at t) (at g) l k))

own_told : (e : Ex) (G : Sc) (f : Fault) → ((H : Sc) (c : Ex) → Sub G e H c → TellsFirst c) → Own G e f
    → IsFirst (Fails G e) f → IsToldBy (Tells G e) f
own_told e G f parts x least none =
    none f (tells_own x (λ g y. least g (itself y)) (λ H c g s y. stands_later f g
    (λ l. in_part e c G H f g (parts H c s) s least l y none))) (not_itself (at f))

by_parts : (e : Ex) → ((G H : Sc) (c : Ex) → Sub G e H c → TellsFirst c) → TellsFirst e
by_parts e parts G f (itself x) least = own_told e G f (parts G) x least
by_parts e parts G f (inside {H = H} {c = c} s x) least =
    in_part e c G H f f (parts G H c s) s least (not_itself (at f)) x

mutual
  pub first_told : (e : Ex) → TellsFirst e
  first_told (node p a f) = by_parts (node p a f) (in_form p a f)

  in_form : (p : Place) (a : Bool) (f : Fo) (G H : Sc) (c : Ex) → Sub G (node p a f) H c → TellsFirst c
  in_form p a (bound i) G H c s = elim s [ ]
  in_form p a (top i) G H c s = elim s [ ]
  in_form p a (foreign i) G H c s = elim s [ ]
  in_form p a (basis b) G H c s = elim s [ ]
  in_form p a (fold_over k) G H c s = elim s [ ]
  in_form p a (number z) G H c s = elim s [ ]
  in_form p a (text w) G H c s = elim s [ ]
  in_form p a (built s j) G H c x = elim x [ ]
  in_form p a (fn q t e) G H c (tells.fn_body k h) = first_told e
  in_form p a (fn_con x i w k e) G H c tells.con_body = first_told e
  in_form p a (fn_guard m n e) G H c (tells.guard_body h) = first_told e
  in_form p a (call e o is) G H c tells.function = first_told e
  in_form p a (call e o is) G H c (tells.argument i) = in_items is c i
  in_form p a (let_in ls e) G H c (tells.local_term i) = in_locals ls G H c i
  in_form p a (let_in ls e) G H c (tells.let_body b) = first_told e
  in_form p a (case_of e q r b bs) G H c tells.what_is_matched = first_told e
  in_form p a (case_of e q r b bs) G H c (tells.first_branch h k) = first_told b
  in_form p a (case_of e q r b bs) G H c (tells.later_branch {s = s} h i k) = in_branches bs s c i
  in_form p a (ascribed e t) G H c tells.with_type = first_told e
  in_form p a (fields_of fs) G H c (tells.field_term i) = in_fields fs c i
  in_form p a (select e n) G H c tells.selected_from = first_told e
  in_form p a (concat e d) G H c tells.left = first_told e
  in_form p a (concat e d) G H c tells.right = first_told d
  in_form p a (without e n) G H c tells.cut_from = first_told e
  in_form p a (without_row e n) G H c tells.row_cut_from = first_told e
  in_form p a (folder k ps) G H c s = elim s [ ]
  in_form p a (element (tagged g n w u as' xs)) G H c (tells.attribute_term i) = in_attributes as' c i
  in_form p a (element (tagged g n w u as' xs)) G H c (tells.inner_node i) = in_nodes xs c i
  in_form p a (literal w u xs) G H c (tells.literal_node i) = in_nodes xs c i
  in_form p a (sql k es) G H c (tells.sql_term i) = in_exps es c i

  in_items : (is : Its) (c : Ex) → InItems is c → TellsFirst c
  in_items no_items c i = elim i [ ]
  in_items (with_term e is) c this_item = first_told e
  in_items (with_term e is) c (past_item i) = in_items is c i
  in_items (with_con p o n is) c (past_con i) = in_items is c i
  in_items (with_guard p a is) c (past_guard i) = in_items is c i

  in_fields : (fs : Fds) (c : Ex) → InFields fs c → TellsFirst c
  in_fields no_fields c i = elim i [ ]
  in_fields (field p n e fs) c this_field = first_told e
  in_fields (field p n e fs) c (past_field i) = in_fields fs c i

  in_branches : (bs : Brs) (q : Pt) (c : Ex) → InBranches bs q c → TellsFirst c
  in_branches no_branches q c i = elim i [ ]
  in_branches (branch p r e bs) q c this_branch = first_told e
  in_branches (branch p r e bs) q c (past_branch i) = in_branches bs q c i

  in_named : (ns : Nms) (c : Ex) → InNamed ns c → TellsFirst c
  in_named no_named c i = elim i [ ]
  in_named (named p x w t e ns) c this_name = first_told e
  in_named (named p x w t e ns) c (past_name i) = in_named ns c i

  in_locals : (ls : Los) (G H : Sc) (c : Ex) → InLocals G ls H c → TellsFirst c
  in_locals no_locals G H c i = elim i [ ]
  in_locals (local_val p x w t e ls) G H c this_val = first_told e
  in_locals (local_val p x w t e ls) G H c (past_val i) = in_locals ls _ H c i
  in_locals (local_rec ns ls) G H c (this_rec i) = in_named ns c i
  in_locals (local_rec ns ls) G H c (past_rec i) = in_locals ls _ H c i

  in_attributes : (as' : Ats) (c : Ex) → InAttributes as' c → TellsFirst c
  in_attributes no_attributes c i = elim i [ ]
  in_attributes (attribute p n e as') c this_attribute = first_told e
  in_attributes (attribute p n e as') c (past_attribute i) = in_attributes as' c i

  in_nodes : (xs : Xs) (c : Ex) → InNodes xs c → TellsFirst c
  in_nodes no_nodes c i = elim i [ ]
  in_nodes (a_node b e xs) c this_node = first_told e
  in_nodes (a_node b e xs) c (past_node i) = in_nodes xs c i

  in_exps : (es : Exs) (c : Ex) → InExps es c → TellsFirst c
  in_exps no_exps c i = elim i [ ]
  in_exps (an_exp e es) c this_exp = first_told e
  in_exps (an_exp e es) c (past_exp i) = in_exps es c i
