-- Lists of parts are found, or have a fault, or a part has one.
use Rattle.std.proofs.Common.{◌≡◌, ℕ, Bool, true, false, ◌==◌, List, [], ◌∷◌, Option, Some, None, refl, ap, ◌∙◌, subst, ◌⊎◌, inl, inr}
use Rattle.std.proofs.lemmas.Bool.Decides.{Decides-eqb}
use Rattle.con_terms.specs.Trees.{types, names, Cn, arrow, poly, guarded, cat, Prs, row_of}
use Rattle.con_terms.specs.Substitution.{subst as put}
use Rattle.con_terms.specs.declared.place.Place.{Place}
use Rattle.row_normal.specs.Ordered.{ordered}
use Rattle.xml_trees.specs.declared.source_name.TagName.{TagName}
use Rattle.xml_trees.specs.declared.source_name.AttrName.{AttrName}
use Rattle.xml_trees.specs.declared.source_name.AttrName.TheVariants as attr
use Rattle.core_terms.specs.Trees.{Pt, Ex, node, bound, top, foreign, basis, fold_over, number, text, built, fn, fn_con, fn_guard, call, let_in, case_of, ascribed, fields_of, select, concat, without, without_row, folder, element, Its, with_term, with_con, with_guard, Nms, named, Los, local_val, local_rec, Brs, branch, Fds, field, Ats, no_attributes, attribute, Xs, a_node, literal, sql, no_nodes}
use Rattle.core_terms.specs.Types.{xml_of}
use Rattle.core_typing.specs.Scopes.{Sc, under, normal_of}
use Rattle.core_typing.specs.Cover.{Covers}
use Rattle.core_terms.specs.Markup.{attribute_type}
use Rattle.core_typing.specs.Typed.{branch_patterns, named_types, IsLinked, HasAttribute, first, later, NodesAreWords, IsWords, IsCallOf}
use Rattle.core_typing.specs.Typed as typed
use Rattle.core_typing.specs.Compared.{Alike, Disjoint}
use Rattle.core_typing.specs.Judged.{HasKind, LacksKind}
use Rattle.core_typing.specs.Faults.{Fault}
use Rattle.core_typing.specs.Faults as fault
use Rattle.core_typing.specs.PatternFaults.{PatFound}
use Rattle.core_typing.specs.Found.{FoundBy, Found, Leads, past_term, past_con, past_guard, EachFound, branch_found, FieldsFound, field_found, LocalsFound, val_found, rec_found, NamedFound, name_found, AttributesFound, attribute_found, NodesFound, node_found, last_found}
use Rattle.core_typing.specs.Own.{place_of, type_place, any_function, any_poly, any_guarded, any_record, Wants, NotOf, other_form, large_form, IsFunction, IsPoly, IsGuarded, IsRecord, Meets, they_touch, they_are_large, Uncovered, CallsTop, top_alone, top_called, NotLinked, ItemFault, NamedFault, LocalFault, BranchFault, BranchDiffers, FieldFault, AttributeFault, SecondAt, AttributeTwice, NodeFault, NotWords, NotHeld, held_there, large_there, ElementFault, PatsFound, no_pats, a_pat, Own, is_implicit}
use Rattle.core_typing.specs.Own as own
use Rattle.core_typing.specs.Tells.{InItems, InFields, InBranches, InNamed, InLocals, Behind, InAttributes, InNodes, Sub, Fails, itself, inside}
use Rattle.core_typing.specs.Tells as tells
use Rattle.core_typing.specs.FaultLaws.{LinksAreDecided}
use Rattle.core_typing.proofs.FoundLess.{nodes_less}
use Rattle.core_typing.proofs.Shapes.{attr_code, same_name}
use Rattle.core_typing.proofs.DecidedForms.{Fd, Fl, Told, bare, wanted, kinding, apartness, Head, no_form, head, no_head}
use Rattle.core_typing.proofs.DecidedPatterns.{PatDec, Kds}
use Rattle.core_terms.specs.declared.exp.ConOrigin.{ConOrigin}

-- the lists of parts
pub data ItemsOut (G : Sc) (at : Place) (t : Cn) (is : Its) : Type 0 where
  leads : (u : Cn) → Leads Covers G t is u → ItemsOut G at t is
  item_fault : (f : Fault) → ItemFault G at t is f → ItemsOut G at t is
  item_part : (e : Ex) → InItems is e → Fl G e → ItemsOut G at t is

pub data NamedOut (G H : Sc) (ns : Nms) : Type 0 where
  all_named : NamedFound Covers G H ns → NamedOut G H ns
  named_fault : (f : Fault) → NamedFault G H ns f → NamedOut G H ns
  named_part : (e : Ex) → InNamed ns e → Fl H e → NamedOut G H ns

pub data LocalsOut (G : Sc) (ls : Los) : Type 0 where
  all_locals : (H : Sc) → LocalsFound Covers G ls H → Behind G ls H → LocalsOut G ls
  local_fault : (f : Fault) → LocalFault G ls f → LocalsOut G ls
  local_part : (H : Sc) (e : Ex) → InLocals G ls H e → Fl H e → LocalsOut G ls

pub data BranchesOut (G : Sc) (t u : Cn) (bs : Brs) : Type 0 where
  all_branches : EachFound Covers G t bs u → PatsFound G t (branch_patterns bs) → BranchesOut G t u bs
  pattern_fault : (f : Fault) → BranchFault G t bs f → BranchesOut G t u bs
  body_fault : (f : Fault) → BranchDiffers G t u bs f → BranchesOut G t u bs
  branch_part : (q : Pt) (e : Ex) (ts : List Cn) → InBranches bs q e → PatFound G q t ts → Fl (under ts G) e → BranchesOut G t u bs

pub data FieldsOut (G : Sc) (fs : Fds) : Type 0 where
  all_fields : (ps : Prs) → FieldsFound Covers G fs ps → FieldsOut G fs
  field_fault : (f : Fault) → FieldFault G fs f → FieldsOut G fs
  field_part : (e : Ex) → InFields fs e → Fl G e → FieldsOut G fs

pub data AttributesOut (G : Sc) (u : Cn) (g : TagName) (as' : Ats) : Type 0 where
  all_attributes : AttributesFound Covers G u g as' → AttributesOut G u g as'
  attribute_fault : (f : Fault) → AttributeFault G u g as' f → AttributesOut G u g as'
  twice_fault : (f : Fault) → AttributeTwice as' f → AttributesOut G u g as'
  attribute_part : (e : Ex) → InAttributes as' e → Fl G e → AttributesOut G u g as'

pub data NodesOut (G : Sc) (c u : Cn) (xs : Xs) : Type 0 where
  all_nodes : (b : Cn) → NodesFound Covers G c u xs b → NodesOut G c u xs
  node_fault : (f : Fault) → NodeFault G c u xs f → NodesOut G c u xs
  node_part : (e : Ex) → InNodes xs e → Fl G e → NodesOut G c u xs

-- items
pub term_dec : (G : Sc) (at : Place) (t : Cn) (e : Ex) (is : Its) → Head IsFunction t → Fd G e ⊎ Fl G e → ((d : Cn) → ItemsOut G at d is) → ItemsOut G at t (with_term e is)
term_dec G at t e is (no_form h) x go = item_fault (fault.too_large at) (own.no_function (large_form h))
term_dec G at t e is (no_head n h none) x go = item_fault (fault.mismatch at G.called any_function n) (own.no_function (other_form h none))
term_dec G at t e is (head n h (u, d, i)) (inr x) go = item_part e tells.this_item x
term_dec G at t e is (head n h (u, d, i)) (inl (c, f)) go = by_want (wanted G (place_of e) u c)
  where
    at_arrow : normal_of t ≡ Some (arrow u d)
    at_arrow = h ∙ ap (λ z. Some z) i

    by_rest : Alike u c → ItemsOut G at d is → ItemsOut G at t (with_term e is)
    by_rest a (leads v l) = leads v (past_term at_arrow f a l)
    by_rest a (item_fault g x) = item_fault g (own.after_term at_arrow (bare f) a x)
    by_rest a (item_part b y x) = item_part b (tells.past_item y) x

    by_want : Alike u c ⊎ Told (Wants G (place_of e) u c) → ItemsOut G at t (with_term e is)
    by_want (inl a) = by_rest a (go d)
    by_want (inr (g, w)) = item_fault g (own.argument at_arrow (bare f) w)

pub con_dec : (G : Sc) (at p : Place) (a : ConOrigin) (t c : Cn) (is : Its) → Head IsPoly t → ((d : Cn) → ItemsOut G at d is) → ItemsOut G at t (with_con p a c is)
con_dec G at p a t c is (no_form h) go = item_fault (fault.too_large at) (own.no_poly (large_form h))
con_dec G at p a t c is (no_head n h none) go = item_fault (fault.mismatch at G.called (any_poly (is_implicit a)) n) (own.no_poly (other_form h none))
con_dec G at p a t c is (head n h (i, k, d, j)) go = by_kind (kinding G c k)
  where
    at_poly : normal_of t ≡ Some (poly i k d)
    at_poly = h ∙ ap (λ z. Some z) j

    by_rest : HasKind G c k → ItemsOut G at (put d c) is → ItemsOut G at t (with_con p a c is)
    by_rest x (leads v l) = leads v (past_con at_poly x l)
    by_rest x (item_fault g y) = item_fault g (own.after_con at_poly x y)
    by_rest x (item_part b y z) = item_part b (tells.past_con y) z

    by_kind : Kds G c k → ItemsOut G at t (with_con p a c is)
    by_kind (inl x) = by_rest x (go (put d c))
    by_kind (inr l) = let (f, x) = l p in item_fault f (own.constructor_kind at_poly x)

pub guard_dec : (G : Sc) (at p : Place) (a : Bool) (t : Cn) (is : Its) → Head IsGuarded t → ((d : Cn) → ItemsOut G at d is) → ItemsOut G at t (with_guard p a is)
guard_dec G at p a t is (no_form h) go = item_fault (fault.too_large at) (own.no_guard (large_form h))
guard_dec G at p a t is (no_head n h none) go = item_fault (fault.mismatch at G.called any_guarded n) (own.no_guard (other_form h none))
guard_dec G at p a t is (head n h (c, d, b, j)) go = by_apart (apartness G p c d)
  where
    at_guarded : normal_of t ≡ Some (guarded c d b)
    at_guarded = h ∙ ap (λ z. Some z) j

    by_rest : Disjoint G.kinds.guards c d → ItemsOut G at b is → ItemsOut G at t (with_guard p a is)
    by_rest x (leads v l) = leads v (past_guard at_guarded x l)
    by_rest x (item_fault g y) = item_fault g (own.after_guard at_guarded x y)
    by_rest x (item_part e y z) = item_part e (tells.past_guard y) z

    by_apart : Disjoint G.kinds.guards c d ⊎ Told (Meets G p c d) → ItemsOut G at t (with_guard p a is)
    by_apart (inl x) = by_rest x (go b)
    by_apart (inr (f, x)) = item_fault f (own.guard_fails at_guarded x)

-- a term at a written type
pub data WrittenOut (G H : Sc) (p : Place) (t : Cn) (e : Ex) : Type 0 where
  as_written : (u : Cn) → HasKind G t types → FoundBy Covers H e u → Alike t u → WrittenOut G H p t e
  bad_kind : (f : Fault) → LacksKind G p t types f → WrittenOut G H p t e
  bad_type : (u : Cn) (f : Fault) → HasKind G t types → Found H e u → Wants G (place_of e) t u f → WrittenOut G H p t e
  bad_term : Fl H e → WrittenOut G H p t e

pub written_dec : (G H : Sc) (p : Place) (t : Cn) (e : Ex) → Kds G t types → Fd H e ⊎ Fl H e → WrittenOut G H p t e
written_dec G H p t e (inr l) x = let (f, y) = l p in bad_kind f y
written_dec G H p t e (inl k) (inr x) = bad_term x
written_dec G H p t e (inl k) (inl (u, h)) = by_want (wanted G (place_of e) t u)
  where
    by_want : Alike t u ⊎ Told (Wants G (place_of e) t u) → WrittenOut G H p t e
    by_want (inl a) = as_written u k h a
    by_want (inr (f, w)) = bad_type u f k (bare h) w

pub name_dec : (G H : Sc) (p : Place) (x : ℕ) (w : Bool) (t : Cn) (e : Ex) (ns : Nms) → WrittenOut G H (type_place w p e) t e → NamedOut G H ns → NamedOut G H (named p x w t e ns)
name_dec G H p x w t e ns (bad_kind f y) r = named_fault f (own.name_kind y)
name_dec G H p x w t e ns (bad_type u f k h y) r = named_fault f (own.name_type k h y)
name_dec G H p x w t e ns (bad_term y) r = named_part e tells.this_name y
name_dec G H p x w t e ns (as_written u k h a) (all_named r) = all_named (name_found k h a r)
name_dec G H p x w t e ns (as_written u k h a) (named_fault f y) = named_fault f (own.later_name y)
name_dec G H p x w t e ns (as_written u k h a) (named_part b y z) = named_part b (tells.past_name y) z

pub val_dec : (G : Sc) (p : Place) (x : ℕ) (w : Bool) (t : Cn) (e : Ex) (ls : Los) → WrittenOut G G (type_place w p e) t e → LocalsOut (under (t ∷ []) G) ls → LocalsOut G (local_val p x w t e ls)
val_dec G p x w t e ls (bad_kind f y) r = local_fault f (own.val_kind y)
val_dec G p x w t e ls (bad_type u f k h y) r = local_fault f (own.val_type k h y)
val_dec G p x w t e ls (bad_term y) r = local_part G e tells.this_val y
val_dec G p x w t e ls (as_written u k h a) (all_locals H r b) = all_locals H (val_found k h a r) (tells.behind_val b)
val_dec G p x w t e ls (as_written u k h a) (local_fault f y) = local_fault f (own.after_val y)
val_dec G p x w t e ls (as_written u k h a) (local_part H b y z) = local_part H b (tells.past_val y) z

pub rec_dec : (G : Sc) (ns : Nms) (ls : Los) → NamedOut G (under (named_types ns) G) ns → LocalsOut (under (named_types ns) G) ls → LocalsOut G (local_rec ns ls)
rec_dec G ns ls (named_fault f y) r = local_fault f (own.in_rec y)
rec_dec G ns ls (named_part e y z) r = local_part (under (named_types ns) G) e (tells.this_rec y) z
rec_dec G ns ls (all_named h) (all_locals H r b) = all_locals H (rec_found h r) (tells.behind_rec b)
rec_dec G ns ls (all_named h) (local_fault f y) = local_fault f (own.after_rec y)
rec_dec G ns ls (all_named h) (local_part H e y z) = local_part H e (tells.past_rec y) z

-- branches
pub branch_dec : (G : Sc) (t u : Cn) (p : Place) (q : Pt) (e : Ex) (bs : Brs) → PatDec G q t → ((ts : List Cn) → Fd (under ts G) e ⊎ Fl (under ts G) e) → BranchesOut G t u bs → BranchesOut G t u (branch p q e bs)
branch_dec G t u p q e bs (inr (f, h)) go r = pattern_fault f (own.branch_pattern h)
branch_dec G t u p q e bs (inl (ts, h)) go r = by_body (go ts) r
  where
    by_want : (v : Cn) → FoundBy Covers (under ts G) e v → Alike u v ⊎ Told (Wants G (place_of e) u v) → BranchesOut G t u bs → BranchesOut G t u (branch p q e bs)
    by_want v b (inr (f, w)) r = body_fault f (own.this_differs h (bare b) w)
    by_want v b (inl a) (all_branches es ps) = all_branches (branch_found h b a es) (a_pat h ps)
    by_want v b (inl a) (pattern_fault f y) = pattern_fault f (own.later_pattern y)
    by_want v b (inl a) (body_fault f y) = body_fault f (own.later_differs y)
    by_want v b (inl a) (branch_part x d us i y z) = branch_part x d us (tells.past_branch i) y z

    by_body : Fd (under ts G) e ⊎ Fl (under ts G) e → BranchesOut G t u bs → BranchesOut G t u (branch p q e bs)
    by_body (inr x) r = branch_part q e ts tells.this_branch h x
    by_body (inl (v, b)) r = by_want v b (wanted G (place_of e) u v) r

-- fields
pub record_field_dec : (G : Sc) (p : Place) (n : Cn) (e : Ex) (fs : Fds) → Kds G n names → Fd G e ⊎ Fl G e → FieldsOut G fs → FieldsOut G (field p n e fs)
record_field_dec G p n e fs (inr l) x r = let (f, y) = l p in field_fault f (own.field_kind y)
record_field_dec G p n e fs (inl k) (inr x) r = field_part e tells.this_field x
record_field_dec G p n e fs (inl k) (inl (t, h)) (all_fields ps hs) = all_fields _ (field_found k h hs)
record_field_dec G p n e fs (inl k) (inl (t, h)) (field_fault f y) = field_fault f (own.later_field y)
record_field_dec G p n e fs (inl k) (inl (t, h)) (field_part b y z) = field_part b (tells.past_field y) z

-- attributes
pub data SecondOut (n : AttrName) (as' : Ats) : Type 0 where
  alone : (HasAttribute as' n → ⊥) → SecondOut n as'
  second : (f : Fault) → SecondAt n as' f → SecondOut n as'

pub not_here : (n m : AttrName) {p : Place} {e : Ex} {as' : Ats} → (attr_code n == attr_code m) ≡ false → (HasAttribute as' n → ⊥) → HasAttribute (attribute p m e as') n → ⊥
not_here n m h none first = let k : (attr_code n == attr_code n) ≡ true = (Decides-eqb (attr_code n) (attr_code n)).1 refl in cc
not_here n m h none (later x) = none x

pub second_here : (n m : AttrName) (p : Place) (e : Ex) (as' : Ats) → n ≡ m → SecondOut n (attribute p m e as')
second_here n m p e as' i = subst (λ x. SecondOut n (attribute p x e as')) i (second (fault.redeclared p (fault.twice_attribute n)) own.here)

pub second_dec : (n : AttrName) (as' : Ats) → SecondOut n as'
second_dec n no_attributes = alone (λ h. elim h [ ])
second_dec n (attribute p m e as') = by_name (attr_code n == attr_code m) refl (second_dec n as')
  where
    by_name : (b : Bool) → (attr_code n == attr_code m) ≡ b → SecondOut n as' → SecondOut n (attribute p m e as')
    by_name true h r = second_here n m p e as' (same_name n m ((Decides-eqb (attr_code n) (attr_code m)).0 h))
    by_name false h (second f x) = second f (own.further x)
    by_name false h (alone none) = alone (not_here n m h none)

pub calls_dec : (e : Ex) → CallsTop e ⊎ (CallsTop e → ⊥)
calls_dec (node p a (top i)) = inl top_alone
calls_dec (node p a (call (node q b (top i)) g is)) = inl top_called
calls_dec (node p a2 (bound i)) = inr (λ h. elim h [ ])
calls_dec (node p a2 (foreign i)) = inr (λ h. elim h [ ])
calls_dec (node p a2 (basis b)) = inr (λ h. elim h [ ])
calls_dec (node p a2 (fold_over k)) = inr (λ h. elim h [ ])
calls_dec (node p a2 (number z)) = inr (λ h. elim h [ ])
calls_dec (node p a2 (text t)) = inr (λ h. elim h [ ])
calls_dec (node p a2 (built s j)) = inr (λ h. elim h [ ])
calls_dec (node p a2 (fn q t e)) = inr (λ h. elim h [ ])
calls_dec (node p a2 (fn_con x i w k e)) = inr (λ h. elim h [ ])
calls_dec (node p a2 (fn_guard c d e)) = inr (λ h. elim h [ ])
calls_dec (node p a2 (let_in ls e)) = inr (λ h. elim h [ ])
calls_dec (node p a2 (case_of e q r d bs)) = inr (λ h. elim h [ ])
calls_dec (node p a2 (ascribed e t)) = inr (λ h. elim h [ ])
calls_dec (node p a2 (fields_of fs)) = inr (λ h. elim h [ ])
calls_dec (node p a2 (select e c)) = inr (λ h. elim h [ ])
calls_dec (node p a2 (concat e d)) = inr (λ h. elim h [ ])
calls_dec (node p a2 (without e c)) = inr (λ h. elim h [ ])
calls_dec (node p a2 (without_row e c)) = inr (λ h. elim h [ ])
calls_dec (node p a2 (folder k ps)) = inr (λ h. elim h [ ])
calls_dec (node p a2 (element m)) = inr (λ h. elim h [ ])
calls_dec (node p a2 (literal c u xs)) = inr (λ h. elim h [ ])
calls_dec (node p a2 (sql k es)) = inr (λ h. elim h [ ])
calls_dec (node p a2 (call (node q2 b2 (bound i)) g js)) = inr (λ h. elim h [ ])
calls_dec (node p a2 (call (node q2 b2 (foreign i)) g js)) = inr (λ h. elim h [ ])
calls_dec (node p a2 (call (node q2 b2 (basis b)) g js)) = inr (λ h. elim h [ ])
calls_dec (node p a2 (call (node q2 b2 (fold_over k)) g js)) = inr (λ h. elim h [ ])
calls_dec (node p a2 (call (node q2 b2 (number z)) g js)) = inr (λ h. elim h [ ])
calls_dec (node p a2 (call (node q2 b2 (text t)) g js)) = inr (λ h. elim h [ ])
calls_dec (node p a2 (call (node q2 b2 (built s j)) g js)) = inr (λ h. elim h [ ])
calls_dec (node p a2 (call (node q2 b2 (fn q t e)) g js)) = inr (λ h. elim h [ ])
calls_dec (node p a2 (call (node q2 b2 (fn_con x i w k e)) g js)) = inr (λ h. elim h [ ])
calls_dec (node p a2 (call (node q2 b2 (fn_guard c d e)) g js)) = inr (λ h. elim h [ ])
calls_dec (node p a2 (call (node q2 b2 (let_in ls e)) g js)) = inr (λ h. elim h [ ])
calls_dec (node p a2 (call (node q2 b2 (case_of e q r d bs)) g js)) = inr (λ h. elim h [ ])
calls_dec (node p a2 (call (node q2 b2 (ascribed e t)) g js)) = inr (λ h. elim h [ ])
calls_dec (node p a2 (call (node q2 b2 (fields_of fs)) g js)) = inr (λ h. elim h [ ])
calls_dec (node p a2 (call (node q2 b2 (select e c)) g js)) = inr (λ h. elim h [ ])
calls_dec (node p a2 (call (node q2 b2 (concat e d)) g js)) = inr (λ h. elim h [ ])
calls_dec (node p a2 (call (node q2 b2 (without e c)) g js)) = inr (λ h. elim h [ ])
calls_dec (node p a2 (call (node q2 b2 (without_row e c)) g js)) = inr (λ h. elim h [ ])
calls_dec (node p a2 (call (node q2 b2 (folder k ps)) g js)) = inr (λ h. elim h [ ])
calls_dec (node p a2 (call (node q2 b2 (element m)) g js)) = inr (λ h. elim h [ ])
calls_dec (node p a2 (call (node q2 b2 (literal c u xs)) g js)) = inr (λ h. elim h [ ])
calls_dec (node p a2 (call (node q2 b2 (sql k es)) g js)) = inr (λ h. elim h [ ])
calls_dec (node p a2 (call (node q2 b2 (call f s is)) g js)) = inr (λ h. elim h [ ])

pub not_linked_dec : (G : Sc) (p : Place) (n : AttrName) (t v : Cn) (e : Ex) → Found G e v → Alike t v → (IsLinked G n e → ⊥) → CallsTop e ⊎ (CallsTop e → ⊥) → Told (NotLinked G p n t e)
not_linked_dec G p n t v e f a none (inl c) = (fault.not_serialisable p, own.not_carried c f a none)
not_linked_dec G p attr.Link t v e f a none (inr d) = (fault.link_not_call p, own.link_calls_none d)
not_linked_dec G p attr.Action t v e f a none (inr d) = (fault.link_not_call p, own.action_calls_none d)
not_linked_dec G p attr.Title t v e f a none (inr d) = absurd (none typed.as_title)
not_linked_dec G p attr.Href t v e f a none (inr d) = absurd (none typed.as_href)
not_linked_dec G p attr.Src t v e f a none (inr d) = absurd (none typed.as_src)
not_linked_dec G p attr.Alt t v e f a none (inr d) = absurd (none typed.as_alt)
not_linked_dec G p attr.Border t v e f a none (inr d) = absurd (none typed.as_border)
not_linked_dec G p attr.Value t v e f a none (inr d) = absurd (none typed.as_value)
not_linked_dec G p attr.Size t v e f a none (inr d) = absurd (none typed.as_size)

pub attribute_dec : LinksAreDecided → (G : Sc) (u : Cn) (g : TagName) (p : Place) (n : AttrName) (e : Ex) (as' : Ats) → (o : Option Cn) → attribute_type u g n ≡ o → Fd G e ⊎ Fl G e → SecondOut n as' → AttributesOut G u g as' → AttributesOut G u g (attribute p n e as')
attribute_dec links G u g p n e as' None h x s r = attribute_fault (fault.unbound p (fault.an_attribute n)) (own.no_attribute h)
attribute_dec links G u g p n e as' (Some t) h (inr x) s r = attribute_part e tells.this_attribute x
attribute_dec links G u g p n e as' (Some t) h (inl (v, f)) s r = by_want (wanted G (place_of e) t v)
  where
    by_rest : Alike t v → IsLinked G n e → SecondOut n as' → AttributesOut G u g as' → AttributesOut G u g (attribute p n e as')
    by_rest a l (second x y) r = twice_fault x (own.second_of y)
    by_rest a l (alone none) (all_attributes r) = all_attributes (attribute_found h f a l none r)
    by_rest a l (alone none) (attribute_fault x y) = attribute_fault x (own.later_attribute y)
    by_rest a l (alone none) (twice_fault x y) = twice_fault x (own.later_twice y)
    by_rest a l (alone none) (attribute_part b i x) = attribute_part b (tells.past_attribute i) x

    by_link : Alike t v → IsLinked G n e ⊎ (IsLinked G n e → ⊥) → AttributesOut G u g (attribute p n e as')
    by_link a (inl l) = by_rest a l s r
    by_link a (inr none) = let (x, y) = not_linked_dec G p n t v e (bare f) a none (calls_dec e) in attribute_fault x (own.not_linked h y)

    by_want : Alike t v ⊎ Told (Wants G (place_of e) t v) → AttributesOut G u g (attribute p n e as')
    by_want (inr (x, w)) = attribute_fault x (own.attribute_differs h (bare f) w)
    by_want (inl a) = by_link a (links G n e)

-- nodes
pub last_dec : (G : Sc) (c u b : Cn) (e : Ex) → Kds G b (row_of types) → Fd G e ⊎ Fl G e → NodesOut G c u (a_node b e no_nodes)
last_dec G c u b e (inr l) x = let (f, y) = l (place_of e) in node_fault f (own.fills_kind y)
last_dec G c u b e (inl k) (inr x) = node_part e tells.this_node x
last_dec G c u b e (inl k) (inl (t, f)) = by_want (wanted G (place_of e) (xml_of c u b) t)
  where
    by_want : Alike (xml_of c u b) t ⊎ Told (Wants G (place_of e) (xml_of c u b) t) → NodesOut G c u (a_node b e no_nodes)
    by_want (inl a) = all_nodes b (last_found k f a)
    by_want (inr (g, w)) = node_fault g (own.other_place k (bare f) w)

pub node_dec : (G : Sc) (c u b h : Cn) (e d : Ex) (xs : Xs) → Kds G b (row_of types) → Fd G e ⊎ Fl G e → NodesOut G c (ordered (cat u b)) (a_node h d xs) → NodesOut G c u (a_node b e (a_node h d xs))
node_dec G c u b h e d xs (inr l) x r = let (f, y) = l (place_of e) in node_fault f (own.fills_kind y)
node_dec G c u b h e d xs (inl k) (inr x) r = node_part e tells.this_node x
node_dec G c u b h e d xs (inl k) (inl (t, f)) r = by_want (wanted G (place_of e) (xml_of c u b) t)
  where
    by_behind : (v : Cn) → Alike (xml_of c u b) t → Disjoint G.kinds.guards u b → NodesFound Covers G c (ordered (cat u b)) (a_node h d xs) v → Disjoint G.kinds.guards b v ⊎ Told (Meets G (place_of e) b v) → NodesOut G c u (a_node b e (a_node h d xs))
    by_behind v a x n (inl y) = all_nodes (ordered (cat b v)) (node_found k f a x n y)
    by_behind v a x n (inr (g, y)) = node_fault g (own.filled_behind k (nodes_less (λ ds ps w z. tt) n) y)

    by_rest : Alike (xml_of c u b) t → Disjoint G.kinds.guards u b → NodesOut G c (ordered (cat u b)) (a_node h d xs) → NodesOut G c u (a_node b e (a_node h d xs))
    by_rest a x (all_nodes v n) = by_behind v a x n (apartness G (place_of e) b v)
    by_rest a x (node_fault g y) = node_fault g (own.later_node k y)
    by_rest a x (node_part z i y) = node_part z (tells.past_node i) y

    by_apart : Alike (xml_of c u b) t → Disjoint G.kinds.guards u b ⊎ Told (Meets G (place_of e) u b) → NodesOut G c u (a_node b e (a_node h d xs))
    by_apart a (inl x) = by_rest a x r
    by_apart a (inr (g, x)) = node_fault g (own.filled_before k x)

    by_want : Alike (xml_of c u b) t ⊎ Told (Wants G (place_of e) (xml_of c u b) t) → NodesOut G c u (a_node b e (a_node h d xs))
    by_want (inl a) = by_apart a (apartness G (place_of e) u b)
    by_want (inr (g, w)) = node_fault g (own.other_place k (bare f) w)
