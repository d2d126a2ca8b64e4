-- A term is found with cover, or a premise fails in it, where cover and links are decided.
use Rattle.std.proofs.Common.{◌≡◌, ℕ, Bool, true, false, List, [], ◌∷◌, Option, Some, None, slice_get, Result, Ok, Err, nat_lt, refl, ap, ◌∙◌, arith, ◌⊎◌, inl, inr}
use Rattle.std.specs.Prelude.{◌<◌}
use Rattle.con_terms.specs.Trees.{Kd, types, names, row_of, Cn, arrow, record_of, row, cat, Prs, units}
use Rattle.con_terms.specs.declared.place.Place.{Place}
use Rattle.row_normal.specs.Ordered.{ordered, ordered_pieces}
use Rattle.kind_rules.specs.Flaws.{Flw}
use Rattle.kind_rules.specs.Compared.{comparison_units, normal_forms}
use Rattle.xml_trees.specs.declared.source_name.TagName.{TagName}
use Rattle.core_terms.specs.Trees.{Pt, Ex, node, bound, top, foreign, basis, fold_over, number, text, built, fn, fn_con, fn_guard, call, let_in, case_of, ascribed, fields_of, select, concat, without, without_row, folder, element, Its, no_items, with_term, with_con, with_guard, Nms, no_named, named, Los, no_locals, local_val, local_rec, Brs, no_branches, branch, Fds, no_fields, field, tagged, Ats, no_attributes, attribute, Xs, no_nodes, a_node, Cd, Dt, literal, sql}
use Rattle.core_terms.specs.Types.{type_row}
use Rattle.core_terms.specs.Datatypes.{datatype_of}
use Rattle.core_typing.specs.Scopes.{folder_of, Sc, under, under_con, under_guard, normal_of}
use Rattle.core_typing.specs.Cover.{Covers}
use Rattle.core_terms.specs.Markup.{attribute_type}
use Rattle.core_typing.specs.Typed.{branch_patterns, named_types}
use Rattle.core_typing.specs.Compared.{Disjoint, RecordAnd, field_of, without_pieces}
use Rattle.core_typing.specs.Judged.{guard_forms}
use Rattle.core_typing.specs.PatternFaults.{PatFound}
use Rattle.core_typing.specs.Found.{FoundBy, bound_has, top_has, foreign_has, basis_has, fold_has, number_has, text_has, built_has, fn_has, fn_con_has, fn_guard_has, call_has, let_has, case_has, ascribed_has, fields_have, select_has, concat_has, without_has, without_row_has, folder_has, at_end, EachFound, no_branch_found, no_field_found, nothing_found, no_name_found, no_attribute_found, no_node_found, literal_has}
use Rattle.core_typing.specs.Own.{place_of, type_place, any_function, any_poly, any_guarded, any_record, Wants, NotOf, other_form, large_form, IsFunction, IsPoly, IsGuarded, IsRecord, Meets, they_touch, they_are_large, Uncovered, CallsTop, top_alone, top_called, NotLinked, ItemFault, NamedFault, LocalFault, BranchFault, BranchDiffers, FieldFault, AttributeFault, SecondAt, AttributeTwice, NodeFault, NotWords, NotHeld, held_there, large_there, ElementFault, PatsFound, no_pats, a_pat, Own}
use Rattle.core_typing.specs.Own as own
use Rattle.core_typing.specs.Tells.{InItems, InFields, InBranches, InNamed, InLocals, Behind, InAttributes, InNodes, Sub, Fails, itself, inside}
use Rattle.core_typing.specs.Tells as tells
use Rattle.core_typing.specs.FaultLaws.{CoverIsDecided, LinksAreDecided, FoundOrFails}
use Rattle.core_typing.proofs.FoundLess.{fields_less}
use Rattle.core_typing.proofs.Normal.{first_form}
use Rattle.core_typing.proofs.OneType.{one_value}
use Rattle.core_typing.proofs.Shapes.{is_function, is_poly, is_guarded, is_record}
use Rattle.core_typing.proofs.DecidedForms.{Fd, Fl, Told, own_fails, part_fails, bare, only_large, kinding, apartness, Head, no_form, head, no_head, head_of, none_some}
use Rattle.core_typing.proofs.DecidedPatterns.{PatDec, Kds, pattern_dec}
use Rattle.core_typing.proofs.DecidedParts.{ItemsOut, leads, item_fault, item_part, NamedOut, all_named, LocalsOut, all_locals, local_fault, local_part, BranchesOut, all_branches, pattern_fault, body_fault, branch_part, FieldsOut, all_fields, field_fault, field_part, AttributesOut, all_attributes, NodesOut, all_nodes, term_dec, con_dec, guard_dec, WrittenOut, as_written, bad_kind, bad_type, bad_term, written_dec, name_dec, val_dec, rec_dec, branch_dec, record_field_dec, second_dec, attribute_dec, node_dec, last_dec, node_fault, node_part}
use Rattle.core_typing.proofs.DecidedElements.{FirstNode, element_dec, tagged_dec}
use Rattle.core_terms.specs.declared.exp.Sigil.{Sigil}

-- terms
abbrev pub Dec : Sc → Ex → Type 0
Dec G e = Fd G e ⊎ Fl G e

pub bound_dec : (G : Sc) (p : Place) (a : Bool) (i : ℕ) (o : Option Cn) → slice_get G.locals i ≡ o → Dec G (node p a (bound i))
bound_dec G p a i None h = inr (own_fails (own.no_variable h))
bound_dec G p a i (Some t) h = inl (t, bound_has h)

pub top_dec : (G : Sc) (p : Place) (a : Bool) (i : ℕ) (o : Option Cn) → slice_get G.tops i ≡ o → Dec G (node p a (top i))
top_dec G p a i None h = inr (own_fails (own.no_value h))
top_dec G p a i (Some t) h = inl (t, top_has h)

pub foreign_dec : (G : Sc) (p : Place) (a : Bool) (i : ℕ) (b : Bool) → nat_lt i G.effects ≡ b → Dec G (node p a (foreign i))
foreign_dec G p a i true h = inl (_, foreign_has (grind (arith, h)))
foreign_dec G p a i false h = inr (own_fails (own.no_effect (λ l. below i G.effects h l)))
  where
    below : (x y : ℕ) → nat_lt x y ≡ false → x < y → ⊥
    below x y h l = grind (arith, h, l)

pub fold_dec : (G : Sc) (p : Place) (a : Bool) (k : Kd) (o : Option ℕ) → folder_of G.folders k ≡ o → Dec G (node p a (fold_over k))
fold_dec G p a k None h = inr (own_fails (own.no_fold h))
fold_dec G p a k (Some s) h = inl (_, fold_has h)

pub built_dec : (G : Sc) (p : Place) (a : Bool) (s j : ℕ) (o : Option Dt) → datatype_of G.datatypes s ≡ o → Dec G (node p a (built s j))
built_dec G p a s j None h = inr (own_fails (own.no_constructor (λ d c e g. none_some h e)))
built_dec G p a s j (Some d) h = by_place (slice_get d.constructors j) refl
  where
    by_place : (o : Option Cd) → slice_get d.constructors j ≡ o → Dec G (node p a (built s j))
    by_place None g = inr (own_fails (own.no_constructor (λ b c e f. none_some (ap (λ (z : Dt). slice_get z.constructors j) (one_value e h) ∙ g) f)))
    by_place (Some c) g = inl (_, built_has h g)

pub fn_dec : CoverIsDecided → (G : Sc) (p : Place) (a : Bool) (q : Pt) (t : Cn) (e : Ex) → Kds G t types → PatDec G q t → ((ts : List Cn) → Dec (under ts G) e) → Dec G (node p a (fn q t e))
fn_dec cover G p a q t e (inr l) d go = let (f, x) = l p in inr (own_fails (own.parameter_kind x))
fn_dec cover G p a q t e (inl k) (inr (f, x)) go = inr (own_fails (own.parameter_pattern k x))
fn_dec cover G p a q t e (inl k) (inl (ts, h)) go = by_cover (cover G p (q ∷ []) t) (go ts)
  where
    by_cover : Covers G.datatypes (q ∷ []) t ⊎ Told (Uncovered G p (q ∷ []) t) → Dec (under ts G) e → Dec G (node p a (fn q t e))
    by_cover (inr (f, x)) d = inr (own_fails (own.parameter_cover k h x))
    by_cover (inl c) (inl (u, x)) = inl (arrow t u, fn_has k h c x)
    by_cover (inl c) (inr x) = inr (part_fails (tells.fn_body k h) x)

pub con_fn_dec : (G : Sc) (p : Place) (a : Bool) (x : ℕ) (i w : Bool) (k : Kd) (e : Ex) → Dec (under_con x k G) e → Dec G (node p a (fn_con x i w k e))
con_fn_dec G p a x i w k e (inl (t, h)) = inl (_, fn_con_has h)
con_fn_dec G p a x i w k e (inr h) = inr (part_fails tells.con_body h)

pub guard_fn_dec : (G : Sc) (p : Place) (a : Bool) (c d : Cn) (e : Ex) (r : Result (Cn × Cn) Flw) → guard_forms G.kinds c d ≡ r → ((m n : Cn) → Dec (under_guard m n G) e) → Dec G (node p a (fn_guard c d e))
guard_fn_dec G p a c d e (Err w) h go = inr (own_fails (own.bad_guard h))
guard_fn_dec G p a c d e (Ok (m, n)) h go = by_body (go m n)
  where
    by_body : Dec (under_guard m n G) e → Dec G (node p a (fn_guard c d e))
    by_body (inl (t, x)) = inl (_, fn_guard_has h x)
    by_body (inr x) = inr (part_fails (tells.guard_body h) x)

pub call_dec : (G : Sc) (p : Place) (a : Bool) (e : Ex) (s : Sigil) (is : Its) → Dec G e → ((t : Cn) → ItemsOut G (place_of e) t is) → Dec G (node p a (call e s is))
call_dec G p a e s is (inr x) go = inr (part_fails tells.function x)
call_dec G p a e s is (inl (t, h)) go = by_items (go t)
  where
    by_items : ItemsOut G (place_of e) t is → Dec G (node p a (call e s is))
    by_items (leads u l) = inl (u, call_has h l)
    by_items (item_fault f x) = inr (own_fails (own.an_item (bare h) x))
    by_items (item_part d i x) = inr (part_fails (tells.argument i) x)

pub let_dec : (G : Sc) (p : Place) (a : Bool) (ls : Los) (e : Ex) → LocalsOut G ls → ((H : Sc) → Dec H e) → Dec G (node p a (let_in ls e))
let_dec G p a ls e (local_fault f x) go = inr (own_fails (own.a_local x))
let_dec G p a ls e (local_part H d i x) go = inr (part_fails (tells.local_term i) x)
let_dec G p a ls e (all_locals H h b) go = by_body (go H)
  where
    by_body : Dec H e → Dec G (node p a (let_in ls e))
    by_body (inl (t, x)) = inl (t, let_has h x)
    by_body (inr x) = inr (part_fails (tells.let_body b) x)

pub case_dec : CoverIsDecided → (G : Sc) (p : Place) (a : Bool) (e : Ex) (q : Place) (r : Pt) (b : Ex) (bs : Brs) → Dec G e → ((ts : List Cn) → Dec (under ts G) b) → ((t u : Cn) → BranchesOut G t u bs) → Dec G (node p a (case_of e q r b bs))
case_dec cover G p a e q r b bs (inr x) go on = inr (part_fails tells.what_is_matched x)
case_dec cover G p a e q r b bs (inl (t, h)) go on = by_pattern (pattern_dec G r t)
  where
    by_cover : (ts : List Cn) (u : Cn) → PatFound G r t ts → FoundBy Covers (under ts G) b u → EachFound Covers G t bs u → PatsFound G t (branch_patterns bs) → Covers G.datatypes (r ∷ branch_patterns bs) t ⊎ Told (Uncovered G p (r ∷ branch_patterns bs) t) → Dec G (node p a (case_of e q r b bs))
    by_cover ts u k x es ps (inl c) = inl (u, case_has h k x es c)
    by_cover ts u k x es ps (inr (f, y)) = inr (own_fails (own.not_covered (bare h) (a_pat k ps) y))

    by_branches : (ts : List Cn) (u : Cn) → PatFound G r t ts → FoundBy Covers (under ts G) b u → BranchesOut G t u bs → Dec G (node p a (case_of e q r b bs))
    by_branches ts u k x (all_branches es ps) = by_cover ts u k x es ps (cover G p (r ∷ branch_patterns bs) t)
    by_branches ts u k x (pattern_fault f y) = inr (own_fails (own.a_later_pattern (bare h) y))
    by_branches ts u k x (body_fault f y) = inr (own_fails (own.branches_differ (bare h) k (bare x) y))
    by_branches ts u k x (branch_part s d us i m y) = inr (part_fails (tells.later_branch (bare h) i m) y)

    by_body : (ts : List Cn) → PatFound G r t ts → Dec (under ts G) b → Dec G (node p a (case_of e q r b bs))
    by_body ts k (inr x) = inr (part_fails (tells.first_branch (bare h) k) x)
    by_body ts k (inl (u, x)) = by_branches ts u k x (on t u)

    by_pattern : PatDec G r t → Dec G (node p a (case_of e q r b bs))
    by_pattern (inr (f, x)) = inr (own_fails (own.first_pattern (bare h) x))
    by_pattern (inl (ts, k)) = by_body ts k (go ts)

pub ascribed_dec : (G : Sc) (p : Place) (a : Bool) (e : Ex) (t : Cn) → WrittenOut G G p t e → Dec G (node p a (ascribed e t))
ascribed_dec G p a e t (as_written u k h x) = inl (t, ascribed_has k h x)
ascribed_dec G p a e t (bad_kind f x) = inr (own_fails (own.written_kind x))
ascribed_dec G p a e t (bad_type u f k h x) = inr (own_fails (own.not_as_written k h x))
ascribed_dec G p a e t (bad_term x) = inr (part_fails tells.with_type x)

pub record_fields_dec : (G : Sc) (p : Place) (a : Bool) (fs : Fds) → FieldsOut G fs → Dec G (node p a (fields_of fs))
record_fields_dec G p a fs (field_fault f x) = inr (own_fails (own.a_field x))
record_fields_dec G p a fs (field_part e i x) = inr (part_fails (tells.field_term i) x)
record_fields_dec G p a fs (all_fields ps h) = by_kind (kinding G (type_row ps) (row_of types))
  where
    by_kind : Kds G (type_row ps) (row_of types) → Dec G (node p a (fields_of fs))
    by_kind (inl k) = inl (_, fields_have h k)
    by_kind (inr l) = let (f, x) = l p in inr (own_fails (own.same_names (fields_less (λ ds qs w z. tt) h) x))

-- a record, and what is taken from it
pub record_at : {o : Option Cn} {n r : Cn} → o ≡ Some n → n ≡ record_of r → o ≡ Some (record_of r)
record_at h i = h ∙ ap (λ z. Some z) i

pub beside_record : (t c : Cn) {n r y x : Cn} → normal_of t ≡ Some n → n ≡ record_of r → normal_forms comparison_units t c ≡ Ok (y, x) → RecordAnd t c r x
beside_record t c {x = x} h i m = m ∙ ap (λ z. Ok (z, x)) (one_value (first_form t c m) (record_at h i))

pub select_dec : (G : Sc) (p : Place) (a : Bool) (e : Ex) (c t : Cn) → FoundBy Covers G e t → Head IsRecord t → Kds G c names → (o : Result (Cn × Cn) Flw) → normal_forms comparison_units t c ≡ o → Dec G (node p a (select e c))
select_dec G p a e c t f (no_form h) k o m = inr (own_fails (own.select_no_record (bare f) (large_form h)))
select_dec G p a e c t f (no_head n h none) k o m = inr (own_fails (own.select_no_record (bare f) (other_form h none)))
select_dec G p a e c t f (head n h (r, i)) (inr l) o m = let (g, x) = l p in inr (own_fails (own.select_kind x))
select_dec G p a e c t f (head n h (r, i)) (inl k) (Err w) m = inr (own_fails (own.select_large (bare f) (record_at h i) k (m ∙ ap (λ x. Err x) (only_large t c w m))))
select_dec G p a e c t f (head n h (r, i)) (inl k) (Ok (y, x)) m = by_field (field_of x (ordered_pieces r)) refl
  where
    by_field : (o : Option (Cn × List Cn)) → field_of x (ordered_pieces r) ≡ o → Dec G (node p a (select e c))
    by_field None g = inr (own_fails (own.select_no_field (bare f) (beside_record t c h i m) k g))
    by_field (Some (v, rest)) g = inl (v, select_has f (beside_record t c h i m) k g)

pub without_dec : (G : Sc) (p : Place) (a : Bool) (e : Ex) (c t : Cn) → FoundBy Covers G e t → Head IsRecord t → Kds G c names → (o : Result (Cn × Cn) Flw) → normal_forms comparison_units t c ≡ o → Dec G (node p a (without e c))
without_dec G p a e c t f (no_form h) k o m = inr (own_fails (own.without_no_record (bare f) (large_form h)))
without_dec G p a e c t f (no_head n h none) k o m = inr (own_fails (own.without_no_record (bare f) (other_form h none)))
without_dec G p a e c t f (head n h (r, i)) (inr l) o m = let (g, x) = l p in inr (own_fails (own.without_kind x))
without_dec G p a e c t f (head n h (r, i)) (inl k) (Err w) m = inr (own_fails (own.without_large (bare f) (record_at h i) k (m ∙ ap (λ x. Err x) (only_large t c w m))))
without_dec G p a e c t f (head n h (r, i)) (inl k) (Ok (y, x)) m = by_field (field_of x (ordered_pieces r)) refl
  where
    by_field : (o : Option (Cn × List Cn)) → field_of x (ordered_pieces r) ≡ o → Dec G (node p a (without e c))
    by_field None g = inr (own_fails (own.without_no_field (bare f) (beside_record t c h i m) k g))
    by_field (Some (v, rest)) g = inl (_, without_has f (beside_record t c h i m) k g)

pub row_dec : (G : Sc) (p : Place) (a : Bool) (e : Ex) (c t : Cn) → FoundBy Covers G e t → Head IsRecord t → Kds G c (row_of types) → (o : Result (Cn × Cn) Flw) → normal_forms comparison_units t c ≡ o → Dec G (node p a (without_row e c))
row_dec G p a e c t f (no_form h) k o m = inr (own_fails (own.row_no_record (bare f) (large_form h)))
row_dec G p a e c t f (no_head n h none) k o m = inr (own_fails (own.row_no_record (bare f) (other_form h none)))
row_dec G p a e c t f (head n h (r, i)) (inr l) o m = let (g, x) = l p in inr (own_fails (own.row_kind x))
row_dec G p a e c t f (head n h (r, i)) (inl k) (Err w) m = inr (own_fails (own.row_large (bare f) (record_at h i) k (m ∙ ap (λ x. Err x) (only_large t c w m))))
row_dec G p a e c t f (head n h (r, i)) (inl k) (Ok (y, x)) m = by_pieces (without_pieces (ordered_pieces x) (ordered_pieces r)) refl
  where
    by_pieces : (o : Option (List Cn)) → without_pieces (ordered_pieces x) (ordered_pieces r) ≡ o → Dec G (node p a (without_row e c))
    by_pieces None g = inr (own_fails (own.row_not_there (bare f) (beside_record t c h i m) k g))
    by_pieces (Some rest) g = inl (_, without_row_has f (beside_record t c h i m) k g)

pub concat_dec : (G : Sc) (p : Place) (a : Bool) (e d : Ex) (t u : Cn) → FoundBy Covers G e t → FoundBy Covers G d u → Head IsRecord t → Head IsRecord u → Dec G (node p a (concat e d))
concat_dec G p a e d t u f g (no_form h) k = inr (own_fails (own.left_no_record (bare f) (large_form h)))
concat_dec G p a e d t u f g (no_head n h none) k = inr (own_fails (own.left_no_record (bare f) (other_form h none)))
concat_dec G p a e d t u f g (head n h i) (no_form k) = inr (own_fails (own.right_no_record (bare g) (large_form k)))
concat_dec G p a e d t u f g (head n h i) (no_head m k none) = inr (own_fails (own.right_no_record (bare g) (other_form k none)))
concat_dec G p a e d t u f g (head n h (r, i)) (head m k (s, j)) = by_apart (apartness G p r s)
  where
    by_apart : Disjoint G.kinds.guards r s ⊎ Told (Meets G p r s) → Dec G (node p a (concat e d))
    by_apart (inl x) = inl (_, concat_has f g (record_at h i) (record_at k j) x)
    by_apart (inr (w, x)) = inr (own_fails (own.clash (bare f) (bare g) (record_at h i) (record_at k j) x))

pub folder_dec : (G : Sc) (p : Place) (a : Bool) (k : Kd) (ps : Prs) (o : Option ℕ) → folder_of G.folders k ≡ o → Kds G (row k ps) (row_of k) → Dec G (node p a (folder k ps))
folder_dec G p a k ps None h x = inr (own_fails (own.no_folder h))
folder_dec G p a k ps (Some s) h (inr l) = let (f, x) = l p in inr (own_fails (own.folder_kind x))
folder_dec G p a k ps (Some s) h (inl x) = inl (_, folder_has h x)

-- literals and forms of SQL
pub literal_dec : (G : Sc) (p : Place) (a : Bool) (c u : Cn) (xs : Xs) → Kds G c (row_of units) → Kds G u (row_of types) → NodesOut G c u xs → Dec G (node p a (literal c u xs))
literal_dec G p a c u xs (inr l) k r = let (f, x) = l p in inr (own_fails (own.literal_context x))
literal_dec G p a c u xs (inl k) (inr l) r = let (f, x) = l p in inr (own_fails (own.literal_uses x))
literal_dec G p a c u xs (inl k) (inl l) (all_nodes b h) = inl (_, literal_has k l h)
literal_dec G p a c u xs (inl k) (inl l) (node_fault f x) = inr (own_fails (own.literal_node k l x))
literal_dec G p a c u xs (inl k) (inl l) (node_part e i x) = inr (part_fails (tells.literal_node i) x)

-- a part first, and what follows where it is found
pub after_part : {G : Sc} {e c : Ex} → Sub G e G c → Dec G c → ((t : Cn) → FoundBy Covers G c t → Dec G e) → Dec G e
after_part s (inr x) go = inr (part_fails s x)
after_part s (inl (t, h)) go = go t h

pub record_head : (t : Cn) → Head IsRecord t
record_head t = head_of IsRecord is_record t (normal_of t) refl

mutual
  decide : CoverIsDecided → LinksAreDecided → (G : Sc) (e : Ex) → Dec G e
  decide D L G (node p a (bound i)) = bound_dec G p a i (slice_get G.locals i) refl
  decide D L G (node p a (top i)) = top_dec G p a i (slice_get G.tops i) refl
  decide D L G (node p a (foreign i)) = foreign_dec G p a i (nat_lt i G.effects) refl
  decide D L G (node p a (basis b)) = inl (_, basis_has)
  decide D L G (node p a (fold_over k)) = fold_dec G p a k (folder_of G.folders k) refl
  decide D L G (node p a (number z)) = inl (_, number_has)
  decide D L G (node p a (text w)) = inl (_, text_has)
  decide D L G (node p a (built s j)) = built_dec G p a s j (datatype_of G.datatypes s) refl
  decide D L G (node p a (fn q t e)) = fn_dec D G p a q t e (kinding G t types) (pattern_dec G q t) (λ ts. decide D L (under ts G) e)
  decide D L G (node p a (fn_con x i w k e)) = con_fn_dec G p a x i w k e (decide D L (under_con x k G) e)
  decide D L G (node p a (fn_guard c d e)) = guard_fn_dec G p a c d e (guard_forms G.kinds c d) refl (λ m n. decide D L (under_guard m n G) e)
  decide D L G (node p a (call f s is)) = call_dec G p a f s is (decide D L G f) (λ t. decide_items D L G (place_of f) t is)
  decide D L G (node p a (let_in ls e)) = let_dec G p a ls e (decide_locals D L G ls) (λ H. decide D L H e)
  decide D L G (node p a (case_of e q r b bs)) = case_dec D G p a e q r b bs (decide D L G e) (λ ts. decide D L (under ts G) b) (λ t u. decide_branches D L G t u bs)
  decide D L G (node p a (ascribed e t)) = ascribed_dec G p a e t (written_dec G G p t e (kinding G t types) (decide D L G e))
  decide D L G (node p a (fields_of fs)) = record_fields_dec G p a fs (decide_fields D L G fs)
  decide D L G (node p a (select e c)) = after_part tells.selected_from (decide D L G e) (λ t f. select_dec G p a e c t f (record_head t) (kinding G c names) (normal_forms comparison_units t c) refl)
  decide D L G (node p a (concat e d)) = after_part tells.left (decide D L G e) (λ t f. after_part tells.right (decide D L G d) (λ u g. concat_dec G p a e d t u f g (record_head t) (record_head u)))
  decide D L G (node p a (without e c)) = after_part tells.cut_from (decide D L G e) (λ t f. without_dec G p a e c t f (record_head t) (kinding G c names) (normal_forms comparison_units t c) refl)
  decide D L G (node p a (without_row e c)) = after_part tells.row_cut_from (decide D L G e) (λ t f. row_dec G p a e c t f (record_head t) (kinding G c (row_of types)) (normal_forms comparison_units t c) refl)
  decide D L G (node p a (folder k ps)) = folder_dec G p a k ps (folder_of G.folders k) refl (kinding G (row k ps) (row_of k))
  decide D L G (node p a (element (tagged g n c u as' xs))) = element_dec G p a g n c u as' xs (tagged_dec G p g n c u as' xs (decide_attributes D L G u g as') (decide_first D L G xs) (λ d v. decide_nodes D L G d v xs))
  decide D L G (node p a (literal c u xs)) = literal_dec G p a c u xs (kinding G c (row_of units)) (kinding G u (row_of types)) (decide_nodes D L G c u xs)
  decide D L G (node p a (sql k es)) = inr (own_fails own.no_rule)

  decide_items : CoverIsDecided → LinksAreDecided → (G : Sc) (at : Place) (t : Cn) (is : Its) → ItemsOut G at t is
  decide_items D L G at t no_items = leads t at_end
  decide_items D L G at t (with_term e is) = term_dec G at t e is (head_of IsFunction is_function t (normal_of t) refl) (decide D L G e) (λ d. decide_items D L G at d is)
  decide_items D L G at t (with_con p a c is) = con_dec G at p a t c is (head_of IsPoly is_poly t (normal_of t) refl) (λ d. decide_items D L G at d is)
  decide_items D L G at t (with_guard p a is) = guard_dec G at p a t is (head_of IsGuarded is_guarded t (normal_of t) refl) (λ d. decide_items D L G at d is)

  decide_named : CoverIsDecided → LinksAreDecided → (G H : Sc) (ns : Nms) → NamedOut G H ns
  decide_named D L G H no_named = all_named no_name_found
  decide_named D L G H (named p x w t e ns) = name_dec G H p x w t e ns (written_dec G H (type_place w p e) t e (kinding G t types) (decide D L H e)) (decide_named D L G H ns)

  decide_locals : CoverIsDecided → LinksAreDecided → (G : Sc) (ls : Los) → LocalsOut G ls
  decide_locals D L G no_locals = all_locals G nothing_found tells.behind_none
  decide_locals D L G (local_val p x w t e ls) = val_dec G p x w t e ls (written_dec G G (type_place w p e) t e (kinding G t types) (decide D L G e)) (decide_locals D L (under (t ∷ []) G) ls)
  decide_locals D L G (local_rec ns ls) = rec_dec G ns ls (decide_named D L G (under (named_types ns) G) ns) (decide_locals D L (under (named_types ns) G) ls)

  decide_branches : CoverIsDecided → LinksAreDecided → (G : Sc) (t u : Cn) (bs : Brs) → BranchesOut G t u bs
  decide_branches D L G t u no_branches = all_branches no_branch_found no_pats
  decide_branches D L G t u (branch p q e bs) = branch_dec G t u p q e bs (pattern_dec G q t) (λ ts. decide D L (under ts G) e) (decide_branches D L G t u bs)

  decide_fields : CoverIsDecided → LinksAreDecided → (G : Sc) (fs : Fds) → FieldsOut G fs
  decide_fields D L G no_fields = all_fields _ no_field_found
  decide_fields D L G (field p n e fs) = record_field_dec G p n e fs (kinding G n names) (decide D L G e) (decide_fields D L G fs)

  decide_attributes : CoverIsDecided → LinksAreDecided → (G : Sc) (u : Cn) (g : TagName) (as' : Ats) → AttributesOut G u g as'
  decide_attributes D L G u g no_attributes = all_attributes no_attribute_found
  decide_attributes D L G u g (attribute p n e as') = attribute_dec L G u g p n e as' (attribute_type u g n) refl (decide D L G e) (second_dec n as') (decide_attributes D L G u g as')

  decide_first : CoverIsDecided → LinksAreDecided → (G : Sc) (xs : Xs) → FirstNode G xs
  decide_first D L G no_nodes = tt
  decide_first D L G (a_node b e xs) = decide D L G e

  decide_nodes : CoverIsDecided → LinksAreDecided → (G : Sc) (c u : Cn) (xs : Xs) → NodesOut G c u xs
  decide_nodes D L G c u no_nodes = all_nodes _ no_node_found
  decide_nodes D L G c u (a_node b e no_nodes) = last_dec G c u b e (kinding G b (row_of types)) (decide D L G e)
  decide_nodes D L G c u (a_node b e (a_node h d xs)) = node_dec G c u b h e d xs (kinding G b (row_of types)) (decide D L G e) (decide_nodes D L G c (ordered (cat u b)) (a_node h d xs))

pub found_or_fails : FoundOrFails
found_or_fails D L G e = decide D L G e
