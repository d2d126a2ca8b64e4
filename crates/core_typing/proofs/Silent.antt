-- A term that is found with cover has no fault in it.
use Rattle.std.proofs.Common.{◌≡◌, List, refl, sym, subst}
use Rattle.con_terms.specs.Trees.{Cn, cat, Prs}
use Rattle.row_normal.specs.Ordered.{ordered}
use Rattle.xml_trees.specs.declared.source_name.TagName.{TagName}
use Rattle.core_terms.specs.Trees.{Pt, Ex, Its, Nms, Los, Brs, Fds, Ats, Xs}
use Rattle.core_typing.specs.Scopes.{Sc, under, under_guard}
use Rattle.core_typing.specs.Cover.{Covers}
use Rattle.core_typing.specs.PatternFaults.{PatFound}
use Rattle.core_typing.specs.Found.{FoundBy, fn_has, fn_con_has, fn_guard_has, call_has, let_has, case_has, ascribed_has, fields_have, select_has, concat_has, without_has, without_row_has, element_has, Leads, past_term, past_con, past_guard, EachFound, branch_found, FieldsFound, field_found, LocalsFound, nothing_found, val_found, rec_found, NamedFound, name_found, holding_found, words_found, empty_found, form_found, input_found, button_found, AttributesFound, attribute_found, NodesFound, node_found, literal_has, last_found}
use Rattle.core_typing.specs.Faults.{Fault}
use Rattle.core_typing.specs.Tells.{InItems, this_item, past_item, InFields, this_field, past_field, InBranches, this_branch, past_branch, InNamed, this_name, past_name, InNodes, this_node, past_node, InLocals, this_val, past_val, this_rec, past_rec, Behind, behind_none, behind_val, behind_rec, InAttributes, this_attribute, past_attribute, Sub, Fails, itself, inside}
use Rattle.core_typing.specs.Tells as tells
use Rattle.core_typing.specs.FaultLaws.{FoundTellsNothing}
use Rattle.core_typing.proofs.OneType.{one_answer, one_pattern, one_found}
use Rattle.core_typing.proofs.Excluded.{own_out}

-- a part is found, with some type
abbrev HasType : Sc → Ex → Type 0
HasType G e = (t : Cn) × FoundBy Covers G e t

item_found : {G : Sc} {is : Its} {t u : Cn} {e : Ex} → InItems is e → Leads Covers G t is u → HasType G e
item_found this_item (past_term {c = c} n e a is) = (c, e)
item_found (past_item i) (past_term n e a is) = item_found i is
item_found (tells.past_con i) (past_con n k is) = item_found i is
item_found (tells.past_guard i) (past_guard n d is) = item_found i is

pub name_in : {G H : Sc} {ns : Nms} {e : Ex} → InNamed ns e → NamedFound Covers G H ns → HasType H e
name_in this_name (name_found {u = u} k e a ns) = (u, e)
name_in (past_name i) (name_found k e a ns) = name_in i ns

local_found : {G H K : Sc} {ls : Los} {e : Ex} → InLocals G ls H e → LocalsFound Covers G ls K → HasType H e
local_found this_val (val_found {u = u} k e a ls) = (u, e)
local_found (past_val i) (val_found k e a ls) = local_found i ls
local_found (this_rec i) (rec_found ns ls) = name_in i ns
local_found (past_rec i) (rec_found ns ls) = local_found i ls

same_behind : {G H K : Sc} {ls : Los} → Behind G ls H → LocalsFound Covers G ls K → K ≡ H
same_behind behind_none nothing_found = refl
same_behind (behind_val b) (val_found k e a ls) = same_behind b ls
same_behind (behind_rec b) (rec_found ns ls) = same_behind b ls

branch_in : {G : Sc} {t v u : Cn} {bs : Brs} {q : Pt} {e : Ex} {ts : List Cn} → InBranches bs q e → PatFound G q t ts → EachFound Covers G v bs u → t ≡ v → HasType (under ts G) e
branch_in {G} {e = e} this_branch p (branch_found {v = w} {q = q} {ts = us} r d a bs) i =
    (w, subst (λ xs. FoundBy Covers (under xs G) e w) (sym (one_pattern p (subst (λ t. PatFound G q t us) (sym i) r))) d)
branch_in (past_branch b) p (branch_found r d a bs) i = branch_in b p bs i

field_in : {G : Sc} {fs : Fds} {ps : Prs} {e : Ex} → InFields fs e → FieldsFound Covers G fs ps → HasType G e
field_in this_field (field_found {t = t} k e fs) = (t, e)
field_in (past_field i) (field_found k e fs) = field_in i fs

attribute_in : {G : Sc} {u : Cn} {g : TagName} {as' : Ats} {e : Ex} → InAttributes as' e → AttributesFound Covers G u g as' → HasType G e
attribute_in this_attribute (attribute_found {v = v} a e b l o as') = (v, e)
attribute_in (past_attribute i) (attribute_found a e b l o as') = attribute_in i as'

node_in : {G : Sc} {c u b : Cn} {xs : Xs} {e : Ex} → InNodes xs e → NodesFound Covers G c u xs b → HasType G e
node_in this_node (last_found {t = t} k e h) = (t, e)
node_in (past_node i) (last_found k e h) = elim i [ ]
node_in this_node (node_found {t = t} k e a h xs j) = (t, e)
node_in {u = u} (past_node i) (node_found {b = b} k e a h xs j) = node_in {u = ordered (cat u b)} i xs

part_found : {G H : Sc} {e c : Ex} {t : Cn} → Sub G e H c → FoundBy Covers G e t → HasType H c
part_found {G} {c = b} (tells.fn_body l p) (fn_has {u = u} k q c e) = (u, subst (λ ts. FoundBy Covers (under ts G) b u) (sym (one_pattern p q)) e)
part_found tells.con_body (fn_con_has {t = t} e) = (t, e)
part_found {G} {c = b} (tells.guard_body g) (fn_guard_has {t = t} h e) = (t, subst (λ (x : Cn × Cn). FoundBy Covers (under_guard x.0 x.1 G) b t) (sym (one_answer g h)) e)
part_found tells.function (call_has {t = t} f is) = (t, f)
part_found (tells.argument i) (call_has f is) = item_found i is
part_found (tells.local_term i) (let_has ls e) = local_found i ls
part_found {c = b} (tells.let_body i) (let_has {t = t} ls e) = (t, subst (λ H. FoundBy Covers H b t) (same_behind i ls) e)
part_found tells.what_is_matched (case_has {t = t} e q b bs c) = (t, e)
part_found {G} {c = x} (tells.first_branch {r = r} g p) (case_has {u = u} {ts = us} e q b bs c) =
    (u, subst (λ ts. FoundBy Covers (under ts G) x u) (sym (one_pattern p (subst (λ t. PatFound G r t us) (sym (one_found g e)) q))) b)
part_found (tells.later_branch g i p) (case_has e q b bs c) = branch_in i p bs (one_found g e)
part_found tells.with_type (ascribed_has {u = u} k e a) = (u, e)
part_found (tells.field_term i) (fields_have fs k) = field_in i fs
part_found tells.selected_from (select_has {t = t} e n k h) = (t, e)
part_found tells.left (concat_has {t = t} e d n m h) = (t, e)
part_found tells.right (concat_has {u = u} e d n m h) = (u, d)
part_found tells.cut_from (without_has {t = t} e n k h) = (t, e)
part_found tells.row_cut_from (without_row_has {t = t} e n k h) = (t, e)
part_found (tells.attribute_term i) (element_has (holding_found o s h a y k as' xs)) = attribute_in i as'
part_found (tells.attribute_term i) (element_has (words_found o s h y k as' w xs)) = attribute_in i as'
part_found (tells.attribute_term i) (element_has (empty_found o s h y k as')) = attribute_in i as'
part_found (tells.attribute_term i) (element_has (form_found s h k y l as' xs)) = attribute_in i as'
part_found (tells.attribute_term i) (element_has (input_found s h y k l as')) = attribute_in i as'
part_found (tells.attribute_term i) (element_has (button_found s h y k as' a)) = attribute_in i as'
part_found (tells.inner_node i) (element_has (holding_found o s h a y k as' xs)) = node_in i xs
part_found (tells.inner_node i) (element_has (words_found o s h y k as' w xs)) = node_in i xs
part_found (tells.inner_node i) (element_has (empty_found o s h y k as')) = elim i [ ]
part_found (tells.inner_node i) (element_has (form_found s h k y l as' xs)) = node_in i xs
part_found (tells.inner_node i) (element_has (input_found s h y k l as')) = elim i [ ]
part_found (tells.inner_node i) (element_has (button_found s h y k as' a)) = elim i [ ]
part_found (tells.literal_node i) (literal_has k l xs) = node_in i xs
part_found (tells.sql_term i) h = elim h [ ]

pub fails_out : {G : Sc} {e : Ex} {t : Cn} {f : Fault} → Fails G e f → FoundBy Covers G e t → ⊥
fails_out (itself o) h = own_out o h
fails_out (inside s g) h = let (u, k) = part_found s h in fails_out g k

pub found_tells_nothing : FoundTellsNothing
found_tells_nothing G e t f h g = fails_out g h
