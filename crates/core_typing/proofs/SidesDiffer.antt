-- The sides that a told mismatch keeps differ.
use Rattle.std.proofs.Common.{◌≡◌, ◌≢◌, ℕ, zero, suc, max, Bool, true, false, ◌==◌, List, ◌∷◌, ◌++◌, length, Option, Some, None, Result, Ok, Err, refl, ap, sym, ◌∙◌, subst, arith, []}
use Rattle.std.proofs.lemmas.Bool.Decides.{Decides-eqb}
use Rattle.con_terms.specs.Trees.{Kd, types, units, Cn, var, basic, arrow, poly, guarded, record_of, app, lambda, unit_con, name, row, cat, map_of, tuple, proj, no_pairs}
use Rattle.con_terms.specs.Size.{depth}
use Rattle.con_terms.specs.declared.place.Place.{Place}
use Rattle.row_normal.specs.Ordered.{ordered, ordered_pieces}
use Rattle.row_normal.specs.SameTree.{cn_eq}
use Rattle.row_normal.proofs.SameTrees.{cn_eq_refl}
use Rattle.row_normal.specs.NormalForm.{nf}
use Rattle.row_normal.proofs.NormalStays.{in_order_at}
use Rattle.kind_rules.specs.Flaws.{Flw, unbound_variable, unbound_basic, kinds_differ, pieces_touch}
use Rattle.kind_rules.specs.Flaws as flaw
use Rattle.kind_rules.specs.Compared.{comparison_units, normal_forms, with_first, with_second}
use Rattle.kind_rules.specs.Rules.{both, expects, expects_row, guard_rows}
use Rattle.kind_rules.specs.Kinding.{judged}
use Rattle.kind_rules.specs.Kinding as kinds
use Rattle.kind_rules.proofs.Differ.{DiffersIn, Fair, then_fair, expects_fair, row_fair, judged_fair}
use Rattle.xml_trees.specs.declared.source_name.TagName.{TagName}
use Rattle.xml_trees.specs.declared.source_name.AttrName.{AttrName}
use Rattle.core_terms.specs.Names.{int_name, string_name}
use Rattle.core_terms.specs.Trees.{Pt, Pfs, Ex, Its, Nms, Los, Brs, Fds, El, Ats, Xs, Dt, arity}
use Rattle.core_terms.specs.Types.{no_types, one_field, at_types}
use Rattle.core_terms.specs.Datatypes.{datatype_of}
use Rattle.core_typing.specs.Scopes.{Sc}
use Rattle.core_typing.specs.Seen.{a_datatype, seen, seen_at, seen_basic}
use Rattle.core_typing.specs.Compared.{field_of, without_piece, without_pieces}
use Rattle.core_typing.specs.Judged.{LacksKind, lacks, flaw_at, guard_forms}
use Rattle.core_typing.specs.Faults.{Fault}
use Rattle.core_typing.specs.PatternFaults.{untold, PatFault, PatFieldsFault}
use Rattle.core_typing.specs.PatternFaults as pat
use Rattle.core_typing.specs.Own.{nothing_like, NotHeld, held_there, large_there, any_function, any_poly, any_guarded, any_record, Wants, other, large, NotOf, other_form, large_form, IsFunction, IsPoly, IsGuarded, IsRecord, Meets, they_touch, they_are_large, Uncovered, misses, large_part, NotLinked, ItemFault, NamedFault, LocalFault, BranchFault, BranchDiffers, FieldFault, AttributeFault, SecondAt, AttributeTwice, NodeFault, ElementFault, Own, words_like}
use Rattle.core_typing.specs.Own as own
use Rattle.core_typing.specs.Tells.{Sub, Behind, InLocals, Tells, tells_own, tells_inner}
use Rattle.core_typing.specs.Tells as tells
use Rattle.core_typing.specs.FaultLaws.{SidesDiffer, OwnSymbols, ToldSidesDiffer}
use Rattle.core_typing.proofs.Normal.{second_form, none_behind}
use Rattle.core_typing.proofs.LeftOver.{inside, no_value, field_there, no_such_field, something_left}
use Rattle.std.proofs.lemmas.Bool.{ne_eqb as differs_as_test}

-- flaws of kinding
flaw_differs : (p : Place) (xs : List ℕ) (w : Flw) → DiffersIn w → SidesDiffer (flaw_at p xs w)
flaw_differs p xs (unbound_variable i) h = tt
flaw_differs p xs (unbound_basic s) h = tt
flaw_differs p xs (kinds_differ k l) h = h
flaw_differs p xs (pieces_touch c d) h = tt
flaw_differs p xs flaw.too_large h = tt

fair_flaw : {X : Type 0} (r : Result X Flw) (w : Flw) → Fair r → r ≡ Err w → DiffersIn w
fair_flaw (Ok x) w h e = cc
fair_flaw (Err v) w h e = let is : v ≡ w = cc in subst DiffersIn is h

pub kind_differs : {G : Sc} {p : Place} {c : Cn} {k : Kd} {f : Fault} → LacksKind G p c k f → SidesDiffer f
kind_differs {G} {p} {c} {k} (lacks {w = w} e) = flaw_differs p G.called w (fair_flaw (kinds.judged_at G.kinds c k) w (then_fair (judged G.kinds c) (expects k) (judged_fair G.kinds c) (λ l. expects_fair k l)) e)

second_fair : (m : Cn) (o : Option (Cn × ℕ)) → Fair (with_second m o)
second_fair m None = tt
second_fair m (Some n) = tt

first_fair : (o : Option (Cn × ℕ)) (b : Cn) → Fair (with_first o b)
first_fair None b = tt
first_fair (Some m) b = second_fair m.0 (nf m.1 b)

both_fair : (r s : Result Kd Flw) → Fair r → Fair s → Fair (both r s)
both_fair r s f g = then_fair r _ f (λ k. then_fair s _ g (λ l. tt))

rows_fair : (r : Result (Kd × Kd) Flw) → Fair r → Fair (guard_rows r)
rows_fair r f = then_fair r _ f (λ k. both_fair (expects_row k.0) (expects_row k.1) (row_fair k.0) (row_fair k.1))

guard_differs : (p : Place) (G : Sc) (c d : Cn) (w : Flw) → guard_forms G.kinds c d ≡ Err w → SidesDiffer (flaw_at p G.called w)
guard_differs p G c d w e =
    flaw_differs p G.called w (fair_flaw (guard_forms G.kinds c d) w
    (then_fair (guard_rows (both (judged G.kinds c) (judged G.kinds d))) _ (rows_fair (both (judged G.kinds c) (judged G.kinds d)) (both_fair (judged G.kinds c) (judged G.kinds d) (judged_fair G.kinds c) (judged_fair G.kinds d)))
    (λ _. first_fair (nf comparison_units c) d)) e)

-- comparisons
pub wants_differ : {G : Sc} {p : Place} {t u : Cn} {f : Fault} → Wants G p t u f → SidesDiffer f
wants_differ (other d) = d.differ
wants_differ (large l) = tt

form_differs : (F : Cn → Type 0) {G : Sc} {p : Place} {w t : Cn} {f : Fault} → F w → NotOf F G p w t f → SidesDiffer f
form_differs F h (other_form n none) = λ e. none (subst F e h)
form_differs F h (large_form n) = tt

no_function : {G : Sc} {p : Place} {t : Cn} {f : Fault} → NotOf IsFunction G p any_function t f → SidesDiffer f
no_function h = form_differs IsFunction (unit_con, unit_con, refl) h

no_poly : {G : Sc} {p : Place} {i : Bool} {t : Cn} {f : Fault} → NotOf IsPoly G p (any_poly i) t f → SidesDiffer f
no_poly {i = i} h = form_differs IsPoly (i, types, unit_con, refl) h

no_guarded : {G : Sc} {p : Place} {t : Cn} {f : Fault} → NotOf IsGuarded G p any_guarded t f → SidesDiffer f
no_guarded h = form_differs IsGuarded (row units no_pairs, row units no_pairs, unit_con, refl) h

no_record : {G : Sc} {p : Place} {t : Cn} {f : Fault} → NotOf IsRecord G p any_record t f → SidesDiffer f
no_record h = form_differs IsRecord (row types no_pairs, refl) h

meets_differ : {G : Sc} {p : Place} {a b : Cn} {f : Fault} → Meets G p a b f → SidesDiffer f
meets_differ (they_touch t) = tt
meets_differ (they_are_large l) = tt

uncovered_differs : {G : Sc} {p : Place} {ps : List Pt} {t : Cn} {f : Fault} → Uncovered G p ps t f → SidesDiffer f
uncovered_differs (misses s m) = tt
uncovered_differs (large_part l) = tt

-- a field or a part that isn't there
in_order : (t c : Cn) {m : Cn} (n : Cn) → normal_forms comparison_units t c ≡ Ok (m, n) → ordered n ≡ n
in_order t c n h = let (k, l, e) = second_form t c h in in_order_at k l c n e

field_lacks : (r n : Cn) → ordered n ≡ n → field_of n (ordered_pieces r) ≡ None → record_of (one_field n unit_con) ≢ record_of r
field_lacks r n h none e =
    let i : field_of n (ordered_pieces (one_field n unit_con)) ≡ Some (unit_con, []) = ap (λ x. field_of n (one_field x unit_con ∷ [])) h ∙ field_there n unit_con [] in
    no_value (field_of n (ordered_pieces r)) (unit_con, []) none (ap (λ x. field_of n (ordered_pieces x)) (sym (inside e)) ∙ i)

piece_there : (p : Cn) (ps : List Cn) → without_piece p (p ∷ ps) ≡ Some ps
piece_there p ps = let h : cn_eq p p ≡ true = cn_eq_refl p in rw h refl

all_there : (ps : List Cn) → without_pieces ps ps ≡ Some []
all_there [] = refl
all_there (p ∷ ps) = let h : without_piece p (p ∷ ps) ≡ Some ps = piece_there p ps in rw (h, without_pieces) (all_there ps)

none_some : (o : Option (List Cn)) (qs : List Cn) → o ≡ None → o ≡ Some qs → ⊥
none_some o qs h e = cc

part_lacks : (r n : Cn) → without_pieces (ordered_pieces n) (ordered_pieces r) ≡ None → record_of n ≢ record_of r
part_lacks r n none e =
    none_some (without_pieces (ordered_pieces n) (ordered_pieces r)) [] none (ap (λ x. without_pieces (ordered_pieces n) (ordered_pieces x)) (sym (inside e)) ∙ all_there (ordered_pieces n))

-- a datatype's own type
seen_applied : (ds : List Dt) (f : Cn) (args more : List Cn) → seen_at ds (at_types f args) more ≡ seen_at ds f (args ++ more)
seen_applied ds f [] more = refl
seen_applied ds f (a ∷ args) more = seen_applied ds (app f a) args more

as_many : (n : ℕ) → length (untold n) ≡ n
as_many zero = refl
as_many (suc n) = ap suc (as_many n)

seen_own : (ds : List Dt) (s : ℕ) (d : Dt) (args : List Cn) → s ≢ int_name → s ≢ string_name → datatype_of ds s ≡ Some d → length args ≡ (arity d) → seen_basic ds s args ≡ a_datatype d args
seen_own ds s d args i t e l =
    let p : (s == int_name) ≡ false = differs_as_test s int_name i in
    let q : (s == string_name) ≡ false = differs_as_test s string_name t in
    let k : (length args == (arity d)) ≡ true = (Decides-eqb (length args) (arity d)).1 l in
    rw (p, q, e, k) refl

own_seen : (G : Sc) (s : ℕ) (d : Dt) → OwnSymbols G → datatype_of G.datatypes s ≡ Some d → seen G.datatypes (at_types (basic s) (untold (arity d))) ≡ a_datatype d (untold (arity d))
own_seen G s d o e =
    seen_applied G.datatypes (basic s) (untold (arity d)) []
    ∙ ap (seen_basic G.datatypes s) (none_behind (untold (arity d)))
    ∙ seen_own G.datatypes s d (untold (arity d)) (o s d e).0 (o s d e).1 e (as_many (arity d))

other_data : (G : Sc) (s : ℕ) (d : Dt) (n : Cn) → OwnSymbols G → datatype_of G.datatypes s ≡ Some d → ((args : List Cn) → seen G.datatypes n ≡ a_datatype d args → ⊥) → n ≢ at_types (basic s) (untold (arity d))
other_data G s d n o h none e = none (untold (arity d)) (ap (seen G.datatypes) e ∙ own_seen G s d o h)

deeper : (a n : Cn) → arrow a n ≢ n
deeper a n e = let h : suc (max (depth a) (depth n)) ≡ depth n = ap depth e in omega (arith, h)

mutual
  pattern_differs : {G : Sc} {q : Pt} {t : Cn} {f : Fault} → OwnSymbols G → PatFault G q t f → SidesDiffer f
  pattern_differs o (pat.bad_kind h) = kind_differs h
  pattern_differs o (pat.other_type k d) = d.differ
  pattern_differs o (pat.large_type k l) = tt
  pattern_differs o (pat.no_number d) = d.differ
  pattern_differs o (pat.large_number l) = tt
  pattern_differs o (pat.no_text d) = d.differ
  pattern_differs o (pat.large_text l) = tt
  pattern_differs o (pat.no_bare h) = tt
  pattern_differs o (pat.no_holding h) = tt
  pattern_differs {G} o (pat.other_bare {s = s} {n = n} {d = d} c e h) = other_data G s d n o c.declared h
  pattern_differs {G} o (pat.other_holding {s = s} {n = n} {d = d} c e h) = other_data G s d n o c.declared h
  pattern_differs o (pat.large_bare n) = tt
  pattern_differs o (pat.large_holding n) = tt
  pattern_differs o (pat.holds_more {n = n} {m = m} a h e g) = λ i. deeper m n (sym i)
  pattern_differs o (pat.holds_too_much a h e) = tt
  pattern_differs o (pat.holds_less {n = n} a h e) = deeper unit_con n
  pattern_differs o (pat.in_held a h q) = pattern_differs o q
  pattern_differs o (pat.no_record n h) = λ e. h (row types no_pairs) e
  pattern_differs o (pat.large_record n) = tt
  pattern_differs o (pat.in_fields n fs) = fields_differ o fs
  pattern_differs o (pat.fields_left {r = r} {c = c} {rest = rest} n fs) = something_left r c rest fs
  pattern_differs o (pat.bad_annotation h) = kind_differs h
  pattern_differs o (pat.other_annotation k d) = d.differ
  pattern_differs o (pat.large_annotation k l) = tt
  pattern_differs o (pat.in_annotated k q) = pattern_differs o q

  fields_differ : {G : Sc} {fs : Pfs} {ps : List Cn} {f : Fault} → OwnSymbols G → PatFieldsFault G fs ps f → SidesDiffer f
  fields_differ o (pat.bad_name h) = kind_differs h
  fields_differ o (pat.large_name n) = tt
  fields_differ o (pat.no_field {m = m} {ps = ps} k n h) = no_such_field ps m h
  fields_differ o (pat.in_field k n p q) = pattern_differs o q
  fields_differ o (pat.in_later_field k n p fs) = fields_differ o fs

-- calls, declarations, branches, fields
item_differs : {G : Sc} {p : Place} {t : Cn} {is : Its} {f : Fault} → ItemFault G p t is f → SidesDiffer f
item_differs (own.no_function h) = no_function h
item_differs (own.argument n e w) = wants_differ w
item_differs (own.after_term n g a is) = item_differs is
item_differs (own.no_poly h) = no_poly h
item_differs (own.constructor_kind n k) = kind_differs k
item_differs (own.after_con n k is) = item_differs is
item_differs (own.no_guard h) = no_guarded h
item_differs (own.guard_fails n m) = meets_differ m
item_differs (own.after_guard n d is) = item_differs is

pub named_differs : {G H : Sc} {ns : Nms} {f : Fault} → NamedFault G H ns f → SidesDiffer f
named_differs (own.name_kind k) = kind_differs k
named_differs (own.name_type k e w) = wants_differ w
named_differs (own.later_name h) = named_differs h

local_differs : {G : Sc} {ls : Los} {f : Fault} → LocalFault G ls f → SidesDiffer f
local_differs (own.val_kind k) = kind_differs k
local_differs (own.val_type k e w) = wants_differ w
local_differs (own.after_val h) = local_differs h
local_differs (own.in_rec h) = named_differs h
local_differs (own.after_rec h) = local_differs h

branch_differs : {G : Sc} {t : Cn} {bs : Brs} {f : Fault} → OwnSymbols G → BranchFault G t bs f → SidesDiffer f
branch_differs o (own.branch_pattern q) = pattern_differs o q
branch_differs o (own.later_pattern h) = branch_differs o h

body_differs : {G : Sc} {t u : Cn} {bs : Brs} {f : Fault} → BranchDiffers G t u bs f → SidesDiffer f
body_differs (own.this_differs q e w) = wants_differ w
body_differs (own.later_differs h) = body_differs h

field_differs : {G : Sc} {fs : Fds} {f : Fault} → FieldFault G fs f → SidesDiffer f
field_differs (own.field_kind k) = kind_differs k
field_differs (own.later_field h) = field_differs h

-- elements
linked_differs : {G : Sc} {p : Place} {n : AttrName} {t : Cn} {e : Ex} {f : Fault} → NotLinked G p n t e f → SidesDiffer f
linked_differs (own.link_calls_none h) = tt
linked_differs (own.action_calls_none h) = tt
linked_differs (own.link_lacks c e a n) = tt
linked_differs (own.action_has_all c e a n h x) = tt
linked_differs (own.action_lacks c e a n m) = tt
linked_differs (own.cannot_travel c e a m h) = tt
linked_differs (own.not_carried c e a h) = tt

attribute_differs : {G : Sc} {u : Cn} {g : TagName} {as' : Ats} {f : Fault} → AttributeFault G u g as' f → SidesDiffer f
attribute_differs (own.no_attribute h) = tt
attribute_differs (own.attribute_differs h e w) = wants_differ w
attribute_differs (own.not_linked h n) = linked_differs n
attribute_differs (own.later_attribute h) = attribute_differs h

second_differs : {n : AttrName} {as' : Ats} {f : Fault} → SecondAt n as' f → SidesDiffer f
second_differs own.here = tt
second_differs (own.further h) = second_differs h

twice_differs : {as' : Ats} {f : Fault} → AttributeTwice as' f → SidesDiffer f
twice_differs (own.second_of h) = second_differs h
twice_differs (own.later_twice h) = twice_differs h

node_differs : {G : Sc} {c u : Cn} {xs : Xs} {f : Fault} → NodeFault G c u xs f → SidesDiffer f
node_differs (own.fills_kind k) = kind_differs k
node_differs (own.other_place k e w) = wants_differ w
node_differs (own.filled_before k m) = meets_differ m
node_differs (own.filled_behind k xs m) = meets_differ m
node_differs (own.later_node k h) = node_differs h

nothing_differs : (n : Cn) → nothing_like n ≢ n
nothing_differs unit_con e = cc
nothing_differs (var i) e = cc
nothing_differs (basic s) e = cc
nothing_differs (arrow a b) e = cc
nothing_differs (poly x k b) e = cc
nothing_differs (guarded a b c) e = cc
nothing_differs (record_of a) e = cc
nothing_differs (app a b) e = cc
nothing_differs (lambda k b) e = cc
nothing_differs (name s) e = cc
nothing_differs (row k ps) e = cc
nothing_differs (cat a b) e = cc
nothing_differs (map_of k l) e = cc
nothing_differs (tuple cs) e = cc
nothing_differs (proj a n) e = cc

words_differ : (n : Cn) → words_like n ≢ n
words_differ unit_con e = cc
words_differ (var i) e = cc
words_differ (basic s) e = cc
words_differ (arrow a b) e = cc
words_differ (poly x k b) e = cc
words_differ (guarded a b c) e = cc
words_differ (record_of a) e = cc
words_differ (app a b) e = cc
words_differ (lambda k b) e = cc
words_differ (name s) e = cc
words_differ (row k ps) e = cc
words_differ (cat a b) e = cc
words_differ (map_of k l) e = cc
words_differ (tuple cs) e = cc
words_differ (proj a n) e = cc

held_differs : {G : Sc} {p : Place} {t : Cn} {f : Fault} → NotHeld G p t f → SidesDiffer f
held_differs (held_there {n = n} e) = nothing_differs n
held_differs (large_there e) = tt

no_empty_field : (m : Cn) → no_types ≢ one_field m unit_con
no_empty_field m e = cc

element_differs : {G : Sc} {p : Place} {m : El} {f : Fault} → ElementFault G p m f → SidesDiffer f
element_differs (own.stands_elsewhere s h w) = wants_differ w
element_differs (own.form_in_form s w) = wants_differ w
element_differs (own.input_outside s w) = wants_differ w
element_differs (own.button_outside s w) = wants_differ w
element_differs (own.form_filled_before s w) = wants_differ w
element_differs (own.context_kind k) = kind_differs k
element_differs (own.uses_kind k) = kind_differs k
element_differs (own.in_attributes h) = attribute_differs h
element_differs (own.same_attribute h) = twice_differs h
element_differs (own.no_name s) = tt
element_differs (own.name_kind_of k) = kind_differs k
element_differs (own.name_on_other {m = m} h k n) = no_empty_field m
element_differs (own.large_on_other h k n) = tt
element_differs (own.holds_nothing s e w) = held_differs w
element_differs (own.input_holds_nothing s e w) = held_differs w
element_differs (own.button_holds_nothing s e w) = held_differs w
element_differs (own.no_words {n = n} s h e m) = words_differ n
element_differs (own.large_words s h e n) = tt
element_differs (own.in_nodes o s i a h) = node_differs h
element_differs (own.in_title o s a h) = node_differs h
element_differs (own.in_form_nodes s h) = node_differs h
element_differs (own.no_action s h) = tt

-- a node's own fault
own_differs : {G : Sc} {e : Ex} {f : Fault} → OwnSymbols G → Own G e f → SidesDiffer f
own_differs o (own.no_variable h) = tt
own_differs o (own.no_value h) = tt
own_differs o (own.no_effect h) = tt
own_differs o (own.no_fold h) = tt
own_differs o (own.no_constructor h) = tt
own_differs o (own.parameter_kind k) = kind_differs k
own_differs o (own.parameter_pattern k q) = pattern_differs o q
own_differs o (own.parameter_cover k q u) = uncovered_differs u
own_differs {G} o (own.bad_guard {p = p} {c = c} {d = d} {w = w} e) = guard_differs p G c d w e
own_differs o (own.an_item e h) = item_differs h
own_differs o (own.a_local h) = local_differs h
own_differs o (own.first_pattern e q) = pattern_differs o q
own_differs o (own.a_later_pattern e h) = branch_differs o h
own_differs o (own.branches_differ e q b h) = body_differs h
own_differs o (own.not_covered e q u) = uncovered_differs u
own_differs o (own.written_kind k) = kind_differs k
own_differs o (own.not_as_written k e w) = wants_differ w
own_differs o (own.a_field h) = field_differs h
own_differs o (own.same_names fs k) = kind_differs k
own_differs o (own.select_no_record e h) = no_record h
own_differs o (own.select_kind k) = kind_differs k
own_differs o (own.select_large e x k l) = tt
own_differs o (own.select_no_field {c = c} {n = n} {t = t} {r = r} e x k h) = field_lacks r n (in_order t c n x) h
own_differs o (own.left_no_record e h) = no_record h
own_differs o (own.right_no_record e h) = no_record h
own_differs o (own.clash e d n m h) = meets_differ h
own_differs o (own.without_no_record e h) = no_record h
own_differs o (own.without_kind k) = kind_differs k
own_differs o (own.without_large e x k l) = tt
own_differs o (own.without_no_field {c = c} {n = n} {t = t} {r = r} e x k h) = field_lacks r n (in_order t c n x) h
own_differs o (own.row_no_record e h) = no_record h
own_differs o (own.row_kind k) = kind_differs k
own_differs o (own.row_large e x k l) = tt
own_differs o (own.row_not_there {n = n} {r = r} e x k h) = part_lacks r n h
own_differs o (own.no_folder h) = tt
own_differs o (own.folder_kind k) = kind_differs k
own_differs o (own.an_element h) = element_differs h
own_differs o (own.literal_context k) = kind_differs k
own_differs o (own.literal_uses k) = kind_differs k
own_differs o (own.literal_node k l h) = node_differs h
own_differs o own.no_rule = tt

-- parts have the datatypes of the whole
local_symbols : {G H : Sc} {ls : Los} {e : Ex} → InLocals G ls H e → OwnSymbols G → OwnSymbols H
local_symbols tells.this_val o = o
local_symbols (tells.past_val h) o = local_symbols h o
local_symbols (tells.this_rec h) o = o
local_symbols (tells.past_rec h) o = local_symbols h o

symbols_behind : {G H : Sc} {ls : Los} → Behind G ls H → OwnSymbols G → OwnSymbols H
symbols_behind tells.behind_none o = o
symbols_behind (tells.behind_val h) o = symbols_behind h o
symbols_behind (tells.behind_rec h) o = symbols_behind h o

part_symbols : {G H : Sc} {e c : Ex} → Sub G e H c → OwnSymbols G → OwnSymbols H
part_symbols (tells.fn_body k q) o = o
part_symbols tells.con_body o = o
part_symbols (tells.guard_body h) o = o
part_symbols tells.function o = o
part_symbols (tells.argument h) o = o
part_symbols (tells.local_term h) o = local_symbols h o
part_symbols (tells.let_body h) o = symbols_behind h o
part_symbols tells.what_is_matched o = o
part_symbols (tells.first_branch e q) o = o
part_symbols (tells.later_branch e b q) o = o
part_symbols tells.with_type o = o
part_symbols (tells.field_term h) o = o
part_symbols tells.selected_from o = o
part_symbols tells.left o = o
part_symbols tells.right o = o
part_symbols tells.cut_from o = o
part_symbols tells.row_cut_from o = o
part_symbols (tells.attribute_term h) o = o
part_symbols (tells.inner_node h) o = o
part_symbols (tells.literal_node h) o = o
part_symbols (tells.sql_term h) o = o

pub told_differs : {G : Sc} {e : Ex} {f : Fault} → OwnSymbols G → Tells G e f → SidesDiffer f
told_differs o (tells_own h first parts) = own_differs o h
told_differs o (tells_inner s h first) = told_differs (part_symbols s o) h

pub told_sides_differ : ToldSidesDiffer
told_sides_differ G e f o h = told_differs o h
