-- The items of a call, and the declarations of a let, one after another.
use Rattle.std.proofs.Common.{◌≡◌, ◌≢◌, ℕ, zero, suc, ◌+◌, ◌<◌, ◌≤◌, ◌==◌, Bool, true, false, ◌&&◌, List, [], ◌∷◌}
use Rattle.std.proofs.Common.{length, get_or, drop, map, refl, ap, sym, ◌∙◌, arith}
use Rattle.std.proofs.lemmas.List.{at_drop_more, at_drop_all}
use Rattle.con_terms.specs.Trees.{Cn, unit_con}
use Rattle.core_terms.specs.Lists.{item_tree, local_tree}
use Rattle.core_terms.specs.Strip.{strip, strip_items, strip_locals}
use Rattle.core_terms.specs.Trees.{Pt, Pf, Pfs, Ex, node, Fo, Its, Nms, Los, Brs, Fds, El, Ats, Xs, Exs, It, a_term}
use Rattle.core_terms.specs.Trees.{a_con, a_guard, Lo, a_val, a_rec}
use Rattle.core_terms.specs.Trees as core
use Rattle.core_terms.specs.View.{AttributeTree, BranchTree, FieldTree, NamedTree, NodeTree, LiteralTree, form_step}
use Rattle.core_terms.specs.View.{item_step, local_step, attribute_step, attributes_step, branch_step}
use Rattle.core_terms.specs.View.{branches_step, element_step, exp_step, exps_step, field_step, fields_step}
use Rattle.core_terms.specs.View.{items_step, literal_step, locals_step, named_step, named_list_step, node_step}
use Rattle.core_terms.specs.View.{nodes_step, items_from, items_tree, with_item, locals_from, locals_tree}
use Rattle.core_terms.specs.View.{with_local}
use Rattle.core_terms.specs.declared.exp.ConOrigin.TheVariants.{Written, Inserted, Wild}
use Rattle.core_terms.specs.declared.exp.Form.TheFolds as folds
use Rattle.core_terms.specs.declared.exp.Form.TheViews as views
use Rattle.core_terms.specs.declared.exp.Item.{Item}
use Rattle.core_terms.specs.declared.exp.Items.{Items}
use Rattle.core_terms.specs.declared.exp.Local.{Local}
use Rattle.core_terms.specs.declared.exp.Locals.{Locals}
use Rattle.plain_tree.specs.ExpView as view
use Rattle.plain_tree.specs.Trees as plain
use Rattle.plain_tree.specs.declared.exp.Form.TheFolds as plain_folds
use Rattle.plain_tree.specs.declared.exp.Form.TheViews as plain_views
use Rattle.plain_tree.specs.declared.exp.Item as pItem
use Rattle.plain_tree.specs.declared.exp.Items as pItems
use Rattle.plain_tree.specs.declared.exp.Local as pLocal
use Rattle.plain_tree.specs.declared.exp.Locals as pLocals
use Rattle.source_names.specs.Scopes.{Scope}
use Rattle.source_terms.specs.Left.{is_left}
use Rattle.source_terms.specs.Parts.{reads_item, reads_local, behind_local}
use Rattle.source_terms.specs.Terms.{is_given, reads_items, reads_locals}
use Rattle.source_terms.proofs.Leaving.{items_left, items_whole, at_item, passed}
use Rattle.source_terms.proofs.Pairs.{no_and, fail_bool, more_bool}

-- whether what is left of these items are those of the source
abbrev pub items_on : Scope → List pItem.Item → List Item → Bool
items_on s is js = reads_items s (view.items_from (map view.item_tree is)) (items_left js)

pub given_whole : (s : Scope) (is : pItems.Items) (js : Items)
    → reads_items s (view.items_tree is) (strip_items (items_tree js))
    ≡ items_on s (plain_views.out-Items is).items.items (views.out-Items js).items.items
given_whole s is js =
    ap (λ a. reads_items s a (strip_items (items_tree js))) (plain_folds.fold_out-Items plain.FormTree
    plain.ItemTree plain.LinkTree plain.LocalTree plain.NodeTree plain.AttributeTree plain.AttributesTree
    plain.BranchTree plain.BranchesTree plain.ExpTree plain.ExpsTree plain.FieldTree plain.FieldsTree
    plain.ItemsTree plain.LinksTree plain.LocalsTree plain.NamedTree plain.NamedListTree plain.NodesTree
    view.form_step view.item_step view.link_step view.local_step view.node_step view.attribute_step
    view.attributes_step view.branch_step view.branches_step view.exp_step view.exps_step view.field_step
    view.fields_step view.items_step view.links_step view.locals_step view.named_step view.named_list_step
    view.nodes_step is)
    ∙ ap (λ a. reads_items s (view.items_from (map view.item_tree (plain_views.out-Items is).items.items)) a)
    (items_whole js)

wild : (s : Scope) (c : plain.ConTree) (d : Cn) → is_given s c Wild unit_con ≡ is_given s c Wild d
wild s (plain.con at plain.con_wild) d = refl
wild s (plain.con at f) d = refl

one_item : (s : Scope) (i : plain.ItemTree) (is : plain.ItemsTree) (j : It) (js : Its) → is_left j ≡ true
    → reads_items s (plain.more_items i is) (strip_items (with_item j js))
    ≡ (reads_item s i j && reads_items s is (strip_items js))
one_item s i is (a_term (node p true f)) js h = cc
one_item s i is (a_con p Inserted d) js h = cc
one_item s i is (a_guard p true) js h = cc
one_item s (plain.item_term e) is (a_term (node p false f)) js h = refl
one_item s (plain.item_term e) is (a_con p Written d) js h = refl
one_item s (plain.item_term e) is (a_con p Wild d) js h = refl
one_item s (plain.item_term e) is (a_guard p false) js h = refl
one_item s (plain.item_con at c) is (a_term (node p false f)) js h = refl
one_item s (plain.item_con at c) is (a_con p Written d) js h = refl
one_item s (plain.item_con at c) is (a_con p Wild d) js h =
    ap (λ b. b && reads_items s is (strip_items js)) (wild s c d)
one_item s (plain.item_con at c) is (a_guard p false) js h = refl
one_item s (plain.item_guard at) is (a_term (node p false f)) js h = refl
one_item s (plain.item_guard at) is (a_con p Written d) js h = refl
one_item s (plain.item_guard at) is (a_con p Wild d) js h = refl
one_item s (plain.item_guard at) is (a_guard p false) js h = refl

too_many : (s : Scope) (j : It) (js : Its) → is_left j ≡ true
    → reads_items s plain.no_items (strip_items (with_item j js)) ≡ false
too_many s (a_term (node p true f)) js h = cc
too_many s (a_term (node p false f)) js h = refl
too_many s (a_con p Inserted d) js h = cc
too_many s (a_con p Written d) js h = refl
too_many s (a_con p Wild d) js h = refl
too_many s (a_guard p true) js h = cc
too_many s (a_guard p false) js h = refl

too_few : (s : Scope) (i : plain.ItemTree) (is : plain.ItemsTree)
    → reads_items s (plain.more_items i is) core.no_items ≡ false
too_few s (plain.item_term e) is = refl
too_few s (plain.item_con at c) is = refl
too_few s (plain.item_guard at) is = refl

-- an item that was inserted
pub item_past : (s : Scope) (whole : Bool) (is : List pItem.Item) (js : List Item) (j : ℕ) (y : Item)
    → j < length js → y ≡ get_or js j y
    → whole ≡ items_on s is (drop j js) → false ≡ is_left (item_tree y) → whole ≡ items_on s is (drop (j + 1) js)
item_past s whole is js j y h e so it =
    so ∙ ap (λ a. reads_items s (view.items_from (map view.item_tree is)) a) (at_item js j y h e
    ∙ passed (item_tree y) _ (sym it))

-- one more than the source has
pub item_extra : (s : Scope) (whole : Bool) (is : List pItem.Item) (i : ℕ) (js : List Item) (j : ℕ) (y : Item)
    → length is ≤ i → j < length js → y ≡ get_or js j y
    → whole ≡ items_on s (drop i is) (drop j js) → true ≡ is_left (item_tree y) → false ≡ whole
item_extra s whole is i js j y k h e so it =
    sym (so ∙ at_drop_all (λ zs. items_on s zs (drop j js)) is i k
    ∙ ap (λ a. reads_items s plain.no_items a) (at_item js j y h e) ∙ too_many s (item_tree y) _ (sym it))

pub items_at : (s : Scope) (is : List pItem.Item) (i : ℕ) (x : pItem.Item) (js : List Item) (j : ℕ) (y : Item)
    → i < length is → x ≡ get_or is i x
    → j < length js → y ≡ get_or js j y → true ≡ is_left (item_tree y)
    → items_on s (drop i is) (drop j js) ≡ (reads_item s (view.item_tree x) (item_tree y)
    && items_on s (drop (i + 1) is) (drop (j + 1) js))
items_at s is i x js j y k d h e it =
    at_drop_more (λ zs. items_on s zs (drop j js)) is i x k
    ∙ ap (λ z. items_on s (z ∷ drop (i + 1) is) (drop j js)) (sym d)
    ∙ ap (λ a. reads_items s (plain.more_items (view.item_tree x)
    (view.items_from (map view.item_tree (drop (i + 1) is)))) a) (at_item js j y h e)
    ∙ one_item s (view.item_tree x) _ (item_tree y) _ (sym it)

pub item_fail : (s : Scope) (whole : Bool) (is : List pItem.Item) (i : ℕ) (x : pItem.Item) (js : List Item) (j : ℕ)
    (y : Item) → i < length is → x ≡ get_or is i x
    → j < length js → y ≡ get_or js j y → whole ≡ items_on s (drop i is) (drop j js) → true ≡ is_left (item_tree y)
    → false ≡ reads_item s (view.item_tree x) (item_tree y) → false ≡ whole
item_fail s whole is i x js j y k d h e so it e' =
    sym (so ∙ items_at s is i x js j y k d h e it
    ∙ ap (λ b. b && items_on s (drop (i + 1) is) (drop (j + 1) js)) (sym e'))

pub item_more : (s : Scope) (whole : Bool) (is : List pItem.Item) (i : ℕ) (x : pItem.Item) (js : List Item) (j : ℕ)
    (y : Item) → i < length is → x ≡ get_or is i x
    → j < length js → y ≡ get_or js j y → whole ≡ items_on s (drop i is) (drop j js) → true ≡ is_left (item_tree y)
    → true ≡ reads_item s (view.item_tree x) (item_tree y) → whole ≡ items_on s (drop (i + 1) is) (drop (j + 1) js)
item_more s whole is i x js j y k d h e so it e' =
    so ∙ items_at s is i x js j y k d h e it ∙ ap (λ b. b && items_on s (drop (i + 1) is) (drop (j + 1) js))
    (sym e')

zero_not : (n : ℕ) → (0 == suc n) ≡ false
zero_not n = grind arith

same_suc : (m n : ℕ) → (suc m == suc n) ≡ (m == n)
same_suc m n = grind arith

pub rest_none : (s : Scope) (is : List pItem.Item) (i : ℕ) → i ≤ length is → (i == length is)
    ≡ items_on s (drop i is) []
rest_none s [] i h = let z : i ≡ 0 = omega arith in ap (λ k. k == 0) z ∙ sym (ap (λ k. items_on s (drop k []) []) z)
rest_none s (x ∷ is) zero h = zero_not (length is)
    ∙ sym (too_few s (view.item_tree x) (view.items_from (map view.item_tree is)))
rest_none s (x ∷ is) (suc i) h = let k : i ≤ length is = omega (arith, h) in same_suc i (length is)
    ∙ rest_none s is i k

pub items_end : (s : Scope) (whole : Bool) (is : List pItem.Item) (i : ℕ) (js : List Item) (j : ℕ) → i ≤ length is
    → length js ≤ j
    → whole ≡ items_on s (drop i is) (drop j js) → (i == length is) ≡ whole
items_end s whole is i js j k h so = rest_none s is i k
    ∙ sym (so ∙ at_drop_all (λ zs. items_on s (drop i is) zs) js j h)

-- declarations, and what is inside of them
abbrev pub locals_on : Scope → (Scope → Bool) → List pLocal.Local → List Local → Bool
locals_on s inside ls ms = reads_locals s (view.locals_from (map view.local_tree ls)) inside
    (strip_locals (locals_from (map local_tree ms)))

pub locals_whole : (s r : Scope) (inside : Scope → Bool) (ls : pLocals.Locals) (ms : Locals) → r ≡ s
    → reads_locals s (view.locals_tree ls) inside (strip_locals (locals_tree ms))
    ≡ locals_on r inside (plain_views.out-Locals ls).items.items (views.out-Locals ms).items.items
locals_whole s r inside ls ms e =
    ap (λ a. reads_locals s a inside (strip_locals (locals_tree ms))) (plain_folds.fold_out-Locals plain.FormTree
    plain.ItemTree plain.LinkTree plain.LocalTree plain.NodeTree plain.AttributeTree plain.AttributesTree
    plain.BranchTree plain.BranchesTree plain.ExpTree plain.ExpsTree plain.FieldTree plain.FieldsTree
    plain.ItemsTree plain.LinksTree plain.LocalsTree plain.NamedTree plain.NamedListTree plain.NodesTree
    view.form_step view.item_step view.link_step view.local_step view.node_step view.attribute_step
    view.attributes_step view.branch_step view.branches_step view.exp_step view.exps_step view.field_step
    view.fields_step view.items_step view.links_step view.locals_step view.named_step view.named_list_step
    view.nodes_step ls)
    ∙ ap (λ a. reads_locals s (view.locals_from (map view.local_tree (plain_views.out-Locals ls).items.items))
    inside (strip_locals a)) (folds.fold_out-Locals Fo It Lo AttributeTree Ats BranchTree Brs El Ex Exs
    FieldTree Fds Its LiteralTree Los NamedTree Nms NodeTree Xs form_step item_step local_step attribute_step
    attributes_step branch_step branches_step element_step exp_step exps_step field_step fields_step items_step
    literal_step locals_step named_step named_list_step node_step nodes_step ms)
    ∙ ap (λ t. locals_on t inside (plain_views.out-Locals ls).items.items (views.out-Locals ms).items.items) (sym e)

one_local : (s : Scope) (inside : Scope → Bool) (l : plain.LocalTree) (ls : plain.LocalsTree) (m : Lo) (ms : Los)
    → reads_locals s (plain.more_locals l ls) inside (strip_locals (with_local m ms))
    ≡ (reads_local s l m && reads_locals (behind_local l s) ls inside (strip_locals ms))
one_local s inside (plain.local_val at n) ls (a_val p y w t x) ms = refl
one_local s inside (plain.local_val at n) ls (a_rec os) ms = refl
one_local s inside (plain.local_rec at ns) ls (a_val p y w t x) ms = refl
one_local s inside (plain.local_rec at ns) ls (a_rec os) ms = refl

no_source : (s : Scope) (inside : Scope → Bool) (m : Lo) (ms : Los)
    → reads_locals s plain.no_locals inside (strip_locals (with_local m ms)) ≡ false
no_source s inside (a_val p y w t x) ms = refl
no_source s inside (a_rec os) ms = refl

no_locals_left : (s : Scope) (inside : Scope → Bool) (l : plain.LocalTree) (ls : plain.LocalsTree)
    → reads_locals s (plain.more_locals l ls) inside core.no_locals ≡ false
no_locals_left s inside (plain.local_val at n) ls = refl
no_locals_left s inside (plain.local_rec at ns) ls = refl

differ : (s : Scope) (inside : Scope → Bool) (ls : List pLocal.Local) (ms : List Local) → length ls ≢ length ms
    → locals_on s inside ls ms ≡ false
differ s inside [] [] h = absurd (h refl)
differ s inside [] (m ∷ ms) h = no_source s inside (local_tree m) _
differ s inside (l ∷ ls) [] h = no_locals_left s inside (view.local_tree l) _
differ s inside (l ∷ ls) (m ∷ ms) h =
    one_local s inside (view.local_tree l) _ (local_tree m) _
    ∙ ap (λ b. reads_local s (view.local_tree l) (local_tree m)
    && b) (differ (behind_local (view.local_tree l) s) inside ls ms (λ e. h (ap suc e)))
    ∙ no_and (reads_local s (view.local_tree l) (local_tree m))

pub locals_differ : (s : Scope) (inside : Scope → Bool) (ls : pLocals.Locals) (ms : Locals)
    → length (plain_views.out-Locals ls).items.items ≢ length (views.out-Locals ms).items.items
    → false ≡ reads_locals s (view.locals_tree ls) inside (strip_locals (locals_tree ms))
locals_differ s inside ls ms h = sym (locals_whole s s inside ls ms refl ∙ differ s inside _ _ h)

pub locals_at : (s : Scope) (inside : Scope → Bool) (ls : List pLocal.Local) (ms : List Local) (i : ℕ)
    (l : pLocal.Local) (m : Local) → i < length ls → i < length ms
    → l ≡ get_or ls i l → m ≡ get_or ms i m
    → locals_on s inside (drop i ls) (drop i ms)
    ≡ (reads_local s (view.local_tree l) (local_tree m)
    && locals_on (behind_local (view.local_tree l) s) inside (drop (i + 1) ls) (drop (i + 1) ms))
locals_at s inside ls ms i l m h k d e =
    at_drop_more (λ zs. locals_on s inside zs (drop i ms)) ls i l h
    ∙ at_drop_more (λ zs. locals_on s inside (get_or ls i l ∷ drop (i + 1) ls) zs) ms i m k
    ∙ ap (λ z. locals_on s inside (z ∷ drop (i + 1) ls) (get_or ms i m ∷ drop (i + 1) ms)) (sym d)
    ∙ ap (λ z. locals_on s inside (l ∷ drop (i + 1) ls) (z ∷ drop (i + 1) ms)) (sym e)
    ∙ one_local s inside (view.local_tree l) _ (local_tree m) _

pub local_fail : (s : Scope) (inside : Scope → Bool) (ls : List pLocal.Local) (ms : List Local) (i : ℕ)
    (l : pLocal.Local) (m : Local) (whole : Bool) → i < length ls → i < length ms
    → l ≡ get_or ls i l → m ≡ get_or ms i m → whole ≡ locals_on s inside (drop i ls) (drop i ms)
    → false ≡ reads_local s (view.local_tree l) (local_tree m) → false ≡ whole
local_fail s inside ls ms i l m whole h k d e so e' =
    sym (so ∙ locals_at s inside ls ms i l m h k d e
    ∙ ap (λ b. b && locals_on (behind_local (view.local_tree l) s) inside (drop (i + 1) ls) (drop (i + 1) ms))
    (sym e'))

pub local_more : (s r : Scope) (inside : Scope → Bool) (ls : List pLocal.Local) (ms : List Local) (i : ℕ)
    (l : pLocal.Local) (m : Local) (whole : Bool) → i < length ls → i < length ms
    → l ≡ get_or ls i l → m ≡ get_or ms i m → whole ≡ locals_on s inside (drop i ls) (drop i ms)
    → true ≡ reads_local s (view.local_tree l) (local_tree m) → r ≡ behind_local (view.local_tree l) s
    → whole ≡ locals_on r inside (drop (i + 1) ls) (drop (i + 1) ms)
local_more s r inside ls ms i l m whole h k d e so e' is =
    so ∙ locals_at s inside ls ms i l m h k d e
    ∙ ap (λ b. b && locals_on (behind_local (view.local_tree l) s) inside (drop (i + 1) ls) (drop (i + 1) ms))
    (sym e')
    ∙ ap (λ t. locals_on t inside (drop (i + 1) ls) (drop (i + 1) ms)) (sym is)

pub locals_end : (s : Scope) (inside : Scope → Bool) (ls : List pLocal.Local) (ms : List Local) (i : ℕ)
    (whole : Bool) → length ls ≤ i → length ms ≤ i
    → whole ≡ locals_on s inside (drop i ls) (drop i ms) → inside s ≡ whole
locals_end s inside ls ms i whole h k so =
    sym (so ∙ at_drop_all (λ zs. locals_on s inside zs (drop i ms)) ls i h
    ∙ at_drop_all (λ zs. locals_on s inside [] zs) ms i k)

-- The same beside what is left to compare.

pub items_begin : (whole all tasks : Bool) → whole ≡ all → (whole && tasks) ≡ (all && tasks)
items_begin whole all tasks h = ap (λ b. b && tasks) h

pub items_pass : (s : Scope) (whole before : Bool) (is : List pItem.Item) (js : List Item) (j : ℕ) (y : Item)
    → j < length js → y ≡ get_or js j y
    → whole ≡ (items_on s is (drop j js) && before) → false ≡ is_left (item_tree y) → whole
    ≡ (items_on s is (drop (j + 1) js) && before)
items_pass s whole before is js j y h e so it = so ∙ ap (λ z. z && before) (item_past s _ is js j y h e refl it)

pub items_extra : (s : Scope) (whole before : Bool) (is : List pItem.Item) (i : ℕ) (js : List Item) (j : ℕ)
    (y : Item) → length is ≤ i → j < length js → y ≡ get_or js j y
    → whole ≡ (items_on s (drop i is) (drop j js) && before) → true ≡ is_left (item_tree y) → false ≡ whole
items_extra s whole before is i js j y k h e so it =
    ap (λ z. z && before) (item_extra s _ is i js j y k h e refl it) ∙ sym so

pub items_miss : (s : Scope) (whole before after b : Bool) (is : List pItem.Item) (i : ℕ) (x : pItem.Item)
    (js : List Item) (j : ℕ) (y : Item) → i < length is → x ≡ get_or is i x
    → j < length js → y ≡ get_or js j y → whole ≡ (items_on s (drop i is) (drop j js) && before) → true
    ≡ is_left (item_tree y)
    → b ≡ false → (b && after) ≡ (reads_item s (view.item_tree x) (item_tree y) && before) → false ≡ whole
items_miss s whole before after b is i x js j y k d h e so it n p =
    fail_bool b (reads_item s (view.item_tree x) (item_tree y)) (items_on s (drop (i + 1) is) (drop (j + 1) js))
    before after whole
    (so ∙ ap (λ z. z && before) (items_at s is i x js j y k d h e it)) n p

pub items_go : (s : Scope) (whole before after b : Bool) (is : List pItem.Item) (i : ℕ) (x : pItem.Item)
    (js : List Item) (j : ℕ) (y : Item) → i < length is → x ≡ get_or is i x
    → j < length js → y ≡ get_or js j y → whole ≡ (items_on s (drop i is) (drop j js) && before) → true
    ≡ is_left (item_tree y)
    → b ≡ true → (b && after) ≡ (reads_item s (view.item_tree x) (item_tree y) && before)
    → whole ≡ (items_on s (drop (i + 1) is) (drop (j + 1) js) && after)
items_go s whole before after b is i x js j y k d h e so it n p =
    more_bool b (reads_item s (view.item_tree x) (item_tree y)) (items_on s (drop (i + 1) is) (drop (j + 1) js))
    before after whole
    (so ∙ ap (λ z. z && before) (items_at s is i x js j y k d h e it)) n p

-- the same where the place and the tasks are told in other words
pub items_moved : (s : Scope) (is : List pItem.Item) (i m : ℕ) (js : List Item) (whole after later : Bool)
    → m ≡ i → later ≡ after → whole ≡ (items_on s (drop i is) js && after)
    → whole ≡ (items_on s (drop m is) js && later)
items_moved s is i m js whole after later h k so =
    so
    ∙ sym (ap (λ n. items_on s (drop n is) js && after) h)
    ∙ sym (ap (λ z. items_on s (drop m is) js && z) k)

pub items_stop : (s : Scope) (whole before : Bool) (is : List pItem.Item) (i : ℕ) (js : List Item) (j : ℕ)
    → i ≤ length is → length js ≤ j
    → whole ≡ (items_on s (drop i is) (drop j js) && before) → ((i == length is) && before) ≡ whole
items_stop s whole before is i js j k h so = ap (λ z. z && before) (items_end s _ is i js j k h refl) ∙ sym so

pub locals_miss : (s : Scope) (inside : Scope → Bool) (ls : List pLocal.Local) (ms : List Local) (i : ℕ)
    (l : pLocal.Local) (m : Local) (whole before after b : Bool) → i < length ls → i < length ms
    → l ≡ get_or ls i l → m ≡ get_or ms i m → whole ≡ (locals_on s inside (drop i ls) (drop i ms) && before)
    → b ≡ false → (b && after) ≡ (reads_local s (view.local_tree l) (local_tree m) && before) → false ≡ whole
locals_miss s inside ls ms i l m whole before after b h k d e so n p =
    fail_bool b (reads_local s (view.local_tree l) (local_tree m)) (locals_on (behind_local (view.local_tree l) s)
    inside (drop (i + 1) ls) (drop (i + 1) ms)) before after whole
    (so ∙ ap (λ z. z && before) (locals_at s inside ls ms i l m h k d e)) n p

pub locals_go : (s r : Scope) (inside : Scope → Bool) (ls : List pLocal.Local) (ms : List Local) (i : ℕ)
    (l : pLocal.Local) (m : Local) (whole before after b : Bool) → i < length ls → i < length ms
    → l ≡ get_or ls i l → m ≡ get_or ms i m → whole ≡ (locals_on s inside (drop i ls) (drop i ms) && before)
    → b ≡ true → (b && after) ≡ (reads_local s (view.local_tree l) (local_tree m) && before) → r
    ≡ behind_local (view.local_tree l) s
    → whole ≡ (locals_on r inside (drop (i + 1) ls) (drop (i + 1) ms) && after)
locals_go s r inside ls ms i l m whole before after b h k d e so n p is =
    more_bool b (reads_local s (view.local_tree l) (local_tree m)) (locals_on (behind_local (view.local_tree l) s)
    inside (drop (i + 1) ls) (drop (i + 1) ms)) before after whole
    (so ∙ ap (λ z. z && before) (locals_at s inside ls ms i l m h k d e)) n p
    ∙ ap (λ t. locals_on t inside (drop (i + 1) ls) (drop (i + 1) ms) && after) (sym is)

pub locals_stop : (s : Scope) (inside : Scope → Bool) (ls : List pLocal.Local) (ms : List Local) (i : ℕ)
    (whole before after : Bool) → length ls ≤ i → length ms ≤ i
    → whole ≡ (locals_on s inside (drop i ls) (drop i ms) && before) → after ≡ (inside s && before) → after ≡ whole
locals_stop s inside ls ms i whole before after h k so is = is
    ∙ ap (λ z. z && before) (locals_end s inside ls ms i _ h k refl) ∙ sym so
