-- What is left of calls when what was inserted is dropped.
use Rattle.std.proofs.Common.{◌≡◌, ℕ, ◌+◌, ◌<◌, ◌≤◌, Bool, true, false, not, List, [], ◌∷◌, length, get_or, drop}
use Rattle.std.proofs.Common.{map, refl, ap, sym, ◌∙◌}
use Rattle.std.proofs.lemmas.List.{at_drop_more, at_drop_all}
use Rattle.core_terms.specs.declared.exp.ConOrigin.TheVariants.{Written, Inserted, Wild}
use Rattle.core_terms.specs.declared.exp.Sigil.{Sigil}
use Rattle.core_terms.specs.declared.exp.Sigil.TheVariants.{Plain, At, AtAt}
use Rattle.core_terms.specs.Lists.{item_tree}
use Rattle.core_terms.specs.Strip.{strip, strip_items, strip_form, call_left}
use Rattle.core_terms.specs.Trees.{Pt, Pf, Pfs, Ex, node, Fo, Its, no_items, with_term, with_con, with_guard, Nms}
use Rattle.core_terms.specs.Trees.{Los, Brs, Fds, El, Ats, Xs, Exs, It, a_term, a_con, a_guard, Lo, call, bound}
use Rattle.core_terms.specs.Trees.{top, foreign, basis, fold_over, number, text, built}
use Rattle.core_terms.specs.View.{AttributeTree, BranchTree, FieldTree, NamedTree, NodeTree, LiteralTree, form_step}
use Rattle.core_terms.specs.View.{item_step, local_step, attribute_step, attributes_step, branch_step}
use Rattle.core_terms.specs.View.{branches_step, element_step, exp_step, exps_step, field_step, fields_step}
use Rattle.core_terms.specs.View.{items_step, literal_step, locals_step, named_step, named_list_step, node_step}
use Rattle.core_terms.specs.View.{nodes_step, items_from, items_tree, with_item}
use Rattle.core_terms.specs.declared.exp.Form.TheFolds.{fold_out-Items}
use Rattle.core_terms.specs.declared.exp.Form.TheViews.{out-Items}
use Rattle.core_terms.specs.declared.exp.Item.{Item}
use Rattle.core_terms.specs.declared.exp.Items.{Items}
use Rattle.con_terms.specs.declared.place.Place.{Place}
use Rattle.plain_tree.specs.declared.names.Path.{Path}
use Rattle.source_names.specs.Scopes.{Scope}
use Rattle.source_names.specs.Standing.{Meant, a_binder, a_top, an_effect, of_basis, nothing, is_meant, value_means}
use Rattle.source_names.specs.Standing.{names_value}
use Rattle.source_terms.specs.Leaves.{form_of}
use Rattle.source_terms.specs.Left.{is_left, is_empty, is_alone, left}

-- what is left of these items
abbrev pub items_left : List Item → Its
items_left is = strip_items (items_from (map item_tree is))

pub items_whole : (is : Items) → strip_items (items_tree is) ≡ items_left (out-Items is).items.items
items_whole is = ap strip_items (fold_out-Items Fo It Lo AttributeTree Ats BranchTree Brs El Ex Exs FieldTree Fds
    Its LiteralTree Los NamedTree Nms NodeTree Xs form_step item_step local_step attribute_step attributes_step
    branch_step branches_step element_step exp_step exps_step field_step fields_step items_step literal_step
    locals_step named_step named_list_step node_step nodes_step is)

pub passed : (i : It) (is : Its) → is_left i ≡ false → strip_items (with_item i is) ≡ strip_items is
passed (a_term (node p true f)) is h = refl
passed (a_term (node p false f)) is h = cc
passed (a_con p Inserted c) is h = refl
passed (a_con p Written c) is h = cc
passed (a_con p Wild c) is h = cc
passed (a_guard p true) is h = refl
passed (a_guard p false) is h = cc

some_left : (i : It) (is : Its) → is_left i ≡ true → is_empty (strip_items (with_item i is)) ≡ false
some_left (a_term (node p true f)) is h = cc
some_left (a_term (node p false f)) is h = refl
some_left (a_con p Inserted c) is h = cc
some_left (a_con p Written c) is h = refl
some_left (a_con p Wild c) is h = refl
some_left (a_guard p true) is h = cc
some_left (a_guard p false) is h = refl

-- the first of the items from a place on
pub at_item : (is : List Item) (i : ℕ) (x : Item) → i < length is → x ≡ get_or is i x
    → items_left (drop i is) ≡ strip_items (with_item (item_tree x) (items_from (map item_tree (drop (i + 1) is))))
at_item is i x h e =
    at_drop_more items_left is i x h
    ∙ ap (λ y. strip_items (with_item (item_tree y) (items_from (map item_tree (drop (i + 1) is))))) (sym e)

-- an item that was inserted is passed
pub items_passed : {A : Type 0} (f : Its → A) (whole : A) (is : List Item) (i : ℕ) (x : Item) → i < length is → x
    ≡ get_or is i x
    → whole ≡ f (items_left (drop i is)) → false ≡ is_left (item_tree x) → whole ≡ f (items_left (drop (i + 1) is))
items_passed f whole is i x h e so no' = so ∙ ap f (at_item is i x h e ∙ passed (item_tree x) _ (sym no'))

-- one that was written stays
pub items_stand : (whole : Bool) (is : List Item) (i : ℕ) (x : Item) → i < length is → x ≡ get_or is i x
    → whole ≡ is_empty (items_left (drop i is)) → true ≡ is_left (item_tree x) → false ≡ whole
items_stand whole is i x h e so yes' = sym (so ∙ ap is_empty (at_item is i x h e)
    ∙ some_left (item_tree x) _ (sym yes'))

pub items_end : {A : Type 0} (f : Its → A) (whole : A) (is : List Item) (i : ℕ) → length is ≤ i
    → whole ≡ f (items_left (drop i is)) → f no_items ≡ whole
items_end f whole is i h so = sym (so ∙ ap f (at_drop_all items_left is i h))

alone : (p : Place) (a : Bool) (f : Ex) (g : Sigil) (is : Its) → is_alone g is ≡ true
    → form_of (call_left p a f g is) ≡ form_of f
alone p a (node q b f) Plain no_items h = refl
alone p a f Plain (with_term e is) h = cc
alone p a f Plain (with_con r o c is) h = cc
alone p a f Plain (with_guard r o is) h = cc
alone p a f At is h = cc
alone p a f AtAt is h = cc

stays : (p : Place) (a : Bool) (f : Ex) (g : Sigil) (is : Its) → is_alone g is ≡ false
    → form_of (call_left p a f g is) ≡ call f g is
stays p a f Plain no_items h = cc
stays p a (node q b f) At is h = refl
stays p a (node q b f) AtAt is h = refl
stays p a (node q b f) Plain (with_term e is) h = refl
stays p a (node q b f) Plain (with_con r o c is) h = refl
stays p a (node q b f) Plain (with_guard r o is) h = refl

-- of a call of which nothing else is left, the head is left
pub head_alone : (x : Ex) (p : Place) (a : Bool) (f : Fo) (h : Ex) (g : Sigil) (is : Its) → x ≡ node p a f → f
    ≡ call h g is
    → is_alone g (strip_items is) ≡ true → form_of (strip x) ≡ form_of (strip h)
head_alone x p a f h g is i e k = ap (λ y. form_of (strip y)) (i ∙ ap (node p a) e)
    ∙ alone p a (strip h) g (strip_items is) k

-- other calls stay
pub call_stays : (x : Ex) (p : Place) (a : Bool) (f : Fo) (h : Ex) (g : Sigil) (is : Its) → x ≡ node p a f → f
    ≡ call h g is
    → is_alone g (strip_items is) ≡ false → left f ≡ form_of (strip x)
call_stays x p a f h g is i e k =
    ap left e ∙ sym (stays p a (strip h) g (strip_items is) k)
    ∙ sym (ap (λ y. form_of (strip y)) (i ∙ ap (node p a) e))

-- what a form names is left of it
meant_left : (m : Meant) (f : Fo) → is_meant m (left f) ≡ is_meant m f
meant_left m (bound i) = refl
meant_left m (top i) = refl
meant_left m (foreign i) = refl
meant_left m (basis b) = refl
meant_left (a_binder i) (fold_over k) = refl
meant_left (a_top i) (fold_over k) = refl
meant_left (an_effect i) (fold_over k) = refl
meant_left (of_basis x) (fold_over k) = refl
meant_left nothing (fold_over k) = refl
meant_left m (number z) = refl
meant_left m (text t) = refl
meant_left m (built d i) = refl
meant_left (a_binder i) _ = refl
meant_left (a_top i) _ = refl
meant_left (an_effect i) _ = refl
meant_left (of_basis x) _ = refl
meant_left nothing _ = refl

pub value_left : (s : Scope) (p : Path) (f : Fo) → names_value s p (left f) ≡ names_value s p f
value_left s p f = meant_left (value_means s p) f
