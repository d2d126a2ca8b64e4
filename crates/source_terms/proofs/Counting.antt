-- Counting the items that are left.
use Rattle.std.proofs.Common.{◌≡◌, ◌≢◌, ℕ, zero, suc, ◌+◌, ◌-◌, ◌<◌, ◌≤◌, Bool, true, false, List, [], ◌∷◌, length}
use Rattle.std.proofs.Common.{get_or, drop, map, Option, Some, None, refl, ap, sym, ◌∙◌, arith}
use Rattle.std.proofs.lemmas.List.{at_drop_all}
use Rattle.core_terms.specs.Lists.{branch_tree, item_tree}
use Rattle.core_terms.specs.Strip.{strip, strip_items}
use Rattle.core_terms.specs.Trees.{Pt, Fo, Nms, Los, Fds, El, Ats, Xs, Exs, Lo, Ex, node, Its, no_items, with_term}
use Rattle.core_terms.specs.Trees.{with_con, with_guard, It, a_term, a_con, a_guard, Brs, no_branches, branch}
use Rattle.core_terms.specs.View.{AttributeTree, BranchTree, FieldTree, LiteralTree, NamedTree, NodeTree, form_step}
use Rattle.core_terms.specs.View.{item_step, local_step, attribute_step, attributes_step, branch_step}
use Rattle.core_terms.specs.View.{branches_step, element_step, exp_step, exps_step, field_step, fields_step}
use Rattle.core_terms.specs.View.{items_step, literal_step, locals_step, named_step, named_list_step, node_step}
use Rattle.core_terms.specs.View.{nodes_step, branches_from, branches_tree, items_from, with_item}
use Rattle.core_terms.specs.declared.exp.ConOrigin.TheVariants.{Written, Inserted, Wild}
use Rattle.core_terms.specs.declared.exp.Branch.{Branch}
use Rattle.core_terms.specs.declared.exp.Branches.{Branches}
use Rattle.core_terms.specs.declared.exp.Form.TheFolds.{fold_out-Branches}
use Rattle.core_terms.specs.declared.exp.Form.TheViews.{out-Branches}
use Rattle.core_terms.specs.declared.exp.Item.{Item}
use Rattle.source_terms.specs.Left.{is_left}
use Rattle.source_terms.specs.Parts.{count, term_at, term_of, one_term, two_terms, one_branch}
use Rattle.source_terms.proofs.Leaving.{items_left, at_item, passed}

counted : (i : It) (is : Its) → is_left i ≡ true → count (strip_items (with_item i is))
    ≡ suc (count (strip_items is))
counted (a_term (node p true f)) is h = cc
counted (a_term (node p false f)) is h = refl
counted (a_con p Inserted c) is h = cc
counted (a_con p Written c) is h = refl
counted (a_con p Wild c) is h = refl
counted (a_guard p true) is h = cc
counted (a_guard p false) is h = refl

pub count_on : (whole n : ℕ) (is : List Item) (i : ℕ) (x : Item) → i < length is → x ≡ get_or is i x
    → whole ≡ n + count (items_left (drop i is)) → true ≡ is_left (item_tree x)
    → whole ≡ (n + 1) + count (items_left (drop (i + 1) is))
count_on whole n is i x h e so it =
    let one = ap count (at_item is i x h e) ∙ counted (item_tree x) (items_from (map item_tree (drop (i + 1) is)))
    (sym it) in
    omega (arith, one, so)

pub count_past : (whole n : ℕ) (is : List Item) (i : ℕ) (x : Item) → i < length is → x ≡ get_or is i x
    → whole ≡ n + count (items_left (drop i is)) → false ≡ is_left (item_tree x)
    → whole ≡ n + count (items_left (drop (i + 1) is))
count_past whole n is i x h e so it = so ∙ ap (λ k. n + count k) (at_item is i x h e
    ∙ passed (item_tree x) _ (sym it))

pub count_end : (whole n : ℕ) (is : List Item) (i : ℕ) → length is ≤ i → whole ≡ n + count (items_left (drop i is))
    → n ≡ whole
count_end whole n is i h so =
    let none = at_drop_all (λ js. count (items_left js)) is i h in
    omega (arith, none, so)

here : (i : It) (is : Its) → is_left i ≡ true → term_at 0 (strip_items (with_item i is)) ≡ term_of i
here (a_term (node p true f)) is h = cc
here (a_term (node p false f)) is h = refl
here (a_con p Inserted c) is h = cc
here (a_con p Written c) is h = refl
here (a_con p Wild c) is h = refl
here (a_guard p true) is h = cc
here (a_guard p false) is h = refl

further : (n : ℕ) (i : It) (is : Its) → is_left i ≡ true → term_at (suc n) (strip_items (with_item i is))
    ≡ term_at n (strip_items is)
further n (a_term (node p true f)) is h = cc
further n (a_term (node p false f)) is h = refl
further n (a_con p Inserted c) is h = cc
further n (a_con p Written c) is h = refl
further n (a_con p Wild c) is h = refl
further n (a_guard p true) is h = cc
further n (a_guard p false) is h = refl

pub term_here : (whole : Option Ex) (is : List Item) (i : ℕ) (x : Item) (n : ℕ) (r : Option Ex) → i < length is → x
    ≡ get_or is i x
    → whole ≡ term_at n (items_left (drop i is)) → true ≡ is_left (item_tree x) → n ≡ 0 → r ≡ term_of (item_tree x)
    → r ≡ whole
term_here whole is i x n r h e so it z k =
    k ∙ sym (here (item_tree x) _ (sym it)) ∙ sym (so ∙ ap (λ m. term_at m (items_left (drop i is))) z
    ∙ ap (term_at 0) (at_item is i x h e))

pub term_on : (whole : Option Ex) (is : List Item) (i : ℕ) (x : Item) (n : ℕ) → i < length is → x ≡ get_or is i x
    → whole ≡ term_at n (items_left (drop i is)) → true ≡ is_left (item_tree x) → n ≢ 0 → whole
    ≡ term_at (n - 1) (items_left (drop (i + 1) is))
term_on whole is i x n h e so it z =
    let k : n ≡ suc (n - 1) = omega arith in
    so ∙ ap (λ m. term_at m (items_left (drop i is))) k ∙ ap (term_at (suc (n - 1))) (at_item is i x h e)
    ∙ further (n - 1) (item_tree x) _ (sym it)

pub term_past : (whole : Option Ex) (is : List Item) (i : ℕ) (x : Item) (n : ℕ) → i < length is → x ≡ get_or is i x
    → whole ≡ term_at n (items_left (drop i is)) → false ≡ is_left (item_tree x) → whole
    ≡ term_at n (items_left (drop (i + 1) is))
term_past whole is i x n h e so it = so ∙ ap (term_at n) (at_item is i x h e ∙ passed (item_tree x) _ (sym it))

pub term_end : (whole : Option Ex) (is : List Item) (i n : ℕ) → length is ≤ i → whole
    ≡ term_at n (items_left (drop i is)) → None ≡ whole
term_end whole is i n h so = sym (so ∙ at_drop_all (λ js. term_at n (items_left js)) is i h)

-- one item, and two items
pub one_by_count : (is : Its) → count is ≡ 1 → term_at 0 is ≡ one_term is
one_by_count no_items h = refl
one_by_count (with_term x no_items) h = refl
one_by_count (with_term x (with_term y is)) h = absurd (omega (arith, h))
one_by_count (with_term x (with_con p o c is)) h = absurd (omega (arith, h))
one_by_count (with_term x (with_guard p a is)) h = absurd (omega (arith, h))
one_by_count (with_con p o c is) h = refl
one_by_count (with_guard p a is) h = refl

pub not_one : (is : Its) → count is ≢ 1 → None ≡ one_term is
not_one no_items h = refl
not_one (with_term x no_items) h = absurd (h refl)
not_one (with_term x (with_term y is)) h = refl
not_one (with_term x (with_con p o c is)) h = refl
not_one (with_term x (with_guard p a is)) h = refl
not_one (with_con p o c is) h = refl
not_one (with_guard p a is) h = refl

abbrev pub pair_of : Option Ex → Option Ex → Option (Ex × Ex)
pair_of (Some x) (Some y) = Some (x, y)
pair_of _ _ = None

pub two_by_count : (is : Its) → count is ≡ 2 → pair_of (term_at 0 is) (term_at 1 is) ≡ two_terms is
two_by_count no_items h = refl
two_by_count (with_term x no_items) h = refl
two_by_count (with_term x (with_term y no_items)) h = refl
two_by_count (with_term x (with_term y (with_term z is))) h = absurd (omega (arith, h))
two_by_count (with_term x (with_term y (with_con p o c is))) h = absurd (omega (arith, h))
two_by_count (with_term x (with_term y (with_guard p a is))) h = absurd (omega (arith, h))
two_by_count (with_term x (with_con p o c is)) h = refl
two_by_count (with_term x (with_guard p a is)) h = refl
two_by_count (with_con p o c is) h = refl
two_by_count (with_guard p a is) h = refl

pub not_two : (is : Its) → count is ≢ 2 → None ≡ two_terms is
not_two no_items h = refl
not_two (with_term x no_items) h = refl
not_two (with_term x (with_term y no_items)) h = absurd (h refl)
not_two (with_term x (with_term y (with_term z is))) h = refl
not_two (with_term x (with_term y (with_con p o c is))) h = refl
not_two (with_term x (with_term y (with_guard p a is))) h = refl
not_two (with_term x (with_con p o c is)) h = refl
not_two (with_term x (with_guard p a is)) h = refl
not_two (with_con p o c is) h = refl
not_two (with_guard p a is) h = refl

not_one_branch : (bs : List Branch) → length bs ≢ 1 → None ≡ one_branch (branches_from (map branch_tree bs))
not_one_branch [] h = refl
not_one_branch (b ∷ []) h = absurd (h refl)
not_one_branch (b ∷ c ∷ bs) h = refl

pub no_only_branch : (bs : Branches) → length (out-Branches bs).items.items ≢ 1 → None
    ≡ one_branch (branches_tree bs)
no_only_branch bs h =
    not_one_branch (out-Branches bs).items.items h
    ∙ sym (ap one_branch (fold_out-Branches Fo It Lo AttributeTree Ats BranchTree Brs El Ex Exs FieldTree Fds Its
    LiteralTree Los NamedTree Nms NodeTree Xs form_step item_step local_step attribute_step attributes_step
    branch_step branches_step element_step exp_step exps_step field_step fields_step items_step literal_step
    locals_step named_step named_list_step node_step nodes_step bs))
