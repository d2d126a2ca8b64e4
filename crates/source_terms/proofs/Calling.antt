-- Calls by their parts.
use Rattle.std.proofs.Common.{◌≡◌, Bool, true, false, ◌&&◌, Option, Some, None, refl, ap, sym, ◌∙◌}
use Rattle.core_terms.specs.declared.exp.Sigil.{Sigil}
use Rattle.core_terms.specs.declared.exp.Sigil.TheVariants.{Plain, At, AtAt}
use Rattle.core_terms.specs.Strip.{strip, strip_pattern, strip_branches, strip_items}
use Rattle.core_terms.specs.Trees.{Pt, Ex, node, Fo, call, case_of, text, Its, no_items, with_term, with_con}
use Rattle.core_terms.specs.Trees.{with_guard, Brs, no_branches, branch}
use Rattle.core_terms.specs.View.{BranchTree}
use Rattle.con_terms.specs.declared.place.Place.{Place}
use Rattle.plain_tree.specs.declared.names.BasisBuilder.TheVariants as truth
use Rattle.plain_tree.specs.Trees.{ExpTree, exp, exp_name, exp_builder, exp_call, ItemsTree}
use Rattle.source_names.specs.Scopes.{Words, Scope}
use Rattle.source_terms.proofs.Pairs.{and_and}
use Rattle.source_terms.specs.Leaves.{form_of, is_bare_of, is_basis_builder}
use Rattle.source_terms.specs.Left.{is_empty}
use Rattle.source_terms.specs.Parts.{reads_call, reads_head, is_text_of, one_term, two_terms, one_branch}
use Rattle.source_terms.specs.Terms.{are_two, is_one_text, reads_and, reads_or, reads_form}

pub call_is_read : (s : Scope) (e : ExpTree) (is : ItemsTree) (f : Fo) → reads_form s (exp_call e is) f
    ≡ reads_call s e is f
call_is_read s (exp at (exp_name w p)) is (call h g js) = refl
call_is_read s (exp at (exp_builder w p)) is (call h g js) = refl
call_is_read s (exp at e) is (call h Plain js) = refl
call_is_read s (exp at e) is (call h At js) = refl
call_is_read s (exp at e) is (call h AtAt js) = refl
call_is_read s (exp at e) is f = refl

-- two terms
pub two_are : (l r : Fo → Bool) (is : Its) (x y : Ex) → Some (x, y) ≡ two_terms is → are_two l r is
    ≡ (l (form_of x) && r (form_of y))
two_are l r (with_term a (with_term b no_items)) x y h =
    let both : (x, y) ≡ (a, b) = cc in
    let e : x ≡ a = ap (λ (z : Ex × Ex). z.0) both in
    let f : y ≡ b = ap (λ (z : Ex × Ex). z.1) both in
    rw (e, f) refl
two_are l r no_items x y h = cc
two_are l r (with_term a no_items) x y h = cc
two_are l r (with_term a (with_term b (with_term c is))) x y h = cc
two_are l r (with_term a (with_term b (with_con p o c is))) x y h = cc
two_are l r (with_term a (with_term b (with_guard p o is))) x y h = cc
two_are l r (with_term a (with_con p o c is)) x y h = cc
two_are l r (with_term a (with_guard p o is)) x y h = cc
two_are l r (with_con p o c is) x y h = cc
two_are l r (with_guard p o is) x y h = cc

pub two_are_not : (l r : Fo → Bool) (is : Its) → None ≡ two_terms is → are_two l r is ≡ false
two_are_not l r (with_term a (with_term b no_items)) h = cc
two_are_not l r no_items h = refl
two_are_not l r (with_term a no_items) h = refl
two_are_not l r (with_term a (with_term b (with_term c is))) h = refl
two_are_not l r (with_term a (with_term b (with_con p o c is))) h = refl
two_are_not l r (with_term a (with_term b (with_guard p o is))) h = refl
two_are_not l r (with_term a (with_con p o c is)) h = refl
two_are_not l r (with_term a (with_guard p o is)) h = refl
two_are_not l r (with_con p o c is) h = refl
two_are_not l r (with_guard p o is) h = refl

-- one text
same_text : (t : Words) (p : Place) (a : Bool) (f : Fo) → is_one_text t (with_term (node p a f) no_items)
    ≡ is_text_of t f
same_text t p a (text u) = refl
same_text t p a _ = refl

pub one_is : (t : Words) (is : Its) (x : Ex) → Some x ≡ one_term is → is_one_text t is ≡ is_text_of t (form_of x)
one_is t (with_term (node p a f) no_items) x h = let e : x ≡ node p a f = cc in same_text t p a f
    ∙ sym (ap (λ y. is_text_of t (form_of y)) e)
one_is t no_items x h = cc
one_is t (with_term a (with_term b is)) x h = cc
one_is t (with_term a (with_con p o c is)) x h = cc
one_is t (with_term a (with_guard p o is)) x h = cc
one_is t (with_con p o c is) x h = cc
one_is t (with_guard p o is) x h = cc

pub one_is_not : (t : Words) (is : Its) → None ≡ one_term is → is_one_text t is ≡ false
one_is_not t (with_term a no_items) h = cc
one_is_not t no_items h = refl
one_is_not t (with_term (node p a (text u)) (with_term b is)) h = refl
one_is_not t (with_term (node p a (text u)) (with_con r o c is)) h = refl
one_is_not t (with_term (node p a (text u)) (with_guard r o is)) h = refl
one_is_not t (with_term (node p a f) (with_term b is)) h = refl
one_is_not t (with_term (node p a f) (with_con r o c is)) h = refl
one_is_not t (with_term (node p a f) (with_guard r o is)) h = refl
one_is_not t (with_con p o c is) h = refl
one_is_not t (with_guard p o is) h = refl

-- case with two branches
pub and_is : (s : Scope) (l r : Fo → Bool) (x : Ex) (p : Place) (q : Pt) (y : Ex) (bs : Brs) (b : BranchTree)
    → Some b ≡ one_branch bs
    → reads_and s l r (case_of x p q y (strip_branches bs))
    ≡ (is_bare_of s truth.True q && is_bare_of s truth.False (strip_pattern b.1)
    && is_basis_builder s truth.False (form_of (strip b.2)) && l (form_of x) && r (form_of y))
and_is s l r x p q y (branch w o z no_branches) b h = let e : b ≡ (w, o, z) = cc in rw e refl
and_is s l r x p q y no_branches b h = cc
and_is s l r x p q y (branch w o z (branch w' o' z' bs)) b h = cc

pub or_is : (s : Scope) (l r : Fo → Bool) (x : Ex) (p : Place) (q : Pt) (y : Ex) (bs : Brs) (b : BranchTree)
    → Some b ≡ one_branch bs
    → reads_or s l r (case_of x p q y (strip_branches bs))
    ≡ (is_bare_of s truth.True q && is_basis_builder s truth.True (form_of y)
    && is_bare_of s truth.False (strip_pattern b.1) && l (form_of x) && r (form_of (strip b.2)))
or_is s l r x p q y (branch w o z no_branches) b h = let e : b ≡ (w, o, z) = cc in rw e refl
or_is s l r x p q y no_branches b h = cc
or_is s l r x p q y (branch w o z (branch w' o' z' bs)) b h = cc

pub and_is_not : (s : Scope) (l r : Fo → Bool) (x : Ex) (p : Place) (q : Pt) (y : Ex) (bs : Brs) → None
    ≡ one_branch bs
    → reads_and s l r (case_of x p q y (strip_branches bs)) ≡ false
and_is_not s l r x p q y (branch w o z no_branches) h = cc
and_is_not s l r x p q y no_branches h = refl
and_is_not s l r x p q y (branch w o z (branch w' o' z' bs)) h = refl

pub or_is_not : (s : Scope) (l r : Fo → Bool) (x : Ex) (p : Place) (q : Pt) (y : Ex) (bs : Brs) → None
    ≡ one_branch bs
    → reads_or s l r (case_of x p q y (strip_branches bs)) ≡ false
or_is_not s l r x p q y (branch w o z no_branches) h = cc
or_is_not s l r x p q y no_branches h = refl
or_is_not s l r x p q y (branch w o z (branch w' o' z' bs)) h = refl

-- The last exit of a function on an operator: what is left to compare is `before`, and `after` with the right side.

pub side : (t r before after : Bool) → after ≡ (r && before) → (t && after) ≡ ((t && r) && before)
side t r before after e = ap (λ z. t && z) e ∙ and_and t r before

pub sides : (left right : Fo → Bool) (x y a b : Ex) (before after : Bool) → a ≡ x → b ≡ y → after
    ≡ (right (form_of b) && before)
    → (left (form_of a) && after) ≡ ((left (form_of x) && right (form_of y)) && before)
sides left right x y a b before after e f h =
    side (left (form_of a)) (right (form_of b)) before after h
    ∙ ap (λ z. (left (form_of z) && right (form_of b)) && before) e
    ∙ ap (λ z. (left (form_of x) && right (form_of z)) && before) f

pub three_true : (a b c l r before after : Bool) → a ≡ true → b ≡ true → c ≡ true → after ≡ (r && before)
    → (l && after) ≡ ((a && b && c && l && r) && before)
three_true a b c l r before after e f g h =
    side l r before after h
    ∙ sym (ap (λ z. (true && true && z && l && r) && before) g)
    ∙ sym (ap (λ z. (true && z && c && l && r) && before) f)
    ∙ sym (ap (λ z. (z && b && c && l && r) && before) e)
