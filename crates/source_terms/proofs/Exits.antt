-- Where the reading of `e && d` or of `e || d` ends: three tests stand before both of its sides.
use Rattle.std.proofs.Common.{◌≡◌, Bool, true, ◌&&◌, Some, ap, sym, ◌∙◌}
use Rattle.core_terms.specs.declared.exp.Sigil.TheVariants.{Plain}
use Rattle.core_terms.specs.Strip.{strip, strip_items, strip_pattern}
use Rattle.core_terms.specs.Trees.{Ex, Fo, call, case_of, Its, Brs}
use Rattle.core_terms.specs.View.{BranchTree}
use Rattle.plain_tree.specs.declared.names.BasisBuilder.TheVariants as truth
use Rattle.plain_tree.specs.declared.names.Infix.{Infix}
use Rattle.source_names.specs.Scopes.{Scope}
use Rattle.source_terms.proofs.Calling.{and_is, or_is, side, three_true, two_are}
use Rattle.source_terms.specs.Leaves.{form_of, is_bare_of, is_basis_builder, is_operator}
use Rattle.source_terms.specs.Left.{left}
use Rattle.source_terms.specs.Parts.{one_branch, two_terms}
use Rattle.source_terms.specs.Terms.{are_two, reads_and, reads_operator, reads_or}

pub exit_last : (a b c l r before after whole : Bool) → whole ≡ (a && b && c && l && r)
    → a ≡ true → b ≡ true → c ≡ true → after ≡ (r && before) → (l && after) ≡ (whole && before)
exit_last a b c l r before after whole so e f g h =
    three_true a b c l r before after e f g h ∙ sym (ap (λ z. z && before) so)

-- what `e && d` reads of a case with two branches
pub and_reads : (s : Scope) (l r : Fo → Bool) (f : Fo) (x : Ex) (b c : BranchTree) (bs : Brs)
    → f ≡ case_of x b.0 b.1 b.2 bs → Some c ≡ one_branch bs
    → reads_and s l r (left f)
    ≡ (is_bare_of s truth.True (strip_pattern b.1) && is_bare_of s truth.False (strip_pattern c.1)
    && is_basis_builder s truth.False (form_of (strip c.2)) && l (form_of (strip x)) && r (form_of (strip b.2)))
and_reads s l r f x b c bs e h =
    ap (λ g. reads_and s l r (left g)) e ∙ and_is s l r (strip x) b.0 (strip_pattern b.1) (strip b.2) bs c h

-- what `e || d` reads of one
pub or_reads : (s : Scope) (l r : Fo → Bool) (f : Fo) (x : Ex) (b c : BranchTree) (bs : Brs)
    → f ≡ case_of x b.0 b.1 b.2 bs → Some c ≡ one_branch bs
    → reads_or s l r (left f)
    ≡ (is_bare_of s truth.True (strip_pattern b.1) && is_basis_builder s truth.True (form_of (strip b.2))
    && is_bare_of s truth.False (strip_pattern c.1) && l (form_of (strip x)) && r (form_of (strip c.2)))
or_reads s l r f x b c bs e h =
    ap (λ g. reads_or s l r (left g)) e ∙ or_is s l r (strip x) b.0 (strip_pattern b.1) (strip b.2) bs c h

-- what an operator reads of a call
operator_reads : (i : Infix) (l r : Fo → Bool) (f g : Fo) (h : Ex) (is : Its) → f ≡ call h Plain is
    → g ≡ form_of (strip h)
    → reads_operator i l r (left f) ≡ (is_operator i g && are_two l r (strip_items is))
operator_reads i l r f g h is e k =
    ap (λ z. reads_operator i l r (left z)) e ∙ sym (ap (λ z. is_operator i z && are_two l r (strip_items is)) k)

pub operator_holds : (i : Infix) (l r : Fo → Bool) (f g : Fo) (h : Ex) (is : Its) (x y : Ex) (before after : Bool)
    → f ≡ call h Plain is → g ≡ form_of (strip h) → is_operator i g ≡ true → Some (x, y)
    ≡ two_terms (strip_items is)
    → after ≡ (r (form_of y) && before)
    → (l (form_of x) && after) ≡ (reads_operator i l r (left f) && before)
operator_holds i l r f g h is x y before after e k so two more =
    side (l (form_of x)) (r (form_of y)) before after more
    ∙ sym (ap (λ z. z && before) (operator_reads i l r f g h is e k
    ∙ ap (λ z. z && are_two l r (strip_items is)) so ∙ two_are l r (strip_items is) x y two))
