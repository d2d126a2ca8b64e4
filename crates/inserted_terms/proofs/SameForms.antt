-- A normal form that is a class at a type is compared with normal forms that are (for `typed_value`, `is_of_form`).
use Rattle.std.proofs.Common.{◌≡◌, Bool, true, false, Option, Some, None, refl, ap, sym, ◌∙◌, if◌then◌else◌}
use Rattle.con_terms.specs.Trees.{Cn}
use Rattle.core_typing.specs.Scopes.{normal_of}
use Rattle.guided_terms.specs.Implied.{has_form}
use Rattle.row_normal.specs.SameTree.{cn_eq}
use Rattle.row_normal.proofs.SameTrees.{cn_eq_refl, cn_eq_same}
use Rattle.inserted_terms.specs.Forms.{if_instance, instance_form, is_form_of, is_instance_form, same_form}

same_refl : (o : Option Cn) → same_form o o ≡ true
same_refl None = refl
same_refl (Some m) = cn_eq_refl m

same_same : (o p : Option Cn) → same_form o p ≡ true → o ≡ p
same_same None None e = refl
same_same None (Some n) e = absurd cc
same_same (Some m) None e = absurd cc
same_same (Some m) (Some n) e = ap Some (cn_eq_same m n e)

-- the normal form that is computed is the one that is kept
pub form_is : (o : Option Cn) (t : Cn) → o ≡ instance_form t → is_form_of o t ≡ true
form_is o t e = ap (λ p. same_form p (instance_form t)) e ∙ same_refl (instance_form t)

kept : (b : Bool) (m n : Cn) → is_instance_form m ≡ b → is_instance_form n ≡ true → (d : Bool) → cn_eq m n ≡ d
    → has_form (if b then Some m else None) n ≡ d
kept true m n k h d e = e
kept false m n k h false e = refl
kept false m n k h true e =
    let same : m ≡ n = cn_eq_same m n e in
    let no : false ≡ true = sym k ∙ ap is_instance_form same ∙ h in
    absurd cc

compared : (n : Cn) (o : Option Cn) → is_instance_form n ≡ true → has_form (if_instance o) n ≡ has_form o n
compared n None h = refl
compared n (Some m) h = kept (is_instance_form m) m n refl h (cn_eq m n) refl

-- the one that is kept tells whether a type has a normal form
pub value_form : (o : Option Cn) (t n : Cn) → is_form_of o t ≡ true → is_instance_form n ≡ true
    → has_form o n ≡ has_form (normal_of t) n
value_form o t n e h = ap (λ p. has_form p n) (same_same o (instance_form t) e) ∙ compared n (normal_of t) h
