-- What stands in a list of rules.
use Rattle.std.proofs.Common.{◌≡◌, ◌<◌, ℕ, zero, suc, List, [], ◌∷◌, length, get_or, refl, sym, subst, arith, Bool, true, false, not, ◌&&◌, Option, Some}
use Rattle.std.proofs.Math.Logic.{inl, inr}
use Rattle.surface_tree.specs.declared.kind.Kind.{Kind}
use Rattle.surface_grammar.specs.declared.form.Form.{Form}
use Rattle.surface_grammar.specs.declared.rule.Rule.{Rule}
use Rattle.surface_grammar.specs.Forms.{rules_of}
use Rattle.surface_grammar.specs.Leads.{starts}
use Rattle.surface_grammar.specs.Sides.{bars_of}
use Rattle.surface_grammar.specs.Trees.{IsIn, among}
use Rattle.grammar_engine.specs.Moves.{Chosen}

pub is_in_at : (qs : List Rule) (i : ℕ) (d : Rule) → i < length qs → IsIn (get_or qs i d) qs
is_in_at [] i d h = absurd (omega arith)
is_in_at (q ∷ qs) zero d h = inl refl
is_in_at (q ∷ qs) (suc i) d h = inr (is_in_at qs i d (omega arith))

not_barred : (b s : Bool) → (not b && s) ≡ true → b ≡ false
not_barred true s h = cc
not_barred false s h = refl

-- a rule of the form that the token begins may be chosen
pub chosen_at : (qs : List Rule) (i : ℕ) (d : Rule) (g : Form) (x : Kind) (next : Option Kind) → qs ≡ rules_of g → i < length qs → starts (get_or qs i d) x ≡ true → next ≡ Some x → Chosen g next (get_or qs i d)
chosen_at qs i d g x next of_form h started is = (
  subst (λ l. IsIn (get_or qs i d) l) of_form (is_in_at qs i d h),
  subst (λ o. among (bars_of (get_or qs i d)) o ≡ false) (sym is) (not_barred _ _ started),
)
