-- More than sixteen trees within each other begin with no other word: computed form by form.
use Rattle.std.proofs.Common.{◌≡◌, ◌+◌, ℕ, zero, suc, List, refl, ap, ◌∙◌, arith}
use Rattle.surface_tree.specs.declared.kind.Kind.{Kind}
use Rattle.surface_grammar.specs.declared.form.Form.{Form}
use Rattle.surface_grammar.specs.declared.form.Form.TheVariants as f
use Rattle.surface_grammar.specs.Firsts.{rule_heads, first_in, first_of}
use Rattle.surface_grammar.specs.Forms.{rules_of}

-- the last line stands for each other form, and is checked for each
one_more : (g : Form) → first_in 17 g ≡ first_in 16 g
one_more f.KindTerm = refl
one_more _ = refl

-- so many more than sixteen
abbrev above : ℕ → ℕ
above zero = 16
above (suc n) = suc (above n)

above_is : (n : ℕ) → 16 + n ≡ above n
above_is zero = refl
above_is (suc n) = let less : 16 + n ≡ above n = above_is n in omega (arith, less)

same_above : (n : ℕ) (g : Form) → first_in (above n) g ≡ first_in 16 g
same_above zero g = refl
same_above (suc n) g =
    ap (λ (first : Form → List Kind). rule_heads first (rules_of g)) (λ i x. same_above n x i) ∙ one_more g

pub computed : (g : Form) (more : ℕ) → first_in (16 + more) g ≡ first_of g
unfolding first_of
computed g more = ap (λ n. first_in n g) (above_is more) ∙ same_above more g
