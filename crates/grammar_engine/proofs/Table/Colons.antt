-- `::` begins the one option that need not be taken with it.
use Rattle.std.proofs.Common.{◌≡◌, refl, ap, ◌∙◌, true, false, Option, Some}
use Rattle.std.proofs.lemmas.Bool.{and_right}
use Rattle.surface_tree.specs.declared.kind.Kind.{Kind}
use Rattle.surface_tree.specs.declared.kind.Kind.TheVariants as k
use Rattle.surface_grammar.specs.declared.form.Form.{Form}
use Rattle.surface_grammar.specs.declared.form.Form.TheVariants as f
use Rattle.surface_grammar.specs.Firsts.{first_of}
use Rattle.surface_grammar.specs.Trees.{begins, must_go_on}

-- computed
colons : begins f.ConForall (Some k.DoubleColon) ≡ true
unfolding first_of
colons = refl

pub colons_begin : (g : Form) (x : Option Kind) → g ≡ f.ConForall → x ≡ Some k.DoubleColon → begins g x ≡ true
colons_begin g x e i = ap (begins g) i ∙ ap (λ h. begins h (Some k.DoubleColon)) e ∙ colons

pub colons_may_end : (g : Form) (x : Option Kind) → g ≡ f.ConForall → x ≡ Some k.DoubleColon → must_go_on g x ≡ false
colons_may_end g x e i =
    ap (must_go_on g) i ∙ ap (λ h. must_go_on h (Some k.DoubleColon)) e
    ∙ and_right (begins f.ConForall (Some k.DoubleColon)) false refl
