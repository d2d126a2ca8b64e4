-- Short trees are low.
use Rattle.std.proofs.Common.{◌≡◌, ◌≤◌, refl, true, nat_le}
use Rattle.surface_grammar.specs.declared.form.Form.{Form}
use Rattle.surface_grammar.specs.declared.form.Form.TheVariants as f
use Rattle.surface_grammar.proofs.Every.{of_each}
use Rattle.grammar_engine.proofs.Short.Calm.{at_most}
use Rattle.grammar_engine.proofs.Short.Shortest.{need_of}

low : (g : Form) → nat_le (need_of g) 2 ≡ true
low g = of_each (λ x. nat_le (need_of x) 2) refl g

pub need_low : (g : Form) → need_of g ≤ 2
need_low g = at_most (need_of g) 2 (low g)
