-- Lists of items and of declarations, one more in front.
use Rattle.std.proofs.Common.{ℕ}
use Rattle.core_terms.specs.Trees.{It, a_term, a_con, a_guard, Its, Lo, a_val, a_rec, Los}
use Rattle.core_terms.specs.Leaves.{ItemsFit, LocalsFit}
use Rattle.core_terms.specs.View.{with_item, with_local}
use Rattle.program_forms.specs.Parts.{ItemFits, LocalFits}

pub items_more : (n : ℕ) (i : It) (is : Its) → ItemFits n i → ItemsFit n is → ItemsFit n (with_item i is)
items_more n (a_term e) is h g = (h, g)
items_more n (a_con p a c) is h g = (h, g)
items_more n (a_guard p a) is h g = g

pub locals_more : (n : ℕ) (l : Lo) (ls : Los) → LocalFits n l → LocalsFit n ls → LocalsFit n (with_local l ls)
locals_more n (a_val p x w t e) ls h g = (h.0, h.1, h.2, g)
locals_more n (a_rec ns) ls h g = (h, g)
