-- Types with arguments of which nothing is told, one argument after another.
use Rattle.std.proofs.Common.{◌≡◌, ℕ, ◌+◌, zero, suc, refl, ap, sym, ◌∙◌, add-one}
use Rattle.con_terms.specs.Trees.{Cn, Cns, Prs, app, unit_con}
use Rattle.con_terms.specs.View.{con_tree, con_step, cons_step, pair_step, pairs_step}
use Rattle.con_terms.specs.declared.con.Con.TheOpen.{Con-F}
use Rattle.con_terms.specs.declared.con.Con.TheVariants.{UnitCon}
use Rattle.con_terms.specs.declared.con.Con.TheViews.{rolls-UnitCon}
use Rattle.con_terms.specs.declared.con.Con.TheFolds.{fold-roll-Con}
use Rattle.core_terms.specs.Types.{at_types}
use Rattle.core_typing.specs.PatternFaults.{untold}

at_end : (f : Cn) (n : ℕ) → at_types f (untold (suc n)) ≡ app (at_types f (untold n)) unit_con
at_end f zero = refl
at_end f (suc n) = at_end (app f unit_con) n

unit_tree : con_tree UnitCon ≡ unit_con
unit_tree = ap con_tree (sym rolls-UnitCon) ∙ fold-roll-Con Cn Cns (Cn × Cn) Prs con_step cons_step pair_step pairs_step Con-F.UnitCon

pub untold_on : (f built more : Cn) (n : ℕ) → built ≡ at_types f (untold n) → more ≡ app built (con_tree UnitCon) → more ≡ at_types f (untold (n + 1))
untold_on f built more n h e =
    e ∙ ap (app built) unit_tree ∙ ap (λ b. app b unit_con) h ∙ sym (ap (λ m. at_types f (untold m)) (add-one n) ∙ at_end f n)
