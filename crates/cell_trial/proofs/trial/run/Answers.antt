use Rattle.std.proofs.Common.{◌≡◌, ℕ, List, All, Some, rules, subst, sym}
use Rattle.commit_cell.specs.Words.{opening}
use Rattle.cell_trial.specs.Counter.{HasAllOf}
use Rattle.cell_trial.proofs.Counts.{has_all, stands_alone, all_differ, adds_up}
use Rattle.cell_trial.proofs.trial.run.Goals as goal

pub returns-clause-own : goal.returns-clause-own
returns-clause-own g c =
    let z = c.close-counter.ensures in
    let began : opening c.gather.new.pass ≡ Some c.new.result = search rules in
    let items = stands_alone _ c.new.result _ _ z.stands_for began c.new.ensures.1 in
    let all = has_all c.close-counter.result z.log _ items z.owns.gathered in
    subst (λ (ms : List (ℕ × ℕ)). All (λ m. HasAllOf c.close-counter.result m) ms) (sym c.in_ok-made.ensures.made) all

pub returns-clause-different : goal.returns-clause-different
returns-clause-different g c = all_differ _ _ c.in_ok-made.ensures.made c.close-counter.ensures.counted.once

pub returns-clause-total : goal.returns-clause-total
returns-clause-total g c =
    let z = c.close-counter.ensures in
    let began : opening c.gather.new.pass ≡ Some c.new.result = search rules in
    adds_up _ c.new.result _ _ z.stands_for began c.new.ensures.0 c.new.ensures.1
