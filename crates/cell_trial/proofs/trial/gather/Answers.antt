use Rattle.std.proofs.Common.{rules, arith, ◌≡◌, ◌∷◌, ◌++◌, [], map, sym, ap, ◌∙◌}
use Rattle.std.proofs.lemmas.Grind.{common_steps}
use Rattle.commit_cell.specs.declared.view.Known.{Known}
use Rattle.cell_trial.specs.declared.counter.Entry.{Entry}
use Rattle.cell_trial.specs.Counter.{counted}
use Rattle.cell_trial.specs.Ready.{IsReady}
use Rattle.cell_trial.proofs.Counts.{joins_count, last_holds}
use Rattle.cell_trial.proofs.trial.gather.Goals as goal

pub loop-worker-preserved : goal.loop-worker-preserved
loop-worker-preserved c =
    let before = c.loop-worker.invariant in
    let pushed : c.push.new.self.items ≡ c.loop-worker.made.items ++ (c.number.result, c.made.result) ∷ [] = search rules in
    let ready : IsReady c.args.cell.now c.in-Some.worker = last_holds (λ w. IsReady c.args.cell.now w) _ _ _ c.in-Some.ensures.items before.2 in
    let none : c.in-Some.worker.pass.seat.me.0.known.gathered ≡ [] = ready.1 in
    let joined = ap (λ (p : Known Entry). map counted p.gathered) (sym c.join.ensures.known.0) in
    (search rules, search rules, grind (arith, common_steps), pushed ∙ joins_count _ _ _ _ _ _ _ before.3 c.number.ensures c.made.ensures none ∙ joined, search rules, search rules)
