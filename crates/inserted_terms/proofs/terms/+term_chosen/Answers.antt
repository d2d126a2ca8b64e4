use Rattle.std.proofs.Common.{◌<◌, length, IsTrue, arith, rules}
use Rattle.core_terms.specs.declared.exp.Form.TheViews.{out-Locals}
use Rattle.inserted_terms.proofs.Fronts.{chosen_more, scope_more}
use Rattle.inserted_terms.proofs.terms.+term_chosen.Goals as goal

pub behind_locals-loop-i-preserved : goal.behind_locals-loop-i-preserved
behind_locals-loop-i-preserved t c =
    let ls = (out-Locals c.args.ls.now).items in
    let h : c.loop-i.i < length ls.items = omega (arith, ls.ok.0) in
    let yes : IsTrue c.in_ok-local_chosen.field-0 = search rules in
    record {
      chosen = λ more. c.loop-i.invariant.chosen (chosen_more _ _ ls.items c.loop-i.i _ h c.index-local.ensures
          (c.in_ok-local_chosen.ensures yes) c.in_ok-here-2.ensures more);
      scope = scope_more _ _ _ ls.items c.loop-i.i _ h c.index-local.ensures c.loop-i.invariant.scope
          c.in_ok-here-2.ensures;
    }
