use Rattle.std.proofs.Common.{◌≡◌, ◌-◌, ◌∙◌, get_or, None, Some, rules, arith}
use Rattle.con_terms.specs.View.{con_tree}
use Rattle.source_names.proofs.Nested.{projs_more}
use Rattle.source_names.proofs.parts.before_numbers.Goals as goal

pub returns-in-None : goal.returns-in-None
returns-in-None c = λ first.
    let here : c.index.result.now ≡ get_or c.args.numbers.now (c.loop-left.left - 1) c.index.result.now = search
    rules in
    c.loop-left.invariant.same first
    ∙ projs_more c.args.numbers.now c.loop-left.left c.index.result.now (con_tree c.loop-left.at.now) None first
    c.loop-left-test.true c.loop-left.invariant.within here c.in-None.ensures

pub loop-left-preserved : goal.loop-left-preserved
loop-left-preserved c = record {
  within = omega (arith, c.loop-left.invariant.within);
  same = λ first.
      let here : c.index.result.now ≡ get_or c.args.numbers.now (c.loop-left.left - 1) c.index.result.now = search
      rules in
      c.loop-left.invariant.same first
      ∙ projs_more c.args.numbers.now c.loop-left.left c.index.result.now (con_tree c.loop-left.at.now) (Some
      (con_tree c.in-Some.tuple.now)) first c.loop-left-test.true c.loop-left.invariant.within here
      c.in-Some.ensures;
}
