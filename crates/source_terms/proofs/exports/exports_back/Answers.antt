use Rattle.std.proofs.Common.{◌≡◌, ◌==◌, ◌||◌, ◌&&◌, ℕ, List, bytes_eq, refl, arith}
use Rattle.source_terms.proofs.Selecting.{behind_more, numbers_more}
use Rattle.source_terms.proofs.exports.exports_back.Goals as goal

pub loop-back-preserved : goal.loop-back-preserved
loop-back-preserved c =
    let vs = c.args.values.now in
    record {
      behind = λ x. behind_more c.args.home x vs c.loop-back.back _ _ _ _ c.loop-back-test.true refl
          c.index-values-i.is
          (c.loop-back.invariant.behind x) (c.in_ok-note.ensures x);
      told = numbers_more c.args.home c.args._exported.now c.args.selected.now c.loop-back.later vs c.loop-back.back
          _ _ _ _ c.loop-back-test.true refl c.index-values-i.is c.requires c.loop-back.invariant.behind
          c.loop-back.invariant.told c.in_ok-number_of.ensures;
    }
