use Rattle.std.proofs.Common.{◌∙◌, ap}
use Rattle.unknowns.specs.Unknowns.{count_of}
use Rattle.unknowns.proofs.Counts.{count_stays}
use Rattle.unknowns.proofs.answers.put.Goals as goal

pub invariant_of-result : goal.invariant_of-result
invariant_of-result c = record {
  counted = ap count_of c.put_in.ensures ∙ count_stays _ _ _ ∙ c.args.found.counted;
  few = c.args.found.few;
}
