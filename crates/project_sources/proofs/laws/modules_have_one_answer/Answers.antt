use Rattle.std.proofs.Common.{refl}
use Rattle.ur_parser.specs.Sources.{module_part}
use Rattle.project_sources.proofs.OneText.{Readers, one_tree, tree_or_none, one_reason}
use Rattle.project_sources.proofs.laws.modules_have_one_answer.Goals as goal

pub returns : goal.returns
returns c =
    let laws : Readers = record {
      reading = c.texts_have_one_reading.ensures;
      tree = c.one_whole_tree.ensures;
      refusal = c.one_refusal.ensures;
      refused = c.trees_are_not_refused.ensures;
    } in
    record {
      one_tree = λ bytes node other h k. one_tree laws module_part bytes node other refl h k;
      not_refused = λ name bytes node fault h k. tree_or_none laws module_part name bytes node fault h k;
      one_refusal = λ name bytes fault other h k. one_reason laws module_part name bytes fault other h k;
    }
