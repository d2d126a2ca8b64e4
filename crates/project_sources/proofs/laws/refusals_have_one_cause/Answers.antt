use Rattle.project_sources.proofs.OneProject.{one_cause}
use Rattle.project_sources.proofs.laws.refusals_have_one_cause.Goals as goal

pub returns : goal.returns
returns c =
    one_cause (record {
      reading = c.texts_have_one_reading.ensures;
      tree = c.one_whole_tree.ensures;
      refusal = c.one_refusal.ensures;
      refused = c.trees_are_not_refused.ensures;
    }) c.projects_have_one_answer.ensures c.refusals_have_one_line.ensures
