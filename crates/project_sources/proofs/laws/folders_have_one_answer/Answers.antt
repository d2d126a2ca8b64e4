use Rattle.project_sources.proofs.OneProject.{one_answer}
use Rattle.project_sources.proofs.laws.folders_have_one_answer.Goals as goal

pub returns : goal.returns
returns c =
    one_answer (record {
      reading = c.texts_have_one_reading.ensures;
      tree = c.one_whole_tree.ensures;
      refusal = c.one_refusal.ensures;
      refused = c.trees_are_not_refused.ensures;
    }) c.projects_have_one_answer.ensures
