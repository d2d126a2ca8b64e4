use Rattle.site_build.proofs.OneCause.{one_of_projects}
use Rattle.site_build.proofs.laws.projects_have_one_cause.Goals as goal

pub returns : goal.returns
returns c = one_of_projects c.folders_have_one_answer.ensures c.refusals_have_one_cause.ensures
