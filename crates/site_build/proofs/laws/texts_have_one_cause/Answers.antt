use Rattle.site_build.proofs.OneCause.{one_of_texts}
use Rattle.site_build.proofs.laws.texts_have_one_cause.Goals as goal

pub returns : goal.returns
returns c = one_of_texts c.modules_have_one_answer.ensures
