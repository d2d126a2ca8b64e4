use Rattle.std.proofs.Common.{◌∙◌, refl}
use Rattle.con_terms.proofs.Listed.{len_listed}
use Rattle.judgements.specs.View.{judged_tree}
use Rattle.markup_rules.proofs.judged.Judgements.len.Goals as goal

pub returns : goal.returns
returns c = c.len.ensures ∙ len_listed judged_tree c.args.self.now.items _ refl
