use Rattle.std.proofs.Common.{◌≡◌, ◌∙◌, ◌&&◌, rules, tests}
use Rattle.std.specs.Prelude.{bytes_eq}
use Rattle.std.proofs.lemmas.Iterator.{YieldsList-from_slice}
use Rattle.std.proofs.lemmas.Iterator.Search.{any_from_yields_List}
use Rattle.project_files.proofs.Effects.{list_any-map}
use Rattle.project_files.proofs.projects.is_effect_among.Goals as goal

pub returns : goal.returns
returns c =
    any_from_yields_List (λ e. bytes_eq e.owner c.args.owner.now && bytes_eq e.name c.args.name.now) _ _ _ c.any.ensures.ran
    (YieldsList-from_slice c.args.effects.now cc) (λ x b q k. search (rules, tests))
    ∙ list_any-map _ _ c.args.effects.now
