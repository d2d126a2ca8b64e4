use Rattle.std.proofs.Common.{◌≡◌, ◌++◌, drop}
use Rattle.core_terms.specs.Lists.{foreigns_view}
use Rattle.project_files.specs.View.{effects_of, said_by}
use Rattle.plain_projects.proofs.settings.foreign_of.Given as goal

abbrev pub invariant-loop-effect : goal.invariant-loop-effect
invariant-loop-effect l =
    foreigns_view l.effects ++ effects_of (drop l.effect-index l.project.effects.items) ≡ (said_by l.project).effects
