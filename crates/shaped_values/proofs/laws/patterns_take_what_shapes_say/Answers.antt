use Rattle.shaped_values.proofs.Taken.{as_told}
use Rattle.shaped_values.proofs.laws.patterns_take_what_shapes_say.Goals as goal

pub returns : goal.returns
returns c = λ G cs p t ts v d s b f i o l h g. as_told d b f i o l h g
