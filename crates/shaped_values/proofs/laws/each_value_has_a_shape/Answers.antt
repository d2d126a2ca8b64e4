use Rattle.shaped_values.proofs.Shaped.{some_shape}
use Rattle.shaped_values.proofs.laws.each_value_has_a_shape.Goals as goal

pub returns : goal.returns
returns c = λ ds cs t v d h. some_shape d h
