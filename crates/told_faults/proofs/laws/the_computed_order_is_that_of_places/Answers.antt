use Rattle.told_faults.proofs.Ordering.{sooner_is, sooner_isnt}
use Rattle.told_faults.proofs.laws.the_computed_order_is_that_of_places.Goals as goal

pub returns : goal.returns
returns c = λ p q. (sooner_is p q, sooner_isnt p q)
