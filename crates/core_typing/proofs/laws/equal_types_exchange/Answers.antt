use Rattle.core_typing.specs.Typed.{by_equal}
use Rattle.core_typing.proofs.laws.equal_types_exchange.Goals as goal

pub returns : goal.returns
returns c = ((λ G e t u h q x. by_equal h q x), (λ G e t u h q x. by_equal h q x), (λ G e t u h q x. by_equal h q x))
