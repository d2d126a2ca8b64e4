use Rattle.core_typing.proofs.OneType.{one_type_is_found, one_list_is_bound}
use Rattle.core_typing.proofs.laws.one_type_is_found.Goals as goal

pub returns-clause-one_type : goal.returns-clause-one_type
returns-clause-one_type c = one_type_is_found

pub returns-clause-one_list : goal.returns-clause-one_list
returns-clause-one_list c = one_list_is_bound
