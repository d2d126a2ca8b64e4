-- Faults as they are computed: the earlier of two, and what kindings, comparisons and heads tell.
pub mod Computed
-- What a judgement promises, and what is told of sets of faults and of sets of nodes.
pub mod Told
-- What a comparison, a kinding and a head are, beside what is computed for them.
pub mod Heads
-- The laws by which a checker's faults are the told ones.
pub mod Laws
