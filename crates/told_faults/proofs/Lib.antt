-- The order of places (law `the_computed_order_is_that_of_places`).
pub mod Ordering
-- From what is told of a node's parts and of the node itself to what the node tells (law `a_node_tells_the_first`).
pub mod Verdict
-- What comparisons, kinds and heads of types tell (laws `a_comparison_tells_its_fault`, `a_kinding_tells_its_fault`).
pub mod Parts
-- Heads of normal forms (law `heads_are_read`).
pub mod Heads
-- Where nothing is told, the term is found with cover (law `silent_terms_are_found`).
pub mod Silent
-- What is told of the nodes and of the faults of two lists (law `of_two_sets_of_nodes_the_earlier_counts` and others).
pub mod Lists
