-- From parts to whole texts. Behind each file: the public clause for which it serves.
-- `read_whole`: `exact`: from the parts of a text to the whole text, where one is refused or read
pub mod Exact
-- `read_whole`: `exact`, `complete`: where reading a text stops, no tree goes on
pub mod Refusing
-- `laws.one_refusal`, `laws.trees_are_not_refused`: one refusal at most, and none of a tree
pub mod Refusals
