use Rattle.std.proofs.Common.{[], ◌++◌, ap}
use Rattle.grammar_engine.proofs.Trees.Unique.{same_node}
use Rattle.grammar_engine.proofs.laws.one_tree.Goals as goal

pub returns : goal.returns
returns c p n o after behind room space name other f f' e chosen =
    let s = same_node n o p after behind [] [] room space name other f f' e (ap (λ l. l ++ []) chosen) in
    (s.tree, s.rest)
