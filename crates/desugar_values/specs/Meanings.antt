-- What a tree of the grammar stands for.
use Rattle.std.specs.Prelude.{ℕ}
use Rattle.con_terms.specs.Trees.{Kd}
use Rattle.plain_tree.specs.Trees.{ConTree, PatTree, ExpTree, NodeTree}
use Rattle.surface_tree.specs.declared.token.Token.{Token}

mutual
  -- What a tree stands for. A number before a value is the byte of the tree's first token, which is that of the value
  -- too but where the tree stands in brackets of its own.
  pub data MeaningTree : Type 0 where
    -- an option that isn't there
    absent : MeaningTree
    -- a token
    a_word : Token → MeaningTree
    -- the trees of a repetition
    several : MeaningsTree → MeaningTree
    -- a tree that is only a part of the next one: what its own parts stand for
    group : MeaningsTree → MeaningTree
    a_kind : Kd → MeaningTree
    a_con : ℕ → ConTree → MeaningTree
    a_pat : ℕ → PatTree → MeaningTree
    an_exp : ℕ → ExpTree → MeaningTree
    a_node : NodeTree → MeaningTree

  -- what several trees stand for, in order
  pub data MeaningsTree : Type 0 where
    no_meaning : MeaningsTree
    meaning : MeaningTree → MeaningsTree → MeaningsTree

-- one more behind the others
abbrev pub and_one : MeaningsTree → MeaningTree → MeaningsTree
and_one no_meaning x = meaning x no_meaning
and_one (meaning m ms) x = meaning m (and_one ms x)
