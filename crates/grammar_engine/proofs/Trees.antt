-- What holds of every tree. Behind each file: the public clause for which it serves.
-- `laws.one_tree`: a tree begins with a token that begins its form
pub mod Leading
-- `laws.one_tree`: two trees at the front of the same tokens that choose alike are one
pub mod Unique
-- `laws.one_whole_tree`: the tokens of a tree, rule by rule
pub mod Pieces
-- `read_whole`: `exact`: a tree fits where there is more room
pub mod Roomier
-- `laws.one_whole_tree`; `read_part`: `sole`: parts that may be whole texts
pub mod TextParts
-- `laws.one_whole_tree`; `read_whole`: `only`: two trees of a part, with what may stand behind them, are one
pub mod Sole
