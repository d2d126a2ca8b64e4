-- What stands at a place of the tokens.
pub mod Places
-- How much room a rule needs.
pub mod Rooms
-- The first of what is still to be read that can't be left out.
pub mod Solid
-- Why one step of reading is refused.
pub mod Blocks
-- What stands before a refused token begins a tree.
pub mod Allowed
-- What one step of reading does.
pub mod Moves
-- What reading a part gives.
pub mod Reads
-- What a refusal of a whole text tells.
pub mod Faults
-- How what was read grows to a whole tree.
pub mod Growing
-- The laws of the table that one token decides: computed for each form and each kind of token.
pub mod Laws
-- Why reading is refused: what must come next can't begin with the next token.
pub mod Stuck
-- The choices of a tree at the places that one token does not decide, and what they leave open.
pub mod Choices
-- There is one tree.
pub mod Single
-- The trees of some forms that stand in a tree, which a reader of the rest leaves to others.
pub mod Leaving
-- That no tree goes on at a refused token: what reading keeps of each tree that the tokens begin.
pub mod Passing
-- Where a whole text is refused, exactly.
pub mod Exact
