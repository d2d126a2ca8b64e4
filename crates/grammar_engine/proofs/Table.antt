-- The laws of the table. Behind each file: the public clause for which it serves.
-- `read_part`: beginning rules comes to an end
pub mod Ranks
-- `laws.one_token_decides`: what is computed, over the words of each form
pub mod ByWords
-- `laws.one_token_decides`; `choose`: the laws of the table, computed, and what they say
pub mod Decided
-- `choose`: `chosen`: a rule of the form that the token begins may be chosen
pub mod Chosen
-- `choose`: `none`: a token that begins no rule of a form doesn't begin the form
pub mod NoneBegins
-- `read_part`: `sole`, `ends`; `least_room` is no more than each tree has
pub mod Least
-- `read_part`: `allowed`, `sole`: how many races within each other a form may need
pub mod Levels
-- `read_whole`: `exact`: a text has no element around it
pub mod Naming
-- `read_part`: the option that need not be taken with the token that begins it
pub mod Colons
