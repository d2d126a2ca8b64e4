-- Links piece by piece (for `begin_data`, `entry_named`, `push_escaped` and others).
pub mod Escapes
-- The pieces of a link, once they are split and decoded (for Answering, Numbers, OneCall, OneRefusal, ReadBack).
pub mod Sent
-- Reading what was sent: at the shapes of values, pieces are read as just one value (for OneCall, OneRefusal).
pub mod ReadBack
-- A path is a link of the calls that it is read as, and these are one at most (law `routes_are_read` and one more).
pub mod OneCall
-- Bodies of forms: each is one form at most, and some worked by hand (law `forms_are_as_worked` and one more).
pub mod Bodies
-- From one moment of a reading to the next (for `begin`, `moved`, `read_value`, `handed_up`).
pub mod Onward
-- A target has one answer: it is read, or it is refused for one reason (law `one_reading_at_most`).
pub mod OneRefusal
-- Pieces that are numbers (for `number`).
pub mod Numbers
-- Paths and the pieces between slashes (for `pieces_between`, `path`).
pub mod Paths
-- What is listed, and names in front of pieces (for `behind_names`, `begin_data`, `case_named`).
pub mod Listed
-- Each piece of a target settles its question: it is of the shape or it isn't (law `one_reading_at_least`).
pub mod EachPiece
-- At the shapes of values, pieces are read or reading stops (law `one_reading_at_least`).
pub mod EachReading
-- Each target is a call or is refused (law `one_reading_at_least`).
pub mod EachTarget
-- Shapes with their arguments, one level at a time (for `begin`, `begin_record`, `begin_data` and others).
pub mod Closing
-- The values of arguments, one after another (for `read_arguments`).
pub mod Arguments
-- Stacks as lists whose first element is the last that was put (for `push`, `pop`).
pub mod Stacks
-- Values of one piece (for `read_number`, `read_words`, `no_argument` and others).
pub mod OnePiece
-- The moves of a reading, over what its parts stand for (for `begin`, `begin_record`, `begin_data` and others).
pub mod Moves
-- What follows from an answer that reads the target or tells a refusal of it (for `entry_named`, `astray` and others).
pub mod Answering
-- What is written, and what is still to be written (for `push_values`).
pub mod Written
