-- Choices and truths of two, and what a map over a choice gives (for Rooted, Runs and many of the others).
pub mod Options
-- Constructors and fields that stand before others (for Sequenced, `reduce_each`, `reduce_fields`).
pub mod Lists
-- What a step leaves is equal to what it steps from (for NormalEqual, Reduced and others).
pub mod StepEqual
-- A constructor without its eta redexes is equal to it (for Finishing).
pub mod EtaEqual
-- A constructor with its rows in order is equal to it, and a row to its pieces joined (for Finishing, `pieces`).
pub mod OrderEqual
-- Trees that compare as one are one (for `same_con`, `same`, NormalStays, SettledForms).
pub mod SameTrees
-- Steps one after another, and the steps of a part inside a whole (for Onward, Steady, Units and others).
pub mod Runs
-- Constructors whose root stays have no step there, and a step of a part keeps that so (for Contexts, Parted, Steady).
pub mod Rooted
-- Head reduction inside a function, a tuple, a map's function and a map's row (for Leaving, MapTurns, Parted).
pub mod Contexts
-- One turn of head reduction: a step at the root, one that is too much, an end (for Leaving, `apply`, `component`).
pub mod Steady
-- Reduction of a constructor whose root stays is that of its parts, from left to right (for Leaving, Units).
pub mod Parted
-- How many units a run takes doesn't depend on how many there are (for Turned).
pub mod Units
-- A stable sort is the sort that puts pieces in order, one after another (for Placed, Swapped, `in_order`).
pub mod Arranged
-- Loops that take each element to another, there or in another list (for `ordered_each`, `applied` and others).
pub mod Moves
-- Lists of constructors and fields, each taken to another (for `contracted_each`, `ordered_fields` and others).
pub mod Each
-- Literals of one field whose name is a literal, and what goes on with them (for `literal_name`, `literal_and_row`).
pub mod Literals
-- Pieces joined from the last on (for `concatenated`).
pub mod Joins
-- The numbers of a tree tell the tree, so that pieces of one key are one (for Swapped).
pub mod Codes
-- The numbers of a list's trees, one after another (for `kinds_code`, `cons_code`, `pairs_code`).
pub mod Coded
-- The order in which pieces are written doesn't matter (law `order_of_writing`).
pub mod Swapped
-- Pieces sorted by their keys are their trees in order (for `in_order`).
pub mod Placed
-- What is in order stays as it is (law `order_stays`).
pub mod Stable
-- Removing eta redexes leaves fewer functions, and ordering leaves as many (for Finishing).
pub mod Lambdas
-- Finishing ends with no eta redex and with rows in order, and what is finished stays (for `finish`, NormalStays).
pub mod Finishing
-- A normal form is equal to what it comes from (law `normal_forms_are_equal`; for `normal`).
pub mod NormalEqual
-- The walk that looks for a step tells whether there is one (for Onward, NormalStays, `has_component`).
pub mod StepTold
-- The normal form, round by round: steps, finishing, and a further round while there is a step (for `rounds`).
pub mod Onward
-- How deep binders nest in one of a list, where it is known of the list (for `any_has_eta`, `pairs_have_eta`).
pub mod Nests
-- A normal form is its own normal form, at no units (law `normal_forms_stay`; for `normal`, `con`).
pub mod NormalStays
-- Why there is no normal form within some units (law `refusals_have_a_cause`).
pub mod Refused
-- The normal form of a row whose sides are turned (law `rows_may_turn`).
pub mod Turned
-- What a call of reduction leaves, from what the calls inside it leave (for `reduce`, `head`, `take_turn` and others).
pub mod Leaving
-- What a turn at a map with its row leaves (for `map_turn`, `row_turn`).
pub mod MapTurns
-- What reduction of parts leaves, from what reduction of each leaves (for `parts`, `reduce_each` and others).
pub mod Sequenced
-- The pieces of a row in order, as they are written, are its pieces in order (for NormalPieces, `pieces`).
pub mod PiecesWritten
-- What steps leave at last is equal to what they begin with (for `reduce`, `reduce_head`).
pub mod Reduced
-- Whether finishing leaves something too deep, each time that eta and order are done again (for `finish`, Onward).
pub mod Deeper
-- Removing eta redexes makes nothing deeper (for Turned).
pub mod Depths
-- The pieces of rows in normal form are in order (laws `pieces_are_in_order`, `fields_are_in_order`).
pub mod NormalPieces
-- The tree of each form of constructor (for `parts`, `take_turn`, `after`, `over_map`).
pub mod Forms
-- What the step of a map over its row leaves, form by form (for `over`, `over_map`, `map_over`).
pub mod Overs
-- Rows whose names are literals with rising numbers are in order (for `literal_in_order`, SettledForms).
pub mod Rising
-- A settled constructor that isn't too deep is a normal form, and has room (for `settled_copy`).
pub mod SettledForms
