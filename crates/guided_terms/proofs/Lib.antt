-- The terms of the examples, with their types, rule by rule (for the other examples).
pub mod ExampleCalls
-- A row that is matched, rule by rule (for `what_is_left_of_a_row_keeps_its_order`).
pub mod ExampleRows
-- The folder that a call inserts, rule by rule (for `a_folder_lists_fields_in_the_written_order`).
pub mod ExampleFolders
