-- Fields in the order of their names: one more in its place, and all of them (for `with_field`, `named`, `with_unnamed`).
pub mod Placed
-- The first name that is free, number by number; and texts without a byte (for `new_name`, `by_text`).
pub mod Free
-- The order of fields is that of what is printed of them (for `put_fields`).
pub mod Orders
-- What is put behind a text is the words that are shown (for `put_con`, `put_kind`).
pub mod Meaning
