-- For `place_of`: where a line begins, a character begins.
mod Lines
