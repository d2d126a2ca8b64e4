-- A fault with no earlier one is told, or a fault in a part at its place is (for NothingFails).
pub mod ToldTerms
-- Of a program in which a premise fails a fault is told: one of the first (law `nothing_fails_untold`).
pub mod NothingFails
-- The declarations of a program in which no premise fails are found, and its entries differ (for Accepted).
pub mod AllFound
-- A formed program of which no fault is told is accepted (law `clear_is_accepted`).
pub mod Accepted
