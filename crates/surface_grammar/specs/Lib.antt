-- Which tokens stand for a word of the grammar.
pub mod Words
-- The grammar: one line for each rule, in the order of the forms.
pub mod Table
-- The rules of each form.
pub mod Forms
-- What a rule asks beside its parts.
pub mod Sides
-- The words that begin a tree of a form, as the rules give them.
pub mod Firsts
-- The front of a list of tokens.
pub mod Fronts
-- The trees of the grammar: what they spell, and which of them are of a form.
pub mod Trees
-- Which tokens begin a rule.
pub mod Leads
-- How a tree of the code lists a tree of the grammar.
pub mod Listings
-- Whole texts, and where one is refused.
pub mod Refusals
