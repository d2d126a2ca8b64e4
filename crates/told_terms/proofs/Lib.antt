-- Lists of terms, each with its verdict: what the lemma of each form has of its parts (for many of the others).
pub mod Wanted
-- The verdict of a whole, from its parts' faults, its own faults and its type (for many of the others).
pub mod Verdicts
-- Sets of faults and of nodes beside one another, and the first of several (for many of the others).
pub mod Beside
-- A test that holds exactly where something does (for Nodes, Words).
pub mod Says
-- What is told of two rows that aren't apart, and of a type where a record is wanted (for Concat and others).
pub mod Meets
-- What tests and values say: a test fails where what it tests doesn't hold (for many of the others).
pub mod Tests
-- What is told of names, literals and constructors (for Main).
pub mod Names
-- What is told of functions of constructors and of guards, and of SQL (for Main).
pub mod Functions
-- What one item of a call does: it leads from a type to another, or the call ends there (for Calls and others).
pub mod ItemsLead
-- A term among the items of a call: f e (for Calls).
pub mod TermItems
-- A constructor among the items of a call: f [c] (for Calls).
pub mod ConItems
-- A guard's proof among the items of a call: f ! (for Calls).
pub mod GuardItems
-- Calls: the verdict of the call from those of the function and of the terms in the items (for Main).
pub mod Calls
-- What a state says of declarations: found or not, what their terms and they themselves tell (for Lets, Values).
pub mod Declared
-- Values that are declared, alone or together, from the verdicts of their terms (for Lets).
pub mod Values
-- Lets: the verdict of the whole from those of the declared terms and of the body (for Main).
pub mod Lets
-- What is told of a term with its type: (e : t) (for Main).
pub mod Ascribed
-- What is told of two records side by side: e ++ d (for Main).
pub mod Concat
-- What is told of the folder of a row (for Main).
pub mod Folders
-- What an operation on a record wants of its parts, and what is told where it gives nothing (for Operations).
pub mod OnRecords
-- What is told of the operations on one record: e.c, e -- c, e --- c (for Main).
pub mod Operations
-- What is told of records, field by field: {n = e, ..} (for Main).
pub mod Records
-- A pattern with a fault isn't found, and patterns with something uncovered don't cover (for Branches and others).
pub mod PatternsOut
-- What is told of the constructor that a pattern names (for Patterns).
pub mod Constructors
-- What is told of a pattern is one of the first of its faults (for Openings, Parameters).
pub mod Patterns
-- What is told of what stands under a pattern, and what cover tells (for Branches, Cases, Parameters).
pub mod Openings
-- The branches of a case, one behind another: what the state says of the branches so far (for Cases).
pub mod Branches
-- case e of ..: what is matched, its branches, and what cover tells of their patterns (for Main).
pub mod Cases
-- fn p => e: the kind of the type, the pattern, its cover, and the body (for Main).
pub mod Parameters
-- What nodes beside one another tell, and the fields that they fill (for ElementContent, Elements, Literals).
pub mod Nodes
-- Texts: whether all nodes are, and what the first that isn't tells (for ElementContent, ElementFaults).
pub mod Words
-- What is told where nothing may stand (for ElementContent, ElementFaults).
pub mod Content
-- Literals: <xml>..</xml> (for ElementFaults, ElementTypes, Main).
pub mod Literals
-- A type with a normal form is never nested deeper than there is room for (for LinksDecided, Travelling).
pub mod Room
-- What links and actions carry is told to be carried, and what is left behind arguments too (for Links).
pub mod Travelling
-- Links and actions: calls of top-level functions, and what they break (for Attributes, LinksDecided).
pub mod Links
-- The attributes of an element: what each breaks, and a second one of a name (for ElementFaults and others).
pub mod Attributes
-- What an element holds: what is told of it, and the fields that it fills, by its sort (for ElementFaults and others).
pub mod ElementContent
-- Where an element stands, its rows, its name and its action, by its sort (for ElementFaults, ElementTypes).
pub mod Standing
-- What an element breaks, part by part (for ElementTypes, Elements).
pub mod ElementFaults
-- The type of an element: what the rule for its sort asks, part by part (for Elements).
pub mod ElementTypes
-- What is told of an element, from what is told of its attributes and of its nodes (for Main).
pub mod Elements
-- Shapes whose texts are among those of some patterns, and one text more for all others (for CoverDecided).
pub mod Texts
-- Of all shapes of a type one is missed, or each is taken (law `cover_is_decided`).
pub mod CoverDecided
-- Whether links are calls with arguments that travel is decided, by marks on datatypes (law `links_are_decided`).
pub mod LinksDecided
-- A term is found with cover, or it has a fault (law `each_term_is_found_or_fails`).
pub mod Decided
-- What is judged of a term is what is told of it, form by form (law `judged_is_told`).
pub mod Main
