-- What is in scope where a term stands.
pub mod Scopes
-- What a type in normal form tells of its values.
pub mod Seen
-- Which shapes a type's values have, and whether patterns take them all.
pub mod Cover
-- What a typing may ask beyond the rules of the manual.
pub mod Asks
-- Which patterns have which types, and the types of what they bind, the innermost first.
pub mod Patterns
-- Which types' values a link, a form or a cookie can carry. Types are looked at by their normal forms.
pub mod Carried
-- Which terms have which types: one rule for each form of term.
pub mod Typed
-- Declarations: the values that they make, and when they are typed.
pub mod Declarations
-- The links and the actions of terms, each by the number of the value that it calls.
pub mod Targets
-- The entries of a program: which values a request can call, with the shapes of their arguments.
pub mod Entries
-- Which programs are accepted.
pub mod Accepts
-- The faults of a program: where each stands, and what it keeps.
pub mod Faults
-- What kinding finds for a constructor that a term has written, and how its flaw is told.
pub mod Judged
-- How two constructors, two rows, and a row and its fields compare by normal forms.
pub mod Compared
-- Patterns matched against a type: what they bind, or what is at fault in them.
pub mod PatternFaults
-- The type that a term's parts give it: the rules of typing, with comparison by normal forms.
pub mod Found
-- What is at fault in a node itself, where one premise of its rule fails.
pub mod Own
-- Which fault a program tells: of all premises that fail, the first in text order.
pub mod Tells
-- Laws of told faults.
pub mod FaultLaws
-- Which programs are found: with comparison by normal forms, computed kinding, and cover.
pub mod FoundProgram
-- Terms for the examples, as the elaborator would make them of their sources.
pub mod ExampleTerms
-- Examples of typing and of what is at fault, worked out.
pub mod ExampleTypings
-- Laws of typing: by the manual's rules alone, with cover, with kinds of exchanged types.
pub mod TypingLaws
-- Whole programs, worked out: one value, main, that returns one page; and one with a fault.
pub mod ExampleProgram
-- Laws of kinds: under further binders and guards, and with a constructor put for a binder.
pub mod KindLaws
-- What the routes of accepted programs are.
pub mod SiteLaws
-- Shifting and substitution of the constructors that stand in terms and patterns.
pub mod ConSubstitution
-- What the scopes of an accepted program have: a kind at the top, with nothing bound or assumed.
pub mod Grounded
-- Laws of constructors in typings: under further binders, and with one put for a binder.
pub mod ConLaws
-- What declarations see.
pub mod ScopeLaws
