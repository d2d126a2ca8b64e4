-- The empty scope, a scope with more basic names, and a guard as it is seen from under more binders.
pub mod Scopes
-- What can be wrong with a constructor.
pub mod Flaws
-- How two rows are compared: by the pieces of their normal forms.
pub mod Compared
-- How two constructors compare: by their normal forms, within the units of one comparison.
pub mod Comparison
-- The rules of kinding, one for each form of constructor, from what is found for its parts.
pub mod Rules
-- What kinding finds for a constructor: its kind, or the first flaw.
pub mod Kinding
-- The plain data that the values of this crate are.
pub mod View
-- What the refusals of `kind_of` tell.
pub mod Faults
-- What a refusal for touching pieces or size rests on: the part that asks for the comparison, and the binders around
-- it.
pub mod Causes
-- Laws of kinds.
pub mod Laws
