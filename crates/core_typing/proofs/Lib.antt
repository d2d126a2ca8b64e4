-- The typings of the examples (for `a_map_of_a_map_is_typed`, `a_guard_holds_by_assumption`).
pub mod ExampleTypes
-- What the examples have at fault, and that nothing stands before it (for `same_names_clash` and others).
pub mod ExampleFaults
-- That a program tells the clash of its one term, whatever its type is (for `the_clash_of_a_program_is_told`).
pub mod ExampleClash
-- A match on an option which takes Some alone misses None, and nothing else is at fault before (for `none_is_missed`).
pub mod ExampleCover
-- That patterns of a field at a variable name cover (for `fields_at_names_are_covered`).
pub mod ExampleFields
-- That a generic link and action aren't carried, and a context is kinded (for `what_elements_break_is_told`).
pub mod ExampleElements
-- That a program tells its one declaration, a thing without a term (for `a_sequence_is_told`).
pub mod ExampleSequence
-- Lists without repeats, by a test (for OnePage, SiteRoutes).
pub mod Differing
-- The program of one page: that it is accepted, and its routes (for `one_page_is_accepted`).
pub mod OnePage
-- What comparison by normal forms says of equality (for many of the others).
pub mod Normal
-- What kinding finds, a constructor has (for FoundPrograms, Founded, Matched).
pub mod Judging
-- A pattern that is found at a type is typed at it (for DecidedForms, Founded).
pub mod Matched
-- What is left of a row: when it is one field, and never nothing (for OneType, SidesDiffer).
pub mod LeftOver
-- What is found of a term is one type, and of a pattern one list of types (law `one_type_is_found`).
pub mod OneType
-- Nodes that fill no field fill none together (laws `an_only_node_asks_no_guard`, `plain_nodes_fill_nothing`).
pub mod PlainNodes
-- What is told of a term excludes that it is found with cover (for DecidedElements and others).
pub mod Excluded
-- A term that is found with cover has no fault in it (law `what_is_found_tells_nothing`).
pub mod Silent
-- Shapes of normal forms, texts in elements and names of attributes are decided (for Decided and others).
pub mod Shapes
-- What comparisons, kinds, rows, heads of types and datatypes come to (for Decided and others).
pub mod DecidedForms
-- A pattern is found at a type, or it has a fault (for Decided, DecidedElements, DecidedParts).
pub mod DecidedPatterns
-- Lists of parts are found, or have a fault, or a part has one (for Decided, DecidedElements).
pub mod DecidedParts
-- An element is found, or it has a fault, or a part has one (for Decided).
pub mod DecidedElements
-- A term is found with cover, or a premise fails in it (law `what_is_not_found_has_a_fault`).
pub mod Decided
-- A program that is found is accepted, and tells no fault (law `what_is_found_is_accepted`).
pub mod FoundPrograms
-- The sides that a told mismatch keeps differ (law `told_sides_differ`).
pub mod SidesDiffer
-- The sides of a mismatch that a program tells differ (law `told_sides_of_programs_differ`).
pub mod ProgramSides
-- A term that is found to have a type has it (law `a_typing_by_normal_forms_is_a_typing`).
pub mod Founded
-- What is found with more asked of cover is found with less (law `a_found_type_asks_less`).
pub mod FoundLess
-- Kinds under a walk that puts constructors for variables (for Closed, ConsInTerms, KindsStay, ScopesMove, TypesMove).
pub mod Moving
-- Kinds under further binders and guards, and under substitution (law `kinds_stay_under_more_binders` and others).
pub mod KindsStay
-- A typing stays in a larger scope (laws `a_typing_stays_in_a_larger_scope`, `a_typing_asks_less`).
pub mod LargerScopes
-- An accepted program's routes have names by which calls are told apart (law `no_entry_begins_another` and one more).
pub mod SiteRoutes
-- What has a kind under some binders stays under a walk that begins further out (for ScopesMove, TypeKinds).
pub mod Closed
-- The types of the basis, of fold and of constructors have kind Type (law `the_basis_has_its_kinds`).
pub mod BasisKinds
-- Scopes of terms under a walk over constructors, and what of them stays (for ConsInTerms, TypeKinds, TypesMove).
pub mod ScopesMove
-- Typing under a walk over constructors (for ConsInTerms).
pub mod TypesMove
-- Typings under further constructor binders, and under substitution (law `typings_substitute` and others).
pub mod ConsInTerms
-- The type of a typed term has kind Type, where exchanged types have it (law `types_have_kind_type` and one more).
pub mod TypeKinds
-- The scopes of an accepted program are grounded (law `accepted_scopes_have_types`).
pub mod AcceptedScopes
-- A constructor keeps its kind under steps, and where eta redexes are removed (law `steps_keep_kinds` and others).
pub mod KindsKept
-- What lists contain (for AcceptedScopes, KindsStay, Moving).
pub mod Containing
-- A type has one shape, and a value one entry by each method (for OneSite).
pub mod OneShape
-- The entries and routes of an accepted program are one (law `one_site_of_an_accepted_program`).
pub mod OneSite
-- A declaration's scope has what is declared before it (law `declarations_see_what_is_before`).
pub mod SeenBefore
