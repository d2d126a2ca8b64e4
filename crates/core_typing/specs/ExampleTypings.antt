-- Examples of typing and of what is at fault, worked out.
use Rattle.std.specs.Prelude.{ℕ, [], ◌∷◌, true, false, None}
use Rattle.con_terms.specs.Trees.{types, row_of, Cn, var, arrow, poly, guarded, record_of, app, lambda, cat, name}
use Rattle.core_terms.specs.declared.exp.Sigil.TheVariants.{Plain, AtAt}
use Rattle.xml_trees.specs.declared.source_name.TagName.TheVariants as word
use Rattle.xml_trees.specs.declared.source_name.AttrName.TheVariants as attr
use Rattle.core_terms.specs.Names.{option_name}
use Rattle.core_terms.specs.Types.{int_type, unit_type, no_types, transaction_of, page_type}
use Rattle.core_terms.specs.Trees.{Ex, top, bound, call, element, tagged, no_attributes, no_nodes, no_items, with_guard}
use Rattle.core_typing.specs.Scopes.{Sc, top_scope, under, under_con, under_guard}
use Rattle.core_typing.specs.Asks.{cover_asked}
use Rattle.core_typing.specs.Typed.{Typed}
use Rattle.core_terms.specs.Datatypes.{basis_datatypes}
use Rattle.core_typing.specs.Cover.{Covers, bare_shape}
use Rattle.core_typing.specs.Faults.{unbound, a_con_variable, mismatch, not_disjoint, inexhaustive, not_serialisable}
use Rattle.core_typing.specs.Own.{NotLinked, Own}
use Rattle.core_typing.specs.Tells.{Tells}
use Rattle.core_typing.specs.ExampleTerms.{byte, said, in_body_row, a_name, r_name, s_name, basis_scope, clashing, without_none, option_int, none_at_name, some_at_name, option_at_name, map_of_map, maps_twice, maps_once, too_many_fields}

-- under r :: {Type}, s :: {Type} and [r ~ s], with one variable of this type
abbrev pub with_two_rows : Cn → Sc
with_two_rows t = under (t ∷ []) (under_guard (var 1) (var 0) (under_con s_name (row_of types)
    (under_con r_name (row_of types) basis_scope)))

-- A call whose guard holds by an assumption: f ! is an int, where f : [r ~ s] => int and r ~ s is assumed.
abbrev pub GuardHoldsByAssumption : Type 0
GuardHoldsByAssumption = Typed cover_asked (with_two_rows (guarded (var 1) (var 0) int_type)) (said (call
    (said (bound 0)) Plain (with_guard (byte 0) true no_items))) int_type

-- A map of a map is one map: fun f [r :: {Type}] (x : $(map (fn t => option t) (map (fn t => list t) r))) : $(map
-- (fn t => option (list t)) r) = x.
abbrev pub MapOfMapIsTyped : Type 0
MapOfMapIsTyped = Typed cover_asked basis_scope map_of_map (poly false (row_of types) (arrow (maps_twice (var 0))
    (maps_once (var 0))))

-- A record with more fields than its written type: told is mismatch wanted $ r found $ ( r ++ s ), at the body, with
-- the names of both rows, the inner one's first.
abbrev pub MoreFieldsMismatch : Type 0
MoreFieldsMismatch = Tells (with_two_rows (record_of (cat (var 1) (var 0)))) too_many_fields (mismatch (byte 65)
    (s_name ∷ r_name ∷ []) (record_of (var 1)) (record_of (cat (var 1) (var 0))))

-- Two records with one name: told is not disjoint #A #A, at the first byte of the term.
abbrev pub SameNamesClash : Type 0
SameNamesClash = Tells basis_scope clashing (not_disjoint (byte 8) [] (name a_name) (name a_name))

-- A match on an option that takes Some alone: told is that None is missed, at the match.
abbrev pub NoneIsMissed : Type 0
NoneIsMissed = Tells (under (option_int ∷ []) basis_scope) without_none (inexhaustive (byte 31) [] (bare_shape
    option_name 0))

-- A record's field counts by its name, also where that is a variable: None and Some at it take every record.
abbrev pub FieldsAtNamesAreCovered : Type 0
FieldsAtNamesAreCovered = Covers basis_datatypes (none_at_name ∷ some_at_name ∷ []) option_at_name

-- f : t ::: Type -> transaction page, and h : t ::: Type -> {} -> transaction page
abbrev pub generic_page : Cn
generic_page = poly true types (transaction_of page_type)

abbrev pub generic_action : Cn
generic_action = poly true types (arrow unit_type (transaction_of page_type))

abbrev pub generic_scope : Sc
generic_scope = top_scope (generic_page ∷ generic_action ∷ []) basis_datatypes [] 0

-- @@f, where this is the number of f
abbrev pub not_filled : ℕ → Ex
not_filled i = said (call (said (top i)) AtAt no_items)

-- <a link={@@f}>: f has a constructor parameter, so that the link is told not to be serialisable, at its name.
abbrev pub GenericLinkIsNotCarried : Type 0
GenericLinkIsNotCarried = NotLinked generic_scope (byte 0) attr.Link (transaction_of page_type) (not_filled 0)
    (not_serialisable (byte 0))

-- <submit action={@@h}/>: so has h, and so is the action.
abbrev pub GenericActionIsNotCarried : Type 0
GenericActionIsNotCarried = NotLinked generic_scope (byte 0) attr.Action (arrow unit_type (transaction_of
    page_type)) (not_filled 1) (not_serialisable (byte 0))

-- <br/> where the row of its place is (fn x :: Type => [Body]) c, and c isn't bound: told is that variable, at the
-- element, though the row's normal form is that of a place in which the tag stands.
abbrev pub ContextIsKinded : Type 0
ContextIsKinded = Own basis_scope (said (element (tagged word.Br None (app (lambda types in_body_row) (var 99))
    no_types no_attributes no_nodes))) (unbound (byte 0) (a_con_variable 99))
