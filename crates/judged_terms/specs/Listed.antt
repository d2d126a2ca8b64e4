-- What is found for a list from what is found for the terms in it, as it is computed, one after another.
use Rattle.std.specs.Prelude.{ℕ, zero, suc, List, [], ◌∷◌, map, Option, Some, None}
use Rattle.con_terms.specs.declared.place.Place.{Place}
use Rattle.core_terms.specs.Trees.{Ex, Its, Nms, Fds, Ats, Xs, Exs, It, a_term, a_con, a_guard}
use Rattle.core_terms.specs.Lists.{item_list, field_list, name_list, attribute_list, node_list, exp_list}
use Rattle.core_terms.specs.View.{FieldTree, NamedTree, AttributeTree, NodeTree}
use Rattle.core_typing.specs.Scopes.{Sc}
use Rattle.core_typing.specs.Faults.{not_built}
use Rattle.core_typing.specs.Own.{place_of, type_place}
use Rattle.told_faults.specs.Computed.{Jd, first}
use Rattle.node_rules.specs.Calls.{Pa, starts, with_term_item, with_con_item, with_guard_item, of_call}
use Rattle.node_rules.specs.Locals.{Ls, with_declared}
use Rattle.node_rules.specs.Records.{Rw, no_fields_yet, with_field, of_fields}
use Rattle.markup_rules.specs.Nodes.{told_of}

-- the terms of a list, in its order; none where something else stands
abbrev pub item_part : It → Option Ex
item_part (a_term e) = Some e
item_part (a_con q o c) = None
item_part (a_guard q a) = None

abbrev pub item_terms : Its → List (Option Ex)
item_terms is = map item_part (item_list is)

abbrev pub field_terms : Fds → List (Option Ex)
field_terms fs = map (λ (f : FieldTree). Some f.2) (field_list fs)

abbrev pub name_terms : Nms → List (Option Ex)
name_terms ns = map (λ (n : NamedTree). Some n.4) (name_list ns)

abbrev pub attribute_parts : Ats → List (Option Ex)
attribute_parts as' = map (λ (a : AttributeTree). Some a.2) (attribute_list as')

abbrev pub node_parts : Xs → List (Option Ex)
node_parts xs = map (λ (x : NodeTree). Some x.1) (node_list xs)

abbrev pub exp_parts : Exs → List (Option Ex)
exp_parts es = map (λ (e : Ex). Some e) (exp_list es)

-- the term at a place of a list, counted from 0
abbrev pub part_at : List (Option Ex) → ℕ → Option Ex
part_at [] i = None
part_at (o ∷ os) zero = o
part_at (o ∷ os) (suc i) = part_at os i

-- one more item of a call whose function stands at a place
abbrev pub item_found : Sc → Place → It → Jd → Pa → Pa
item_found G p (a_term e) j r = with_term_item G p (place_of e) j r
item_found G p (a_con q o c) j r = with_con_item G p q o c r
item_found G p (a_guard q a) j r = with_guard_item G p q r

abbrev pub items_found : Sc → Place → List Jd → List It → Pa → Pa
items_found G p [] is r = r
items_found G p (j ∷ js) [] r = r
items_found G p (j ∷ js) (i ∷ is) r = items_found G p js is (item_found G p i j r)

-- f e [c] !
abbrev pub of_items : Sc → Place → Its → Jd → List Jd → Jd
of_items G p is h js = of_call (items_found G p js (item_list is) (starts h))

-- one more field of a record
abbrev pub field_found : Sc → FieldTree → Jd → Rw → Rw
field_found G f j r = with_field G f.0 f.1 j r

abbrev pub fields_found : Sc → List Jd → List FieldTree → Rw → Rw
fields_found G [] fs r = r
fields_found G (j ∷ js) [] r = r
fields_found G (j ∷ js) (f ∷ fs) r = fields_found G js fs (field_found G f j r)

-- {n = e, ..}
abbrev pub of_record : Sc → Place → Fds → List Jd → Jd
of_record G p fs js = of_fields G p (fields_found G js (field_list fs) no_fields_yet)

-- one more name with its type
abbrev pub name_found : Sc → NamedTree → Jd → Ls → Ls
name_found G n j r = with_declared G (type_place n.2 n.0 n.4) (place_of n.4) n.3 j r

abbrev pub names_found : Sc → List Jd → List NamedTree → Ls → Ls
names_found G [] ns r = r
names_found G (j ∷ js) [] r = r
names_found G (j ∷ js) (n ∷ ns) r = names_found G js ns (name_found G n j r)

-- names that are declared together
abbrev pub named_found : Sc → Nms → List Jd → Ls → Ls
named_found G ns js r = names_found G js (name_list ns) r

-- a form of SQL, for which there is no rule yet
abbrev pub of_sql : Place → List Jd → Jd
of_sql p js = record { type = None; told = first (told_of js) (Some (not_built p)) }
