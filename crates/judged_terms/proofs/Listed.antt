-- What is found for the terms of each list, from what is found for its parts.
use Rattle.std.proofs.Common.{List, [], ◌∷◌}
use Rattle.core_terms.specs.Trees.{Its, no_items, with_term, with_con, with_guard, Nms, no_named, named, Fds, no_fields, field, Ats, no_attributes, attribute, Xs, no_nodes, a_node, Exs, no_exps, an_exp, El, tagged}
use Rattle.con_terms.specs.declared.place.Place.{Place}
use Rattle.core_typing.specs.Scopes.{Sc}
use Rattle.markup_rules.specs.Elements.{attributes_of, nodes_of, ElementJudged}
use Rattle.told_faults.specs.Computed.{Jd}
use Rattle.judged_terms.specs.Listed.{item_terms, field_terms, name_terms, attribute_parts, node_parts, exp_parts}
use Rattle.judged_terms.specs.Judge.{JudgesAll, ItemsJudge, FieldsJudge, NamesJudge, AttributesJudge, NodesJudge, TermsJudge, ElementJudges}

pub items_judged : (G : Sc) (is : Its) (js : List Jd) → JudgesAll G (item_terms is) js → ItemsJudge G is js
items_judged G no_items js h = h
items_judged G (with_term e is) [] h = h
items_judged G (with_term e is) (j ∷ js) (x, y) = (x, items_judged G is js y)
items_judged G (with_con q o c is) [] h = h
items_judged G (with_con q o c is) (j ∷ js) (x, y) = (x, items_judged G is js y)
items_judged G (with_guard q a is) [] h = h
items_judged G (with_guard q a is) (j ∷ js) (x, y) = (x, items_judged G is js y)

pub fields_judged : (G : Sc) (fs : Fds) (js : List Jd) → JudgesAll G (field_terms fs) js → FieldsJudge G fs js
fields_judged G no_fields js h = h
fields_judged G (field q n e fs) [] h = h
fields_judged G (field q n e fs) (j ∷ js) (x, y) = (x, fields_judged G fs js y)

pub names_judged : (G : Sc) (ns : Nms) (js : List Jd) → JudgesAll G (name_terms ns) js → NamesJudge G ns js
names_judged G no_named js h = h
names_judged G (named p x w t e ns) [] h = h
names_judged G (named p x w t e ns) (j ∷ js) (y, z) = (y, names_judged G ns js z)

pub attributes_judged : (G : Sc) (as' : Ats) (js : List Jd) → JudgesAll G (attribute_parts as') js → AttributesJudge G as' js
attributes_judged G no_attributes js h = h
attributes_judged G (attribute p n e as') [] h = h
attributes_judged G (attribute p n e as') (j ∷ js) (x, y) = (x, attributes_judged G as' js y)

pub nodes_judged : (G : Sc) (xs : Xs) (js : List Jd) → JudgesAll G (node_parts xs) js → NodesJudge G xs js
nodes_judged G no_nodes js h = h
nodes_judged G (a_node b e xs) [] h = h
nodes_judged G (a_node b e xs) (j ∷ js) (x, y) = (x, nodes_judged G xs js y)

pub terms_judged : (G : Sc) (es : Exs) (js : List Jd) → JudgesAll G (exp_parts es) js → TermsJudge G es js
terms_judged G no_exps js h = h
terms_judged G (an_exp e es) [] h = h
terms_judged G (an_exp e es) (j ∷ js) (x, y) = (x, terms_judged G es js y)

-- an element, from what is found for its attributes and its nodes
pub element_judged : (G : Sc) (p : Place) (m : El) (js ks : List Jd) (j : Jd) → AttributesJudge G (attributes_of m) js → NodesJudge G (nodes_of m) ks → ElementJudged G p m js ks j → ElementJudges G p m j
element_judged G p (tagged g n c u as' xs) js ks j x y h = (js, ks, (x, y, h))
