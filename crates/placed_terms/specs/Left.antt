-- What of a call was written, and an element as a tree.
use Rattle.std.specs.Prelude.{Bool, true, false, not}
use Rattle.core_terms.specs.declared.exp.ConOrigin.TheVariants.{Inserted}
use Rattle.core_terms.specs.declared.exp.Element.{Element}
use Rattle.core_terms.specs.declared.exp.Form.TheFolds.{fold-Element}
use Rattle.core_terms.specs.declared.exp.Sigil.{Sigil}
use Rattle.core_terms.specs.declared.exp.Sigil.TheVariants.{Plain}
use Rattle.core_terms.specs.Strip.{was_added}
use Rattle.core_terms.specs.Trees.{Fo, It, Lo, Ats, Brs, El, Ex, Exs, Fds, Its, Los, Nms, Xs, no_items, a_term, a_con}
use Rattle.core_terms.specs.Trees.{a_guard}
use Rattle.core_terms.specs.View.{AttributeTree, BranchTree, FieldTree, LiteralTree, NamedTree, NodeTree, form_step}
use Rattle.core_terms.specs.View.{item_step, local_step, attribute_step, attributes_step, branch_step}
use Rattle.core_terms.specs.View.{branches_step, element_step, exp_step, exps_step, field_step, fields_step}
use Rattle.core_terms.specs.View.{items_step, literal_step, locals_step, named_step, named_list_step, node_step}
use Rattle.core_terms.specs.View.{nodes_step}

-- whether an item of a call was written
abbrev pub is_left : It → Bool
is_left (a_term x) = not (was_added x)
is_left (a_con p Inserted c) = false
is_left (a_con p _ c) = true
is_left (a_guard p added) = not added

abbrev pub is_empty : Its → Bool
is_empty no_items = true
is_empty _ = false

-- whether of a call, without what was inserted, only the head is left
abbrev pub is_alone : Sigil → Its → Bool
is_alone Plain is = is_empty is
is_alone _ is = false

abbrev pub element_tree : Element → El
element_tree = fold-Element Fo It Lo AttributeTree Ats BranchTree Brs El Ex Exs FieldTree Fds Its LiteralTree Los
    NamedTree Nms NodeTree Xs form_step item_step local_step attribute_step attributes_step branch_step
    branches_step element_step exp_step exps_step field_step fields_step items_step literal_step locals_step
    named_step named_list_step node_step nodes_step
