-- The plain data that the values of this crate are.
use Rattle.std.specs.Prelude.{ℕ, List, map, Option, Some, None}
use Rattle.core_terms.specs.Trees.{Ex, Fo, Its, Nms, Los, Brs, Fds, El, Ats, Xs, Exs, It, Lo}
use Rattle.core_terms.specs.View.{AttributeTree, BranchTree, FieldTree, NamedTree, NodeTree, LiteralTree, form_step, item_step, local_step, attribute_step, attributes_step, branch_step, branches_step, element_step, exp_step, exps_step, field_step, fields_step, items_step, literal_step, locals_step, named_step, named_list_step, node_step, nodes_step, maybe_con}
use Rattle.core_terms.specs.declared.exp.Element.{Element}
use Rattle.core_terms.specs.declared.exp.Literal.{Literal}
use Rattle.core_terms.specs.declared.exp.Form.TheFolds.{fold-Element, fold-Literal}
use Rattle.told_faults.specs.Computed.{Jd}
use Rattle.type_faults.specs.View.{maybe_fault}
use Rattle.judgements.specs.View.{judged_tree}
use Rattle.markup_rules.specs.Nodes.{On, Fw, Nd}
use Rattle.markup_rules.specs.Links.{Lk, nothing_broken, no_call, no_travel, Lx, lacks_call, as_called, not_known}
use Rattle.markup_rules.specs.Attributes.{At}
use Rattle.markup_rules.specs.Standing.{Ar, within_form, no_form, elsewhere, Po}
use Rattle.markup_rules.specs.Content.{Wd}
use Rattle.markup_rules.specs.declared.judged.Judgements.{Judgements}
use Rattle.markup_rules.specs.declared.nodes.NodesFound.{NodesFound}
use Rattle.markup_rules.specs.declared.nodes.OneNode.{OneNode}
use Rattle.markup_rules.specs.declared.nodes.Forward.{Forward}
use Rattle.markup_rules.specs.declared.attributes.AttributesFound.{AttributesFound}
use Rattle.markup_rules.specs.declared.content.Words.{Words}
use Rattle.markup_rules.specs.declared.links.LinkFault.{LinkFault}
use Rattle.markup_rules.specs.declared.links.LinkFault.TheVariants as broken
use Rattle.markup_rules.specs.declared.links.TopCall.{TopCall}
use Rattle.markup_rules.specs.declared.links.Lack.{Lack}
use Rattle.markup_rules.specs.declared.links.Lack.TheVariants as lack
use Rattle.markup_rules.specs.declared.standing.Around.{Around}
use Rattle.markup_rules.specs.declared.standing.Around.TheVariants as around
use Rattle.markup_rules.specs.declared.standing.Position.{Position}

-- elements and literals
abbrev pub element_tree : Element → El
element_tree = fold-Element Fo It Lo AttributeTree Ats BranchTree Brs El Ex Exs FieldTree Fds Its LiteralTree Los
    NamedTree Nms NodeTree Xs form_step item_step local_step attribute_step attributes_step branch_step
    branches_step element_step exp_step exps_step field_step fields_step items_step literal_step locals_step
    named_step named_list_step node_step nodes_step

abbrev pub literal_tree : Literal → LiteralTree
literal_tree = fold-Literal Fo It Lo AttributeTree Ats BranchTree Brs El Ex Exs FieldTree Fds Its LiteralTree Los
    NamedTree Nms NodeTree Xs form_step item_step local_step attribute_step attributes_step branch_step
    branches_step element_step exp_step exps_step field_step fields_step items_step literal_step locals_step
    named_step named_list_step node_step nodes_step

-- what is found for some terms
abbrev pub judgements_view : Judgements → List Jd
judgements_view js = map judged_tree js.items.items

-- nodes
abbrev pub nodes_found_tree : NodesFound → Nd
nodes_found_tree n = record { own = maybe_fault n.own; row = maybe_con n.row }

abbrev pub one_tree : OneNode → On
one_tree o = record { found = o.found; goes_on = o.goes_on; told = maybe_fault o.told }

abbrev pub forward_tree : Forward → Fw
forward_tree r = record { found = r.found.items; told = maybe_fault r.told }

-- attributes
abbrev pub attributes_found_tree : AttributesFound → At
attributes_found_tree r = record { found = r.found; own = maybe_fault r.own }

-- links
abbrev pub link_view : LinkFault → Lk
link_view broken.Nothing = nothing_broken
link_view broken.NotCall = no_call
link_view broken.NotSerialisable = no_travel

abbrev pub lack_view : Lack → Lx
lack_view lack.NotCall = lacks_call
lack_view lack.AsCalled = as_called
lack_view lack.Unknown = not_known

abbrev pub call_view : Option TopCall → Option (ℕ × ℕ)
call_view None = None
call_view (Some c) = Some (c.top, c.arguments)

-- where an element stands
abbrev pub around_view : Around → Ar
around_view around.Form = within_form
around_view around.NoForm = no_form
around_view around.Elsewhere = elsewhere

abbrev pub position_tree : Position → Po
position_tree r = record { around = around_view r.around; told = maybe_fault r.told }

-- titles
abbrev pub words_tree : Words → Wd
words_tree r = record { are_all = r.are_all; told = maybe_fault r.told }
