use Rattle.std.proofs.Common.{map, drop}
use Rattle.core_terms.specs.Leaves.{AttributesFit, BranchesFit, FieldsFit, ItemsFit, LocalsFit, NamedFit, NodesFit, TermsFit}
use Rattle.core_terms.specs.Lists.{attribute_tree, branch_tree, field_tree, item_tree, local_tree, node_tree}
use Rattle.core_terms.specs.View.{attributes_tree, attributes_from, branches_tree, branches_from, exp_tree, exps_tree, exps_from, fields_tree, fields_from, items_tree, items_from, locals_tree, locals_from, named_list_tree, named_from, named_tree, nodes_tree, nodes_from}
use Rattle.core_terms.specs.declared.exp.Form.TheViews.{out-Attributes, out-Branches, out-Exps, out-Fields, out-Items, out-Locals, out-NamedList, out-Nodes}
use Rattle.program_forms.proofs.terms.+term_fits.Given as goal

abbrev pub invariant-items_fit-loop-i : goal.invariant-items_fit-loop-i
invariant-items_fit-loop-i l =
    ItemsFit l.count (items_from (map item_tree (drop l.i (out-Items l.is).items.items))) → ItemsFit l.count (items_tree l.is)

abbrev pub invariant-named_fit-loop-i : goal.invariant-named_fit-loop-i
invariant-named_fit-loop-i l =
    NamedFit l.count (named_from (map named_tree (drop l.i (out-NamedList l.ns).items.items))) → NamedFit l.count (named_list_tree l.ns)

abbrev pub invariant-locals_fit-loop-i : goal.invariant-locals_fit-loop-i
invariant-locals_fit-loop-i l =
    LocalsFit l.count (locals_from (map local_tree (drop l.i (out-Locals l.ls).items.items))) → LocalsFit l.count (locals_tree l.ls)

abbrev pub invariant-branches_fit-loop-i : goal.invariant-branches_fit-loop-i
invariant-branches_fit-loop-i l =
    BranchesFit l.count (branches_from (map branch_tree (drop l.i (out-Branches l.bs).items.items))) → BranchesFit l.count (branches_tree l.bs)

abbrev pub invariant-fields_fit-loop-i : goal.invariant-fields_fit-loop-i
invariant-fields_fit-loop-i l =
    FieldsFit l.count (fields_from (map field_tree (drop l.i (out-Fields l.fs).items.items))) → FieldsFit l.count (fields_tree l.fs)

abbrev pub invariant-attributes_fit-loop-i : goal.invariant-attributes_fit-loop-i
invariant-attributes_fit-loop-i l =
    AttributesFit l.count (attributes_from (map attribute_tree (drop l.i (out-Attributes l.items).items.items))) → AttributesFit l.count (attributes_tree l.items)

abbrev pub invariant-nodes_fit-loop-i : goal.invariant-nodes_fit-loop-i
invariant-nodes_fit-loop-i l =
    NodesFit l.count (nodes_from (map node_tree (drop l.i (out-Nodes l.xs).items.items))) → NodesFit l.count (nodes_tree l.xs)

abbrev pub invariant-terms_fit-loop-i : goal.invariant-terms_fit-loop-i
invariant-terms_fit-loop-i l =
    TermsFit l.count (exps_from (map exp_tree (drop l.i (out-Exps l.es).items.items))) → TermsFit l.count (exps_tree l.es)
