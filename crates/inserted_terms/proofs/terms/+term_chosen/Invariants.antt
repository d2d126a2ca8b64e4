use Rattle.std.proofs.Common.{◌≡◌, map, drop}
use Rattle.core_terms.specs.Lists.{attribute_tree, branch_tree, field_tree, item_tree, local_tree, node_tree}
use Rattle.core_terms.specs.View.{attributes_tree, attributes_from, branches_tree, branches_from, exp_tree, exps_tree, exps_from, fields_tree, fields_from, items_tree, items_from, locals_tree, locals_from, named_list_tree, named_from, named_tree, nodes_tree, nodes_from}
use Rattle.core_terms.specs.declared.exp.Form.TheViews.{out-Attributes, out-Branches, out-Exps, out-Fields, out-Items, out-Locals, out-NamedList, out-Nodes}
use Rattle.inserted_terms.specs.Chosen.{AllChosen, AttributesChosen, BranchesChosen, FieldsChosen, ItemsChosen, LocalsChosen, NamesChosen, NodesChosen}
use Rattle.inserted_terms.specs.Inside.{inside_locals}
use Rattle.inserted_terms.specs.View.{at_view}
use Rattle.inserted_terms.proofs.terms.+term_chosen.Given as goal

abbrev pub invariant-items_chosen-loop-i : goal.invariant-items_chosen-loop-i
invariant-items_chosen-loop-i l =
    ItemsChosen (at_view l.h) (items_from (map item_tree (drop l.i (out-Items l.is).items.items))) → ItemsChosen (at_view l.h) (items_tree l.is)

abbrev pub invariant-names_chosen-loop-i : goal.invariant-names_chosen-loop-i
invariant-names_chosen-loop-i l =
    NamesChosen (at_view l.h) (named_from (map named_tree (drop l.i (out-NamedList l.ns).items.items))) → NamesChosen (at_view l.h) (named_list_tree l.ns)

abbrev pub invariant-behind_locals-loop-i : goal.invariant-behind_locals-loop-i
invariant-behind_locals-loop-i l = record {
  chosen : LocalsChosen (at_view l.here) (locals_from (map local_tree (drop l.i (out-Locals l.ls).items.items)))
      → LocalsChosen (at_view l.h) (locals_tree l.ls);
  scope : inside_locals (locals_tree l.ls) (at_view l.h)
      ≡ inside_locals (locals_from (map local_tree (drop l.i (out-Locals l.ls).items.items))) (at_view l.here);
}

abbrev pub invariant-branches_chosen-loop-i : goal.invariant-branches_chosen-loop-i
invariant-branches_chosen-loop-i l =
    BranchesChosen (at_view l.h) (branches_from (map branch_tree (drop l.i (out-Branches l.bs).items.items))) → BranchesChosen (at_view l.h) (branches_tree l.bs)

abbrev pub invariant-fields_chosen-loop-i : goal.invariant-fields_chosen-loop-i
invariant-fields_chosen-loop-i l =
    FieldsChosen (at_view l.h) (fields_from (map field_tree (drop l.i (out-Fields l.fs).items.items))) → FieldsChosen (at_view l.h) (fields_tree l.fs)

abbrev pub invariant-attributes_chosen-loop-i : goal.invariant-attributes_chosen-loop-i
invariant-attributes_chosen-loop-i l =
    AttributesChosen (at_view l.h) (attributes_from (map attribute_tree (drop l.i (out-Attributes l.items).items.items))) → AttributesChosen (at_view l.h) (attributes_tree l.items)

abbrev pub invariant-nodes_chosen-loop-i : goal.invariant-nodes_chosen-loop-i
invariant-nodes_chosen-loop-i l =
    NodesChosen (at_view l.h) (nodes_from (map node_tree (drop l.i (out-Nodes l.xs).items.items))) → NodesChosen (at_view l.h) (nodes_tree l.xs)

abbrev pub invariant-all_chosen-loop-i : goal.invariant-all_chosen-loop-i
invariant-all_chosen-loop-i l =
    AllChosen (at_view l.h) (exps_from (map exp_tree (drop l.i (out-Exps l.es).items.items))) → AllChosen (at_view l.h) (exps_tree l.es)
