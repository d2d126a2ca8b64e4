-- What the values of this crate are.
use Rattle.std.specs.Prelude.{ℕ, List, Option, Some, None, map}
use Rattle.con_terms.specs.Trees.{Cn}
use Rattle.con_terms.specs.View.{con_tree}
use Rattle.table_rows.specs.Shapes.{Sh, Cases}
use Rattle.table_rows.specs.View.{shape_tree, maybe_shape, arguments_tree, case_view, shape_step, arguments_step, part_step, parts_step}
use Rattle.table_rows.specs.Shapes.{Shs, Pts}
use Rattle.table_rows.specs.declared.shape.Shape.{Shape}
use Rattle.table_rows.specs.declared.shape.Part.{Part}
use Rattle.table_rows.specs.declared.shape.Case.{Case}
use Rattle.table_rows.specs.declared.shape.Shape.TheFolds.{fold-Part}
use Rattle.site_routes.specs.Linked.{Linked}
use Rattle.site_routes.specs.Marking.{Marks}
use Rattle.site_routes.specs.Taking.{Stp, nothing, a_page, a_form, an_argument, Kept}
use Rattle.site_routes.specs.declared.site.Step.{Step}
use Rattle.site_routes.specs.declared.site.Step.TheVariants as variant
use Rattle.site_routes.specs.declared.site.Takes.{Takes}
use Rattle.site_routes.specs.declared.site.Function.{Function}
use Rattle.site_routes.specs.declared.site.Entries.{Entries}
use Rattle.link_router.specs.Calls.{Ent}
use Rattle.link_router.specs.View.{entry_view}
use Rattle.link_router.specs.declared.routes.Entry.{Entry}
use Rattle.site_routes.specs.declared.shapes.Field.{Field}
use Rattle.site_routes.specs.declared.values.Value.{Value}
use Rattle.site_routes.specs.declared.targets.Targets.{Targets}
use Rattle.std.specs.Global.{Vec}
use Rattle.core_terms.specs.Trees.{Ex, Fo, Its, Nms, Los, Brs, Fds, El, Ats, Xs, Exs, It, Lo}
use Rattle.core_terms.specs.View.{AttributeTree, BranchTree, FieldTree, NamedTree, NodeTree, LiteralTree, form_step, item_step, local_step, attribute_step, attributes_step, branch_step, branches_step, element_step, exp_step, exps_step, field_step, fields_step, items_step, literal_step, locals_step, named_step, named_list_step, node_step, nodes_step}
use Rattle.core_terms.specs.declared.exp.Element.{Element}
use Rattle.core_terms.specs.declared.exp.Form.TheFolds.{fold-Element}

abbrev pub field_view : Field → ℕ × Cn
field_view f = (f.name.number, con_tree f.con)

abbrev pub part_view : Part → List ℕ × Sh
part_view p = fold-Part Sh Shs (List ℕ × Sh) Pts shape_step arguments_step part_step parts_step p

abbrev pub maybe_shapes : Option (Vec Shape) → Option (List Sh)
maybe_shapes None = None
maybe_shapes (Some v) = Some (map shape_tree v.items)

abbrev pub maybe_part : Option Part → Option (List ℕ × Sh)
maybe_part None = None
maybe_part (Some p) = Some (part_view p)

abbrev pub maybe_parts : Option (Vec Part) → Option (List (List ℕ × Sh))
maybe_parts None = None
maybe_parts (Some v) = Some (map part_view v.items)

abbrev pub maybe_case : Option Case → Option (List ℕ × Option Sh)
maybe_case None = None
maybe_case (Some c) = Some (case_view c)

abbrev pub maybe_cases : Option (Vec Case) → Option Cases
maybe_cases None = None
maybe_cases (Some v) = Some (map case_view v.items)

abbrev pub value_view : Value → Linked
value_view v = (con_tree v.con, v.name)

abbrev pub targets_view : Targets → Marks
targets_view t = (t.links.items, t.actions.items)

abbrev pub element_tree : Element → El
element_tree = fold-Element Fo It Lo AttributeTree Ats BranchTree Brs El Ex Exs FieldTree Fds Its LiteralTree Los
    NamedTree Nms NodeTree Xs form_step item_step local_step attribute_step attributes_step branch_step
    branches_step element_step exp_step exps_step field_step fields_step items_step literal_step locals_step
    named_step named_list_step node_step nodes_step

-- the steps of an entry's type, and what it takes
abbrev pub step_view : Step → Stp
step_view variant.No = nothing
step_view variant.Page = a_page
step_view (variant.Form s) = a_form (shape_tree s)
step_view (variant.Argument s c) = an_argument (shape_tree s) (con_tree c)

abbrev pub maybe_takes : Option Takes → Option (Shs × Option Sh)
maybe_takes None = None
maybe_takes (Some t) = Some (arguments_tree t.arguments, maybe_shape t.form)

abbrev pub maybe_entry : Option Entry → Option Ent
maybe_entry None = None
maybe_entry (Some e) = Some (entry_view e)

abbrev pub kept_view : Entries → Kept
kept_view a = (map entry_view a.entries.items, a.callees.items)

abbrev pub maybe_function : Option Function → Option (Cn × Cn)
maybe_function None = None
maybe_function (Some f) = Some (con_tree f.from, con_tree f.to)
