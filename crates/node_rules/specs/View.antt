-- The plain data that the values of this crate are.
use Rattle.std.specs.Prelude.{List, Option, Some, None}
use Rattle.con_terms.specs.Trees.{Cn, pair_list}
use Rattle.con_terms.specs.View.{con_tree, pairs_tree}
use Rattle.con_terms.specs.declared.con.Pairs.{Pairs}
use Rattle.core_terms.specs.View.{maybe_con}
use Rattle.type_faults.specs.View.{maybe_fault}
use Rattle.node_rules.specs.Calls.{Ft, fits, stuck, Pa}
use Rattle.node_rules.specs.Locals.{Ls}
use Rattle.node_rules.specs.Records.{Rw, Pd, Op, selects, cuts, cuts_row}
use Rattle.node_rules.specs.declared.calls.Fit.{Fit}
use Rattle.node_rules.specs.declared.calls.Fit.TheVariants.{On, Off}
use Rattle.node_rules.specs.declared.calls.Past.{Past}
use Rattle.node_rules.specs.declared.lets.Found.{Found}
use Rattle.node_rules.specs.declared.records.Row.{Row}
use Rattle.node_rules.specs.declared.operations.Value.{Value}
use Rattle.node_rules.specs.declared.operations.Operation.{Operation}
use Rattle.node_rules.specs.declared.operations.Operation.TheVariants.{Select, Cut, CutRow}

-- calls
abbrev pub fit_tree : Fit → Ft
fit_tree (On t) = fits (con_tree t)
fit_tree (Off f) = stuck (maybe_fault f)

abbrev pub past_tree : Past → Pa
past_tree r = record { fit = fit_tree r.fit; kids = maybe_fault r.kids }

-- declarations
abbrev pub found_tree : Found → Ls
found_tree r = record { found = r.found; kids = maybe_fault r.kids; own = maybe_fault r.own }

-- records
abbrev pub maybe_pairs : Option Pairs → Option (List (Cn × Cn))
maybe_pairs None = None
maybe_pairs (Some ps) = Some (pair_list (pairs_tree ps))

abbrev pub row_tree : Row → Rw
row_tree r = record { row = maybe_pairs r.row; kids = maybe_fault r.kids; own = maybe_fault r.own }

abbrev pub value_tree : Value → Pd
value_tree v = record { type = maybe_con v.ty; own = maybe_fault v.own }

abbrev pub op_tree : Operation → Op
op_tree Select = selects
op_tree Cut = cuts
op_tree CutRow = cuts_row
