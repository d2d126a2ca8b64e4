-- The plain data that the values of this crate are.
use Rattle.con_terms.specs.View.{con_tree}
use Rattle.core_terms.specs.View.{maybe_con}
use Rattle.type_faults.specs.View.{fault_tree, maybe_fault}
use Rattle.judgements.specs.View.{judged_tree, cons_view, locals_view}
use Rattle.pattern_rules.specs.Binds as binds
use Rattle.pattern_rules.specs.Matching as cases
use Rattle.pattern_rules.specs.declared.binds.AtData.{AtData}
use Rattle.pattern_rules.specs.declared.binds.AtData.TheVariants as at_data
use Rattle.pattern_rules.specs.declared.binds.FieldsBound.{FieldsBound}
use Rattle.pattern_rules.specs.declared.binds.FieldsBound.TheVariants as fields
use Rattle.pattern_rules.specs.declared.binds.OneField.{OneField}
use Rattle.pattern_rules.specs.declared.binds.OneField.TheVariants as one
use Rattle.pattern_rules.specs.declared.cases.Branch.{Branch}
use Rattle.pattern_rules.specs.declared.cases.Branch.TheVariants as branch
use Rattle.pattern_rules.specs.declared.cases.Cases.{Cases}

abbrev pub data_tree : AtData → binds.Da
data_tree (at_data.Bad f) = binds.bad_data (fault_tree f)
data_tree (at_data.Bare n) = binds.bare_data (con_tree n)
data_tree (at_data.Holding n h) = binds.holding_data (con_tree n) (con_tree h)

abbrev pub fields_tree : FieldsBound → binds.Fb
fields_tree (fields.Bound rest locals) = binds.bind_fields (cons_view rest) (locals_view locals.value)
fields_tree (fields.Bad f) = binds.bad_fields (fault_tree f)

abbrev pub one_tree : OneField → binds.Of
one_tree (one.Stop f) = binds.stop_field (fault_tree f)
one_tree (one.Bad f rest) = binds.bad_field (fault_tree f) (cons_view rest)
one_tree (one.Bound rest locals) = binds.bound_field (cons_view rest) (locals_view locals.value)

abbrev pub branch_tree : Branch → cases.Br
branch_tree (branch.Bad f) = cases.bad_branch (fault_tree f)
branch_tree (branch.Found j) = cases.judged_branch (judged_tree j)

abbrev pub cases_tree : Cases → cases.Cs
cases_tree c = record {
  type = maybe_con c.ty;
  alike = c.alike;
  bound = c.bound;
  kids = maybe_fault c.kids;
  own = maybe_fault c.own;
}
