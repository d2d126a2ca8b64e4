-- The places of what stands in lists of an explicit declaration, without what was inserted, before those that follow.
use Rattle.std.specs.Prelude.{List, ◌∷◌}
use Rattle.con_terms.specs.declared.place.Place.{Place}
use Rattle.core_terms.specs.Lists.{pat_field_tree, item_tree, local_tree, branch_tree, field_tree, attribute_tree}
use Rattle.core_terms.specs.Lists.{node_tree}
use Rattle.core_terms.specs.Strip.{strip, strip_pattern, strip_items, strip_locals}
use Rattle.core_terms.specs.Trees.{no_items, no_locals}
use Rattle.core_terms.specs.View.{exp_tree, named_tree, with_item, with_local}
use Rattle.core_terms.specs.declared.decl.Column.{Column}
use Rattle.core_terms.specs.declared.decl.Constructor.{Constructor}
use Rattle.core_terms.specs.declared.exp.Attribute.{Attribute}
use Rattle.core_terms.specs.declared.exp.Branch.{Branch}
use Rattle.core_terms.specs.declared.exp.Exp.{Exp}
use Rattle.core_terms.specs.declared.exp.Field.{Field}
use Rattle.core_terms.specs.declared.exp.Item.{Item}
use Rattle.core_terms.specs.declared.exp.Local.{Local}
use Rattle.core_terms.specs.declared.exp.Named.{Named}
use Rattle.core_terms.specs.declared.exp.Node.{Node}
use Rattle.core_terms.specs.declared.pat.PatField.{PatField}
use Rattle.placed_terms.specs.Made.{exp_then, items_then, locals_then, pattern_then}

abbrev pub field_places : Field → List Place → List Place
field_places f more = (field_tree f).0 ∷ exp_then (strip (field_tree f).2) more

abbrev pub attribute_places : Attribute → List Place → List Place
attribute_places a more = (attribute_tree a).0 ∷ exp_then (strip (attribute_tree a).2) more

abbrev pub named_places : Named → List Place → List Place
named_places n more = (named_tree n).0 ∷ exp_then (strip (named_tree n).4) more

abbrev pub node_places : Node → List Place → List Place
node_places x more = exp_then (strip (node_tree x).1) more

abbrev pub term_places : Exp → List Place → List Place
term_places e more = exp_then (strip (exp_tree e)) more

abbrev pub local_places : Local → List Place → List Place
local_places l more = locals_then (strip_locals (with_local (local_tree l) no_locals)) more

abbrev pub branch_places : Branch → List Place → List Place
branch_places b more =
    (branch_tree b).0 ∷ pattern_then (strip_pattern (branch_tree b).1) (exp_then (strip (branch_tree b).2) more)

abbrev pub item_places : Item → List Place → List Place
item_places i more = items_then (strip_items (with_item (item_tree i) no_items)) more

abbrev pub pattern_field_places : PatField → List Place → List Place
pattern_field_places f more = (pat_field_tree f).0 ∷ pattern_then (strip_pattern (pat_field_tree f).2) more

abbrev pub constructor_places : Constructor → List Place → List Place
constructor_places c more = c.place ∷ more

abbrev pub column_places : Column → List Place → List Place
column_places c more = c.place ∷ more
