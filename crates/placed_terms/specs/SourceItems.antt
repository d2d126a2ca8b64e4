-- The bytes of what stands in lists of a plain declaration, before those that follow.
use Rattle.std.specs.Prelude.{ℕ, List, ◌∷◌}
use Rattle.plain_tree.specs.ConView.{pat_field_tree}
use Rattle.plain_tree.specs.ExpView.{attribute_tree, branch_tree, exp_tree, field_tree, item_tree, link_tree}
use Rattle.plain_tree.specs.ExpView.{local_tree, named_tree, node_tree}
use Rattle.plain_tree.specs.Trees.{more_pat_fields, no_pat_fields}
use Rattle.plain_tree.specs.declared.decl.DatatypeBuilder.{DatatypeBuilder}
use Rattle.plain_tree.specs.declared.exp.Attribute.{Attribute}
use Rattle.plain_tree.specs.declared.exp.Branch.{Branch}
use Rattle.plain_tree.specs.declared.exp.Exp.{Exp}
use Rattle.plain_tree.specs.declared.exp.Field.{Field}
use Rattle.plain_tree.specs.declared.exp.Item.{Item}
use Rattle.plain_tree.specs.declared.exp.Link.{Link}
use Rattle.plain_tree.specs.declared.exp.Local.{Local}
use Rattle.plain_tree.specs.declared.exp.Named.{Named}
use Rattle.plain_tree.specs.declared.exp.Node.{Node}
use Rattle.plain_tree.specs.declared.names.Word.{Word}
use Rattle.plain_tree.specs.declared.pat.PatField.{PatField}
use Rattle.placed_terms.specs.Source.{attribute_then, branch_then, exp_then, field_then, item_then, link_behind}
use Rattle.placed_terms.specs.Source.{local_then, named_then, node_then, pattern_fields_then}

abbrev pub field_bytes : Field → List ℕ → List ℕ
field_bytes f more = field_then (field_tree f) more

abbrev pub attribute_bytes : Attribute → List ℕ → List ℕ
attribute_bytes a more = attribute_then (attribute_tree a) more

abbrev pub named_bytes : Named → List ℕ → List ℕ
named_bytes n more = named_then (named_tree n) more

abbrev pub node_bytes : Node → List ℕ → List ℕ
node_bytes n more = node_then (node_tree n) more

abbrev pub term_bytes : Exp → List ℕ → List ℕ
term_bytes e more = exp_then (exp_tree e) more

abbrev pub local_bytes : Local → List ℕ → List ℕ
local_bytes l more = local_then (local_tree l) more

abbrev pub branch_bytes : Branch → List ℕ → List ℕ
branch_bytes b more = branch_then (branch_tree b) more

abbrev pub item_bytes : Item → List ℕ → List ℕ
item_bytes i more = item_then (item_tree i) more

abbrev pub link_bytes : Link → List ℕ → List ℕ
link_bytes l more = link_behind (link_tree l) more

abbrev pub pattern_field_bytes : PatField → List ℕ → List ℕ
pattern_field_bytes f more = pattern_fields_then (more_pat_fields (pat_field_tree f) no_pat_fields) more

abbrev pub builder_bytes : DatatypeBuilder → List ℕ → List ℕ
builder_bytes b more = b.name.at ∷ more

abbrev pub word_bytes : Word → List ℕ → List ℕ
word_bytes x more = x.at ∷ more
