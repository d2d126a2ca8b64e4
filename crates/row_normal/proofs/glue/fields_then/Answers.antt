use Rattle.std.proofs.Common.{◌∙◌}
use Rattle.con_terms.proofs.Lists.{pairs_tree-roll}
use Rattle.row_normal.proofs.Literals.{appended}
use Rattle.row_normal.proofs.glue.fields_then.Goals as goal

pub returns : goal.returns
returns c = pairs_tree-roll (record { items = c.append.new.self }) ∙ appended c.args.fields c.args.more _ c.in_ok-append.ensures.items
