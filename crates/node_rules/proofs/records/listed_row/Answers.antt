use Rattle.std.proofs.Common.{◌≡◌, IfOk, ap, subst}
use Rattle.con_terms.specs.Trees.{Cn}
use Rattle.con_terms.specs.View.{con_tree, pairs_tree}
use Rattle.core_terms.specs.Types.{type_row}
use Rattle.node_rules.proofs.Listed.{listed_again}
use Rattle.node_rules.proofs.records.listed_row.Goals as goal

pub returns : goal.returns
returns c =
    let P : Cn → Type 0 = λ z. IfOk c.row_of.result (λ r. con_tree r ≡ z) in
    subst P (ap type_row (listed_again (pairs_tree c.args.fields))) c.row_of.ensures
