use Rattle.std.proofs.Common.{◌∙◌, ap, rules}
use Rattle.std.proofs.lemmas.List.Sorted.{answers_always}
use Rattle.con_terms.specs.View.{kind_tree}
use Rattle.row_normal.specs.Glue.{piece_tree}
use Rattle.row_normal.specs.Ordered.{glued, joined}
use Rattle.row_normal.proofs.Arranged.{by_tree}
use Rattle.row_normal.proofs.Literals.{if_ok}
use Rattle.row_normal.proofs.Placed.{compares, placed, ranks}
use Rattle.row_normal.proofs.glue.in_order.Goals as goal

pub returns : goal.returns
returns c =
    let sort = c.in_ok-sort_by.ensures in
    let answers = answers_always _ _ _ (λ f a r f' k. compares a.0.now a.1.0.now r (search rules)) in
    let in_place = placed _ _ (sort.sorted (by_tree piece_tree) ranks answers) (sort.stable (by_tree piece_tree) ranks answers) in
    if_ok c.concatenated.result _ _ (λ d h. h ∙ ap (joined (kind_tree c.args.kind)) (c.in_ok-joined.ensures ∙ ap glued in_place)) c.concatenated.ensures
