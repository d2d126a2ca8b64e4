use Rattle.std.proofs.Common.{true, map, ap, sym, ◌∙◌}
use Rattle.con_terms.specs.View.{pairs_tree}
use Rattle.shown_types.specs.Printed.{put_field, put_fields}
use Rattle.shown_types.specs.View.{known_view}
use Rattle.shown_types.proofs.Orders.{row_ordered}
use Rattle.shown_types.proofs.cons.+con.Goals as goal

pub put_fields-loop-i-init : goal.put_fields-loop-i-init
put_fields-loop-i-init t c =
    ap (λ fs. put_fields true fs c.args.line.now)
    (sym (row_ordered (known_view c.args.known.now) c.args.called.now (pairs_tree c.args.pairs.now))
    ∙ ap (map (put_field (known_view c.args.known.now) c.args.called.now)) (sym c.in_ok-fields.ensures))
