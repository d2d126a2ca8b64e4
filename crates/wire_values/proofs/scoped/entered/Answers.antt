use Rattle.std.proofs.Common.{◌∙◌, map, ap, sym, arith}
use Rattle.std.proofs.lemmas.List.{take_all}
use Rattle.table_rows.specs.Shapes.{at_arguments, all_at_arguments}
use Rattle.table_rows.specs.View.{shapes_from, shape_tree}
use Rattle.wire_values.specs.Scoped.{scope_shapes}
use Rattle.link_router.proofs.Closing.{arguments_are, all_arguments}
use Rattle.link_router.proofs.Moves.{ok_then}
use Rattle.wire_values.proofs.scoped.entered.Goals as goal

pub returns : goal.returns
returns c =
    let outer = scope_shapes c.args.scope.now in
    let all_done = take_all c.loop-i.i c.args.arguments.now.items.items (omega (arith, c.loop-i-test.false, c.len-i-end.ensures, c.args.arguments.now.items.ok)) in
    ok_then c.put_slice.result c.put_slice.ensures (λ put e.
    ap scope_shapes (e ∙ c.as_slice.ensures.value)
    ∙ ap shapes_from (c.loop-i.invariant ∙ ap (λ xs. map (at_arguments outer) (map shape_tree xs)) all_done)
    ∙ sym (all_arguments outer (map shape_tree c.args.arguments.now.items.items))
    ∙ ap (all_at_arguments outer) (sym (arguments_are c.args.arguments.now)))
