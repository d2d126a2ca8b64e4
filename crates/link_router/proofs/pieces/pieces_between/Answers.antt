use Rattle.std.proofs.Common.{map, ap, ◌∙◌}
use Rattle.percent_encoding.specs.Percent as spec
use Rattle.link_router.proofs.Paths.{at_start, slash_step}
use Rattle.link_router.proofs.pieces.pieces_between.Goals as goal

pub loop-first-init : goal.loop-first-init
loop-first-init c = rw (c.new-pieces.ensures.items, c.new-piece.ensures.items) (ap (map spec.percent_decode) (at_start c.args.bytes.now))

pub loop-first-preserved-in_ok-push : goal.loop-first-preserved-in_ok-push
loop-first-preserved-in_ok-push c =
    slash_step _ _ _ c.loop-first.piece.items _ c.loop-first.rest.now _ _ c.in-Some.first.now c.loop-first.invariant c.in-Some.ensures.cases.0 c.if-first-eq47.true (c.in_ok-decoded.ensures ∙ ap spec.percent_decode c.as_slice.ensures.value) c.in_ok-push.ensures.items c.new-piece-then-first-eq47.ensures.items
