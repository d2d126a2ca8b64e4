use Rattle.std.proofs.Common.{◌∙◌, ap, sym, arith}
use Rattle.link_router.specs.Scoped.{closed_tree}
use Rattle.link_router.specs.declared.scoped.Closed.TheViews.{out-Closed}
use Rattle.link_router.proofs.Closing.{closed_is, argument_is}
use Rattle.link_router.proofs.scoped.resolved.Goals as goal

pub loop-named-preserved : goal.loop-named-preserved
loop-named-preserved c =
    ap closed_tree (sym c.index-named-place.is)
    ∙ sym (argument_is (out-Closed c.loop-named.named).scope.now (out-Closed c.loop-named.named).shape.now c.in-Parameter.place _ c.in-Parameter.is (omega (arith, c.if-named-place.false)) c.index-named-place.is)
    ∙ sym (closed_is c.loop-named.named) ∙ c.loop-named.invariant
