use Rattle.std.proofs.Common.{◌∙◌, ap, sym, arith}
use Rattle.wire_values.specs.Scoped.{closed_tree}
use Rattle.wire_values.specs.declared.scoped.Closed.TheViews.{out-Closed}
use Rattle.wire_values.proofs.Closing.{closed_is, argument_is}
use Rattle.wire_values.proofs.scoped.resolved.Goals as goal

pub returns-then-place-closed : goal.returns-then-place-closed
returns-then-place-closed c =
    ap closed_tree (sym c.index-closed-place.is)
    ∙ sym (argument_is (out-Closed c.args.closed).scope.now (out-Closed c.args.closed).shape.now c.in-Parameter.place _ c.in-Parameter.is (omega (arith, c.if-place-closed.true)) c.index-closed-place.is)
    ∙ sym (closed_is c.args.closed)
