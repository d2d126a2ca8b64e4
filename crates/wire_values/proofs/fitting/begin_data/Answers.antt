use Rattle.std.proofs.Common.{◌<◌, ◌∙◌, ap, length, arith}
use Rattle.table_rows.specs.Shapes.{at_arguments}
use Rattle.table_rows.specs.View.{shape_tree, datatype_view}
use Rattle.link_router.proofs.Escapes.{mapped_at}
use Rattle.wire_values.proofs.Closing.{closed_made}
use Rattle.wire_values.proofs.Steps.{data_bare, data_holds}
use Rattle.wire_values.proofs.fitting.begin_data.Goals as goal

pub returns-in-None-held : goal.returns-in-None-held
returns-in-None-held c =
    let listed = c.args.fitting.now.datatypes.now.items.items in
    let within : c.args.place < length c.args.fitting.now.datatypes.now.items.items = omega (arith, c.if-len-number.false, c.len.ensures, c.args.fitting.now.datatypes.now.items.ok) in
    data_bare c.args.wire.now c.in-Tagged.name c.in-Tagged.held c.args.place c.in_ok-index.index c.in_ok-symbol.symbol c.in_ok-index.case.now.holds c.in-Tagged.is c.in-None-held.is
    c.in_ok-symbol.ensures (mapped_at datatype_view listed c.args.place c.index.result.now within c.index.ensures) c.in_ok-index.ensures c.in-None.is

pub returns-in_ok-push-in-Some-held-2 : goal.returns-in_ok-push-in-Some-held-2
returns-in_ok-push-in-Some-held-2 c =
    let listed = c.args.fitting.now.datatypes.now.items.items in
    let within : c.args.place < length c.args.fitting.now.datatypes.now.items.items = omega (arith, c.if-len-number.false, c.len.ensures, c.args.fitting.now.datatypes.now.items.ok) in
    data_holds c.args.wire.now c.in-Tagged.name c.in-Tagged.held c.in-Some-held-2.inner c.args.place c.in_ok-index.index c.in_ok-symbol.symbol c.in_ok-index.case.now.holds c.in-Some.shape c.deref.result.now c.in-Tagged.is c.in-Some-held-2.is
    c.in_ok-symbol.ensures (mapped_at datatype_view listed c.args.place c.index.result.now within c.index.ensures) c.in_ok-index.ensures c.in-Some.is
    (closed_made _ ∙ ap (λ ss. at_arguments ss (shape_tree c.in-Some.shape)) c.in_ok-scope-in-Some-held-2.ensures) c.in_ok-push-in-Some-held-2.ensures c.deref.ensures
