use Rattle.std.proofs.Common.{◌<◌, ◌≤◌, ◌∙◌, ap, sym, subst, length, arith}
use Rattle.std.specs.List.{Contains}
use Rattle.table_rows.specs.Wires.{bare}
use Rattle.table_rows.specs.Shapes.{at_arguments}
use Rattle.table_rows.specs.View.{shape_tree, maybe_shape, datatype_view}
use Rattle.link_router.specs.Reading.{few_for_data, no_data, no_datatype}
use Rattle.link_router.proofs.Closing.{closed_made}
use Rattle.link_router.proofs.Escapes.{mapped_at}
use Rattle.link_router.proofs.Listed.{beyond}
use Rattle.link_router.proofs.Moves.{bare_comes, held_wanted}
use Rattle.link_router.proofs.OnePiece.{first_bad, none_left, bare_tree}
use Rattle.link_router.proofs.reader.begin_data.Goals as goal

pub returns-in_default-clause-err : goal.returns-in_default-clause-err
returns-in_default-clause-err c = none_left c.in_default.ensures.none few_for_data

pub returns-then-len-place-clause-err : goal.returns-then-len-place-clause-err
returns-then-len-place-clause-err c =
    let behind : length c.args.datatypes.now.items.items ≤ c.args.place = omega (arith, c.if-len-place.true, c.len.ensures, c.args.datatypes.now.items.ok) in
    first_bad c.in-Some.ensures.some (no_datatype (beyond datatype_view c.args.datatypes.now.items.items c.args.place behind))

pub returns-in_default-case_named-clause-err : goal.returns-in_default-case_named-clause-err
returns-in_default-case_named-clause-err c =
    let within : c.args.place < length c.args.datatypes.now.items.items = omega (arith, c.if-len-place.false, c.len.ensures, c.args.datatypes.now.items.ok) in
    first_bad c.in-Some.ensures.some (no_data (mapped_at datatype_view c.args.datatypes.now.items.items c.args.place c.index.result.now within c.index.ensures) c.in_default-case_named.ensures.none)

pub returns-in-None-clause-ok : goal.returns-in-None-clause-ok
returns-in-None-clause-ok c =
    let within : c.args.place < length c.args.datatypes.now.items.items = omega (arith, c.if-len-place.false, c.len.ensures, c.args.datatypes.now.items.ok) in
    bare_comes _ (mapped_at datatype_view c.args.datatypes.now.items.items c.args.place c.index.result.now within c.index.ensures)
    (subst (λ o. Contains (datatype_view c.index.result.now) (c.in-Some.piece.now, maybe_shape o)) c.in-None.is c.in-Some-case_named.ensures.some.0)
    c.in-Some.ensures.some c.pass.ensures (bare_tree _ ∙ ap bare (c.in_ok-name.ensures ∙ c.in-Some-case_named.ensures.some.1))

pub returns-in_ok-push-in-Some-holds-clause-ok : goal.returns-in_ok-push-in-Some-holds-clause-ok
returns-in_ok-push-in-Some-holds-clause-ok c =
    let within : c.args.place < length c.args.datatypes.now.items.items = omega (arith, c.if-len-place.false, c.len.ensures, c.args.datatypes.now.items.ok) in
    held_wanted (mapped_at datatype_view c.args.datatypes.now.items.items c.args.place c.index.result.now within c.index.ensures)
    (subst (λ o. Contains (datatype_view c.index.result.now) (c.in-Some.piece.now, maybe_shape o)) c.in-Some-holds.is c.in-Some-case_named.ensures.some.0)
    c.in-Some.ensures.some c.pass.ensures (c.in_ok-name.ensures ∙ c.in-Some-case_named.ensures.some.1)
    (closed_made _ ∙ ap (λ ss. at_arguments ss (shape_tree c.in-Some-holds.shape)) c.in_ok-scope-in-Some-holds.ensures) c.in_ok-push-in-Some-holds.ensures
