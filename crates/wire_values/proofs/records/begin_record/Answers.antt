use Rattle.link_router.proofs.Moves.{ok_then}
use Rattle.wire_values.proofs.Moves.{onward}
use Rattle.wire_values.proofs.Steps.{record_starts}
use Rattle.wire_values.proofs.records.begin_record.Goals as goal

pub returns : goal.returns
returns c =
    ok_then c.next_part.result c.next_part.ensures (λ step f.
    onward (record_starts c.args.scope.now c.args.parts.now c.args.wire.now c.in-Rec.wires c.new.result.items c.as_slice.result.now c.as_slice-2.result.now c.in-Rec.is c.new.ensures.items c.as_slice.ensures.value c.as_slice-2.ensures.value) f)
