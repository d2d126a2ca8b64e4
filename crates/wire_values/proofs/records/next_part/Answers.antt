use Rattle.std.proofs.Common.{◌∙◌}
use Rattle.wire_values.proofs.Closing.{closed_made}
use Rattle.wire_values.proofs.Steps.{record_ends, field_starts}
use Rattle.wire_values.proofs.records.next_part.Goals as goal

pub returns-in-None-split_first : goal.returns-in-None-split_first
returns-in-None-split_first c =
    record_ends c.args.filling.made.items c.args.filling.parts.now c.args.filling.scope.now c.args.filling.wires.now c.in_ok-fields-in-None-split_first.fields
    c.in-None.ensures.cases c.in-None-split_first.ensures.cases (c.in_ok-fields-in-None-split_first.ensures ∙ c.as_slice.ensures.value)

pub returns : goal.returns
returns c =
    field_starts c.args.filling.made.items c.args.filling.parts.now c.in-Some.parts.now c.in-Some.part.now c.args.filling.scope.now c.args.filling.wires.now c.in-Some-split_first-2.wires.now c.in-Some-split_first-2.wire.now c.in_ok-name-in-Some-split_first-2.name.number
    c.in-Some.ensures.cases.0 c.in-Some-split_first-2.ensures.cases.0 c.in_ok-name-in-Some-split_first-2.ensures (closed_made _) c.in_ok-push-in-Some-split_first-2.ensures
