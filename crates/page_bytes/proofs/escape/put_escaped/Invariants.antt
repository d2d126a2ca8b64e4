use Rattle.std.proofs.Common.{◌≡◌, ◌-◌, ◌≤◌, take, drop, Ok}
use Rattle.std.specs.List.{flat_map}
use Rattle.page_bytes.specs.Escapes.{escape_in}
use Rattle.page_bytes.specs.declared.fault.PageFault.{PageFault}
use Rattle.page_bytes.specs.Puts.{Puts}
use Rattle.page_bytes.proofs.escape.put_escaped.Given as goal

abbrev pub invariant-loop-at : goal.invariant-loop-at
invariant-loop-at g l = record {
  puts : Puts {E = PageFault} (Ok tt) (g.K.Sink.wrote l.initial.sink) (g.K.Sink.wrote l.sink) l.initial.held.items l.held.items
      (g.K.Sink.faults l.initial.sink) (g.K.Sink.faults l.sink) (flat_map (escape_in l.value) (take l.from l.text));
  plain : flat_map (escape_in l.value) (take (l.at - l.from) (drop l.from l.text)) ≡ take (l.at - l.from) (drop l.from l.text);
  in_range : l.from ≤ l.at;
}
