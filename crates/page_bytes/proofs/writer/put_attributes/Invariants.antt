use Rattle.std.proofs.Common.{take, Ok}
use Rattle.std.specs.List.{flat_map}
use Rattle.xml_trees.specs.Written.{attribute_of}
use Rattle.xml_trees.specs.PieceText.{attribute_bytes}
use Rattle.page_bytes.specs.declared.fault.PageFault.{PageFault}
use Rattle.page_bytes.specs.Puts.{Puts}
use Rattle.page_bytes.proofs.writer.put_attributes.Given as goal

abbrev pub invariant-loop-attr : goal.invariant-loop-attr
invariant-loop-attr g l =
    Puts {E = PageFault} (Ok tt) (g.K.Sink.wrote l.initial.sink) (g.K.Sink.wrote l.sink) l.initial.held.items l.held.items
    (g.K.Sink.faults l.initial.sink) (g.K.Sink.faults l.sink) (flat_map (λ attr. attribute_bytes (attribute_of attr)) (take l.attr-index l.attrs))
