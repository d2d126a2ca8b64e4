use Rattle.std.proofs.Common.{rules, subst, string_bytes, IfOk}
use Rattle.core_typing.specs.Faults.{at}
use Rattle.shown_types.specs.Names.{Known}
use Rattle.type_faults.specs.View.{fault_tree}
use Rattle.fault_lines.specs.Lines.{IsToldOver}
use Rattle.fault_lines.proofs.Pieces.{known_here}
use Rattle.fault_lines.proofs.told.told_of_sources.Goals as goal

pub returns : goal.returns
returns c =
    subst (λ (g : Known). IfOk c.told_of.result (λ told. IsToldOver g (fault_tree c.args.fault.now) told.place (string_bytes told.text)))
    (known_here c.args.names.now c.args.modules.now c.place_of.result (at (fault_tree c.args.fault.now)) (search rules))
    (search rules)
