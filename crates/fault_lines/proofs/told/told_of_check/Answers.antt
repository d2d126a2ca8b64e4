use Rattle.std.proofs.Common.{rules, subst, string_bytes, map, IfOk}
use Rattle.core_terms.specs.View.{program_view}
use Rattle.core_typing.specs.Faults.{at}
use Rattle.shown_types.specs.Names.{Known}
use Rattle.shown_types.specs.View.{declared_view}
use Rattle.type_faults.specs.View.{fault_tree}
use Rattle.fault_lines.specs.Lines.{IsToldOver}
use Rattle.fault_lines.proofs.Pieces.{known_is}
use Rattle.fault_lines.proofs.told.told_of_check.Goals as goal

pub returns : goal.returns
returns c =
    subst (λ (g : Known). IfOk c.told_of.result (λ told. IsToldOver g (fault_tree c.args.fault.now) told.place (string_bytes told.text)))
    (known_is (program_view c.args.program.now) (map declared_view c.in_ok-types.types.items) c.in_ok-folders.folders.items
    c.place_of.result (at (fault_tree c.args.fault.now)) (search rules) (search rules) (search rules))
    (search rules)
