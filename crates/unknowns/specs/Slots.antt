-- The unknowns as plain data.
use Rattle.std.specs.Prelude.{Option, option_map}
use Rattle.con_terms.specs.Trees.{Cn}
use Rattle.con_terms.specs.View.{con_tree, kind_tree}
use Rattle.unknowns.specs.Unknowns.{Fd, nothing, slot}
use Rattle.unknowns.specs.declared.held.Held.{Held}
use Rattle.unknowns.specs.declared.slots.Slots.{Slots}
use Rattle.unknowns.specs.declared.slots.Slots.TheOpen.{Slots-F}
use Rattle.unknowns.specs.declared.slots.Slots.TheFolds.{fold-Slots}

abbrev pub held_tree : Option Held → Option Cn
held_tree o = option_map (λ h. con_tree h.con) o

abbrev pub slots_step : Slots-F Fd → Fd
slots_step Slots-F.Nothing = nothing
slots_step (Slots-F.Slot u f) = slot (kind_tree u.kind) (held_tree u.answer) f.value

abbrev pub slots_tree : Slots → Fd
slots_tree = fold-Slots Fd slots_step
