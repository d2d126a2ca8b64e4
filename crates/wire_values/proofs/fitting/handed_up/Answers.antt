use Rattle.link_router.proofs.Moves.{ok_then}
use Rattle.wire_values.proofs.Forms.{slot_made}
use Rattle.wire_values.proofs.Moves.{onward}
use Rattle.wire_values.proofs.Steps.{held_handed, field_handed}
use Rattle.wire_values.proofs.fitting.handed_up.Goals as goal

pub returns-in_ok-held-in-Held : goal.returns-in_ok-held-in-Held
returns-in_ok-held-in-Held c = held_handed c.args.frame c.in-Held.symbol c.in-Held.index c.args.value c.in_ok-held-in-Held.held c.in-Held.is c.in_ok-held-in-Held.ensures

pub returns-in_ok-push-in-Field : goal.returns-in_ok-push-in-Field
returns-in_ok-push-in-Field c =
    ok_then c.next_part.result c.next_part.ensures (λ step f.
    onward (field_handed c.args.frame c.in-Field.filling c.in-Field.name c.args.value _ c.push.new.self.items c.in-Field.is (slot_made _) c.in_ok-push-in-Field.ensures.items) f)
