use Rattle.std.proofs.Common.{◌≡◌, drop}
use Rattle.surface_grammar.specs.Leads.{leads}
use Rattle.surface_grammar.proofs.rule.leads.Given as goal

abbrev pub invariant-loop-part : goal.invariant-loop-part
invariant-loop-part l = leads (drop l.part-index l.parts) l.next ≡ leads l.parts l.next
