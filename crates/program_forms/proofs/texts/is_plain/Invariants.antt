use Rattle.std.proofs.Common.{drop}
use Rattle.link_router.specs.RouteLaws.{IsPlain}
use Rattle.program_forms.proofs.texts.is_plain.Given as goal

abbrev pub invariant-loop-i : goal.invariant-loop-i
invariant-loop-i l = IsPlain (drop l.i l.bytes) → IsPlain l.text
