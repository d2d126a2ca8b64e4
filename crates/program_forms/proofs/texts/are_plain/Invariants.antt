use Rattle.std.proofs.Common.{drop}
use Rattle.std.specs.List.{AllByRecursion}
use Rattle.link_router.specs.RouteLaws.{IsPlain}
use Rattle.program_forms.proofs.texts.are_plain.Given as goal

abbrev pub invariant-loop-i : goal.invariant-loop-i
invariant-loop-i l = AllByRecursion IsPlain (drop l.i l.texts) → AllByRecursion IsPlain l.texts
