use Rattle.std.proofs.Common.{◌≡◌, drop}
use Rattle.unbuilt_forms.specs.Unbuilt.{first_unbuilt}
use Rattle.unbuilt_forms.proofs.unbuilt.first_among.Given as goal

abbrev pub invariant-loop-token : goal.invariant-loop-token
invariant-loop-token l = first_unbuilt (drop l.token-index l.tokens) ≡ first_unbuilt l.tokens
