use Rattle.std.proofs.Common.{◌≡◌, ◌++◌}
use Rattle.desugar_types.proofs.paths.add_modules.Given as goal

abbrev pub invariant-loop-outer : goal.invariant-loop-outer
invariant-loop-outer l = l.all ++ l.outer-iterator.rest.items ≡ l.fn.modules ++ l.fn.more
