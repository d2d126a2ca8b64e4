use Rattle.std.proofs.Common.{◌∷◌, map, take}
use Rattle.core_terms.specs.View.{pat_tree}
use Rattle.core_terms.specs.declared.exp.Form.TheViews.{out-Branches}
use Rattle.match_cover.specs.Laws.{Asks}
use Rattle.match_cover.specs.View.{rows_view}
use Rattle.pattern_rules.proofs.Asking.{pattern_of}
use Rattle.pattern_rules.proofs.cases.asked_of.Given as goal

abbrev pub invariant-loop-i : goal.invariant-loop-i
invariant-loop-i l =
    Asks (pat_tree l.p ∷ map pattern_of (take l.i (out-Branches l.more).items.items)) (rows_view l.asked.rows) l.asked.depth
