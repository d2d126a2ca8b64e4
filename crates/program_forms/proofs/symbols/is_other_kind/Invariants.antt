use Rattle.std.proofs.Common.{ℕ, ◌≢◌, length, map, drop, ◌-◌}
use Rattle.std.specs.List.{AllByRecursion}
use Rattle.con_terms.specs.Trees.{Kd}
use Rattle.con_terms.specs.View.{kind_tree}
use Rattle.core_terms.specs.View.{folder_view}
use Rattle.program_forms.proofs.symbols.is_other_kind.Given as goal

abbrev pub invariant-loop-i : goal.invariant-loop-i
invariant-loop-i l =
    AllByRecursion (λ (g : Kd × ℕ). kind_tree l.kind ≢ g.0) (map folder_view (drop l.i l.fs.items.items)) → AllByRecursion (λ (g : Kd × ℕ). kind_tree l.kind ≢ g.0) (map folder_view (drop l.from l.fs.items.items))

abbrev pub decreases-loop-i : goal.decreases-loop-i
decreases-loop-i l = length l.fs.items.items - l.i
