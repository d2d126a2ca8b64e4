use Rattle.std.proofs.Common.{◌≡◌, ◌-◌, ℕ, List, drop, length, map, reverse}
use Rattle.source_names.specs.View.{value_view}
use Rattle.source_terms.specs.Programs.{declares, exports_from}
use Rattle.source_terms.specs.Selected.{stands}
use Rattle.source_terms.proofs.exports.exports_back.Given as goal

abbrev pub invariant-loop-back : goal.invariant-loop-back
invariant-loop-back l = record {
  behind : (x : List ℕ) → stands l.later x
      ≡ declares l.home x (map value_view (drop (length l.values - l.back) l.values));
  told : reverse l.numbers.items
      ≡ exports_from l.home l._exported (length l.values - l.back)
      (map value_view (drop (length l.values - l.back) l.values));
}
