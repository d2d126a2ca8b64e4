-- Types of parts, one level after another.
use Rattle.std.proofs.Common.{◌≡◌, ℕ, suc, ◌+◌, Bool, true, List, [], Option, Some, None, ap, sym, ◌∙◌, arith}
use Rattle.con_terms.specs.Trees.{Cn}
use Rattle.core_terms.specs.Trees.{Dt}
use Rattle.match_cover.specs.Levels.{next_level, large_among}

pub large_on : (ds : List Dt) (left less : ℕ) (ts us : List Cn) (b : Bool) → left ≡ less + 1 → Some us ≡ next_level ds ts [] → large_among ds left ts ≡ b → large_among ds less us ≡ b
large_on ds left less ts us b k e before =
    let more : left ≡ suc less = omega (arith, k) in
    ap (λ (o : Option (List Cn)). elim o [ None ↦ true | Some vs ↦ large_among ds less vs ]) e
    ∙ ap (λ n. large_among ds n ts) (sym more)
    ∙ before
