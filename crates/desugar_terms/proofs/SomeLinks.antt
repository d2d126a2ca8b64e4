-- Terms with projections behind them, where there are some.
use Rattle.std.proofs.Common.{◌≡◌, ℕ, List, [], ◌∷◌, map, length, refl}
use Rattle.plain_tree.specs.Trees.{ExpTree}
use Rattle.plain_tree.specs.ExpView.{link_tree}
use Rattle.plain_tree.specs.declared.exp.Link.{Link}
use Rattle.desugar_terms.specs.Dots.{chain, with_links}

-- a list that isn't empty makes a chain
pub some_links : (start : ℕ) (e : ExpTree) (ls : List Link) → (length ls ≡ 0 → ⊥)
    → chain start e (map link_tree ls) ≡ with_links start e (map link_tree ls)
some_links start e [] h = absurd (h refl)
some_links start e (l ∷ ls) h = refl
