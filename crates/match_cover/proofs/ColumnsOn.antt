-- Columns for the fields of a record, from the last to the first.
use Rattle.std.proofs.Common.{◌≡◌, ℕ, ◌+◌, ◌<◌, List, ◌∷◌, map, drop, get_or, length, ap, sym, ◌∙◌}
use Rattle.std.proofs.lemmas.List.{drop_more}
use Rattle.con_terms.specs.Trees.{Cn}
use Rattle.con_terms.specs.View.{con_tree}
use Rattle.match_cover.specs.Misses.{Column, columns_at}
use Rattle.match_cover.specs.View.{part_view}
use Rattle.match_cover.specs.declared.seen.Part.{Part}

pub columns_on : (d : ℕ) (fs : List Part) (i j : ℕ) (f : Part) (t : Cn) (rest now more : List Column) → j ≡ i + 1 → i < length fs → f ≡ get_or fs i f
    → t ≡ con_tree f.con
    → now ≡ columns_at d (map part_view (drop j fs)) rest
    → more ≡ (d, t) ∷ now
    → more ≡ columns_at d (map part_view (drop i fs)) rest
columns_on d fs i j f t rest now more k h is e before after =
    after ∙ ap (λ xs. (d, t) ∷ xs) before ∙ ap (λ u. (d, u) ∷ columns_at d (map part_view (drop j fs)) rest) e
    ∙ ap (λ n. (d, con_tree f.con) ∷ columns_at d (map part_view (drop n fs)) rest) k
    ∙ ap (λ (x : Part). (d, con_tree x.con) ∷ columns_at d (map part_view (drop (i + 1) fs)) rest) is
    ∙ ap (λ xs. columns_at d (map part_view xs) rest) (sym (drop_more fs i f h))
