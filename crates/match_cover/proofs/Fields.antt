-- The fields of a row, one after another.
use Rattle.std.proofs.Common.{◌≡◌, ℕ, ◌+◌, List, [], ◌∷◌, ◌++◌, Some, slice_get, map, drop, refl, ap, sym, ◌∙◌, append_assoc}
use Rattle.std.proofs.lemmas.List.{drop_more, map-append}
use Rattle.std.proofs.lemmas.Option.{slice_get_within, get_or_from_slice_get}
use Rattle.con_terms.specs.Trees.{Cn, Prs, no_pairs, pair, pair_list}
use Rattle.core_typing.specs.Seen.{named_pairs}
use Rattle.match_cover.specs.View.{part_view}
use Rattle.match_cover.specs.declared.seen.Part.{Part}

pub named_listed : (ps : Prs) → pair_list ps ≡ named_pairs ps
named_listed no_pairs = refl
named_listed (pair n v ps) = ap (λ qs. (n, v) ∷ qs) (named_listed ps)

pub one_less : {X : Type 0} (l : List X) (i : ℕ) (x : X) → slice_get l i ≡ Some x → drop i l ≡ x ∷ drop (i + 1) l
one_less l i x h = drop_more l i x (slice_get_within l i x h) ∙ ap (λ y. y ∷ drop (i + 1) l) (get_or_from_slice_get l i x x h)

pub pairs_on : (parts more : List Part) (p : Part) (l all : List (Cn × Cn)) (i : ℕ) (q : Cn × Cn)
    → slice_get l i ≡ Some q → part_view p ≡ q → more ≡ parts ++ p ∷ []
    → map part_view parts ++ drop i l ≡ all → map part_view more ++ drop (i + 1) l ≡ all
pairs_on parts more p l all i q h v e before =
    ap (λ xs. map part_view xs ++ drop (i + 1) l) e
    ∙ ap (λ ys. ys ++ drop (i + 1) l) (map-append part_view parts (p ∷ []))
    ∙ append_assoc (map part_view parts) (part_view p ∷ []) (drop (i + 1) l)
    ∙ ap (λ y. map part_view parts ++ y ∷ drop (i + 1) l) v
    ∙ ap (λ ys. map part_view parts ++ ys) (sym (one_less l i q h))
    ∙ before
