-- The first shapes of a type and of fields, step by step.
use Rattle.std.proofs.Common.{◌≡◌, ℕ, zero, suc, ◌+◌, ◌<◌, List, [], ◌∷◌, Option, Some, None, map, drop, get_or, length, ap, sym, ◌∙◌, arith}
use Rattle.std.proofs.lemmas.List.{drop_more, drop-map}
use Rattle.con_terms.specs.Trees.{Cn}
use Rattle.con_terms.specs.View.{con_tree}
use Rattle.core_terms.specs.Trees.{Dt}
use Rattle.core_typing.specs.Cover.{Shp}
use Rattle.core_typing.specs.Scopes.{normal_of}
use Rattle.core_typing.specs.Seen.{Seen, seen}
use Rattle.match_cover.specs.Misses.{First, no_shape, unknown_first, Firsts, no_shapes, the_firsts, unknown_firsts, first_before, first_fields, first_seen, first_shape}
use Rattle.match_cover.specs.View.{part_view}
use Rattle.match_cover.specs.declared.seen.Part.{Part}

pub first_on : (ds : List Dt) (d e : ℕ) (t n : Cn) (w : Seen) → d ≡ e + 1 → Some n ≡ normal_of t → w ≡ seen ds n → first_seen (first_shape ds e) w ≡ first_shape ds d t
first_on ds d e t n w k h is =
    let more : suc e ≡ d = omega (arith, k) in
    ap (first_seen (first_shape ds e)) is
    ∙ ap (λ (o : Option Cn). elim o [ None ↦ unknown_first | Some m ↦ first_seen (first_shape ds e) (seen ds m) ]) h
    ∙ ap (λ n. first_shape ds n t) more

none_before : (f : Cn → First) (fs : List (Cn × Cn)) (i : ℕ) → first_fields f (drop i fs) ≡ no_shapes → first_fields f fs ≡ no_shapes
none_before f fs zero h = h
none_before f [] (suc i) h = h
none_before f (x ∷ fs) (suc i) h =
    ap (λ (o : Firsts). elim o [ no_shapes ↦ no_shapes | the_firsts ss ↦ first_before (f x.1) ss | unknown_firsts ↦ unknown_firsts ]) (none_before f fs i h)

pub fields_none : (f : Cn → First) (fs : List Part) (i j : ℕ) (x : Part) (ss : List Shp) → j ≡ i + 1 → i < length fs → x ≡ get_or fs i x
    → no_shape ≡ f (con_tree x.con)
    → the_firsts ss ≡ first_fields f (map part_view (drop j fs))
    → no_shapes ≡ first_fields f (map part_view fs)
fields_none f fs i j x ss k h is none before =
    let one : first_fields f (map part_view (drop i fs)) ≡ no_shapes =
    ap (λ gs. first_fields f (map part_view gs)) (drop_more fs i x h)
    ∙ ap (λ g. first_fields f (part_view g ∷ map part_view (drop (i + 1) fs))) (sym is)
    ∙ ap (λ n. first_fields f (part_view x ∷ map part_view (drop n fs))) (sym k)
    ∙ ap (λ (o : Firsts). elim o [ no_shapes ↦ no_shapes | the_firsts rs ↦ first_before (f (con_tree x.con)) rs | unknown_firsts ↦ unknown_firsts ]) (sym before)
    ∙ ap (λ o. first_before o ss) (sym none) in
    sym (none_before f (map part_view fs) i (ap (first_fields f) (drop-map part_view i fs) ∙ one))
