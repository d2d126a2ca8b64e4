-- Patterns that are asked of a type, one after another.
use Rattle.std.proofs.Common.{◌≡◌, ℕ, ◌+◌, ◌<◌, max, List, [], ◌∷◌, ◌++◌, length, map, take, get_or, Global, refl, ap, sym, subst, ◌∙◌, arith}
use Rattle.std.proofs.lemmas.List.{map_more, map-append}
use Rattle.std.specs.declared.rc.Rc.{Rc}
use Rattle.core_terms.specs.Trees.{Pt}
use Rattle.core_terms.specs.View.{pat_tree}
use Rattle.core_terms.specs.declared.pat.Pat.{Pat}
use Rattle.core_typing.specs.Cover.{pattern_depth, patterns_depth}
use Rattle.match_cover.specs.Tests.{test_of}
use Rattle.match_cover.specs.Rows.{Row}
use Rattle.match_cover.specs.Laws.{rows_of, Asks}
use Rattle.match_cover.specs.View.{row_view, row_list}
use Rattle.match_cover.specs.declared.rows.Row as held

rows_end : (ps : List Pt) (p : Pt) → rows_of (ps ++ p ∷ []) ≡ rows_of ps ++ ((test_of p ∷ []) ∷ []) ∷ []
rows_end [] p = refl
rows_end (q ∷ ps) p = ap (λ rs. ((test_of q ∷ []) ∷ []) ∷ rs) (rows_end ps p)

max_end : (a b c : ℕ) → max a (max b c) ≡ max (max a b) c
max_end a b c = omega arith

max_first : (a : ℕ) → max a 0 ≡ max 0 a
max_first a = omega arith

depth_end : (ps : List Pt) (p : Pt) → patterns_depth (ps ++ p ∷ []) ≡ max (patterns_depth ps) (pattern_depth p)
depth_end [] p = max_first (pattern_depth p)
depth_end (q ∷ ps) p = ap (max (pattern_depth q)) (depth_end ps p) ∙ max_end (pattern_depth q) (patterns_depth ps) (pattern_depth p)

pub asks_more : (ps : List Pt) (p : Pt) (rows more : List Row) (d e : ℕ) → Asks ps rows d → more ≡ rows ++ ((test_of p ∷ []) ∷ []) ∷ [] → e ≡ max d (pattern_depth p) → Asks (ps ++ p ∷ []) more e
asks_more ps p rows more d e a h k = (h ∙ ap (λ rs. rs ++ ((test_of p ∷ []) ∷ []) ∷ []) a.0 ∙ sym (rows_end ps p), k ∙ ap (λ n. max n (pattern_depth p)) a.1 ∙ sym (depth_end ps p))

-- a row that is pushed behind others
pub asks_pushed : (ps : List Pt) (p : Pt) (rs more : List (Rc held.Row Global)) (r : Rc held.Row Global) (d e : ℕ) → more ≡ rs ++ r ∷ [] → row_view r.value ≡ (test_of p ∷ []) ∷ []
    → e ≡ max d (pattern_depth p) → Asks ps (row_list rs) d → Asks (ps ++ p ∷ []) (row_list more) e
asks_pushed ps p rs more r d e h is k a =
    asks_more ps p (row_list rs) (row_list more) d e a
    (ap row_list h ∙ map-append (λ (x : Rc held.Row Global). row_view x.value) rs (r ∷ []) ∙ ap (λ x. row_list rs ++ x ∷ []) is) k

pub asks_on : (xs : List Pat) (i : ℕ) (x : Pat) (rows more : List Row) (d e : ℕ) → i < length xs → x ≡ get_or xs i x
    → Asks (map pat_tree (take i xs)) rows d → ((ps : List Pt) → Asks ps rows d → Asks (ps ++ pat_tree x ∷ []) more e) → Asks (map pat_tree (take (i + 1) xs)) more e
asks_on xs i x rows more d e h is a go =
    subst (λ (ps : List Pt). Asks ps more e)
    (sym (map_more pat_tree xs i x h ∙ ap (λ y. map pat_tree (take i xs) ++ pat_tree y ∷ []) (sym is)))
    (go (map pat_tree (take i xs)) a)
