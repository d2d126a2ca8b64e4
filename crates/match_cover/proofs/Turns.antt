-- What columns, constructors and literals tell, step by step.
use Rattle.std.proofs.Common.{◌≡◌, ℕ, suc, ◌+◌, ◌-◌, ◌<◌, Bool, true, false, List, [], ◌∷◌, ◌++◌, Option, Some, None, map, drop, get_or, length, if◌then◌else◌, ap, sym, ◌∙◌, arith}
use Rattle.std.proofs.lemmas.List.{drop_more}
use Rattle.con_terms.specs.Trees.{Cn}
use Rattle.core_terms.specs.Trees.{Cd, Dt}
use Rattle.core_terms.specs.Datatypes.{held_at}
use Rattle.core_terms.specs.View.{constructor_view}
use Rattle.core_terms.specs.declared.decl.Constructor.{Constructor}
use Rattle.core_typing.specs.Cover.{Shp, bare_shape}
use Rattle.core_typing.specs.Scopes.{normal_of}
use Rattle.core_typing.specs.Seen.{Seen, seen}
use Rattle.type_faults.specs.View.{shape_tree}
use Rattle.type_faults.specs.declared.fault.Shape.{Shape}
use Rattle.match_cover.specs.Rows.{Row, one_is_free, heads_are_free, kept, tails}
use Rattle.match_cover.specs.Misses.{Column, Out, covered, no_room, First, no_shape, the_first, then_shape, prepended, tried, tried_first, nth_literal, literals, literal_count, Ask, held_cases, built_cases, by_seen, split, at_columns, misses}
use Rattle.match_cover.proofs.Fronts.{pushed_on}
use Rattle.match_cover.proofs.OverLiterals.{literals_on}

-- by the first shape
pub held_none : (k : List Row → Out) (f : Shp → Shp) (o : First) (rows : List Row) (none more : Out) → no_shape ≡ o → none ≡ tried_first k o f rows none more
held_none k f o rows none more e = ap (λ p. tried_first k p f rows none more) e

pub held_free : (k : List Row → Out) (f : Shp → Shp) (o : First) (h s : Shp) (rows with' : List Row) (none more out : Out) (b : Bool) → the_first h ≡ o → s ≡ f h → with' ≡ kept s rows
    → b ≡ heads_are_free with' → b ≡ true → out ≡ then_shape s (k (tails with')) → out ≡ tried_first k o f rows none more
held_free k f o h s rows with' none more out b e is left free holds told =
    let told_of : out ≡ then_shape (f h) (k (tails (kept (f h) rows))) =
    told ∙ ap (λ w. then_shape s (k (tails w))) left ∙ ap (λ x. then_shape x (k (tails (kept x rows)))) is in
    let heads : heads_are_free (kept (f h) rows) ≡ true = ap (λ x. heads_are_free (kept x rows)) (sym is) ∙ ap heads_are_free (sym left) ∙ sym free ∙ holds in
    told_of
    ∙ ap (λ b. if b then then_shape (f h) (k (tails (kept (f h) rows))) else more) (sym heads)
    ∙ ap (λ p. tried_first k p f rows none more) e

pub held_more : (k : List Row → Out) (f : Shp → Shp) (o : First) (h s : Shp) (rows with' : List Row) (none more : Out) (b : Bool) → the_first h ≡ o → s ≡ f h → with' ≡ kept s rows
    → b ≡ heads_are_free with' → b ≡ false → more ≡ tried_first k o f rows none more
held_more k f o h s rows with' none more b e is left free fails =
    let heads : heads_are_free (kept (f h) rows) ≡ false = ap (λ x. heads_are_free (kept x rows)) (sym is) ∙ ap heads_are_free (sym left) ∙ sym free ∙ fails in
    ap (λ b. if b then then_shape (f h) (k (tails (kept (f h) rows))) else more) (sym heads)
    ∙ ap (λ p. tried_first k p f rows none more) e

-- turns
pub turn_free : (ds : List Dt) (r : ℕ) (cols : List Column) (rows : List Row) → one_is_free rows ≡ true → covered ≡ misses ds (suc r) cols rows
turn_free ds r cols rows h = ap (λ b. if b then covered else at_columns ds (misses ds r) cols rows) (sym h)

pub turn_on : (ds : List Dt) (r : ℕ) (cols : List Column) (rows : List Row) (o : Out) → one_is_free rows ≡ false → o ≡ at_columns ds (misses ds r) cols rows → o ≡ misses ds (suc r) cols rows
turn_on ds r cols rows o h e = e ∙ ap (λ b. if b then covered else at_columns ds (misses ds r) cols rows) (sym h)

pub ends_on : (ds : List Dt) (ss : List Shp) (room less : ℕ) (cols : List Column) (rows : List Row) (x o : Out) → room ≡ less + 1 → x ≡ misses ds (suc less) cols rows
    → prepended ss (misses ds room cols rows) ≡ o → prepended ss x ≡ o
ends_on ds ss room less cols rows x o k e before =
    let more : suc less ≡ room = omega (arith, k) in
    ap (prepended ss) e ∙ ap (λ n. prepended ss (misses ds n cols rows)) more ∙ before

pub goes_on : (ds : List Dt) (shapes more : List Shape) (s : Shape) (room less : ℕ) (cols rest : List Column) (rows behind : List Row) (o : Out) → room ≡ less + 1 → more ≡ shapes ++ s ∷ []
    → then_shape (shape_tree s) (misses ds less rest behind) ≡ misses ds (suc less) cols rows
    → prepended (map shape_tree shapes) (misses ds room cols rows) ≡ o → prepended (map shape_tree more) (misses ds less rest behind) ≡ o
goes_on ds shapes more s room less cols rest rows behind o k e told before =
    pushed_on shapes more s (misses ds less rest behind) o e (ends_on ds (map shape_tree shapes) room less cols rows (then_shape (shape_tree s) (misses ds less rest behind)) o k told before)

-- what a type tells
pub split_on : (ds : List Dt) (k : Ask) (d e : ℕ) (t n : Cn) (w : Seen) (rest : List Column) (rows : List Row) → d ≡ e + 1 → Some n ≡ normal_of t → w ≡ seen ds n
    → by_seen ds k e rest rows w ≡ split ds k (d, t) rest rows
split_on ds k d e t n w rest rows less h is =
    let more : suc e ≡ d = omega (arith, less) in
    ap (by_seen ds k e rest rows) is
    ∙ ap (λ (o : Option Cn). elim o [ None ↦ no_room | Some m ↦ by_seen ds k e rest rows (seen ds m) ]) h
    ∙ ap (λ n. split ds k (n, t) rest rows) more

-- constructors
pub bare_case : (ds : List Dt) (k : Ask) (d s : ℕ) (args : List Cn) (rest : List Column) (rows : List Row) (p : Cd) (cs : List Cd) (j : ℕ) (x : Shp) → x ≡ bare_shape s j → p.holds ≡ None
    → tried (k rest) x rows (built_cases ds k d s args rest rows cs (suc j)) ≡ built_cases ds k d s args rest rows (p ∷ cs) j
bare_case ds k d s args rest rows p cs j x e h =
    ap (λ y. tried (k rest) y rows (built_cases ds k d s args rest rows cs (suc j))) e
    ∙ ap (λ (o : Option Cn). elim o [
      | None ↦ tried (k rest) (bare_shape s j) rows (built_cases ds k d s args rest rows cs (suc j))
      | Some y ↦ held_cases ds k d s j (held_at args y) rest rows (built_cases ds k d s args rest rows cs (suc j))
    ]) (sym h)

pub cases_at : (f : List Cd → ℕ → Out) (cs : List Constructor) (j p : ℕ) (c : Constructor) (v : Out → Out) (o : Out) → j < length cs → c ≡ get_or cs j c → p ≡ j
    → ((ds : List Cd) → v (f ds (suc p)) ≡ f (constructor_view c ∷ ds) p)
    → f (map constructor_view (drop j cs)) j ≡ o
    → v (f (map constructor_view (drop (j + 1) cs)) (j + 1)) ≡ o
cases_at f cs j p c v o h is k told before =
    let next : j + 1 ≡ suc p = omega (arith, k) in
    ap (λ n. v (f (map constructor_view (drop (j + 1) cs)) n)) next
    ∙ told (map constructor_view (drop (j + 1) cs))
    ∙ ap (f (constructor_view c ∷ map constructor_view (drop (j + 1) cs))) k
    ∙ ap (λ x. f (constructor_view x ∷ map constructor_view (drop (j + 1) cs)) j) is
    ∙ ap (λ xs. f (map constructor_view xs) j) (sym (drop_more cs j c h))
    ∙ before

-- literals
pub literals_at : (k : List Row → Out) (words : Bool) (rows : List Row) (z : ℕ) (s : Shp) (v : Out → Out) (o : Out) → z < 16384 → s ≡ nth_literal words z
    → ((more : Out) → v more ≡ tried k s rows more)
    → literals k words rows (literal_count - z) z ≡ o
    → v (literals k words rows (literal_count - (z + 1)) (z + 1)) ≡ o
literals_at k words rows z s v o h is told before =
    told (literals k words rows (literal_count - (z + 1)) (z + 1))
    ∙ ap (λ x. tried k x rows (literals k words rows (literal_count - (z + 1)) (z + 1))) is
    ∙ sym (literals_on k words rows z h)
    ∙ before
