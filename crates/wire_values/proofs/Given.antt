-- The values of arguments, one after another.
use Rattle.std.proofs.Common.{◌≡◌, ℕ, ◌+◌, ◌<◌, ◌≤◌, List, [], ◌∷◌, ◌++◌, map, take, length, get_or, None, refl, ap, subst, sym, ◌∙◌}
use Rattle.std.proofs.lemmas.List.{take_more}
use Rattle.table_rows.specs.Shapes.{Sh, Shs, no_shapes, shape}
use Rattle.table_rows.specs.Wires.{Wr, Wrs, no_wires, wire}
use Rattle.table_rows.specs.View.{shapes_from, wires_from, shape_tree, wire_tree, arguments_tree, wires_tree}
use Rattle.table_rows.specs.declared.shape.Shape.{Shape}
use Rattle.table_rows.specs.declared.shape.Arguments.{Arguments}
use Rattle.table_rows.specs.declared.shape.Shape.TheViews.{out-Arguments}
use Rattle.table_rows.specs.declared.wire.Wire.{Wire}
use Rattle.table_rows.specs.declared.wire.Wires.{Wires}
use Rattle.table_rows.specs.declared.wire.Wire.TheViews.{out-Wires}
use Rattle.table_rows.proofs.Lists.{wires_tree_is}
use Rattle.link_router.proofs.Closing.{arguments_are}
use Rattle.value_trees.specs.Values.{V}
use Rattle.run_values.specs.View.{value_tree}
use Rattle.run_values.specs.declared.value.Value.{Value}
use Rattle.run_values.proofs.Lists.{map_and, all_taken}
use Rattle.core_meaning.specs.Wired.{Known, HasValue, AreGiven, no_more, one_more}

abbrev shapes_behind : Shs → Sh → Shs
shapes_behind no_shapes s = shape s no_shapes
shapes_behind (shape u us) s = shape u (shapes_behind us s)

abbrev wires_behind : Wrs → Wr → Wrs
wires_behind no_wires w = wire w no_wires
wires_behind (wire u us) w = wire u (wires_behind us w)

shapes_more : (ss : List Sh) (s : Sh) → shapes_from (ss ++ s ∷ []) ≡ shapes_behind (shapes_from ss) s
shapes_more [] s = refl
shapes_more (u ∷ us) s = ap (shape u) (shapes_more us s)

wires_more : (ws : List Wr) (w : Wr) → wires_from (ws ++ w ∷ []) ≡ wires_behind (wires_from ws) w
wires_more [] w = refl
wires_more (u ∷ us) w = ap (wire u) (wires_more us w)

behind : {K : Known} {ss : Shs} {ws : Wrs} {vs : List V} {s : Sh} {w : Wr} {v : V} → AreGiven K ss None ws None vs → HasValue K s w v
    → AreGiven K (shapes_behind ss s) None (wires_behind ws w) None (vs ++ v ∷ [])
behind no_more h = one_more h no_more
behind (one_more g r) h = one_more g (behind r h)

-- one more
pub given_more : {K : Known} {vs : List V} {s : Sh} {w : Wr} {v : V} (ss : List Sh) (ws : List Wr) → AreGiven K (shapes_from ss) None (wires_from ws) None vs → HasValue K s w v
    → AreGiven K (shapes_from (ss ++ s ∷ [])) None (wires_from (ws ++ w ∷ [])) None (vs ++ v ∷ [])
given_more {K} {vs} {s} {w} {v} ss ws g h =
    subst (λ x. AreGiven K x None (wires_from (ws ++ w ∷ [])) None (vs ++ v ∷ [])) (sym (shapes_more ss s))
    (subst (λ x. AreGiven K (shapes_behind (shapes_from ss) s) None x None (vs ++ v ∷ [])) (sym (wires_more ws w)) (behind g h))

pub given_as : {K : Known} {ss ts : Shs} {ws us : Wrs} {vs xs : List V} → ss ≡ ts → ws ≡ us → vs ≡ xs → AreGiven K ts None us None xs → AreGiven K ss None ws None vs
given_as {K} {ss} {ts} {ws} {us} {vs} {xs} e f h g =
    subst (λ x. AreGiven K x None ws None vs) (sym e) (subst (λ x. AreGiven K ts None x None vs) (sym f) (subst (λ x. AreGiven K ts None us None x) (sym h) g))

-- one more of the lists
taken_more : {X Y : Type 0} (f : X → Y) (xs : List X) (i : ℕ) (x : X) → i < length xs → x ≡ get_or xs i x → map f (take (i + 1) xs) ≡ map f (take i xs) ++ f x ∷ []
taken_more f xs i x h e = ap (map f) (take_more xs i x h ∙ ap (λ z. take i xs ++ z ∷ []) (sym e)) ∙ map_and f (take i xs) (x ∷ [])

pub given_next : {K : Known} (ss : List Shape) (ws : List Wire) (vs new : List Value) (i : ℕ) (s : Shape) (w : Wire) (v : Value) → i < length ss → s ≡ get_or ss i s → i < length ws → w ≡ get_or ws i w
    → AreGiven K (shapes_from (map shape_tree (take i ss))) None (wires_from (map wire_tree (take i ws))) None (map value_tree vs)
    → HasValue K (shape_tree s) (wire_tree w) (value_tree v) → new ≡ vs ++ v ∷ []
    → AreGiven K (shapes_from (map shape_tree (take (i + 1) ss))) None (wires_from (map wire_tree (take (i + 1) ws))) None (map value_tree new)
given_next ss ws vs new i s w v h e k d g r f =
    given_as (ap shapes_from (taken_more shape_tree ss i s h e)) (ap wires_from (taken_more wire_tree ws i w k d)) (ap (map value_tree) f ∙ map_and value_tree vs (v ∷ []))
    (given_more (map shape_tree (take i ss)) (map wire_tree (take i ws)) g r)

-- all of them
pub given_all : {K : Known} {vs : List V} (ss : Arguments) (ws : Wires) (i : ℕ) → length (out-Arguments ss).items.items ≤ i → length (out-Wires ws).items.items ≤ i
    → AreGiven K (shapes_from (map shape_tree (take i (out-Arguments ss).items.items))) None (wires_from (map wire_tree (take i (out-Wires ws).items.items))) None vs
    → AreGiven K (arguments_tree ss) None (wires_tree ws) None vs
given_all ss ws i h k g =
    given_as (arguments_are ss ∙ ap (λ (xs : List Shape). shapes_from (map shape_tree xs)) (sym (all_taken (out-Arguments ss).items.items i h)))
    (wires_tree_is ws ∙ ap (λ (xs : List Wire). wires_from (map wire_tree xs)) (sym (all_taken (out-Wires ws).items.items i k))) refl g

-- none of them
none_taken : {X : Type 0} (xs : List X) → take 0 xs ≡ []
none_taken [] = refl
none_taken (x ∷ xs) = refl

pub given_none : {K : Known} (ss : List Shape) (ws : List Wire) (vs : List Value) → vs ≡ []
    → AreGiven K (shapes_from (map shape_tree (take 0 ss))) None (wires_from (map wire_tree (take 0 ws))) None (map value_tree vs)
given_none ss ws vs e =
    given_as (ap (λ (xs : List Shape). shapes_from (map shape_tree xs)) (none_taken ss)) (ap (λ (xs : List Wire). wires_from (map wire_tree xs)) (none_taken ws)) (ap (map value_tree) e) no_more
