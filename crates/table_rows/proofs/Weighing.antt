-- What the parts of a value weigh.
use Rattle.std.proofs.Common.{◌≡◌, ℕ, ◌+◌, ◌<◌, ◌≤◌, List, [], ◌∷◌, ◌++◌, map, Option, Some, None, IfSome, Vec, refl, ap, sym, ◌∙◌, Box, Global, arith}
use Rattle.std.proofs.lemmas.List.{map-append}
use Rattle.table_rows.specs.Wires.{Wr, int, words, unit, rec_of, bare, tagged, Wrs, no_wires, wire}
use Rattle.table_rows.specs.View.{wire_tree, wires_tree, wires_from, wire_step, wires_step}
use Rattle.table_rows.specs.Weights.{weight, all_weights, weights, around_weight}
use Rattle.table_rows.specs.declared.wire.Wire.{Wire}
use Rattle.table_rows.specs.declared.wire.Wires.{Wires}
use Rattle.table_rows.specs.declared.wire.Wire.TheOpen.{Wire-F, Wires-F}
use Rattle.table_rows.specs.declared.wire.Wire.TheViews.{out-Wires, roll-Wires, Tagged, Rec, rolls-Rec}
use Rattle.table_rows.specs.declared.wire.Wire.TheFolds.{fold-roll-Wire}
use Rattle.table_rows.proofs.Lists.{wires_tree_is, wires_tree-roll, tagged_tree}

pub weighs : (w : Wr) → 1 ≤ weight w
weighs (int z) = omega arith
weighs (words t) = omega arith
weighs unit = omega arith
weighs (rec_of ws) = omega arith
weighs (bare n) = omega arith
weighs (tagged n w) = omega arith

rec_tree : (ws : Wires) → wire_tree (Rec ws) ≡ rec_of (wires_tree ws)
rec_tree ws = ap wire_tree (sym (rolls-Rec ws)) ∙ fold-roll-Wire Wr Wrs wire_step wires_step (Wire-F.Rec ws)

pub rec_weight : (ws : Wires) → weight (wire_tree (Rec ws)) ≡ weights (map wire_tree (out-Wires ws).items.items) + 2
rec_weight ws = ap weight (rec_tree ws) ∙ ap (λ vs. all_weights vs + 2) (wires_tree_is ws)

pub tagged_weight : (n : List ℕ) (b : Box Wire Global) → weight (wire_tree (Tagged n (Some b))) ≡ weight (wire_tree b.value) + 2
tagged_weight n b = ap weight (tagged_tree n b)

pub weights_more : (ws : List Wr) (w : Wr) → weights (ws ++ w ∷ []) ≡ weights ws + weight w
weights_more [] w = omega arith
weights_more (v ∷ ws) w = omega (arith, weights_more ws w)

pub items_more : (vs ws : List Wire) (w : Wire) → vs ≡ ws ++ w ∷ [] → weights (map wire_tree vs) ≡ weights (map wire_tree ws) + weight (wire_tree w)
items_more vs ws w e = ap (λ xs. weights (map wire_tree xs)) e ∙ ap weights (map-append wire_tree ws (w ∷ [])) ∙ weights_more (map wire_tree ws) (wire_tree w)

-- a record that is made of fields
pub held_weight : (v : Vec Wire Global) → let r : Wires-F Wire Wires = record { items = v } in weight (wire_tree (Rec (roll-Wires r))) ≡ weights (map wire_tree v.items) + 2
held_weight v = let r : Wires-F Wire Wires = record { items = v } in ap weight (rec_tree (roll-Wires r)) ∙ ap (λ vs. all_weights vs + 2) (wires_tree-roll r)

-- what is taken out of a value weighs less
pub taken_weight : (o : Option (Vec Wire Global)) (w : Wr) → IfSome o (λ v. weights (map wire_tree v.items) + 2 ≤ weight w) → around_weight o + 1 ≤ weight w
taken_weight None w h = weighs w
taken_weight (Some v) w h = omega (arith, h)
