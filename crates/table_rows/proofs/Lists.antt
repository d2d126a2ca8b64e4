-- The trees of lists of values.
use Rattle.std.proofs.Common.{◌≡◌, ℕ, zero, suc, ◌<◌, List, [], ◌∷◌, ◌++◌, length, map, get_or, Some, slice_get, refl, ap, arith, ◌∙◌, sym, Box, Global}
use Rattle.std.proofs.lemmas.List.{map-append}
use Rattle.table_rows.specs.Wires.{Wr, Wrs, wire, wire_list, tagged}
use Rattle.table_rows.specs.View.{wire_tree, wires_tree, wires_from, wire_step, wires_step}
use Rattle.table_rows.specs.declared.wire.Wire.{Wire}
use Rattle.table_rows.specs.declared.wire.Wires.{Wires}
use Rattle.table_rows.specs.declared.wire.Wire.TheOpen.{Wire-F, Wires-F}
use Rattle.table_rows.specs.declared.wire.Wire.TheViews.{out-Wires, roll-Wires, roll-Wire, Tagged, rolls-Tagged}
use Rattle.table_rows.specs.declared.wire.Wire.TheFolds.{fold_out-Wires, fold-roll-Wires, fold-roll-Wire}

pub wires_tree_is : (ws : Wires) → wires_tree ws ≡ wires_from (map wire_tree (out-Wires ws).items.items)
wires_tree_is ws = fold_out-Wires Wr Wrs wire_step wires_step ws

pub wires_tree-roll : (r : Wires-F Wire Wires) → wires_tree (roll-Wires r) ≡ wires_from (map wire_tree r.items.items)
wires_tree-roll r = fold-roll-Wires Wr Wrs wire_step wires_step r

-- a list's tree has the list's elements
pub wire_list_from : (ws : List Wr) → wire_list (wires_from ws) ≡ ws
wire_list_from [] = refl
wire_list_from (w ∷ ws) = ap (λ vs. w ∷ vs) (wire_list_from ws)

-- what a list of values is seen as, and what a push makes of it
pub wires_listed : (ws : Wires) → wire_list (wires_tree ws) ≡ map wire_tree (out-Wires ws).items.items
wires_listed ws = ap wire_list (wires_tree_is ws) ∙ wire_list_from (map wire_tree (out-Wires ws).items.items)

pub wires_pushed : (ws vs : Wires) (w : Wire) → (out-Wires vs).items.items ≡ (out-Wires ws).items.items ++ w ∷ [] → wire_list (wires_tree vs) ≡ wire_list (wires_tree ws) ++ wire_tree w ∷ []
wires_pushed ws vs w e = wires_listed vs ∙ ap (map wire_tree) e ∙ map-append wire_tree (out-Wires ws).items.items (w ∷ []) ∙ ap (λ l. l ++ wire_tree w ∷ []) (sym (wires_listed ws))

pub wires_same : (ws vs : Wires) → (out-Wires vs).items.items ≡ (out-Wires ws).items.items → wire_list (wires_tree vs) ≡ wire_list (wires_tree ws)
wires_same ws vs e = wires_listed vs ∙ ap (map wire_tree) e ∙ sym (wires_listed ws)

-- the value at a place
got_at : (ws : List Wire) (i : ℕ) (d : Wire) → i < length ws → slice_get (map wire_tree ws) i ≡ Some (wire_tree (get_or ws i d))
got_at [] i d h = absurd (omega arith)
got_at (w ∷ ws) zero d h = refl
got_at (w ∷ ws) (suc i) d h = got_at ws i d (omega arith)

pub wire_at : (ws : Wires) (x : Wire) (i : ℕ) → x ≡ get_or (out-Wires ws).items.items i x → i < length (out-Wires ws).items.items → slice_get (wire_list (wires_tree ws)) i ≡ Some (wire_tree x)
wire_at ws x i e h = ap (λ l. slice_get l i) (wires_listed ws) ∙ got_at (out-Wires ws).items.items i x h ∙ ap (λ w. Some (wire_tree w)) (sym e)

-- a constructor's name with what it holds
pub tagged_tree : (n : List ℕ) (b : Box Wire Global) → wire_tree (Tagged n (Some b)) ≡ tagged n (wire_tree b.value)
tagged_tree n b = ap wire_tree (sym (rolls-Tagged n (Some b))) ∙ fold-roll-Wire Wr Wrs wire_step wires_step (Wire-F.Tagged n (Some b))

pub tagged_same : (n m : List ℕ) (b d : Box Wire Global) → n ≡ m → wire_tree b.value ≡ wire_tree d.value → wire_tree (Tagged n (Some b)) ≡ wire_tree (Tagged m (Some d))
tagged_same n m b d e f = tagged_tree n b ∙ ap (λ k. tagged k (wire_tree b.value)) e ∙ ap (tagged m) f ∙ sym (tagged_tree m d)
