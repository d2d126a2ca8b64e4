-- Wires and values by their form.
use Rattle.std.proofs.Common.{◌≡◌, ℕ, ℤ, List, [], Some, None, Box, Global, Bor, codes, ap, sym, subst, ◌∙◌}
use Rattle.con_terms.specs.Trees.{Kd, Cn, Prs}
use Rattle.con_terms.specs.declared.symbol.Sym.{Sym}
use Rattle.table_rows.specs.Shapes.{an_int, a_text, a_unit, a_truth}
use Rattle.table_rows.specs.Wires.{Wr, int, words, unit, rec_of, bare, tagged, Wrs}
use Rattle.table_rows.specs.View.{wire_tree, wires_tree, wire_step, wires_step}
use Rattle.table_rows.specs.declared.wire.Wire.{Wire}
use Rattle.table_rows.specs.declared.wire.Wires.{Wires}
use Rattle.table_rows.specs.declared.wire.Wire.TheOpen.{Wire-F}
use Rattle.table_rows.specs.declared.wire.Wire.TheViews as wires
use Rattle.table_rows.specs.declared.wire.Wire.TheVariants as wire
use Rattle.table_rows.specs.declared.wire.Wire.TheFolds.{fold-roll-Wire}
use Rattle.core_terms.specs.Names.{bool_name}
use Rattle.value_trees.specs.Values.{V, of_number, of_text, of_fields, of_bare, of_holding, Vs, Act, Ev}
use Rattle.core_meaning.specs.Wired.{Known, HasValue, int_is, text_is, unit_is, false_is, true_is}
use Rattle.run_values.specs.View.{value_tree, slot_tree, slots_tree, constr_step, env_step, act_step, held_step, value_step, folder_row_step, slot_step}
use Rattle.run_values.specs.declared.value.Value.{Value}
use Rattle.run_values.specs.declared.value.Slot.{Slot}
use Rattle.run_values.specs.declared.entry.Constr.TheOpen.{Value-F, Slot-F}
use Rattle.run_values.specs.declared.entry.Constr.TheViews as values
use Rattle.run_values.specs.declared.entry.Constr.TheFolds.{fold-roll-Value, fold-roll-Slot}

-- wires
int_wire : (w : Wire) (z : ℤ) → w ≡ wire.Int z → wire_tree w ≡ int z
int_wire w z e = ap wire_tree (e ∙ sym (wires.rolls-Int z)) ∙ fold-roll-Wire Wr Wrs wire_step wires_step (Wire-F.Int z)

words_wire : (w : Wire) (t : List ℕ) → w ≡ wire.Words t → wire_tree w ≡ words t
words_wire w t e = ap wire_tree (e ∙ sym (wires.rolls-Words t)) ∙ fold-roll-Wire Wr Wrs wire_step wires_step (Wire-F.Words t)

unit_wire : (w : Wire) → w ≡ wire.Unit → wire_tree w ≡ unit
unit_wire w e = ap wire_tree (e ∙ sym wires.rolls-Unit) ∙ fold-roll-Wire Wr Wrs wire_step wires_step Wire-F.Unit

pub record_wire : (w : Wire) (ws : Wires) → w ≡ wire.Rec ws → wire_tree w ≡ rec_of (wires_tree ws)
record_wire w ws e = ap wire_tree (e ∙ sym (wires.rolls-Rec ws)) ∙ fold-roll-Wire Wr Wrs wire_step wires_step (Wire-F.Rec ws)

pub bare_wire : (w : Wire) (n : List ℕ) → w ≡ wire.Tagged n None → wire_tree w ≡ bare n
bare_wire w n e = ap wire_tree (e ∙ sym (wires.rolls-Tagged n None)) ∙ fold-roll-Wire Wr Wrs wire_step wires_step (Wire-F.Tagged n None)

pub tagged_wire : (w : Wire) (n : List ℕ) (b : Box Wire Global) → w ≡ wire.Tagged n (Some b) → wire_tree w ≡ tagged n (wire_tree b.value)
tagged_wire w n b e = ap wire_tree (e ∙ sym (wires.rolls-Tagged n (Some b))) ∙ fold-roll-Wire Wr Wrs wire_step wires_step (Wire-F.Tagged n (Some b))

-- values
int_value : (z : ℤ) → value_tree (Value.Int z) ≡ of_number z
int_value z = ap value_tree (sym (values.rolls-Int z)) ∙ fold-roll-Value Cn Ev Act Vs V (Kd × Prs) (ℕ × V) constr_step env_step act_step held_step value_step folder_row_step slot_step (Value-F.Int z)

words_value : (t : Bor (List ℕ)) → value_tree (Value.Words t) ≡ of_text t.now
words_value t = ap value_tree (sym (values.rolls-Words t)) ∙ fold-roll-Value Cn Ev Act Vs V (Kd × Prs) (ℕ × V) constr_step env_step act_step held_step value_step folder_row_step slot_step (Value-F.Words t)

pub fields_value : (ss : Bor (List Slot)) → value_tree (values.Fields ss) ≡ of_fields (slots_tree ss.now)
fields_value ss = ap value_tree (sym (values.rolls-Fields ss)) ∙ fold-roll-Value Cn Ev Act Vs V (Kd × Prs) (ℕ × V) constr_step env_step act_step held_step value_step folder_row_step slot_step (Value-F.Fields ss)

pub bare_value : (s : Sym) (j : ℕ) → value_tree (Value.Bare s j) ≡ of_bare s.number j
bare_value s j = ap value_tree (sym (values.rolls-Bare s j)) ∙ fold-roll-Value Cn Ev Act Vs V (Kd × Prs) (ℕ × V) constr_step env_step act_step held_step value_step folder_row_step slot_step (Value-F.Bare s j)

pub holding_value : (s : Sym) (j : ℕ) (h : Bor Value) → value_tree (values.Holding s j h) ≡ of_holding s.number j (value_tree h.now)
holding_value s j h = ap value_tree (sym (values.rolls-Holding s j h)) ∙ fold-roll-Value Cn Ev Act Vs V (Kd × Prs) (ℕ × V) constr_step env_step act_step held_step value_step folder_row_step slot_step (Value-F.Holding s j h)

-- a field
pub slot_made : (r : Slot-F _ _ _ _ Value _ _) → slot_tree (values.roll-Slot r) ≡ (r.name.number, value_tree r.value)
slot_made r = fold-roll-Slot Cn Ev Act Vs V (Kd × Prs) (ℕ × V) constr_step env_step act_step held_step value_step folder_row_step slot_step r

-- the values of wires without parts
pub int_has : {K : Known} (w : Wire) (z y : ℤ) → w ≡ wire.Int z → y ≡ z → HasValue K an_int (wire_tree w) (value_tree (Value.Int y))
int_has {K} w z y e f = subst (λ x. HasValue K an_int x (value_tree (Value.Int y))) (sym (int_wire w z e)) (subst (λ v. HasValue K an_int (int z) v) (sym (int_value y ∙ ap of_number f)) int_is)

pub words_has : {K : Known} (w : Wire) (t : List ℕ) (u : Bor (List ℕ)) → w ≡ wire.Words t → u.now ≡ t → HasValue K a_text (wire_tree w) (value_tree (Value.Words u))
words_has {K} w t u e f = subst (λ x. HasValue K a_text x (value_tree (Value.Words u))) (sym (words_wire w t e)) (subst (λ v. HasValue K a_text (words t) v) (sym (words_value u ∙ ap of_text f)) text_is)

pub unit_has : {K : Known} (w : Wire) (ss : Bor (List Slot)) → w ≡ wire.Unit → ss.now ≡ [] → HasValue K a_unit (wire_tree w) (value_tree (values.Fields ss))
unit_has {K} w ss e f = subst (λ x. HasValue K a_unit x (value_tree (values.Fields ss))) (sym (unit_wire w e)) (subst (λ v. HasValue K a_unit unit v) (sym (fields_value ss ∙ ap (λ xs. of_fields (slots_tree xs)) f)) unit_is)

pub truth_has : {K : Known} (w : Wire) (n : List ℕ) (v : V) → w ≡ wire.Tagged n None → HasValue K a_truth (bare n) v → HasValue K a_truth (wire_tree w) v
truth_has {K} w n v e h = subst (λ x. HasValue K a_truth x v) (sym (bare_wire w n e)) h

pub true_has : {K : Known} (n : List ℕ) (s : Sym) → s.number ≡ bool_name → n ≡ codes "True" → HasValue K a_truth (bare n) (value_tree (Value.Bare s 1))
true_has {K} n s e h = subst (λ v. HasValue K a_truth (bare n) v) (sym (bare_value s 1 ∙ ap (λ x. of_bare x 1) e)) (true_is h)

pub false_has : {K : Known} (n : List ℕ) (s : Sym) → s.number ≡ bool_name → n ≡ codes "False" → HasValue K a_truth (bare n) (value_tree (Value.Bare s 0))
false_has {K} n s e h = subst (λ v. HasValue K a_truth (bare n) v) (sym (bare_value s 0 ∙ ap (λ x. of_bare x 0) e)) (false_is h)
