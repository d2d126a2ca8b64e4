-- The steps of a making, over what its parts stand for.
use Rattle.std.proofs.Common.{◌≡◌, ℕ, List, [], ◌∷◌, ◌++◌, map, length, Option, Some, None, slice_get, Box, Global, Bor, ap, sym, ◌∙◌}
use Rattle.std.proofs.lemmas.List.{nil_from_length as nothing_listed}
use Rattle.con_terms.specs.declared.symbol.Sym.{Sym}
use Rattle.table_rows.specs.Shapes.{Sh, a_record, a_data, Shs, no_parts, part, Cases, at_arguments, parts_at_arguments}
use Rattle.table_rows.specs.Wires.{rec_of}
use Rattle.table_rows.specs.View.{wire_tree, wires_from, parts_from, shape_tree, parts_tree, maybe_shape}
use Rattle.table_rows.specs.declared.shape.Shape.{Shape}
use Rattle.table_rows.specs.declared.shape.Part.{Part}
use Rattle.table_rows.specs.declared.shape.Parts.{Parts}
use Rattle.table_rows.specs.declared.shape.Shape.TheViews.{out-Part, out-Parts}
use Rattle.table_rows.specs.declared.wire.Wire.{Wire}
use Rattle.table_rows.specs.declared.wire.Wires.{Wires}
use Rattle.table_rows.specs.declared.wire.Wire.TheViews.{out-Wires}
use Rattle.table_rows.specs.declared.wire.Wire.TheVariants.{Rec, Tagged}
use Rattle.table_rows.proofs.Lists.{wires_tree_is}
use Rattle.link_router.specs.Scoped.{part_tree}
use Rattle.link_router.proofs.Closing.{parts_are, listed_first}
use Rattle.value_trees.specs.Values.{V, of_fields, of_bare, of_holding, no_slots, slot, slots_and}
use Rattle.core_meaning.specs.Wired.{Known, bare_is}
use Rattle.run_values.specs.View.{value_tree, slot_tree, slots_tree}
use Rattle.run_values.specs.declared.value.Value.{Value}
use Rattle.run_values.specs.declared.value.Slot.{Slot}
use Rattle.run_values.specs.declared.entry.Constr.TheViews as values
use Rattle.run_values.proofs.Fields.{slots_tree_and}
use Rattle.wire_values.specs.Amid.{Waiting, fields, holds, wants, fills, has, LeadsTo}
use Rattle.wire_values.specs.Known.{symbols_in}
use Rattle.wire_values.specs.Scoped.{scope_shapes, parts_in, frame_view}
use Rattle.wire_values.specs.declared.scoped.Closed.{Closed}
use Rattle.wire_values.specs.declared.frames.Filling.{Filling}
use Rattle.wire_values.specs.declared.frames.Frame.{Frame}
use Rattle.wire_values.specs.declared.frames.Frame.TheVariants.{Field, Held}
use Rattle.wire_values.proofs.Datatypes.{datatype_there}
use Rattle.wire_values.proofs.Forms.{record_wire, bare_wire, tagged_wire, fields_value, bare_value, holding_value}
use Rattle.wire_values.proofs.Moves.{leads_from, leads_to, value_comes, record_begins, record_done, field_begins, field_done, held_begins, held_done}

-- a record begins
pub record_starts : {K : Known} {ls : List Waiting} (scope : List Closed) (parts : Parts) (w : Wire) (ws : Wires) (made : List Slot) (xs : List Part) (ys : List Wire) → w ≡ Rec ws → made ≡ [] → xs ≡ (out-Parts parts).items.items → ys ≡ (out-Wires ws).items.items
    → LeadsTo K (wants ls (a_record (parts_at_arguments (scope_shapes scope) (parts_tree parts))) (wire_tree w)) (fills ls (slots_tree made) (parts_in xs scope) (wires_from (map wire_tree ys)))
record_starts {K} {ls} scope parts w ws made xs ys e f g h =
    let tree : parts_at_arguments (scope_shapes scope) (parts_tree parts) ≡ parts_in xs scope =
    ap (parts_at_arguments (scope_shapes scope)) (parts_are parts ∙ ap (λ (ps : List Part). parts_from (map part_tree ps)) (sym g)) in
    let wired : wire_tree w ≡ rec_of (wires_from (map wire_tree ys)) =
    record_wire w ws e ∙ ap rec_of (wires_tree_is ws ∙ ap (λ (vs : List Wire). wires_from (map wire_tree vs)) (sym h)) in
    leads_to (leads_from (ap (λ ps. wants ls (a_record ps) (wire_tree w)) tree ∙ ap (wants ls (a_record (parts_in xs scope))) wired) record_begins)
    (ap (λ (ss : List Slot). fills ls (slots_tree ss) (parts_in xs scope) (wires_from (map wire_tree ys))) (sym f))

-- and ends
pub record_ends : {K : Known} {ls : List Waiting} (made : List Slot) (xs : List Part) (scope : List Closed) (ys : List Wire) (ss : Bor (List Slot)) → length xs ≡ 0 → length ys ≡ 0 → ss.now ≡ made
    → LeadsTo K (fills ls (slots_tree made) (parts_in xs scope) (wires_from (map wire_tree ys))) (has ls (value_tree (values.Fields ss)))
record_ends {K} {ls} made xs scope ys ss e f g =
    leads_to (leads_from
    (ap (λ (ps : List Part). fills ls (slots_tree made) (parts_in ps scope) (wires_from (map wire_tree ys))) (nothing_listed xs e)
    ∙ ap (λ (ws : List Wire). fills ls (slots_tree made) no_parts (wires_from (map wire_tree ws))) (nothing_listed ys f)) record_done)
    (ap (has ls) (ap (λ (us : List Slot). of_fields (slots_tree us)) (sym g) ∙ sym (fields_value ss)))

-- the next field is wanted
pub field_starts : {K : Known} {ls ms : List Waiting} {t : Sh} (made : List Slot) (xs others : List Part) (x : Part) (scope : List Closed) (ys rest : List Wire) (y : Wire) (name : ℕ)
    → xs ≡ x ∷ others → ys ≡ y ∷ rest → slice_get K.names name ≡ Some (out-Part x).name → t ≡ at_arguments (scope_shapes scope) (shape_tree (out-Part x).shape)
    → ms ≡ fields (slots_tree made) name (parts_in others scope) (wires_from (map wire_tree rest)) ∷ ls
    → LeadsTo K (fills ls (slots_tree made) (parts_in xs scope) (wires_from (map wire_tree ys))) (wants ms t (wire_tree y))
field_starts {K} {ls} {ms} {t} made xs others x scope ys rest y name e f g h k =
    leads_to (leads_from
    (ap (λ ps. fills ls (slots_tree made) (parts_at_arguments (scope_shapes scope) ps) (wires_from (map wire_tree ys))) (listed_first xs x others e)
    ∙ ap (λ (ws : List Wire). fills ls (slots_tree made) (part (out-Part x).name (at_arguments (scope_shapes scope) (shape_tree (out-Part x).shape)) (parts_in others scope)) (wires_from (map wire_tree ws))) f)
    (field_begins g))
    (ap (λ ns. wants ns (at_arguments (scope_shapes scope) (shape_tree (out-Part x).shape)) (wire_tree y)) (sym k) ∙ ap (λ u. wants ms u (wire_tree y)) (sym h))

-- a field is there
slots_with : (made new : List Slot) (s : Slot) (x : ℕ) (v : V) → slot_tree s ≡ (x, v) → new ≡ made ++ s ∷ [] → slots_and (slots_tree made) (slot x v no_slots) ≡ slots_tree new
slots_with made new s x v e f = ap (λ (t : ℕ × V). slots_and (slots_tree made) (slot t.0 t.1 no_slots)) (sym e) ∙ sym (slots_tree_and made (s ∷ [])) ∙ ap slots_tree (sym f)

pub field_handed : {K : Known} {ls : List Waiting} (frame : Frame) (f : Filling) (x : Sym) (v : Value) (s : Slot) (new : List Slot) → frame ≡ Field f x → slot_tree s ≡ (x.number, value_tree v) → new ≡ f.made.items ++ s ∷ []
    → LeadsTo K (has (frame_view frame ∷ ls) (value_tree v)) (fills ls (slots_tree new) (parts_in f.parts.now f.scope.now) (wires_from (map wire_tree f.wires.now)))
field_handed {K} {ls} frame f x v s new e g h =
    leads_to (leads_from (ap (λ y. has (frame_view y ∷ ls) (value_tree v)) e) field_done)
    (ap (λ us. fills ls us (parts_in f.parts.now f.scope.now) (wires_from (map wire_tree f.wires.now))) (slots_with f.made.items new s x.number (value_tree v) g h))

-- what a constructor holds is there
pub held_handed : {K : Known} {ls : List Waiting} (frame : Frame) (s : Sym) (j : ℕ) (v : Value) (h : Bor Value) → frame ≡ Held s j → h.now ≡ v
    → LeadsTo K (has (frame_view frame ∷ ls) (value_tree v)) (has ls (value_tree (values.Holding s j h)))
held_handed {K} {ls} frame s j v h e f =
    leads_to (leads_from (ap (λ y. has (frame_view y ∷ ls) (value_tree v)) e) held_done)
    (ap (has ls) (ap (λ y. of_holding s.number j (value_tree y)) (sym f) ∙ sym (holding_value s j h)))

-- a constructor that holds nothing
pub data_bare : {K : Known} {ls : List Waiting} {ss : Shs} {cs : Cases} (w : Wire) (n : List ℕ) (held : Option (Box Wire Global)) (i j : ℕ) (s : Sym) (h : Option Shape) → w ≡ Tagged n held → held ≡ None
    → slice_get (symbols_in K.datatypes) i ≡ Some s.number → slice_get K.cases i ≡ Some cs → slice_get cs j ≡ Some (n, maybe_shape h) → h ≡ None
    → LeadsTo K (wants ls (a_data i ss) (wire_tree w)) (has ls (value_tree (Value.Bare s j)))
data_bare {K} {ls} {ss} {cs} w n held i j s h e f g k m z =
    let there = datatype_there K.datatypes i s.number g in
    let case : slice_get cs j ≡ Some (n, None) = m ∙ ap (λ (o : Option Shape). Some (n, maybe_shape o)) z in
    leads_to (leads_from (ap (wants ls (a_data i ss)) (bare_wire w n (e ∙ ap (Tagged n) f))) (value_comes (bare_is there.1 k case)))
    (ap (has ls) (ap (λ (x : ℕ). of_bare x j) there.2 ∙ sym (bare_value s j)))

-- one that holds something
pub data_holds : {K : Known} {ls ms : List Waiting} {ss : Shs} {cs : Cases} {t : Sh} (w : Wire) (n : List ℕ) (held : Option (Box Wire Global)) (b : Box Wire Global) (i j : ℕ) (s : Sym) (h : Option Shape) (u : Shape) (y : Wire) → w ≡ Tagged n held → held ≡ Some b
    → slice_get (symbols_in K.datatypes) i ≡ Some s.number → slice_get K.cases i ≡ Some cs → slice_get cs j ≡ Some (n, maybe_shape h) → h ≡ Some u
    → t ≡ at_arguments ss (shape_tree u) → ms ≡ holds s.number j ∷ ls → y ≡ b.value
    → LeadsTo K (wants ls (a_data i ss) (wire_tree w)) (wants ms t (wire_tree y))
data_holds {K} {ls} {ms} {ss} {cs} {t} w n held b i j s h u y e f g k m z p q r =
    let there = datatype_there K.datatypes i s.number g in
    let case : slice_get cs j ≡ Some (n, Some (shape_tree u)) = m ∙ ap (λ (o : Option Shape). Some (n, maybe_shape o)) z in
    leads_to (leads_from (ap (wants ls (a_data i ss)) (tagged_wire w n b (e ∙ ap (Tagged n) f))) (held_begins there.1 k case))
    (ap (λ (x : ℕ). wants (holds x j ∷ ls) (at_arguments ss (shape_tree u)) (wire_tree b.value)) there.2
    ∙ ap (λ ns. wants ns (at_arguments ss (shape_tree u)) (wire_tree b.value)) (sym q) ∙ ap (λ x. wants ms x (wire_tree b.value)) (sym p) ∙ ap (λ (x : Wire). wants ms t (wire_tree x)) (sym r))
