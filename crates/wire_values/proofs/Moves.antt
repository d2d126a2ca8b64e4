-- From one moment of a making to the next.
use Rattle.std.proofs.Common.{◌≡◌, ℕ, List, [], ◌∷◌, Some, slice_get, refl, ap, sym, subst}
use Rattle.table_rows.specs.Shapes.{Sh, a_record, a_data, Shs, Pts, no_parts, part, Cases, at_arguments}
use Rattle.table_rows.specs.Wires.{Wr, rec_of, tagged, Wrs, no_wires, wire}
use Rattle.core_terms.specs.Trees.{Dt}
use Rattle.value_trees.specs.Values.{V, of_fields, of_holding, Slots, no_slots, slot, slots_and}
use Rattle.core_meaning.specs.Wired.{Known, HasValue, record_is, tagged_is, no_values_of, value_of}
use Rattle.run_values.proofs.Fields.{and_no_slots}
use Rattle.wire_values.specs.Amid.{Waiting, fields, holds, Completes, Amid, wants, fills, has, LeadsTo}

pub onward : {K : Known} {a b c : Amid} → LeadsTo K a b → LeadsTo K b c → LeadsTo K a c
onward f g = record { comes = λ u h. f.comes u (g.comes u h) }

pub in_place : {K : Known} {a : Amid} → LeadsTo K a a
in_place = record { comes = λ u h. h }

-- the same by another name
pub leads_from : {K : Known} {a b c : Amid} → a ≡ b → LeadsTo K b c → LeadsTo K a c
leads_from {K} {a} {b} {c} e f = subst (λ x. LeadsTo K x c) (sym e) f

pub leads_to : {K : Known} {a b c : Amid} → LeadsTo K a b → b ≡ c → LeadsTo K a c
leads_to {K} {a} {b} {c} f e = subst (λ x. LeadsTo K a x) e f

-- the same shape by another name
pub wants_as : {K : Known} {ls : List Waiting} {s t : Sh} {w : Wr} {b : Amid} → s ≡ t → LeadsTo K (wants ls t w) b → LeadsTo K (wants ls s w) b
wants_as {K} {ls} {s} {t} {w} {b} e f = subst (λ x. LeadsTo K (wants ls x w) b) (sym e) f

-- the beginning of a making
pub begins_at : {K : Known} {ls : List Waiting} {s t : Sh} {w : Wr} → ls ≡ [] → t ≡ s → LeadsTo K (wants [] s w) (wants ls t w)
begins_at {K} {ls} {s} {t} {w} e f = leads_to (leads_to in_place (ap (λ x. wants [] x w) (sym f))) (ap (λ xs. wants xs t w) (sym e))

-- a value of the wanted shape is there
pub value_comes : {K : Known} {ls : List Waiting} {s : Sh} {w : Wr} {v : V} → HasValue K s w v → LeadsTo K (wants ls s w) (has ls v)
value_comes {v = v} r = record { comes = λ u g. (v, r, g) }

-- a record's fields are wanted
pub record_begins : {K : Known} {ls : List Waiting} {ps : Pts} {ws : Wrs} → LeadsTo K (wants ls (a_record ps) (rec_of ws)) (fills ls no_slots ps ws)
record_begins = record { comes = λ u g. (of_fields g.0, record_is g.1, g.2) }

pub slots_and_one : (ss : Slots) (x : ℕ) (v : V) (us : Slots) → slots_and (slots_and ss (slot x v no_slots)) us ≡ slots_and ss (slot x v us)
slots_and_one no_slots x v us = refl
slots_and_one (slot y w ss) x v us = ap (slot y w) (slots_and_one ss x v us)

-- no field is wanted any more
pub record_done : {K : Known} {ls : List Waiting} {ss : Slots} → LeadsTo K (fills ls ss no_parts no_wires) (has ls (of_fields ss))
record_done {K} {ls} {ss} = record { comes = λ u g. (no_slots, no_values_of, subst (λ x. Completes K ls (of_fields x) u) (sym (and_no_slots ss)) g) }

-- the next field is wanted
pub field_begins : {K : Known} {ls : List Waiting} {ss : Slots} {n : List ℕ} {s : Sh} {ps : Pts} {w : Wr} {ws : Wrs} {x : ℕ} → slice_get K.names x ≡ Some n
    → LeadsTo K (fills ls ss (part n s ps) (wire w ws)) (wants (fields ss x ps ws ∷ ls) s w)
field_begins {x = x} e = record { comes = λ u g. (slot x g.0 g.2.0, value_of e g.1 g.2.1, g.2.2) }

-- a field is there
pub field_done : {K : Known} {ls : List Waiting} {ss : Slots} {ps : Pts} {ws : Wrs} {x : ℕ} {v : V}
    → LeadsTo K (has (fields ss x ps ws ∷ ls) v) (fills ls (slots_and ss (slot x v no_slots)) ps ws)
field_done {K} {ls} {ss} {ps} {ws} {x} {v} = record { comes = λ u g. (g.0, g.1, subst (λ y. Completes K ls (of_fields y) u) (slots_and_one ss x v g.0) g.2) }

-- what a constructor holds is wanted
pub held_begins : {K : Known} {ls : List Waiting} {i j : ℕ} {ss : Shs} {d : Dt} {cs : Cases} {n : List ℕ} {s : Sh} {w : Wr}
    → slice_get K.datatypes i ≡ Some d → slice_get K.cases i ≡ Some cs → slice_get cs j ≡ Some (n, Some s)
    → LeadsTo K (wants ls (a_data i ss) (tagged n w)) (wants (holds d.symbol j ∷ ls) (at_arguments ss s) w)
held_begins {j = j} {d = d} e f g = record { comes = λ u h. (of_holding d.symbol j h.0, tagged_is e f g h.1, h.2) }

-- and is there
pub held_done : {K : Known} {ls : List Waiting} {s j : ℕ} {v : V} → LeadsTo K (has (holds s j ∷ ls) v) (has ls (of_holding s j v))
held_done = record { comes = λ u g. g }

-- nothing waits any more
pub whole_value : {K : Known} {s : Sh} {w : Wr} {v : V} → LeadsTo K (wants [] s w) (has [] v) → HasValue K s w v
whole_value {K} {s} {w} {v} f = let g = f.comes v refl in subst (λ u. HasValue K s w u) g.2 g.1
