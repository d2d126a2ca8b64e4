-- The moves of a reading, over what its parts stand for.
use Rattle.std.proofs.Common.{◌≡◌, ℕ, List, [], ◌∷◌, ◌++◌, drop, Option, Some, None, Result, Ok, Err, IfOk, slice_get, refl, ap, sym, subst, ◌∙◌}
use Rattle.std.specs.List.{Contains}
use Rattle.table_rows.specs.Wires.{Wr, rec_of, bare, tagged, Wrs, no_wires, wire_list}
use Rattle.table_rows.specs.Shapes.{Sh, a_unit, a_record, a_data, Shs, Pts, no_parts, part, Cases, at_arguments, parts_at_arguments}
use Rattle.link_router.specs.Reading.{Reads, reads_unit, reads_record, reads_bare, reads_no_part}
use Rattle.link_router.specs.Amid.{Waiting, fields, holds, Amid, wants, has, LeadsTo}
use Rattle.table_rows.specs.View.{wire_tree}
use Rattle.table_rows.specs.declared.wire.Wire.TheVariants.{Unit}
use Rattle.link_router.proofs.OnePiece.{unit_tree}
use Rattle.link_router.proofs.Onward.{in_place, value_comes, record_begins, held_begins, field_done, record_done}

-- a record without fields
pub record_nothing : {D : List Cases} {ls : List Waiting} {ps : List (List ℕ)} (ss : Shs) (parts : Pts) (w : Wr) → parts ≡ no_parts → w ≡ rec_of no_wires → LeadsTo D (wants ls (a_record (parts_at_arguments ss parts)) ps) (has ls w ps)
record_nothing ss parts w e f = rw (e, f) (value_comes (reads_record reads_no_part))

-- a record whose first field is wanted
pub record_first : {D : List Cases} {ls ms : List Waiting} {ps : List (List ℕ)} (ss : Shs) (parts fs : Pts) (n : List ℕ) (s t : Sh) (ws : List Wr) → parts ≡ part n s fs → ws ≡ [] → t ≡ at_arguments ss s → ms ≡ fields ws (parts_at_arguments ss fs) ∷ ls → LeadsTo D (wants ls (a_record (parts_at_arguments ss parts)) ps) (wants ms t ps)
record_first ss parts fs n s t ws e f g h = rw (e, h, f, g) record_begins

-- the next field is wanted
pub field_next : {D : List Cases} {ls ms : List Waiting} {ps : List (List ℕ)} (ss : Shs) (parts fs : Pts) (n : List ℕ) (s t : Sh) (ws vs : List Wr) (w : Wr) → parts ≡ part n s fs → vs ≡ ws ++ w ∷ [] → t ≡ at_arguments ss s → ms ≡ fields vs (parts_at_arguments ss fs) ∷ ls → LeadsTo D (has (fields ws (parts_at_arguments ss parts) ∷ ls) w ps) (wants ms t ps)
field_next ss parts fs n s t ws vs w e f g h = rw (e, h, f, g) field_done

-- no field is wanted any more
pub field_last : {D : List Cases} {ls : List Waiting} {ps : List (List ℕ)} (ss : Shs) (parts : Pts) (ws : List Wr) (us : Wrs) (w v : Wr) → parts ≡ no_parts → wire_list us ≡ ws ++ w ∷ [] → v ≡ rec_of us → LeadsTo D (has (fields ws (parts_at_arguments ss parts) ∷ ls) w ps) (has ls v ps)
field_last ss parts ws us w v e f g = rw (e, g) (record_done f)

-- what a constructor holds is read
pub held_done : {D : List Cases} {ls : List Waiting} {ps : List (List ℕ)} (n : List ℕ) (w v : Wr) → v ≡ tagged n w → LeadsTo D (has (holds n ∷ ls) w ps) (has ls v ps)
held_done n w v e = rw e record { comes = λ u qs h. h; ends = λ x h. h }

-- a constructor that holds nothing, and one whose value is wanted
pub bare_comes : {D : List Cases} {d : ℕ} {us : Shs} {cs : Cases} {ls : List Waiting} {ps qs : List (List ℕ)} {p : List ℕ} (v : Wr) → slice_get D d ≡ Some cs → Contains cs (p, None) → ps ≡ p ∷ drop 1 ps → qs ≡ drop 1 ps → v ≡ bare p → LeadsTo D (wants ls (a_data d us) ps) (has ls v qs)
bare_comes {D} {d} {us} {ls = ls} {ps} {qs} {p} v e i f g h =
    let here : LeadsTo D (wants ls (a_data d us) (p ∷ drop 1 ps)) (has ls (bare p) (drop 1 ps)) = value_comes (reads_bare e i) in
    subst (λ w. LeadsTo D (wants ls (a_data d us) ps) (has ls w qs)) (sym h) (subst (λ rs. LeadsTo D (wants ls (a_data d us) ps) (has ls (bare p) rs)) (sym g) (subst (λ xs. LeadsTo D (wants ls (a_data d us) xs) (has ls (bare p) (drop 1 ps))) (sym f) here))

pub held_wanted : {D : List Cases} {d : ℕ} {us : Shs} {cs : Cases} {ls ms : List Waiting} {ps qs : List (List ℕ)} {p n : List ℕ} {s t : Sh} → slice_get D d ≡ Some cs → Contains cs (p, Some s) → ps ≡ p ∷ drop 1 ps → qs ≡ drop 1 ps → n ≡ p → t ≡ at_arguments us s → ms ≡ holds n ∷ ls → LeadsTo D (wants ls (a_data d us) ps) (wants ms t qs)
held_wanted {D} {d} {us} {ls = ls} {ms} {ps} {qs} {p} {n} {s} {t} e i f g h k m =
    let here : LeadsTo D (wants ls (a_data d us) (p ∷ drop 1 ps)) (wants (holds p ∷ ls) (at_arguments us s) (drop 1 ps)) = held_begins e i in
    let stack : holds p ∷ ls ≡ ms = ap (λ x. holds x ∷ ls) (sym h) ∙ sym m in
    subst (λ xs. LeadsTo D (wants ls (a_data d us) ps) (wants xs t qs)) stack
    (subst (λ x. LeadsTo D (wants ls (a_data d us) ps) (wants (holds p ∷ ls) x qs)) (sym k)
    (subst (λ rs. LeadsTo D (wants ls (a_data d us) ps) (wants (holds p ∷ ls) (at_arguments us s) rs)) (sym g)
    (subst (λ xs. LeadsTo D (wants ls (a_data d us) xs) (wants (holds p ∷ ls) (at_arguments us s) (drop 1 ps))) (sym f) here)))

pub ok_then : {A E : Type 0} {P Q : A → Type 0} (r : Result A E) → IfOk r P → ((a : A) → P a → Q a) → IfOk r Q
ok_then (Ok a) h f = f a h
ok_then (Err e) h f = tt

-- the same shape by another name
pub wants_as : {D : List Cases} {ls : List Waiting} {s t : Sh} {ps : List (List ℕ)} {b : Amid} → s ≡ t → LeadsTo D (wants ls t ps) b → LeadsTo D (wants ls s ps) b
wants_as {D} {ls} {ps = ps} {b = b} e f = subst (λ x. LeadsTo D (wants ls x ps) b) (sym e) f

pub unit_comes : {D : List Cases} {ls : List Waiting} {s : Sh} {ps : List (List ℕ)} → s ≡ a_unit → LeadsTo D (wants ls s ps) (has ls (wire_tree Unit) ps)
unit_comes {D} {ls} {s} {ps} e = wants_as e (subst (λ w. LeadsTo D (wants ls a_unit ps) (has ls w ps)) (sym unit_tree) (value_comes reads_unit))
