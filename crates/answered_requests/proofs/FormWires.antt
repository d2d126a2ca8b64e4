-- The wires of a form that a body fills have its shape.
use Rattle.std.proofs.Common.{◌≡◌, ℕ, List, subst}
use Rattle.table_rows.specs.Wires.{Wr, Wrs}
use Rattle.table_rows.specs.Shapes.{Sh, a_unit, a_record, Pts, Cases, HasShape, text_has, unit_has, true_has, false_has, record_has, HaveParts, no_parts_have, part_has}
use Rattle.link_router.specs.Forms.{Form, filled, ReadsField, reads_text, checked, unchecked, FailsField, no_pair, no_text, ReadsFields, no_more, one_more, FailsFields, here, later, ReadsForm, of_nothing, of_fields, of_failure}
use Rattle.core_meaning.proofs.OneAnswer.{filled_wire, lacks_or_filled as lacks_none, spoils_or_filled as spoils_none}

field_has : {D : List Cases} {ps : List (List ℕ × List ℕ)} {n : List ℕ} {s : Sh} {w : Wr} → ReadsField ps n s w → HasShape D s w
field_has (reads_text h u) = text_has
field_has (checked h) = true_has
field_has (unchecked h) = false_has

fields_have : {D : List Cases} {ps : List (List ℕ × List ℕ)} {fs : Pts} {ws : Wrs} → ReadsFields ps fs ws → HaveParts D fs ws
fields_have no_more = no_parts_have
fields_have (one_more h hs) = part_has (field_has h) (fields_have hs)

-- what fails is not filled
field_fails : {P : Type 0} {ps : List (List ℕ × List ℕ)} {n : List ℕ} {s : Sh} {x : Form} {w : Wr} → FailsField ps n s x → x ≡ filled w → P
field_fails (no_pair h) e = lacks_none e
field_fails (no_text h u) e = spoils_none e

fields_fail : {P : Type 0} {ps : List (List ℕ × List ℕ)} {fs : Pts} {x : Form} {w : Wr} → FailsFields ps fs x → x ≡ filled w → P
fields_fail (here h) e = field_fails h e
fields_fail (later h hs) e = fields_fail hs e

pub form_has : {D : List Cases} {s : Sh} {body : List ℕ} {x : Form} {w : Wr} → ReadsForm s body x → x ≡ filled w → HasShape D s w
form_has {D} of_nothing e = subst (HasShape D a_unit) (filled_wire e) unit_has
form_has {D} (of_fields {fs = fs} h) e = subst (HasShape D (a_record fs)) (filled_wire e) (record_has (fields_have h))
form_has (of_failure h) e = fields_fail h e
