-- From one moment of a reading to the next.
use Rattle.std.proofs.Common.{◌≡◌, ℕ, List, [], ◌∷◌, ◌++◌, ◌⊎◌, Some, slice_get, refl, ap, sym, subst, inl, inr}
use Rattle.std.specs.List.{Contains}
use Rattle.table_rows.specs.Wires.{Wr, rec_of, tagged, Wrs, no_wires, wire, wire_list}
use Rattle.table_rows.specs.Shapes.{Sh, a_record, a_data, Shs, Pts, no_parts, part, Cases, at_arguments}
use Rattle.link_router.specs.Reading.{Reads, reads_record, reads_tagged, ReadsParts, reads_no_part, reads_part, Stop, Stops, in_record, in_held, StopsParts, in_part, in_later_part, bad, few}
use Rattle.table_rows.specs.View.{wire_tree}
use Rattle.table_rows.specs.declared.wire.Wire.{Wire}
use Rattle.link_router.specs.Scoped.{frame_view, amid, moved_to, StopsSo, EndsSo}
use Rattle.link_router.specs.declared.frames.Frame.{Frame}
use Rattle.link_router.specs.declared.frames.Step.{Step}
use Rattle.link_router.specs.declared.frames.Step.TheVariants.{Has}
use Rattle.link_router.specs.declared.frames.Moved.{Moved}
use Rattle.link_router.specs.declared.frames.Moved.TheVariants.{On, Whole}
use Rattle.link_router.specs.declared.frames.Stopped.{Stopped}
use Rattle.link_router.specs.declared.frames.Stopped.TheVariants.{Bad, Few, Memory}
use Rattle.link_router.specs.Amid.{Waiting, fields, holds, in_front, Completes, Halts, Amid, wants, has, ComesTo, EndsAt, LeadsTo}

pub onward : {D : List Cases} {a b c : Amid} → LeadsTo D a b → LeadsTo D b c → LeadsTo D a c
onward f g = record { comes = λ v qs h. f.comes v qs (g.comes v qs h); ends = λ x h. f.ends x (g.ends x h) }

pub in_place : {D : List Cases} {a : Amid} → LeadsTo D a a
in_place = record { comes = λ v qs h. h; ends = λ x h. h }

-- a value of the wanted shape is read
pub value_comes : {D : List Cases} {ls : List Waiting} {s : Sh} {ps rs : List (List ℕ)} {w : Wr} → Reads D s ps w rs → LeadsTo D (wants ls s ps) (has ls w rs)
value_comes {rs = rs} {w = w} r = record { comes = λ v qs g. (w, rs, r, g); ends = λ x h. inr (w, rs, r, h) }

-- in a record the first field is wanted
record_ends : {D : List Cases} (ls : List Waiting) (n : List ℕ) (s : Sh) (fs : Pts) (ps : List (List ℕ)) (x : Stop) → EndsAt D (wants (fields [] fs ∷ ls) s ps) x → EndsAt D (wants ls (a_record (part n s fs)) ps) x
record_ends ls n s fs ps x (inl st) = inl (in_record (in_part st))
record_ends ls n s fs ps x (inr (w, rs, r, inl st)) = inl (in_record (in_later_part r st))
record_ends ls n s fs ps x (inr (w, rs, r, inr (us, ts, p, h))) = inr (rec_of (wire w us), ts, reads_record (reads_part r p), h)

pub record_begins : {D : List Cases} {ls : List Waiting} {n : List ℕ} {s : Sh} {fs : Pts} {ps : List (List ℕ)} → LeadsTo D (wants ls (a_record (part n s fs)) ps) (wants (fields [] fs ∷ ls) s ps)
record_begins {ls = ls} {n = n} {s = s} {fs = fs} {ps = ps} = record {
  comes = λ v qs g. (rec_of (wire g.0 g.3.0), g.3.1, reads_record (reads_part g.2 g.3.2), g.3.3);
  ends = record_ends ls n s fs ps;
}

-- what a constructor holds is wanted
held_ends : {D : List Cases} {d : ℕ} {ss : Shs} {cs : Cases} {s : Sh} (ls : List Waiting) (p : List ℕ) (ps : List (List ℕ)) (x : Stop) → slice_get D d ≡ Some cs → Contains cs (p, Some s) → EndsAt D (wants (holds p ∷ ls) (at_arguments ss s) ps) x → EndsAt D (wants ls (a_data d ss) (p ∷ ps)) x
held_ends ls p ps x e i (inl st) = inl (in_held e i st)
held_ends ls p ps x e i (inr (w, rs, r, h)) = inr (tagged p w, rs, reads_tagged e i r, h)

pub held_begins : {D : List Cases} {d : ℕ} {ss : Shs} {cs : Cases} {s : Sh} {ls : List Waiting} {p : List ℕ} {ps : List (List ℕ)} → slice_get D d ≡ Some cs → Contains cs (p, Some s) → LeadsTo D (wants ls (a_data d ss) (p ∷ ps)) (wants (holds p ∷ ls) (at_arguments ss s) ps)
held_begins {ls = ls} {p = p} {ps = ps} e i = record {
  comes = λ v qs g. (tagged p g.0, g.1, reads_tagged e i g.2, g.3);
  ends = λ x h. held_ends ls p ps x e i h;
}

pub in_front_more : (ws : List Wr) (w : Wr) (vs : Wrs) → in_front (ws ++ w ∷ []) vs ≡ in_front ws (wire w vs)
in_front_more [] w vs = refl
in_front_more (u ∷ ws) w vs = ap (λ us. wire u us) (in_front_more ws w vs)

pub in_front_all : (ws : Wrs) → in_front (wire_list ws) no_wires ≡ ws
in_front_all no_wires = refl
in_front_all (wire w ws) = ap (λ us. wire w us) (in_front_all ws)

-- a field is read, and the next is wanted
field_ends : {D : List Cases} (ls : List Waiting) (ws : List Wr) (n : List ℕ) (s : Sh) (fs : Pts) (w : Wr) (ps : List (List ℕ)) (x : Stop) → EndsAt D (wants (fields (ws ++ w ∷ []) fs ∷ ls) s ps) x → EndsAt D (has (fields ws (part n s fs) ∷ ls) w ps) x
field_ends ls ws n s fs w ps x (inl st) = inl (in_part st)
field_ends ls ws n s fs w ps x (inr (v, rs, r, inl st)) = inl (in_later_part r st)
field_ends {D} ls ws n s fs w ps x (inr (v, rs, r, inr (us, ts, p, h))) = inr (wire v us, ts, reads_part r p, subst (λ u. Halts D ls (rec_of u) ts x) (in_front_more ws w (wire v us)) h)

pub field_done : {D : List Cases} {ls : List Waiting} {ws : List Wr} {n : List ℕ} {s : Sh} {fs : Pts} {w : Wr} {ps : List (List ℕ)} → LeadsTo D (has (fields ws (part n s fs) ∷ ls) w ps) (wants (fields (ws ++ w ∷ []) fs ∷ ls) s ps)
field_done {D} {ls = ls} {ws = ws} {n = n} {s = s} {fs = fs} {w = w} {ps = ps} = record {
  comes = λ v qs g. (wire g.0 g.3.0, g.3.1, reads_part g.2 g.3.2, subst (λ u. Completes D ls (rec_of u) g.3.1 v qs) (in_front_more ws w (wire g.0 g.3.0)) g.3.3);
  ends = field_ends ls ws n s fs w ps;
}

-- the last field is read
pub record_done : {D : List Cases} {ls : List Waiting} {ws : List Wr} {us : Wrs} {w : Wr} {ps : List (List ℕ)} → wire_list us ≡ ws ++ w ∷ [] → LeadsTo D (has (fields ws no_parts ∷ ls) w ps) (has ls (rec_of us) ps)
record_done {D} {ls = ls} {ws = ws} {us = us} {w = w} {ps = ps} e =
    let same : us ≡ in_front ws (wire w no_wires) = rw (← in_front_all us, e) (in_front_more ws w no_wires) in
    record {
      comes = λ v qs g. (no_wires, ps, reads_no_part, subst (λ u. Completes D ls (rec_of u) ps v qs) same g);
      ends = λ x h. inr (no_wires, ps, reads_no_part, subst (λ u. Halts D ls (rec_of u) ps x) same h);
    }

-- nothing waits any more: what the whole reading comes to
pub whole_read : {D : List Cases} {s : Sh} {ps qs : List (List ℕ)} {w : Wr} → LeadsTo D (wants [] s ps) (has [] w qs) → Reads D s ps w qs
whole_read {D} {s} {ps} {qs} {w} f =
    let g = f.comes w qs (refl, refl) in
    subst (λ v. Reads D s ps v qs) g.3.0 (subst (λ rs. Reads D s ps g.0 rs) g.3.1 g.2)

only_stops : {D : List Cases} {s : Sh} {ps : List (List ℕ)} (x : Stop) → EndsAt D (wants [] s ps) x → Stops D s ps x
only_stops x (inl h) = h
only_stops x (inr g) = absurd g.3

-- how a whole reading ends
pub whole_ends : {D : List Cases} {s : Sh} {a : Amid} {ps : List (List ℕ)} (qs : List (List ℕ)) (x : Stopped) → LeadsTo D (wants [] s ps) a → EndsSo D a qs x → StopsSo D s ps qs x
whole_ends qs Bad f h = only_stops (bad qs) (f.ends (bad qs) h)
whole_ends qs Few f h = only_stops few (f.ends few h)
whole_ends qs Memory f h = tt

pub popped_whole : {D : List Cases} {ls : List Waiting} {w : Wr} {ps : List (List ℕ)} → ls ≡ [] → LeadsTo D (has ls w ps) (has [] w ps)
popped_whole {D} {w = w} {ps} e = subst (λ xs. LeadsTo D (has xs w ps) (has [] w ps)) (sym e) in_place

-- what waits, a step, and what it leads to, by what they are
pub framed : {D : List Cases} {ls : List Waiting} {w : Wr} {ps : List (List ℕ)} {b : Amid} {frame other : Frame} → frame ≡ other → LeadsTo D (has (frame_view other ∷ ls) w ps) b → LeadsTo D (has (frame_view frame ∷ ls) w ps) b
framed {D} {ls} {w} {ps} {b} e f = subst (λ x. LeadsTo D (has (frame_view x ∷ ls) w ps) b) (sym e) f

pub has_is : (D : List Cases) (step : Step) (value : Wire) (ls : List Waiting) (ps : List (List ℕ)) (b : Amid) → step ≡ Has value → LeadsTo D (has ls (wire_tree value) ps) b → LeadsTo D (amid step ls ps) b
has_is D step value ls ps b e f = subst (λ x. LeadsTo D (amid x ls ps) b) (sym e) f

pub handed : (D : List Cases) (step : Step) (value : Wire) (first : Waiting) (ls ms : List Waiting) (ps : List (List ℕ)) (b : Amid) → step ≡ Has value → ls ≡ first ∷ ms → LeadsTo D (has (first ∷ ms) (wire_tree value) ps) b → LeadsTo D (amid step ls ps) b
handed D step value first ls ms ps b e d f = has_is D step value ls ps b e (subst (λ xs. LeadsTo D (has xs (wire_tree value) ps) b) (sym d) f)

pub moved_on : (D : List Cases) (a : Amid) (next : Moved) (step : Step) (ls : List Waiting) (qs : List (List ℕ)) → next ≡ On step → LeadsTo D a (moved_to next ls qs) → LeadsTo D a (amid step ls qs)
moved_on D a next step ls qs e f = subst (λ x. LeadsTo D a (moved_to x ls qs)) e f

pub moved_whole : (D : List Cases) (a : Amid) (next : Moved) (value : Wire) (ls : List Waiting) (qs : List (List ℕ)) → next ≡ Whole value → LeadsTo D a (moved_to next ls qs) → LeadsTo D a (has [] (wire_tree value) qs)
moved_whole D a next value ls qs e f = subst (λ x. LeadsTo D a (moved_to x ls qs)) e f

-- the beginning of a reading
pub begins_at : {D : List Cases} {ls : List Waiting} {s t : Sh} {ps : List (List ℕ)} → ls ≡ [] → t ≡ s → LeadsTo D (wants [] s ps) (wants ls t ps)
begins_at {D} {ls} {s} {t} {ps} e f = subst (λ x. LeadsTo D (wants [] s ps) (wants ls x ps)) (sym f) (subst (λ xs. LeadsTo D (wants [] s ps) (wants xs s ps)) (sym e) in_place)

pub stops_as : (D : List Cases) (s t : Sh) (ps qs : List (List ℕ)) (x : Stopped) → s ≡ t → StopsSo D t ps qs x → StopsSo D s ps qs x
stops_as D s t ps qs x e h = subst (λ u. StopsSo D u ps qs x) (sym e) h
