-- The values of arguments, one after another.
use Rattle.std.proofs.Common.{◌≡◌, ℕ, List, [], ◌∷◌, ◌++◌, map, length, sym, subst}
use Rattle.std.proofs.lemmas.List.{nil_from_length}
use Rattle.table_rows.specs.Wires.{Wr, Wrs, no_wires, wire, wire_list}
use Rattle.table_rows.specs.Shapes.{Sh, Shs, no_shapes, shape, Cases}
use Rattle.link_router.specs.Reading.{Reads, ReadsAll, reads_none, reads_one, Stop, Stops, StopsAll, in_argument, in_later}
use Rattle.link_router.specs.Amid.{in_front}
use Rattle.table_rows.specs.View.{shapes_from, shape_tree}
use Rattle.table_rows.specs.declared.shape.Shape.{Shape}
use Rattle.link_router.specs.Scoped.{StopsSo, StopsAllSo}
use Rattle.link_router.specs.declared.frames.Stopped.{Stopped}
use Rattle.link_router.specs.declared.frames.Stopped.TheVariants.{Bad, Few, Memory}
use Rattle.link_router.proofs.Onward.{in_front_more, in_front_all}

-- with these values read, what the other shapes come to and stop at, all do
pub record AllLead (D : List Cases) (ss : Shs) (ps : List (List ℕ)) (ws : List Wr) (us : Shs) (qs : List (List ℕ)) : Type 0 where
  pub comes : (vs : Wrs) (rs : List (List ℕ)) → ReadsAll D us qs vs rs → ReadsAll D ss ps (in_front ws vs) rs
  pub ends : (x : Stop) → StopsAll D us qs x → StopsAll D ss ps x

pub all_begin : {D : List Cases} {ss : Shs} {ps : List (List ℕ)} → AllLead D ss ps [] ss ps
all_begin = record { comes = λ vs rs h. h; ends = λ x h. h }

pub all_further : {D : List Cases} {ss us : Shs} {s : Sh} {ps qs rs : List (List ℕ)} {ws : List Wr} {w : Wr} → AllLead D ss ps ws (shape s us) qs → Reads D s qs w rs → AllLead D ss ps (ws ++ w ∷ []) us rs
all_further {D} {ss} {ps = ps} {ws = ws} {w = w} f r = record {
  comes = λ vs ts h. subst (λ v. ReadsAll D ss ps v ts) (sym (in_front_more ws w vs)) (f.comes (wire w vs) ts (reads_one r h));
  ends = λ x h. f.ends x (in_later r h);
}

pub all_read : {D : List Cases} {ss : Shs} {ps qs : List (List ℕ)} {ws : Wrs} → AllLead D ss ps (wire_list ws) no_shapes qs → ReadsAll D ss ps ws qs
all_read {D} {ss} {ps} {qs} {ws} f = subst (λ v. ReadsAll D ss ps v qs) (in_front_all ws) (f.comes no_wires qs reads_none)

pub all_stop : {D : List Cases} {ss us : Shs} {s : Sh} {ps qs : List (List ℕ)} {ws : List Wr} {x : Stop} → AllLead D ss ps ws (shape s us) qs → Stops D s qs x → StopsAll D ss ps x
all_stop {x = x} f st = f.ends x (in_argument st)

pub args_further : {D : List Cases} {ss : Shs} {ps qs rs : List (List ℕ)} {ws vs : List Wr} {w : Wr} (rest others : List Shape) (first : Shape) → rest ≡ first ∷ others → AllLead D ss ps ws (shapes_from (map shape_tree rest)) qs → Reads D (shape_tree first) qs w rs → vs ≡ ws ++ w ∷ [] → AllLead D ss ps vs (shapes_from (map shape_tree others)) rs
args_further {D} {ss} {ps} {qs} {rs} {ws} {vs} {w} rest others first e f r g =
    let begun : AllLead D ss ps ws (shape (shape_tree first) (shapes_from (map shape_tree others))) qs = subst (λ us. AllLead D ss ps ws (shapes_from (map shape_tree us)) qs) e f in
    subst (λ us. AllLead D ss ps us (shapes_from (map shape_tree others)) rs) (sym g) (all_further begun r)

pub args_stop : {D : List Cases} {ss : Shs} {ps qs : List (List ℕ)} {ws : List Wr} (rest others : List Shape) (first : Shape) (rs : List (List ℕ)) (x : Stopped) → rest ≡ first ∷ others → AllLead D ss ps ws (shapes_from (map shape_tree rest)) qs → StopsSo D (shape_tree first) qs rs x → StopsAllSo D ss ps rs x
args_stop {D} {ss} {ps} {qs} {ws} rest others first rs Bad e f h = all_stop (subst (λ us. AllLead D ss ps ws (shapes_from (map shape_tree us)) qs) e f) h
args_stop {D} {ss} {ps} {qs} {ws} rest others first rs Few e f h = all_stop (subst (λ us. AllLead D ss ps ws (shapes_from (map shape_tree us)) qs) e f) h
args_stop rest others first rs Memory e f h = tt

pub args_done : {D : List Cases} {ss : Shs} {ps qs : List (List ℕ)} {ws : Wrs} (rest : List Shape) → length rest ≡ 0 → AllLead D ss ps (wire_list ws) (shapes_from (map shape_tree rest)) qs → ReadsAll D ss ps ws qs
args_done {D} {ss} {ps} {qs} {ws} rest e f = all_read (subst (λ us. AllLead D ss ps (wire_list ws) (shapes_from (map shape_tree us)) qs) (nil_from_length rest e) f)
