-- Where reading stops, no tree with the trees handed in goes on, and the tokens before begin one.
use Rattle.std.proofs.Common.{◌≡◌, ◌<◌, ◌≤◌, ◌+◌, ℕ, suc, max, List, ◌∷◌, ◌++◌, length, take, drop, append_assoc, append-nil, refl, ap, sym, ◌∙◌, subst, arith, Bool, true, false, nat_le, None, Option, []}
use Rattle.std.proofs.Math.Logic.{inl, inr}
use Rattle.surface_tree.specs.declared.kind.Kind.{Kind}
use Rattle.surface_tree.specs.declared.token.Token.{Token}
use Rattle.surface_grammar.specs.declared.fault.Hole.{Hole}
use Rattle.surface_grammar.specs.declared.form.Form.TheVariants as f
use Rattle.surface_grammar.specs.declared.part.Part.{Part}
use Rattle.surface_grammar.specs.declared.part.Part.TheVariants.{Word, One, Many, Maybe}
use Rattle.surface_grammar.specs.Fronts.{first_kind}
use Rattle.surface_grammar.specs.Listings.{Listing}
use Rattle.surface_grammar.specs.Trees.{Node, Nodes, none, more, spell, spell_all, begins, Fits}
use Rattle.grammar_engine.specs.declared.machine.Machine.{Machine}
use Rattle.grammar_engine.specs.declared.stop.Stop.{Stop}
use Rattle.grammar_engine.specs.declared.stop.Stop.TheVariants.{Refused, Memory}
use Rattle.grammar_engine.specs.declared.want.Want.{Want}
use Rattle.grammar_engine.specs.Allowed.{may_stand_behind, Beside, Raised, RefusesPart}
use Rattle.grammar_engine.specs.Passing.{FilledBy}
use Rattle.grammar_engine.specs.Places.{name_at}
use Rattle.grammar_engine.specs.Stuck.{Blocked, MeetsBlocked}
use Rattle.grammar_engine.proofs.Keeping.Agreeing.{agrees_less, agrees_next}
use Rattle.grammar_engine.proofs.Short.Calm.{fill_part, shortest}
use Rattle.grammar_engine.proofs.Keeping.Going.{raised_far, rest_agrees, no_nodes}
use Rattle.grammar_engine.proofs.Keeping.Passed.{want}
use Rattle.grammar_engine.proofs.Trees.Roomier.{fits_in}
use Rattle.grammar_engine.proofs.Keeping.Steps.{blocked_none}
use Rattle.grammar_engine.proofs.Trees.Unique.{front_kind}
use Rattle.grammar_engine.proofs.Short.Whole.{exists}
use Rattle.hole_reader.specs.Holes.{hole_of, form_of, is_open_part}
use Rattle.hole_reader.specs.Progress.{Comes}
use Rattle.hole_reader.specs.Readers.{NoneLonger}
use Rattle.hole_reader.specs.Refuses.{Begins, GoesOn, StopsAt, RoomFor, Unbegun}
use Rattle.hole_reader.proofs.Beginning.{BeginsAt, State, begins_splice, comes_state}
use Rattle.hole_reader.proofs.Growing.{Grown, comes_grown, comes_place, comes_read}
use Rattle.hole_reader.proofs.Passes.{comes_passes}

-- of the place and the one looked at, the farther
farther : (items : List Token) (whole : Want) (handed : List Listing) (at far : ℕ) (ws : List Want) → State items whole handed at far ws → BeginsAt items whole handed (max at far)
farther items whole handed at far ws s = by_order (nat_le far at) refl
  where
    by_order : (b : Bool) → nat_le far at ≡ b → BeginsAt items whole handed (max at far)
    by_order true e = subst (BeginsAt items whole handed) (sym (here e)) s.come
      where
        here : nat_le far at ≡ true → max at far ≡ at
        here i = search (arith, i)
    by_order false e = subst (BeginsAt items whole handed) (sym (there e)) (s.seen (later e))
      where
        there : nat_le far at ≡ false → max at far ≡ far
        there i = search (arith, i)

        later : nat_le far at ≡ false → at < far
        later i = search (arith, i)

-- or the one looked at at last
looked_at : (items : List Token) (whole : Want) (handed : List Listing) (q : Part) (room tag far : ℕ) (a : Machine) → Beside items q room a.at a.wants far → hole_of q ≡ None → Blocked items q room tag a.at → Grown items whole handed a.at a.tree.leaves a.tree.marks (want q room tag ∷ a.wants)
    → drop whole.tag items ≡ a.tree.leaves ++ drop a.at items → State items whole handed a.at a.far (want q room tag ∷ a.wants) → (far ≡ suc a.at) × BeginsAt items whole handed (suc a.at)
looked_at items whole handed (One f.Exp) room tag far a b skips blocked grows read s = cc
looked_at items whole handed (One f.SqlBraceRest) room tag far a b skips blocked grows read s = (b.2, begins_splice items whole handed a.at a.far room tag a.tree.leaves a.tree.marks a.wants grows read s.ready b.0 b.1)
looked_at items whole handed (Maybe f.ConForall) room tag far a b skips blocked grows read s = absurd blocked
looked_at items whole handed q room tag far a b skips blocked grows read s = absurd b

stop_begins : (items : List Token) (whole : Want) (handed : List Listing) (q : Part) (room tag far place : ℕ) (a : Machine) → Raised (Beside items q room a.at a.wants) a.far far → place ≡ max a.at far → hole_of q ≡ None → Blocked items q room tag a.at
    → Grown items whole handed a.at a.tree.leaves a.tree.marks (want q room tag ∷ a.wants) → drop whole.tag items ≡ a.tree.leaves ++ drop a.at items → State items whole handed a.at a.far (want q room tag ∷ a.wants) → BeginsAt items whole handed place
stop_begins items whole handed q room tag far place a (inl e) is skips blocked grows read s = subst (BeginsAt items whole handed) (sym (is ∙ ap (max a.at) e)) (farther items whole handed a.at a.far (want q room tag ∷ a.wants) s)
stop_begins items whole handed q room tag far place a (inr (seen, e, b)) is skips blocked grows read s =
    let d = looked_at items whole handed q room tag seen a b skips blocked grows read s in
    subst (BeginsAt items whole handed) (sym (there e is d.0)) d.1
  where
    there : far ≡ max a.far seen → place ≡ max a.at far → seen ≡ suc a.at → place ≡ suc a.at
    there i j l = omega (arith, i, j, l, s.near)

-- such a tree with nothing behind it
begins_whole : (items : List Token) (whole : Want) (handed : List Listing) (place : ℕ) → BeginsAt items whole handed place → whole.tag ≤ length items → 2 ≤ whole.room → Begins items whole handed place
begins_whole items whole handed place b le deep =
    let d = b None (nothing_behind whole.part) le (fill_part (shortest 24 (name_at items whole.tag)) (name_at items whole.tag) whole.part) (exists whole.room (name_at items whole.tag) whole.part deep) in
    record { node = d.node; front = d.front; after = d.after; later = d.later; within = d.within; fits = d.fits; read = d.read; spelled = d.spelled; holes = d.holes }
  where
    nothing_behind : (p : Part) → may_stand_behind p None ≡ true
    nothing_behind p = refl

-- what is blocked has no tree
levels_none : (room extra : ℕ) → room + extra ≡ (room + extra) + 0
levels_none room extra = omega arith

blocked_tree : (items : List Token) (q : Part) (room tag at extra : ℕ) (n : Node) (text : List Token) (stop : ℕ) → Blocked items q room tag at → RoomFor q room (Refused stop) → Fits (room + extra) (name_at items tag) n q (first_kind text)
    → take 1 (spell n ++ text) ≡ take 1 (drop at items) → ⊥
blocked_tree items (Word w) room tag at extra n text stop b deep fit e = blocked_none items (Word w) (room + extra) tag at 0 n text b (inl refl) (subst (λ i. Fits i (name_at items tag) n (Word w) (first_kind text)) (levels_none room extra) fit) e
blocked_tree items (One g) room tag at extra n text stop b deep fit e = blocked_none items (One g) room tag at extra n text b (inr deep) fit e
blocked_tree items (Many g) room tag at extra n text stop b deep fit e = absurd b
blocked_tree items (Maybe g) room tag at extra n text stop b deep fit e = absurd b

blocked_nodes : (items : List Token) (q : Part) (room tag at extra : ℕ) (nodes : Nodes) (ws : List Want) (tail : List Token) (stop : ℕ) → Blocked items q room tag at → RoomFor q room (Refused stop) → FilledBy extra items nodes (want q room tag ∷ ws) (first_kind tail)
    → take 1 (spell_all nodes ++ tail) ≡ take 1 (drop at items) → ⊥
blocked_nodes items q room tag at extra none ws tail stop b deep filled e = absurd filled
blocked_nodes items q room tag at extra (more n others) ws tail stop b deep filled e =
    blocked_tree items q room tag at extra n (spell_all others ++ tail) stop b deep (subst (λ y. Fits (room + extra) (name_at items tag) n q y) (front_kind (spell_all others) tail) filled.0)
    (ap (take 1) (sym (append_assoc (spell n) (spell_all others) tail)) ∙ e)

none_goes : (items : List Token) (whole : Want) (handed : List Listing) (w : Want) (ws : List Want) (at far place : ℕ) (tree : Listing) → Comes items whole handed at far tree (w ∷ ws) → max at far ≤ place → Blocked items w.part w.room w.tag at → RoomFor w.part w.room (Refused place)
    → is_open_part whole.part ≡ false → GoesOn items whole handed place → ⊥
none_goes items whole handed w ws at far place tree comes le blocked deep shut g =
    let d = comes_passes items whole handed at far tree (w ∷ ws) shut comes g.levels g.node g.tail g.later (fits_in g.node whole.part g.levels (whole.room + g.levels) (name_at items whole.tag) (first_kind g.tail) (omega arith) g.fits) g.holes
    (agrees_less items whole.tag (max at far) place (spell g.node ++ g.tail) le g.agrees) in
    let rest = rest_agrees items whole.tag at place tree.leaves g.tail g.node d.nodes (comes_read items whole handed at far tree (w ∷ ws) comes) (comes_place items whole handed at far tree (w ∷ ws) comes) d.spelled g.agrees in
    blocked_nodes items w.part w.room w.tag at g.levels d.nodes ws g.tail place blocked deep d.filled (agrees_next items at place (spell_all d.nodes ++ g.tail) (omega (arith, le)) rest)

-- a step that is refused
pub stop_met : (items : List Token) (whole : Want) (handed : List Listing) (w : Want) (a : Machine) (stop : Stop) → Comes items whole handed a.at a.far a.tree (w ∷ a.wants) → hole_of w.part ≡ None → RefusesPart items w.part w.room a stop → MeetsBlocked items w.part w.room w.tag a.at stop
    → RoomFor w.part w.room stop → StopsAt items whole handed stop
stop_met items whole handed w a (Refused place) comes skips (far, raised, is) blocked deep =
    let s = comes_state items whole handed a.at a.far a.tree (w ∷ a.wants) comes in
    let grows = comes_grown items whole handed a.at a.far a.tree (w ∷ a.wants) comes in
    let read = comes_read items whole handed a.at a.far a.tree (w ∷ a.wants) comes in
    let seen = raised_far (Beside items w.part w.room a.at a.wants) a.far far raised in
    record {
      begins = begins_whole items whole handed place (stop_begins items whole handed w.part w.room w.tag far place a raised is skips blocked grows read s);
      ends = none_goes items whole handed w a.wants a.at a.far place a.tree comes (omega (arith, is, seen)) blocked deep;
    }
stop_met items whole handed w a Memory comes skips refused blocked deep = tt

-- a hole that the next token doesn't begin
hole_levels : (items : List Token) (hole : Hole) (w : Want) (at extra : ℕ) (n : Node) (text : List Token) → w.part ≡ One (form_of hole) → begins (form_of hole) (first_kind (drop at items)) ≡ false → Fits (w.room + extra) (name_at items w.tag) n w.part (first_kind text)
    → take 1 (spell n ++ text) ≡ take 1 (drop at items) → ⊥
hole_levels items hole w at extra n text form lacks fit e =
    blocked_none items (One (form_of hole)) (w.room + extra) w.tag at 0 n text (inl lacks) (inl refl)
    (subst (λ i. Fits i (name_at items w.tag) n (One (form_of hole)) (first_kind text)) (levels_none w.room extra) (subst (λ p. Fits (w.room + extra) (name_at items w.tag) n p (first_kind text)) form fit)) e

hole_nodes : (items : List Token) (hole : Hole) (w : Want) (at extra : ℕ) (nodes : Nodes) (ws : List Want) (tail : List Token) → w.part ≡ One (form_of hole) → begins (form_of hole) (first_kind (drop at items)) ≡ false → FilledBy extra items nodes (w ∷ ws) (first_kind tail)
    → take 1 (spell_all nodes ++ tail) ≡ take 1 (drop at items) → ⊥
hole_nodes items hole w at extra none ws tail form lacks filled e = absurd filled
hole_nodes items hole w at extra (more n others) ws tail form lacks filled e =
    hole_levels items hole w at extra n (spell_all others ++ tail) form lacks (subst (λ y. Fits (w.room + extra) (name_at items w.tag) n w.part y) (front_kind (spell_all others) tail) filled.0)
    (ap (take 1) (sym (append_assoc (spell n) (spell_all others) tail)) ∙ e)

hole_goes : (items : List Token) (whole : Want) (handed : List Listing) (hole : Hole) (w : Want) (ws : List Want) (at far place : ℕ) (tree : Listing) → Comes items whole handed at far tree (w ∷ ws) → max at far ≤ place → w.part ≡ One (form_of hole)
    → begins (form_of hole) (first_kind (drop at items)) ≡ false → is_open_part whole.part ≡ false → GoesOn items whole handed place → ⊥
hole_goes items whole handed hole w ws at far place tree comes le form lacks shut g =
    let d = comes_passes items whole handed at far tree (w ∷ ws) shut comes g.levels g.node g.tail g.later (fits_in g.node whole.part g.levels (whole.room + g.levels) (name_at items whole.tag) (first_kind g.tail) (omega arith) g.fits) g.holes
    (agrees_less items whole.tag (max at far) place (spell g.node ++ g.tail) le g.agrees) in
    let rest = rest_agrees items whole.tag at place tree.leaves g.tail g.node d.nodes (comes_read items whole handed at far tree (w ∷ ws) comes) (comes_place items whole handed at far tree (w ∷ ws) comes) d.spelled g.agrees in
    hole_nodes items hole w at g.levels d.nodes ws g.tail form lacks d.filled (agrees_next items at place (spell_all d.nodes ++ g.tail) (omega (arith, le)) rest)

pub stop_asked : (items : List Token) (whole : Want) (handed : List Listing) (hole : Hole) (w : Want) (m : Machine) (stop : Stop) → Comes items whole handed m.at m.far m.tree (w ∷ m.wants) → w.part ≡ One (form_of hole) → Unbegun items hole m stop → StopsAt items whole handed stop
stop_asked items whole handed hole w m (Refused place) comes form (lacks, is) = record {
  begins = begins_whole items whole handed place (subst (BeginsAt items whole handed) (sym is) (farther items whole handed m.at m.far (w ∷ m.wants) (comes_state items whole handed m.at m.far m.tree (w ∷ m.wants) comes)));
  ends = hole_goes items whole handed hole w m.wants m.at m.far place m.tree comes (omega (arith, is)) form lacks;
}
stop_asked items whole handed hole w m Memory comes form u = tt

-- at the end no tree goes on
pub none_longer : (items : List Token) (whole : Want) (handed : List Listing) (at far : ℕ) (tree : Listing) → Comes items whole handed at far tree [] → NoneLonger items whole handed tree (max at far)
none_longer items whole handed at far tree comes shut g =
    let d = comes_passes items whole handed at far tree [] shut comes g.levels g.node g.tail g.later (fits_in g.node whole.part g.levels (whole.room + g.levels) (name_at items whole.tag) (first_kind g.tail) (omega arith) g.fits) g.holes g.agrees in
    d.spelled ∙ ap (λ z. tree.leaves ++ spell_all z) (no_nodes g.levels items d.nodes (first_kind g.tail) d.filled) ∙ append-nil tree.leaves
