-- Room enough, as long as something is to be read.
use Rattle.std.proofs.Common.{◌≡◌, ◌<◌, ◌≤◌, ◌+◌, ◌-◌, ◌*◌, ℕ, suc, List, [], ◌∷◌, ◌++◌, length, drop, refl, sym, subst, arith, Bool, true, false, if◌then◌else◌, Option, Some}
use Rattle.std.proofs.Math.Logic.{◌⊎◌, inl, inr}
use Rattle.std.proofs.lemmas.Option.{same_Some}
use Rattle.surface_tree.specs.declared.token.Token.{Token}
use Rattle.surface_grammar.specs.declared.form.Form.{Form}
use Rattle.surface_grammar.specs.declared.part.Part.{Part}
use Rattle.surface_grammar.specs.declared.part.Part.TheVariants.{Word, One, Many, Maybe}
use Rattle.surface_grammar.specs.declared.rule.Rule.{Rule}
use Rattle.surface_grammar.specs.Sides.{is_deep}
use Rattle.surface_grammar.specs.Table.{body_of}
use Rattle.surface_grammar.specs.Trees.{depth_of}
use Rattle.grammar_engine.specs.declared.want.Want.{Want}
use Rattle.grammar_engine.specs.declared.machine.Machine.{Machine}
use Rattle.grammar_engine.specs.Moves.{wants_of, goes_by, MeetsPart}
use Rattle.grammar_engine.specs.Passing.{Counts}
use Rattle.grammar_engine.specs.Solid.{solid_or, first_solid}
use Rattle.grammar_engine.proofs.Keeping.Passed.{want}
use Rattle.grammar_engine.proofs.Table.Ranks.{rank_low}
use Rattle.grammar_engine.proofs.Keeping.Smaller.{height_part, left_over, smaller}

-- each has so much room
abbrev pub AllRoom : ℕ → List Want → Type 0
AllRoom least [] = Unit {0}
AllRoom least (w ∷ ws) = (least ≤ w.room) × AllRoom least ws

-- no more levels are spoken of, or each has room for all that reading can still do
abbrev pub Roomed : ℕ → ℕ → List Token → ℕ → List Want → Type 0
Roomed extra races items here ws = (extra ≡ 0) ⊎ AllRoom (400 * races + left_over (drop here items) ws + 2) ws

room_less : (a b : ℕ) (ws : List Want) → b ≤ a → AllRoom a ws → AllRoom b ws
room_less a b [] l h = tt
room_less a b (w ∷ ws) l h = (omega (arith, l, h.0), room_less a b ws l h.1)

height_start : (p : Part) → height_part p 0 ≤ 320
height_start (Word w) = omega arith
height_start (One g) = omega (arith, rank_low g)
height_start (Many g) = omega (arith, rank_low g)
height_start (Maybe g) = omega (arith, rank_low g)

-- at the start
pub room_start : (extra races : ℕ) (items : List Token) (p : Part) (at room tag : ℕ) → Counts items at room races extra → Roomed extra races items at (want p room tag ∷ [])
room_start extra races items p at room tag (inl e) = inl e
room_start extra races items p at room tag (inr h) = inr (omega (arith, h, height_start p), tt)

depth_one : (q : Rule) → depth_of q ≤ 1
depth_one q = by_deep (is_deep q)
  where
    by_deep : (b : Bool) → (if b then 1 else 0) ≤ 1
    by_deep true = omega arith
    by_deep false = omega arith

rule_room : (least inner own : ℕ) (ps : List Part) (ws : List Want) → least ≤ inner → AllRoom least ws → AllRoom least (wants_of inner own ps ++ ws)
rule_room least inner own [] ws l h = h
rule_room least inner own (p ∷ ps) ws l h = (l, rule_room least inner own ps ws l h)

goes_room : (b : Bool) (least : ℕ) (g : Form) (room tag : ℕ) (extra : List Want) (a c : Machine) → goes_by b g room tag extra a c → AllRoom least (want (One g) room tag ∷ extra ++ a.wants) → AllRoom least a.wants → AllRoom least c.wants
goes_room true least g room tag extra a c by on off = subst (AllRoom least) (sym by.0) on
goes_room false least g room tag extra a c by on off = subst (AllRoom least) (sym by.0) off

-- what is less by one stays after a step, which takes one level at most
step_room : (least : ℕ) (items : List Token) (q : Part) (room tag : ℕ) (a c : Machine) → MeetsPart items q room tag a c → AllRoom (suc least) (want q room tag ∷ a.wants) → AllRoom least c.wants
step_room least items (Word w) room tag a c s h = subst (AllRoom least) (sym s.wants) (room_less (suc least) least a.wants (omega arith) h.1)
step_room least items (One g) room tag a c s h =
    subst (AllRoom least) (sym s.wants) (rule_room least s.inner s.own (body_of s.rule) a.wants (inner_room s.inner (depth_of s.rule) s.built.room_left (depth_one s.rule)) (room_less (suc least) least a.wants (omega arith) h.1))
  where
    inner_room : (i d : ℕ) → i + d ≡ room → d ≤ 1 → least ≤ i
    inner_room i d e l = omega (arith, e, l, h.0)
step_room least items (Many g) room tag a c s h =
    let later = room_less (suc least) least a.wants (omega arith) h.1 in
    goes_room s.taken least g room tag (want (Many g) room tag ∷ []) a c s.by (omega (arith, h.0), (omega (arith, h.0), later)) later
step_room least items (Maybe g) room tag a c s h =
    let later = room_less (suc least) least a.wants (omega arith) h.1 in
    goes_room s.taken least g room tag [] a c s.by (omega (arith, h.0), later) later

-- a step of reading keeps it
pub room_meets : (extra races : ℕ) (items : List Token) (q : Part) (room tag : ℕ) (a c : Machine) → MeetsPart items q room tag a c → Roomed extra races items a.at (want q room tag ∷ a.wants) → Roomed extra races items c.at c.wants
room_meets extra races items q room tag a c s (inl e) = inl e
room_meets extra races items q room tag a c s (inr h) =
    inr (step_room (400 * races + left_over (drop c.at items) c.wants + 2) items q room tag a c s
    (room_less (400 * races + left_over (drop a.at items) (want q room tag ∷ a.wants) + 2) (suc (400 * races + left_over (drop c.at items) c.wants + 2)) (want q room tag ∷ a.wants)
    (less (left_over (drop c.at items) c.wants) (left_over (drop a.at items) (want q room tag ∷ a.wants)) (smaller items q room tag a c s)) h))
  where
    less : (i j : ℕ) → i < j → suc (400 * races + i + 2) ≤ 400 * races + j + 2
    less i j l = omega (arith, l)

-- what it says of what is read next, and of the first that can't be left out
pub room_two : (extra races : ℕ) (items : List Token) (here : ℕ) (w : Want) (ws : List Want) → Roomed extra races items here (w ∷ ws) → (extra ≡ 0) ⊎ (2 ≤ w.room)
room_two extra races items here w ws (inl e) = inl e
room_two extra races items here w ws (inr h) = inr (omega (arith, h.0))

ample_at : (least races len over room : ℕ) → 1 ≤ races → least ≡ 400 * races + (400 * len + over) + 2 → least ≤ room → 400 * (len + (races - 1) + 1) ≤ room
ample_at least races len over room l e h = omega (arith, l, e, h)

pub room_counts : (extra races : ℕ) (items : List Token) (here : ℕ) (w : Want) (ws : List Want) → Roomed extra races items here (w ∷ ws) → 1 ≤ races → Counts items here w.room (races - 1) extra
room_counts extra races items here w ws (inl e) l = inl e
room_counts extra races items here w ws (inr h) l = inr (ample_at (400 * races + left_over (drop here items) (w ∷ ws) + 2) races (length (drop here items)) _ w.room l refl h.0)

solid_at : (least : ℕ) (wanted : Want) (p : Part) (w : Want) (later : Option Want) → solid_or p w later ≡ Some wanted → least ≤ w.room → (later ≡ Some wanted → least ≤ wanted.room) → least ≤ wanted.room
solid_at least wanted (Word u) w later e h next = subst (λ z. least ≤ z.room) (same_Some w wanted e) h
solid_at least wanted (One g) w later e h next = subst (λ z. least ≤ z.room) (same_Some w wanted e) h
solid_at least wanted (Many g) w later e h next = next e
solid_at least wanted (Maybe g) w later e h next = next e

solid_room : (least : ℕ) (wanted : Want) (ws : List Want) → first_solid ws ≡ Some wanted → AllRoom least ws → least ≤ wanted.room
solid_room least wanted [] e h = cc
solid_room least wanted (w ∷ ws) e h = solid_at least wanted w.part w (first_solid ws) e h.0 (λ i. solid_room least wanted ws i h.1)

pub room_solid : (extra races : ℕ) (items : List Token) (here : ℕ) (w : Want) (ws : List Want) → Roomed extra races items here (w ∷ ws) → (wanted : Want) → first_solid ws ≡ Some wanted → 1 ≤ races → Counts items here wanted.room (races - 1) extra
room_solid extra races items here w ws (inl e) wanted s l = inl e
room_solid extra races items here w ws (inr h) wanted s l =
    inr (ample_at (400 * races + left_over (drop here items) (w ∷ ws) + 2) races (length (drop here items)) _ wanted.room l refl (solid_room (400 * races + left_over (drop here items) (w ∷ ws) + 2) wanted ws s h.1))
