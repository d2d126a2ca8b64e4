-- A step of reading keeps that what was read begins a tree, and a refusal stands where it ends.
use Rattle.std.proofs.Common.{◌≡◌, ◌<◌, ◌≤◌, ◌+◌, ◌-◌, ℕ, max, List, [], ◌∷◌, ◌++◌, length, drop, refl, ap, sym, subst, arith, Bool, true, false, not, ◌&&◌, Option, Some, None}
use Rattle.std.proofs.Math.Logic.{inl, inr}
use Rattle.std.proofs.lemmas.Bool.{and_from}
use Rattle.surface_tree.specs.declared.kind.Kind.{Kind}
use Rattle.surface_tree.specs.declared.kind.Kind.TheVariants as k
use Rattle.surface_tree.specs.declared.token.Token.{Token}
use Rattle.surface_grammar.specs.declared.form.Form.{Form}
use Rattle.surface_grammar.specs.declared.form.Form.TheVariants as f
use Rattle.surface_grammar.specs.declared.part.Part.{Part}
use Rattle.surface_grammar.specs.declared.part.Part.TheVariants.{Word, One, Many, Maybe}
use Rattle.surface_grammar.specs.declared.rule.Rule.{Rule}
use Rattle.surface_grammar.specs.Forms.{rules_of}
use Rattle.surface_grammar.specs.Table.{body_of}
use Rattle.surface_grammar.specs.Trees.{leaf, more, spell_all, must_go_on, depth_of, IsIn}
use Rattle.grammar_engine.specs.declared.want.Want.{Want}
use Rattle.grammar_engine.specs.declared.machine.Machine.{Machine}
use Rattle.grammar_engine.specs.Allowed.{may_stand_behind, AllowedAt, Beside, Raised, RefusesPart, StopsAllowed}
use Rattle.grammar_engine.specs.declared.stop.Stop.{Stop}
use Rattle.grammar_engine.specs.declared.stop.Stop.TheVariants.{Refused, Memory}
use Rattle.grammar_engine.specs.Moves.{wants_of, goes_by, MeetsPart, Begun}
use Rattle.grammar_engine.specs.Rooms.{least_of}
use Rattle.grammar_engine.specs.Stuck.{MeetsBlocked, StopsStuck}
use Rattle.grammar_engine.proofs.Keeping.Allowing.{Ready, at_max, inside, grown_begins, begins_at, bind_allowed, kind_allowed}
use Rattle.grammar_engine.proofs.Short.Calm.{nexts, follows, behind, calm, fits_room, rooms, tail_rooms, fill_wants, parts_of, Roomy, TailRoomy, calm_some, calm_append}
use Rattle.grammar_engine.proofs.Short.Filling.{rule_calm, rule_rooms, filled, tail_more_room}
use Rattle.grammar_engine.proofs.Keeping.Grown.{Grows}
use Rattle.grammar_engine.proofs.Keeping.Splicing.{splice_allowed}
use Rattle.grammar_engine.proofs.Bools.{and_left, and_right, every}

-- the part that is met next, before what stays
abbrev pub want : Part → ℕ → ℕ → Want
want q space tag = record { part = q; room = space; tag = tag }

near : {items : List Token} {p : Part} {at room here far : ℕ} {ws : List Want} → Ready items p at room here far ws → Ready items p at room here here ws
near d = record { quiet = d.quiet; roomy = d.roomy; come = d.come; farther = d.come }

-- another way of reading comes to an allowed place
beside_allowed : (items : List Token) (p : Part) (at room here place space tag : ℕ) (q : Part) (ws : List Want) (a : Machine)
    → Grows items p at room (drop here items) (want q space tag ∷ ws) a.tree.leaves a.tree.marks → drop at items ≡ a.tree.leaves ++ drop here items
    → Ready items p at room here here (want q space tag ∷ ws) → Beside items q space here ws place → AllowedAt items p at room place
beside_allowed items p at room here place space tag (One f.Exp) ws a grows read ready b = bind_allowed items p at room here place space tag ws a.tree.leaves a.tree.marks grows read ready b.0 b.1
beside_allowed items p at room here place space tag (One f.SqlBraceRest) ws a grows read ready b = splice_allowed items p at room here place space tag ws a.tree.leaves a.tree.marks grows read ready b.0 b.1 b.2
beside_allowed items p at room here place space tag (Maybe f.ConForall) ws a grows read ready b = kind_allowed items p at room here place space tag ws a.tree.leaves a.tree.marks grows read ready b
beside_allowed items p at room here place space tag q ws a grows read ready b = absurd b

raised_allowed : (items : List Token) (p : Part) (at room space tag far : ℕ) (q : Part) (a : Machine)
    → Grows items p at room (drop a.at items) (want q space tag ∷ a.wants) a.tree.leaves a.tree.marks → drop at items ≡ a.tree.leaves ++ drop a.at items
    → Ready items p at room a.at a.far (want q space tag ∷ a.wants) → Raised (Beside items q space a.at a.wants) a.far far → AllowedAt items p at room far
raised_allowed items p at room space tag far q a grows read ready (inl e) = subst (AllowedAt items p at room) (sym e) ready.farther
raised_allowed items p at room space tag far q a grows read ready (inr b) =
    subst (AllowedAt items p at room) (sym b.1)
    (at_max (AllowedAt items p at room) a.far b.0 ready.farther (beside_allowed items p at room a.at b.0 space tag q a.wants a grows read (near ready) b.2))

-- a refusal of the part stands where what was read, or another way, ends
pub refusal_allowed : (items : List Token) (p : Part) (at room space tag : ℕ) (q : Part) (a : Machine) (stop : Stop)
    → Grows items p at room (drop a.at items) (want q space tag ∷ a.wants) a.tree.leaves a.tree.marks → drop at items ≡ a.tree.leaves ++ drop a.at items
    → Ready items p at room a.at a.far (want q space tag ∷ a.wants) → RefusesPart items q space a stop → StopsAllowed items p at room stop
refusal_allowed items p at room space tag q a (Refused place) grows read ready b =
    subst (AllowedAt items p at room) (sym b.2)
    (at_max (AllowedAt items p at room) a.at b.0 ready.come (raised_allowed items p at room space tag b.0 q a grows read ready b.1))
refusal_allowed items p at room space tag q a Memory grows read ready b = tt

pub roomy_tail : (ws : List Want) → Roomy ws → TailRoomy ws
roomy_tail [] r = tt
roomy_tail (w ∷ ws) r = r.1

roomy_rule : (room tag : ℕ) (ps : List Part) (ws : List Want) → rooms room ps ≡ true → Roomy ws → Roomy (wants_of room tag ps ++ ws)
roomy_rule room tag [] ws h r = r
roomy_rule room tag (p ∷ ps) ws h r = (and_left (fits_room room p) (rooms room ps) h, roomy_rule room tag ps ws (and_right (fits_room room p) (rooms room ps) h) r)

tail_rule : (room tag : ℕ) (ps : List Part) (ws : List Want) → tail_rooms room ps ≡ true → Roomy ws → TailRoomy (wants_of room tag ps ++ ws)
tail_rule room tag [] ws h r = roomy_tail ws r
tail_rule room tag (p ∷ ps) ws h r = roomy_rule room tag ps ws h r

pub parts_append : (room tag : ℕ) (ps : List Part) (ws : List Want) → parts_of (wants_of room tag ps ++ ws) ≡ ps ++ parts_of ws
parts_append room tag [] ws = refl
parts_append room tag (p ∷ ps) ws = ap (λ l. p ∷ l) (parts_append room tag ps ws)

-- the parts of a rule are calm before what follows its form
calm_rule : (q : Rule) (g : Form) (ps : List Part) (ys : List (Option Kind)) → IsIn q (rules_of g) → calm (One g ∷ ps) ys ≡ true → calm (body_of q ++ ps) ys ≡ true
calm_rule q g ps ys i c =
    calm_append (body_of q) ps ys (calm_some g (body_of q) (nexts ps ys) (and_left (every (follows g) (nexts ps ys)) (calm ps ys) c) (rule_calm g q i)) (and_right (every (follows g) (nexts ps ys)) (calm ps ys) c)

every_first : (P Q : Option Kind → Bool) (ys : List (Option Kind)) → every (λ y. P y && Q y) ys ≡ true → every P ys ≡ true
every_first P Q [] h = refl
every_first P Q (y ∷ ys) h = and_from (P y) (every P ys) (and_left (P y) (Q y) (and_left (P y && Q y) (every (λ z. P z && Q z) ys) h)) (every_first P Q ys (and_right (P y && Q y) (every (λ z. P z && Q z) ys) h))

-- the next tree of a repetition or an option is calm where those are
calm_item : (g : Form) (ps : List Part) (ys : List (Option Kind)) → every (λ y. follows g y && not (must_go_on g y)) (nexts ps ys) && calm ps ys ≡ true → calm (One g ∷ ps) ys ≡ true
calm_item g ps ys c =
    and_from (every (follows g) (nexts ps ys)) (calm ps ys) (every_first (follows g) (λ y. not (must_go_on g y)) (nexts ps ys) (and_left (every (λ y. follows g y && not (must_go_on g y)) (nexts ps ys)) (calm ps ys) c))
    (and_right (every (λ y. follows g y && not (must_go_on g y)) (nexts ps ys)) (calm ps ys) c)

calm_many : (g : Form) (ps : List Part) (ys : List (Option Kind)) → calm (Many g ∷ ps) ys ≡ true → calm (One g ∷ Many g ∷ ps) ys ≡ true
calm_many g ps ys c =
    and_from (every (follows g) (nexts ps ys)) (calm (Many g ∷ ps) ys) (every_first (follows g) (λ y. not (must_go_on g y)) (nexts ps ys) (and_left (every (λ y. follows g y && not (must_go_on g y)) (nexts ps ys)) (calm ps ys) c)) c

-- the same at equal parts of a state
ready_at : (items : List Token) (p : Part) (at room here here' far : ℕ) (ws ws' : List Want) → here' ≡ here → ws' ≡ ws → Ready items p at room here far ws → Ready items p at room here' far ws'
ready_at items p at room here here' far ws ws' e e' d = subst (λ i. Ready items p at room i far ws') (sym e) (subst (λ l. Ready items p at room here far l) (sym e') d)

ready_goes : (b : Bool) (items : List Token) (p : Part) (at room far : ℕ) (g : Form) (q : Part) (space tag : ℕ) (rest : List Want) (a c : Machine) → goes_by b g space tag rest a c → c.at ≡ a.at
    → Ready items p at room a.at a.far (want q space tag ∷ a.wants) → AllowedAt items p at room far → Roomy (rest ++ a.wants)
    → ((x : Option Kind) → calm (q ∷ parts_of a.wants) (x ∷ []) ≡ true → calm (parts_of (want (One g) space tag ∷ rest ++ a.wants)) (x ∷ []) ≡ true)
    → ((x : Option Kind) → calm (q ∷ parts_of a.wants) (x ∷ []) ≡ true → calm (parts_of a.wants) (x ∷ []) ≡ true)
    → Ready items p at room c.at far c.wants
ready_goes true items p at room far g q space tag rest a c by here d farther roomy on off =
    ready_at items p at room a.at c.at far _ c.wants here by.0 (record { quiet = λ x ok. on x (d.quiet x ok); roomy = roomy; come = d.come; farther = farther })
ready_goes false items p at room far g q space tag rest a c by here d farther roomy on off =
    ready_at items p at room a.at c.at far _ c.wants here by.0 (record { quiet = λ x ok. off x (d.quiet x ok); roomy = roomy_tail a.wants d.roomy; come = d.come; farther = farther })

ready_part : (items : List Token) (p : Part) (at room space tag : ℕ) (q : Part) (a c : Machine) → MeetsPart items q space tag a c
    → Grows items p at room (drop a.at items) (want q space tag ∷ a.wants) a.tree.leaves a.tree.marks → drop at items ≡ a.tree.leaves ++ drop a.at items
    → Ready items p at room a.at a.far (want q space tag ∷ a.wants) → AllowedAt items p at room c.far → Ready items p at room c.at c.far c.wants
ready_part items p at room space tag (Word w) a c s grows read d farther =
    let within : c.at ≤ length items = bound a.at c.at s.step (inside items a.at s.token (drop c.at items) s.next) in
    subst (λ l. Ready items p at room c.at c.far l) (sym s.wants)
    (record {
      quiet = λ x ok. and_right (every (behind (Word w)) (nexts (parts_of a.wants) (x ∷ []))) (calm (parts_of a.wants) (x ∷ [])) (d.quiet x ok);
      roomy = roomy_tail a.wants d.roomy;
      come = λ x ok le n fit. grown_begins items p at room a.at c.at (want (Word w) space tag ∷ a.wants) a.tree.leaves a.tree.marks x (more (leaf s.token) (fill_wants items a.wants)) (s.token ∷ []) (spell_all (fill_wants items a.wants))
          grows read (d.come x ok le n fit) within
          ((s.accepted, s.named), filled items a.wants x (and_right (every (behind (Word w)) (nexts (parts_of a.wants) (x ∷ []))) (calm (parts_of a.wants) (x ∷ [])) (d.quiet x ok)) d.roomy) refl s.next;
      farther = farther;
    })
  where
    bound : (i j : ℕ) → j ≡ i + 1 → i < length items → j ≤ length items
    bound i j e l = omega (arith, e, l)
ready_part items p at room space tag (One g) a c s grows read d farther =
    ready_at items p at room a.at c.at c.far _ c.wants s.at s.wants
    (record {
      quiet = λ x ok. subst (λ l. calm l (x ∷ []) ≡ true) (sym (parts_append s.inner s.own (body_of s.rule) a.wants)) (calm_rule s.rule g (parts_of a.wants) (x ∷ []) s.built.rule (d.quiet x ok));
      roomy = tail_rule s.inner s.own (body_of s.rule) a.wants (tail_more_room (least_of s.rule - depth_of s.rule) s.inner (body_of s.rule) (bound (least_of s.rule) (depth_of s.rule) s.inner s.built.room_left s.roomy) (rule_rooms g s.rule s.built.rule)) d.roomy;
      come = d.come;
      farther = farther;
    })
  where
    bound : (l d i : ℕ) → i + d ≡ space → l ≤ space → l - d ≤ i
    bound l d i e h = omega (arith, e, h)
ready_part items p at room space tag (Many g) a c s grows read d farther =
    ready_goes s.taken items p at room c.far g (Many g) space tag (want (Many g) space tag ∷ []) a c s.by s.at d farther (refl, d.roomy)
    (λ x h. calm_many g (parts_of a.wants) (x ∷ []) h) (λ x h. and_right (every (behind (Many g)) (nexts (parts_of a.wants) (x ∷ []))) (calm (parts_of a.wants) (x ∷ [])) h)
ready_part items p at room space tag (Maybe g) a c s grows read d farther =
    ready_goes s.taken items p at room c.far g (Maybe g) space tag [] a c s.by s.at d farther d.roomy
    (λ x h. calm_item g (parts_of a.wants) (x ∷ []) h) (λ x h. and_right (every (behind (Maybe g)) (nexts (parts_of a.wants) (x ∷ []))) (calm (parts_of a.wants) (x ∷ [])) h)

pub ready_meets : (items : List Token) (p : Part) (at room space tag : ℕ) (q : Part) (a c : Machine) → MeetsPart items q space tag a c → Raised (Beside items q space a.at a.wants) a.far c.far
    → Grows items p at room (drop a.at items) (want q space tag ∷ a.wants) a.tree.leaves a.tree.marks → drop at items ≡ a.tree.leaves ++ drop a.at items
    → Ready items p at room a.at a.far (want q space tag ∷ a.wants) → Ready items p at room c.at c.far c.wants
ready_meets items p at room space tag q a c s raised grows read d =
    ready_part items p at room space tag q a c s grows read d (raised_allowed items p at room space tag c.far q a grows read d raised)

pub first_quiet : (p : Part) (x : Option Kind) → may_stand_behind p x ≡ true → behind p x ≡ true
first_quiet (Word w) x e = refl
first_quiet (One g) None e = refl
first_quiet (Many g) None e = refl
first_quiet (Maybe g) None e = refl
first_quiet (One f.Pat) (Some k.LeftArrow) e = refl
first_quiet (One f.KindTerm) (Some k.RightParenthesis) e = refl
first_quiet p (Some x) e = cc

pub begun_ready : (items : List Token) (p : Part) (at room : ℕ) (a : Machine) → Begun p at room a → Ready items p at room a.at a.far a.wants
begun_ready items p at room a b =
    subst (λ l. Ready items p at room a.at a.far l) (sym b.wants)
    (record {
      quiet = λ x ok. and_from (every (behind p) (x ∷ [])) true (and_from (behind p x) true (first_quiet p x ok) refl) refl;
      roomy = tt;
      come = subst (AllowedAt items p at room) (sym b.place) (begins_at items p at room);
      farther = subst (AllowedAt items p at room) (sym b.far) (begins_at items p at room);
    })

pub ends_allowed : (items : List Token) (p : Part) (at room here far : ℕ) (ws : List Want) → Ready items p at room here far ws → AllowedAt items p at room (max here far)
ends_allowed items p at room here far ws d = at_max (AllowedAt items p at room) here far d.come d.farther

farther : (a b place : ℕ) → place ≡ max a b → a ≤ place
farther a b place e = omega (arith, e)

-- a refusal of the part is one of the whole
pub stuck_at : (items : List Token) (p : Part) (at room space tag : ℕ) (q : Part) (a : Machine) (stop : Stop) → Grows items p at room (drop a.at items) (want q space tag ∷ a.wants) a.tree.leaves a.tree.marks
    → drop at items ≡ a.tree.leaves ++ drop a.at items → RefusesPart items q space a stop → MeetsBlocked items q space tag a.at stop → StopsStuck items p at room stop
stuck_at items p at room space tag q a (Refused place) grows read b blocked =
    record { here = a.at; want = want q space tag; later = a.wants; leaves = a.tree.leaves; marks = a.tree.marks; reached = farther a.at b.0 place b.2; read = read; grows = grows; blocked = blocked }
stuck_at items p at room space tag q a Memory grows read b blocked = tt
