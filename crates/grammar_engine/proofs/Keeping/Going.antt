-- Each tree that has the tokens looked at goes through each state of reading.
use Rattle.std.proofs.Common.{◌≡◌, ◌≤◌, ◌+◌, ℕ, max, List, [], ◌∷◌, ◌++◌, length, take, drop, append_assoc, append-nil, length-append, refl, ap, sym, ◌∙◌, subst, arith, Bool, true, false, Option}
use Rattle.std.proofs.Math.Logic.{◌⊎◌, inl, inr}
use Rattle.surface_tree.specs.declared.kind.Kind.{Kind}
use Rattle.surface_tree.specs.declared.token.Token.{Token}
use Rattle.surface_grammar.specs.declared.form.Form.{Form}
use Rattle.surface_grammar.specs.declared.part.Part.{Part}
use Rattle.surface_grammar.specs.declared.part.Part.TheVariants.{Word, One, Many, Maybe}
use Rattle.surface_grammar.specs.declared.rule.Rule.{Rule}
use Rattle.surface_grammar.specs.declared.tree.Mark.{Mark}
use Rattle.surface_grammar.specs.declared.tree.Mark.TheVariants as m
use Rattle.surface_grammar.specs.Fronts.{first_kind}
use Rattle.surface_grammar.specs.Listings.{marks_of, marks_all}
use Rattle.surface_grammar.specs.Table.{body_of}
use Rattle.surface_grammar.specs.Trees.{Node, branch, absent, present, Nodes, none, more, spell, spell_all, front, begins, is_open, must_go_on, Built, Fits, FitsAll}
use Rattle.grammar_engine.specs.declared.want.Want.{Want}
use Rattle.grammar_engine.specs.declared.machine.Machine.{Machine}
use Rattle.grammar_engine.specs.declared.stop.Stop.{Stop}
use Rattle.grammar_engine.specs.declared.stop.Stop.TheVariants.{Refused, Memory}
use Rattle.grammar_engine.specs.Allowed.{Beside, Raised, RefusesPart}
use Rattle.grammar_engine.specs.Moves.{goes_by, MeetsPart, Begun}
use Rattle.grammar_engine.specs.Passing.{Agrees, Counts, FilledBy, Marked, MarkSure, OptionSure, RuleSure, SoleHere, StopsAll, Sure, Through, races_of}
use Rattle.grammar_engine.specs.Places.{name_at}
use Rattle.grammar_engine.specs.Single.{is_text_part}
use Rattle.grammar_engine.specs.Stuck.{Blocked, MeetsBlocked}
use Rattle.grammar_engine.proofs.Keeping.Agreeing.{kinds_same, agrees_less, agrees_next, agrees_past}
use Rattle.grammar_engine.proofs.Fronts.Context.{tidy}
use Rattle.grammar_engine.proofs.Keeping.Passed.{want, Stepped}
use Rattle.grammar_engine.proofs.Keeping.Raced.{Raced, raced_meets, raced_start, raced_exp, raced_open}
use Rattle.grammar_engine.proofs.Keeping.Racing.{rule_same, option_same}
use Rattle.grammar_engine.proofs.Keeping.Roomy.{Roomed, room_start, room_meets, room_two, room_counts, room_solid}
use Rattle.grammar_engine.proofs.Keeping.Steps.{step_word, step_rule, step_many, step_maybe, blocked_none, closed, not_open}
use Rattle.grammar_engine.proofs.Keeping.Trailing.{Trails, Closes, starts_tidy, trails_meets, never_open, text_ends, text_marks}
use Rattle.grammar_engine.proofs.Trees.Unique.{front_kind}

-- trees for what is to be read, which make up the tree with what was read
pub record Passed (extra : ℕ) (items : List Token) (node : Node) (tail : List Token) (ws : List Want) (leaves : List Token) (marks : List Mark) : Type 0 where
  pub nodes : Nodes
  pub filled : FilledBy extra items nodes ws (first_kind tail)
  pub spelled : spell node ≡ leaves ++ spell_all nodes
  pub listed : marks_of node ≡ marks ++ marks_all nodes

-- the state of reading: each tree that has the tokens looked at goes through it
pub record Going (items : List Token) (p : Part) (at room races here far : ℕ) (ws : List Want) (leaves : List Token) (marks : List Mark) : Type 0 where
  pub passes : is_text_part p ≡ true → races_of p ≤ races → (t : Through items p at room races (max here far)) → Passed t.extra items t.node t.tail ws leaves marks
  pub trails : (e : Bool) → tidy e true (p ∷ []) ≡ true → Trails e ws
  pub raced : races_of p ≤ races → Raced races ws
  pub roomed : (extra : ℕ) → Counts items at room races extra → Roomed extra races items here ws
  pub come : here ≡ at + length leaves

start_passed : (extra : ℕ) (items : List Token) (p : Part) (room tag : ℕ) (node : Node) (tail : List Token) → Fits (room + extra) (name_at items tag) node p (first_kind tail) → Passed extra items node tail (want p room tag ∷ []) [] []
start_passed extra items p room tag node tail fit = record { nodes = more node none; filled = (fit, tt); spelled = sym (append-nil (spell node)); listed = sym (append-nil (marks_of node)) }

going_first : (items : List Token) (p : Part) (at room races : ℕ) → Going items p at room races at at (want p room at ∷ []) [] []
going_first items p at room races = record {
  passes = λ h l t. start_passed t.extra items p room at t.node t.tail t.fits;
  trails = λ e h. h;
  raced = λ l. raced_start p room at races l;
  roomed = λ extra h. room_start extra races items p at room at h;
  come = search arith;
}

-- the same at equal parts of a state
going_at : (items : List Token) (p : Part) (at room races here here' far far' : ℕ) (ws ws' : List Want) (leaves leaves' : List Token) (marks marks' : List Mark) → here' ≡ here → far' ≡ far → ws' ≡ ws → leaves' ≡ leaves → marks' ≡ marks
    → Going items p at room races here far ws leaves marks → Going items p at room races here' far' ws' leaves' marks'
going_at items p at room races here here' far far' ws ws' leaves leaves' marks marks' e1 e2 e3 e4 e5 g =
    subst (λ i. Going items p at room races i far' ws' leaves' marks') (sym e1)
    (subst (λ i. Going items p at room races here i ws' leaves' marks') (sym e2)
    (subst (λ l. Going items p at room races here far l leaves' marks') (sym e3)
    (subst (λ l. Going items p at room races here far ws l marks') (sym e4)
    (subst (λ l. Going items p at room races here far ws leaves l) (sym e5) g))))

pub going_start : (items : List Token) (p : Part) (at room races : ℕ) (a : Machine) → Begun p at room a → Going items p at room races a.at a.far a.wants a.tree.leaves a.tree.marks
going_start items p at room races a b = going_at items p at room races at a.at at a.far (want p room at ∷ []) a.wants [] a.tree.leaves [] a.tree.marks b.place b.far b.wants b.leaves b.marks (going_first items p at room races)

-- a tree that has the tokens through a place has those through each place before it
abbrev pub through_less : (items : List Token) (p : Part) (at room races near place : ℕ) → near ≤ place → Through items p at room races place → Through items p at room races near
through_less items p at room races near place l t =
    record { extra = t.extra; node = t.node; tail = t.tail; counts = t.counts; fits = t.fits; behind = t.behind; agrees = agrees_less items at near place (spell t.node ++ t.tail) l t.agrees }

-- a step of the trees behind a state
stepped_passed : (extra : ℕ) (items : List Token) (node : Node) (tail : List Token) (ws later : List Want) (leaves leaves' taken : List Token) (marks marks' made : List Mark) (d : Passed extra items node tail ws leaves marks)
    → leaves' ≡ leaves ++ taken → marks' ≡ marks ++ made → Stepped extra items d.nodes ws later (first_kind tail) taken made → Passed extra items node tail later leaves' marks'
stepped_passed extra items node tail ws later leaves leaves' taken marks marks' made d e e' s = record {
  nodes = s.rest;
  filled = s.filled;
  spelled = d.spelled ∙ ap (λ l. leaves ++ l) s.spelled ∙ sym (append_assoc leaves taken (spell_all s.rest)) ∙ ap (λ l. l ++ spell_all s.rest) (sym e);
  listed = d.listed ∙ ap (λ l. marks ++ l) s.listed ∙ sym (append_assoc marks made (marks_all s.rest)) ∙ ap (λ l. l ++ marks_all s.rest) (sym e');
}

-- the text behind what was read has the tokens that are left
pub rest_agrees : (items : List Token) (at here place : ℕ) (leaves tail : List Token) (node : Node) (nodes : Nodes) → drop at items ≡ leaves ++ drop here items → here ≡ at + length leaves → spell node ≡ leaves ++ spell_all nodes
    → Agrees items at place (spell node ++ tail) → Agrees items here place (spell_all nodes ++ tail)
rest_agrees items at here place leaves tail node nodes read come spelled agrees =
    agrees_past items at here place leaves (spell_all nodes ++ tail) read come (subst (Agrees items at place) (ap (λ l. l ++ tail) spelled ∙ append_assoc leaves (spell_all nodes) tail) agrees)

pub marks_same : (marks : List Mark) (x y : Mark) → marks ++ x ∷ [] ≡ marks ++ y ∷ [] → x ≡ y
marks_same [] x y e = cc
marks_same (z ∷ marks) x y e = marks_same marks x y (tails z (marks ++ x ∷ []) (marks ++ y ∷ []) e)
  where
    tails : (z : Mark) (a b : List Mark) → z ∷ a ≡ z ∷ b → a ≡ b
    tails z a b i = cc

pub rules_same : (q p : Rule) → m.Rule q ≡ m.Rule p → q ≡ p
rules_same q p e = cc

apart : {A : Type 0} → m.Item ≡ m.End → A
apart e = cc

-- the rule that is begun is that of the tree
begun_same : (items : List Token) (extra : ℕ) (g : Form) (room tag at races far place : ℕ) (q : Rule) (ws : List Want) (nodes : Nodes) (tail : List Token) (e : Bool) → Trails e (want (One g) room tag ∷ ws) → Closes e tail → Raced races (want (One g) room tag ∷ ws)
    → Roomed extra races items at (want (One g) room tag ∷ ws) → (inner own : ℕ) → Built room inner (name_at items tag) (name_at items own) q g (first_kind (drop at items)) → FilledBy extra items nodes (want (One g) room tag ∷ ws) (first_kind tail)
    → Agrees items at place (spell_all nodes ++ tail) → at ≤ place → far ≤ place → RuleSure items g q room races at far → (p : Rule) (os others : Nodes) → nodes ≡ more (branch p os) others → p ≡ q
begun_same items extra g room tag at races far place q ws nodes tail e trails closes raced roomed inner own built filled agrees here l sure p os others is =
    let fills = subst (λ z. FilledBy extra items z (want (One g) room tag ∷ ws) (first_kind tail)) is filled in
    let same : front (spell_all others) (first_kind tail) ≡ first_kind (spell_all others ++ tail) = front_kind (spell_all others) tail in
    let text : spell_all nodes ++ tail ≡ spell_all os ++ (spell_all others ++ tail) = ap (λ z. spell_all z ++ tail) is ∙ append_assoc (spell_all os) (spell_all others) tail in
    rule_same items g q p os room tag fills.0.0 races at far place extra fills.0.1 (spell_all others ++ tail) built.rule
    (subst (λ y. Built (room + extra) fills.0.0 (name_at items tag) fills.0.1 p g (front (spell_all os) y)) same fills.0.2) (subst (λ y. FitsAll fills.0.0 fills.0.1 os (body_of p) y) same fills.0.3)
    (subst (Agrees items at place) text agrees) here l (room_two extra races items at (want (One g) room tag) ws roomed) (λ i. text_ends extra items g room tag others ws e tail trails closes fills.1 i)
    (raced_exp races g room tag ws raced) (room_counts extra races items at (want (One g) room tag) ws roomed) sure

-- what a state says of a tree, for a step
pub record Held (items : List Token) (p : Part) (races : ℕ) (here place extra : ℕ) (tail : List Token) (ws : List Want) (nodes : Nodes) : Type 0 where
  pub e : Bool
  pub trails : Trails e ws
  pub closes : Closes e tail
  pub raced : Raced races ws
  pub roomed : Roomed extra races items here ws
  pub filled : FilledBy extra items nodes ws (first_kind tail)
  pub agrees : Agrees items here place (spell_all nodes ++ tail)
  pub come : here ≤ place

pub step_goes : (b : Bool) (items : List Token) (extra : ℕ) (g : Form) (room tag : ℕ) (before rest : List Want) (a c : Machine) (nodes : Nodes) (x : Option Kind) → goes_by b g room tag rest a c
    → (b ≡ true → Stepped extra items nodes before (want (One g) room tag ∷ rest ++ a.wants) x [] (m.Item ∷ [])) → (b ≡ false → Stepped extra items nodes before a.wants x [] (m.End ∷ []))
    → (made : List Mark) × (c.tree.marks ≡ a.tree.marks ++ made) × Stepped extra items nodes before c.wants x [] made
step_goes true items extra g room tag before rest a c nodes x by on off = (m.Item ∷ [], by.1, subst (λ l. Stepped extra items nodes before l x [] (m.Item ∷ [])) (sym by.0) (on refl))
step_goes false items extra g room tag before rest a c nodes x by on off = (m.End ∷ [], by.1, subst (λ l. Stepped extra items nodes before l x [] (m.End ∷ [])) (sym by.0) (off refl))

taken_same : (b d : Bool) (g : Form) (room tag : ℕ) (rest : List Want) (a c : Machine) → goes_by b g room tag rest a c → Marked d a c → d ≡ b
taken_same true true g room tag rest a c by mark = refl
taken_same false false g room tag rest a c by mark = refl
taken_same true false g room tag rest a c by mark = apart (marks_same a.tree.marks m.Item m.End (sym by.1 ∙ mark))
taken_same false true g room tag rest a c by mark = apart (marks_same a.tree.marks m.Item m.End (sym mark ∙ by.1))

option_held : (items : List Token) (p : Part) (g : Form) (room tag races here far place extra : ℕ) (taken : Bool) (tail : List Token) (ws : List Want) (nodes : Nodes) → Held items p races here place extra tail (want (Maybe g) room tag ∷ ws) nodes → far ≤ place
    → (taken ≡ false → must_go_on g (first_kind (drop here items)) ≡ false) → (taken ≡ true → begins g (first_kind (drop here items)) ≡ true) → OptionSure taken items g races here ws far
    → (taken ≡ true → (others : Nodes) → nodes ≡ more absent others → ⊥) × (taken ≡ false → (o : Node) (others : Nodes) → nodes ≡ more (present o) others → ⊥)
option_held items p g room tag races here far place extra taken tail ws none h l ends begun sure = absurd h.filled
option_held items p g room tag races here far place extra taken tail ws (more n others) h l ends begun sure =
    let same : front (spell_all others) (first_kind tail) ≡ first_kind (spell_all others ++ tail) = front_kind (spell_all others) tail in
    let d = option_same taken items g n room tag races here far place extra ws (spell_all others ++ tail) (subst (λ y. Fits (room + extra) (name_at items tag) n (Maybe g) y) same h.filled.0)
    (subst (Agrees items here place) (append_assoc (spell n) (spell_all others) tail) h.agrees) h.come l (raced_open races g room tag ws h.raced)
    (λ i j. text_marks extra items g room tag others ws h.e tail h.trails h.closes h.filled.1 i j) (λ w s i. room_solid extra races items here (want (Maybe g) room tag) ws h.roomed w s i) ends begun sure in
    (λ i os is. d.0 i (first n absent others os is), λ i o os is. d.1 i o (first n (present o) others os is))
  where
    first : (a b : Node) (others more_others : Nodes) → more a others ≡ more b more_others → a ≡ b
    first a b others more_others i = cc

-- a step passes on each tree that has the tokens looked at
step_held : (items : List Token) (p q : Part) (room tag races place extra : ℕ) (a c : Machine) (tail : List Token) (nodes : Nodes) → MeetsPart items q room tag a c → Sure items q room races a c → c.far ≤ place
    → Held items p races a.at place extra tail (want q room tag ∷ a.wants) nodes → (taken : List Token) × (made : List Mark) × (c.tree.leaves ≡ a.tree.leaves ++ taken) × (c.tree.marks ≡ a.tree.marks ++ made) × Stepped extra items nodes (want q room tag ∷ a.wants) c.wants (first_kind tail) taken made
step_held items p (Word w) room tag races place extra a c tail nodes s sure l h = (
  s.token ∷ [],
  m.Leaf ∷ [],
  s.leaves,
  s.marks,
  subst (λ ws. Stepped extra items nodes (want (Word w) room tag ∷ a.wants) ws (first_kind tail) (s.token ∷ []) (m.Leaf ∷ [])) (sym s.wants)
      (step_word items extra w room tag a.wants nodes tail s.token (drop c.at items) h.filled (agrees_next items a.at place (spell_all nodes ++ tail) h.come h.agrees ∙ ap (take 1) s.next)),
)
step_held items p (One g) room tag races place extra a c tail nodes s sure l h =
    let same : sure.0 ≡ s.rule = rules_same sure.0 s.rule (marks_same a.tree.marks (m.Rule sure.0) (m.Rule s.rule) (sym sure.1 ∙ s.marks)) in (
      [],
      m.Rule s.rule ∷ [],
      s.leaves ∙ sym (append-nil a.tree.leaves),
      s.marks,
      subst (λ ws. Stepped extra items nodes (want (One g) room tag ∷ a.wants) ws (first_kind tail) [] (m.Rule s.rule ∷ [])) (sym s.wants)
          (step_rule items extra g room tag a.at s.inner s.own s.rule a.wants nodes tail s.built s.opened h.filled (agrees_next items a.at place (spell_all nodes ++ tail) h.come h.agrees)
          (begun_same items extra g room tag a.at races c.far place s.rule a.wants nodes tail h.e h.trails h.closes h.raced h.roomed s.inner s.own s.built h.filled h.agrees h.come l (subst (λ z. RuleSure items g z room races a.at c.far) same sure.2))),
    )
step_held items p (Many g) room tag races place extra a c tail nodes s sure l h =
    let calm = never_open h.e g room tag a.wants h.trails in
    let next = first_kind (drop a.at items) in
    let d = step_many items extra g room tag a.at a.wants nodes tail calm h.filled (agrees_next items a.at place (spell_all nodes ++ tail) h.come h.agrees) in
    let made = step_goes s.taken items extra g room tag (want (Many g) room tag ∷ a.wants) (want (Many g) room tag ∷ []) a c nodes (first_kind tail) s.by (λ i. d.0 (s.begun i)) (λ i. d.1 (closed (begins g next) (is_open g next) (s.sure i) (not_open g next calm))) in
    ([], made.0, s.leaves ∙ sym (append-nil a.tree.leaves), made.1, made.2)
step_held items p (Maybe g) room tag races place extra a c tail nodes s sure l h =
    let same : sure.0 ≡ s.taken = taken_same s.taken sure.0 g room tag [] a c s.by sure.1 in
    let d = step_maybe items extra g room tag a.wants nodes (first_kind tail) h.filled in
    let o = option_held items p g room tag races a.at c.far place extra s.taken tail a.wants nodes h l s.sure s.begun (λ i j. subst (λ b. MarkSure b items races a.at a.wants c.far) same (sure.2 i j)) in
    let made = step_goes s.taken items extra g room tag (want (Maybe g) room tag ∷ a.wants) [] a c nodes (first_kind tail) s.by (λ i. d.0 (o.0 i)) (λ i. d.1 (o.1 i)) in
    ([], made.0, s.leaves ∙ sym (append-nil a.tree.leaves), made.1, made.2)

pub raised_far : (By : ℕ → Type 0) (far farther : ℕ) → Raised By far farther → far ≤ farther
raised_far By far farther (inl e) = omega (arith, e)
raised_far By far farther (inr (place, e, b)) = omega (arith, e)

pub goes_at : (items : List Token) (q : Part) (room tag : ℕ) (a c : Machine) → MeetsPart items q room tag a c → a.at ≤ c.at
goes_at items (Word w) room tag a c s = omega (arith, s.step)
goes_at items (One g) room tag a c s = omega (arith, s.at)
goes_at items (Many g) room tag a c s = omega (arith, s.at)
goes_at items (Maybe g) room tag a c s = omega (arith, s.at)

pub come_meets : (items : List Token) (at : ℕ) (q : Part) (room tag : ℕ) (a c : Machine) → MeetsPart items q room tag a c → a.at ≡ at + length a.tree.leaves → c.at ≡ at + length c.tree.leaves
come_meets items at (Word w) room tag a c s e = grown (length a.tree.leaves) (length c.tree.leaves) e s.step (ap length s.leaves ∙ length-append a.tree.leaves (s.token ∷ []))
  where
    grown : (n o : ℕ) → a.at ≡ at + n → c.at ≡ a.at + 1 → o ≡ n + 1 → c.at ≡ at + o
    grown n o i j l = omega (arith, i, j, l)
come_meets items at (One g) room tag a c s e = s.at ∙ e ∙ ap (λ l. at + length l) (sym s.leaves)
come_meets items at (Many g) room tag a c s e = s.at ∙ e ∙ ap (λ l. at + length l) (sym s.leaves)
come_meets items at (Maybe g) room tag a c s e = s.at ∙ e ∙ ap (λ l. at + length l) (sym s.leaves)

held_at : (items : List Token) (p : Part) (at room races here far place : ℕ) (ws : List Want) (leaves : List Token) (marks : List Mark) (t : Through items p at room races place) → Going items p at room races here far ws leaves marks → drop at items ≡ leaves ++ drop here items
    → is_text_part p ≡ true → races_of p ≤ races → here ≤ place → far ≤ place → (d : Passed t.extra items t.node t.tail ws leaves marks) × Held items p races here place t.extra t.tail ws d.nodes
held_at items p at room races here far place ws leaves marks t g read h l i j =
    let d = g.passes h l (through_less items p at room races (max here far) place (omega (arith, i, j)) t) in
    let s = starts_tidy p t.tail h t.behind in (
      d,
      record {
        e = s.e;
        trails = g.trails s.e s.trails;
        closes = s.closes;
        raced = g.raced l;
        roomed = g.roomed t.extra t.counts;
        filled = d.filled;
        agrees = rest_agrees items at here place leaves t.tail t.node d.nodes read g.come d.spelled t.agrees;
        come = i;
      },
    )

passes_meets : (items : List Token) (p : Part) (at room races : ℕ) (q : Part) (r tag : ℕ) (a c : Machine) → MeetsPart items q r tag a c → Sure items q r races a c → a.far ≤ c.far → drop at items ≡ a.tree.leaves ++ drop a.at items
    → Going items p at room races a.at a.far (want q r tag ∷ a.wants) a.tree.leaves a.tree.marks → is_text_part p ≡ true → races_of p ≤ races → (t : Through items p at room races (max c.at c.far)) → Passed t.extra items t.node t.tail c.wants c.tree.leaves c.tree.marks
passes_meets items p at room races q r tag a c s sure far read g h l t =
    let d = held_at items p at room races a.at a.far (max c.at c.far) (want q r tag ∷ a.wants) a.tree.leaves a.tree.marks t g read h l (omega (arith, goes_at items q r tag a c s)) (omega (arith, far)) in
    let made = step_held items p q r tag races (max c.at c.far) t.extra a c t.tail d.0.nodes s sure (omega arith) d.1 in
    stepped_passed t.extra items t.node t.tail (want q r tag ∷ a.wants) c.wants a.tree.leaves c.tree.leaves made.0 a.tree.marks c.tree.marks made.1 d.0 made.2 made.3 made.4

-- a step of reading keeps it
pub going_meets : (items : List Token) (p : Part) (at room races : ℕ) (q : Part) (r tag : ℕ) (a c : Machine) → MeetsPart items q r tag a c → Sure items q r races a c → Raised (Beside items q r a.at a.wants) a.far c.far → drop at items ≡ a.tree.leaves ++ drop a.at items
    → Going items p at room races a.at a.far (want q r tag ∷ a.wants) a.tree.leaves a.tree.marks → Going items p at room races c.at c.far c.wants c.tree.leaves c.tree.marks
going_meets items p at room races q r tag a c s sure raised read g = record {
  passes = passes_meets items p at room races q r tag a c s sure (raised_far (Beside items q r a.at a.wants) a.far c.far raised) read g;
  trails = λ e h. trails_meets e items q r tag a c s (g.trails e h);
  raced = λ l. raced_meets races items q r tag a c s (g.raced l);
  roomed = λ extra h. room_meets extra races items q r tag a c s (g.roomed extra h);
  come = come_meets items at q r tag a c s g.come;
}

blocked_nodes : (items : List Token) (q : Part) (room tag here extra : ℕ) (nodes : Nodes) (ws : List Want) (tail : List Token) → Blocked items q room tag here → (extra ≡ 0) ⊎ (2 ≤ room) → FilledBy extra items nodes (want q room tag ∷ ws) (first_kind tail)
    → take 1 (spell_all nodes ++ tail) ≡ take 1 (drop here items) → ⊥
blocked_nodes items q room tag here extra none ws tail b roomy filled e = absurd filled
blocked_nodes items q room tag here extra (more n others) ws tail b roomy filled e =
    blocked_none items q room tag here extra n (spell_all others ++ tail) b roomy (subst (λ y. Fits (room + extra) (name_at items tag) n q y) (front_kind (spell_all others) tail) filled.0)
    (ap (take 1) (sym (append_assoc (spell n) (spell_all others) tail)) ∙ e)

-- where a part is refused, no tree goes on
pub going_stops : (items : List Token) (p : Part) (at room races : ℕ) (q : Part) (r tag : ℕ) (a : Machine) (stop : Stop) → RefusesPart items q r a stop → MeetsBlocked items q r tag a.at stop → drop at items ≡ a.tree.leaves ++ drop a.at items
    → Going items p at room races a.at a.far (want q r tag ∷ a.wants) a.tree.leaves a.tree.marks → StopsAll items p at room races stop
going_stops items p at room races q r tag a (Refused place) (far, raised, is) blocked read g = λ h l t.
    let later = raised_far (Beside items q r a.at a.wants) a.far far raised in
    let d = held_at items p at room races a.at a.far place (want q r tag ∷ a.wants) a.tree.leaves a.tree.marks t g read h l (omega (arith, is)) (omega (arith, is, later)) in
    blocked_nodes items q r tag a.at t.extra d.0.nodes a.wants t.tail blocked (room_two t.extra races items a.at (want q r tag) a.wants d.1.roomed) d.0.filled (agrees_next items a.at place (spell_all d.0.nodes ++ t.tail) d.1.come d.1.agrees)
going_stops items p at room races q r tag a Memory b blocked read g = tt

pub no_nodes : (extra : ℕ) (items : List Token) (nodes : Nodes) (x : Option Kind) → FilledBy extra items nodes [] x → nodes ≡ none
no_nodes extra items none x filled = refl
no_nodes extra items (more n nodes) x filled = absurd filled

-- with nothing left to be read, the tree is the only one
pub going_ends : (items : List Token) (p : Part) (at room races : ℕ) (a : Machine) → a.wants ≡ [] → drop at items ≡ a.tree.leaves ++ drop a.at items → Going items p at room races a.at a.far a.wants a.tree.leaves a.tree.marks → SoleHere items p at room races a.tree a.at a.far
going_ends items p at room races a done read g h l t =
    let d = held_at items p at room races a.at a.far (max a.at a.far) a.wants a.tree.leaves a.tree.marks t g read h l (omega arith) (omega arith) in
    let nothing : d.0.nodes ≡ none = no_nodes t.extra items d.0.nodes (first_kind t.tail) (subst (λ ws. FilledBy t.extra items d.0.nodes ws (first_kind t.tail)) done d.0.filled) in
    let agrees = subst (λ z. Agrees items a.at (max a.at a.far) (spell_all z ++ t.tail)) nothing d.1.agrees in (
      (
        sym (d.0.spelled ∙ ap (λ z. a.tree.leaves ++ spell_all z) nothing ∙ append-nil a.tree.leaves),
        sym (d.0.listed ∙ ap (λ z. a.tree.marks ++ marks_all z) nothing ∙ append-nil a.tree.marks),
      ),
      kinds_same t.tail (drop a.at items) (agrees_next items a.at (max a.at a.far) t.tail (omega arith) agrees),
    )
