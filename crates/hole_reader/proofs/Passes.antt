-- Each tree with the trees handed in that has the tokens looked at goes through each state to which reading comes.
use Rattle.std.proofs.Common.{◌≡◌, ◌≤◌, ◌+◌, ℕ, max, List, [], ◌∷◌, ◌++◌, length, take, drop, append_assoc, append-nil, refl, ap, sym, ◌∙◌, subst, arith, true, false, None}
use Rattle.std.proofs.Math.Logic.{inl, inr}
use Rattle.surface_tree.specs.declared.token.Token.{Token}
use Rattle.surface_tree.specs.declared.token.Content.{Content}
use Rattle.surface_grammar.specs.declared.fault.Hole.{Hole}
use Rattle.surface_grammar.specs.declared.form.Form.{Form}
use Rattle.surface_grammar.specs.declared.form.Form.TheVariants as f
use Rattle.surface_grammar.specs.declared.part.Part.{Part}
use Rattle.surface_grammar.specs.declared.part.Part.TheVariants.{Word, One, Many, Maybe}
use Rattle.surface_grammar.specs.declared.rule.Rule.{Rule}
use Rattle.surface_grammar.specs.declared.tree.Mark.{Mark}
use Rattle.surface_grammar.specs.declared.tree.Mark.TheVariants as m
use Rattle.surface_grammar.specs.Forms.{rules_of}
use Rattle.surface_grammar.specs.Fronts.{first_kind}
use Rattle.surface_grammar.specs.Listings.{Listing}
use Rattle.surface_grammar.specs.Table.{body_of}
use Rattle.surface_grammar.specs.Trees.{Node, branch, absent, present, Nodes, none, more, spell, spell_all, front, begins, is_open, must_go_on, IsIn, Built, Fits, FitsAll}
use Rattle.grammar_engine.specs.declared.machine.Machine.{Machine}
use Rattle.grammar_engine.specs.declared.want.Want.{Want}
use Rattle.grammar_engine.specs.Leaving.{outer_all}
use Rattle.grammar_engine.specs.Moves.{MeetsPart}
use Rattle.grammar_engine.specs.Passing.{Agrees, FilledBy, RuleSure, Sure}
use Rattle.grammar_engine.specs.Places.{name_at}
use Rattle.grammar_engine.proofs.Keeping.Agreeing.{kinds_same, agrees_less, agrees_next}
use Rattle.grammar_engine.proofs.Short.Calm.{parts_of}
use Rattle.grammar_engine.proofs.Keeping.Going.{goes_at, marks_same, rules_same, rest_agrees, step_goes}
use Rattle.grammar_engine.proofs.Keeping.Passed.{want, Stepped, SkipsPart}
use Rattle.grammar_engine.proofs.Keeping.Racing.{brace_same}
use Rattle.grammar_engine.proofs.Keeping.Steps.{step_word, step_rule, step_many, step_maybe, begun_rule, one_started, form_begins, closed, not_open}
use Rattle.grammar_engine.proofs.Trees.Unique.{front_kind}
use Rattle.hole_reader.specs.Holes.{hole_of, form_of, is_hole, holes_in, is_open_part}
use Rattle.hole_reader.specs.Progress.{Comes, Counted, Looked, ReadsWant}
use Rattle.hole_reader.specs.Progress.Comes.{begun, met, took}
use Rattle.hole_reader.proofs.Growing.{comes_place, comes_read, no_hole, outer_own}
use Rattle.hole_reader.proofs.Shut.{all_shut, comes_shut, many_shut, maybe_shut}
use Rattle.grammar_engine.proofs.Bools.{clash}

-- trees for what is to be read, which make up the tree with what was read; its other expressions and constructors are theirs
pub record Passed (extra : ℕ) (items : List Token) (node : Node) (tail leaves : List Token) (later : List Listing) (ws : List Want) : Type 0 where
  pub nodes : Nodes
  pub filled : FilledBy extra items nodes ws (first_kind tail)
  pub spelled : spell node ≡ leaves ++ spell_all nodes
  pub holes : later ≡ outer_all is_hole nodes (parts_of ws)

abbrev pub Passes : List Token → Want → List Listing → ℕ → ℕ → List Token → List Want → Type 0
Passes items whole handed at far leaves ws = (extra : ℕ) (node : Node) (tail : List Token) (later : List Listing) → Fits (whole.room + extra) (name_at items whole.tag) node whole.part (first_kind tail) → holes_in node whole.part ≡ handed ++ later
    → Agrees items whole.tag (max at far) (spell node ++ tail) → Passed extra items node tail leaves later ws

passes_first : (items : List Token) (whole : Want) (tree : Listing) → tree.leaves ≡ [] → Passes items whole [] whole.tag whole.tag tree.leaves (whole ∷ [])
passes_first items whole tree leaves extra node tail later fit holes agrees =
    record { nodes = more node none; filled = (fit, tt); spelled = sym (append-nil (spell node)) ∙ ap (λ l. l ++ (spell node ++ [])) (sym leaves); holes = sym holes ∙ sym (append-nil (holes_in node whole.part)) }

skips_part : (q : Part) → hole_of q ≡ None → SkipsPart is_hole q
skips_part (Word w) e = tt
skips_part (One g) e = no_hole g e
skips_part (Many g) e = tt
skips_part (Maybe g) e = tt

-- the rule that is begun is that of the tree
same_begun : (items : List Token) (g : Form) (q p : Rule) (os : Nodes) (room tag inner at far place extra : ℕ) (own : Content) (text : List Token) → hole_of (One g) ≡ None → IsIn q (rules_of g)
    → Built (room + extra) inner (name_at items tag) own p g (front (spell_all os) (first_kind text)) → FitsAll inner own os (body_of p) (first_kind text) → Agrees items at place (spell_all os ++ text) → at ≤ place → far ≤ place → 2 ≤ room → RuleSure items g q room 0 at far → p ≡ q
same_begun items f.Exp q p os room tag inner at far place extra own text skips i b fit agrees here l deep sure = cc
same_begun items f.Con q p os room tag inner at far place extra own text skips i b fit agrees here l deep sure = cc
same_begun items f.SqlBraceRest q p os room tag inner at far place extra own text skips i b fit agrees here l deep sure =
    brace_same items q p os room tag inner at far place extra own text i b b.rule fit agrees here l (inr deep) sure
same_begun items g q p os room tag inner at far place extra own text skips i b fit agrees here l deep sure =
    one_started g p q (first_kind (drop at items)) refl b.rule i (begun_rule g p os (room + extra) inner at (name_at items tag) own items text (first_kind text) b fit (agrees_next items at place (spell_all os ++ text) here agrees)) sure

rule_of_tree : (items : List Token) (extra : ℕ) (g : Form) (room tag at far place inner own : ℕ) (q : Rule) (ws : List Want) (nodes : Nodes) (tail : List Token) → hole_of (One g) ≡ None → Built room inner (name_at items tag) (name_at items own) q g (first_kind (drop at items))
    → FilledBy extra items nodes (want (One g) room tag ∷ ws) (first_kind tail) → Agrees items at place (spell_all nodes ++ tail) → at ≤ place → far ≤ place → 2 ≤ room → RuleSure items g q room 0 at far
    → (p : Rule) (os others : Nodes) → nodes ≡ more (branch p os) others → p ≡ q
rule_of_tree items extra g room tag at far place inner own q ws nodes tail skips built filled agrees here l deep sure p os others is =
    let fills = subst (λ z. FilledBy extra items z (want (One g) room tag ∷ ws) (first_kind tail)) is filled in
    let same : front (spell_all others) (first_kind tail) ≡ first_kind (spell_all others ++ tail) = front_kind (spell_all others) tail in
    let text : spell_all nodes ++ tail ≡ spell_all os ++ (spell_all others ++ tail) = ap (λ z. spell_all z ++ tail) is ∙ append_assoc (spell_all os) (spell_all others) tail in
    same_begun items g q p os room tag fills.0.0 at far place extra fills.0.1 (spell_all others ++ tail) skips built.rule (subst (λ y. Built (room + extra) fills.0.0 (name_at items tag) fills.0.1 p g (front (spell_all os) y)) same fills.0.2)
    (subst (λ y. FitsAll fills.0.0 fills.0.1 os (body_of p) y) same fills.0.3) (subst (Agrees items at place) text agrees) here l deep sure

-- an option's tree is there exactly where it was taken
first_node : (a b : Node) (as' bs' : Nodes) → more a as' ≡ more b bs' → a ≡ b
first_node a b as' bs' e = cc

not_absent : (items : List Token) (extra : ℕ) (g : Form) (room tag at : ℕ) (ws : List Want) (others : Nodes) (tail : List Token) → (g ≡ f.ConForall → ⊥) → begins g (first_kind (drop at items)) ≡ true
    → FilledBy extra items (more absent others) (want (Maybe g) room tag ∷ ws) (first_kind tail) → take 1 (spell_all others ++ tail) ≡ take 1 (drop at items) → ⊥
not_absent items extra g room tag at ws others tail calm leads filled e =
    let y = front (spell_all others) (first_kind tail) in
    let same : y ≡ first_kind (drop at items) = front_kind (spell_all others) tail ∙ kinds_same (spell_all others ++ tail) (drop at items) e in
    clash (begins g y) (ap (begins g) same ∙ leads) (closed (begins g y) (is_open g y) filled.0 (not_open g y calm))

not_present : (items : List Token) (extra : ℕ) (g : Form) (room tag at : ℕ) (ws : List Want) (o : Node) (others : Nodes) (tail : List Token) → (g ≡ f.ConForall → ⊥) → must_go_on g (first_kind (drop at items)) ≡ false
    → FilledBy extra items (more (present o) others) (want (Maybe g) room tag ∷ ws) (first_kind tail) → take 1 ((spell o ++ spell_all others) ++ tail) ≡ take 1 (drop at items) → ⊥
not_present items extra g room tag at ws o others tail calm ends filled e =
    let next = first_kind (drop at items) in
    clash (begins g next)
    (form_begins g o (room + extra) at (name_at items tag) items (spell_all others ++ tail) (front (spell_all others) (first_kind tail)) filled.0 (subst (λ l. take 1 l ≡ take 1 (drop at items)) (append_assoc (spell o) (spell_all others) tail) e))
    (closed (begins g next) (is_open g next) ends (not_open g next calm))

-- a step
step_passes : (items : List Token) (q : Part) (room tag place extra : ℕ) (a c : Machine) (tail : List Token) (nodes : Nodes) → hole_of q ≡ None → MeetsPart items q room tag a c → Sure items q room 0 a c → Counted q room → all_shut (q ∷ parts_of a.wants) ≡ true
    → FilledBy extra items nodes (want q room tag ∷ a.wants) (first_kind tail) → Agrees items a.at place (spell_all nodes ++ tail) → a.at ≤ place → c.far ≤ place
    → (taken : List Token) × (made : List Mark) × (c.tree.leaves ≡ a.tree.leaves ++ taken) × (c.tree.marks ≡ a.tree.marks ++ made) × Stepped extra items nodes (want q room tag ∷ a.wants) c.wants (first_kind tail) taken made
step_passes items (Word w) room tag place extra a c tail nodes skips s sure counted shut filled agrees here l = (
  s.token ∷ [],
  m.Leaf ∷ [],
  s.leaves,
  s.marks,
  subst (λ ws. Stepped extra items nodes (want (Word w) room tag ∷ a.wants) ws (first_kind tail) (s.token ∷ []) (m.Leaf ∷ [])) (sym s.wants)
      (step_word items extra w room tag a.wants nodes tail s.token (drop c.at items) filled (agrees_next items a.at place (spell_all nodes ++ tail) here agrees ∙ ap (take 1) s.next)),
)
step_passes items (One g) room tag place extra a c tail nodes skips s sure counted shut filled agrees here l =
    let same : sure.0 ≡ s.rule = rules_same sure.0 s.rule (marks_same a.tree.marks (m.Rule sure.0) (m.Rule s.rule) (sym sure.1 ∙ s.marks)) in (
      [],
      m.Rule s.rule ∷ [],
      s.leaves ∙ sym (append-nil a.tree.leaves),
      s.marks,
      subst (λ ws. Stepped extra items nodes (want (One g) room tag ∷ a.wants) ws (first_kind tail) [] (m.Rule s.rule ∷ [])) (sym s.wants)
          (step_rule items extra g room tag a.at s.inner s.own s.rule a.wants nodes tail s.built s.opened filled (agrees_next items a.at place (spell_all nodes ++ tail) here agrees)
          (rule_of_tree items extra g room tag a.at c.far place s.inner s.own s.rule a.wants nodes tail skips s.built filled agrees here l counted (subst (λ z. RuleSure items g z room 0 a.at c.far) same sure.2))),
    )
step_passes items (Many g) room tag place extra a c tail nodes skips s sure counted shut filled agrees here l =
    let calm = many_shut g (parts_of a.wants) shut in
    let next = first_kind (drop a.at items) in
    let d = step_many items extra g room tag a.at a.wants nodes tail calm filled (agrees_next items a.at place (spell_all nodes ++ tail) here agrees) in
    let made = step_goes s.taken items extra g room tag (want (Many g) room tag ∷ a.wants) (want (Many g) room tag ∷ []) a c nodes (first_kind tail) s.by (λ i. d.0 (s.begun i)) (λ i. d.1 (closed (begins g next) (is_open g next) (s.sure i) (not_open g next calm))) in
    ([], made.0, s.leaves ∙ sym (append-nil a.tree.leaves), made.1, made.2)
step_passes items (Maybe g) room tag place extra a c tail nodes skips s sure counted shut filled agrees here l =
    let calm = maybe_shut g (parts_of a.wants) shut in
    let e = agrees_next items a.at place (spell_all nodes ++ tail) here agrees in
    let fills = λ (z : Nodes) (is : nodes ≡ z). subst (λ i. FilledBy extra items i (want (Maybe g) room tag ∷ a.wants) (first_kind tail)) is filled in
    let text = λ (z : Nodes) (is : nodes ≡ z). subst (λ i. take 1 (spell_all i ++ tail) ≡ take 1 (drop a.at items)) is e in
    let d = step_maybe items extra g room tag a.wants nodes (first_kind tail) filled in
    let made = step_goes s.taken items extra g room tag (want (Maybe g) room tag ∷ a.wants) [] a c nodes (first_kind tail) s.by
    (λ i. d.0 (λ others is. not_absent items extra g room tag a.at a.wants others tail calm (s.begun i) (fills (more absent others) is) (text (more absent others) is)))
    (λ i. d.1 (λ o others is. not_present items extra g room tag a.at a.wants o others tail calm (s.sure i) (fills (more (present o) others) is) (text (more (present o) others) is))) in
    ([], made.0, s.leaves ∙ sym (append-nil a.tree.leaves), made.1, made.2)

seen_less : (items : List Token) (p : Part) (room : ℕ) (a c : Machine) → Looked items p room a c → a.far ≤ c.far
seen_less items p room a c (inl e) = omega (arith, e)
seen_less items p room a c (inr (is, deep, bracket, e)) = omega (arith, e)

passes_met : (items : List Token) (whole : Want) (handed : List Listing) (w : Want) (a c : Machine) → hole_of w.part ≡ None → MeetsPart items w.part w.room w.tag a c → Sure items w.part w.room 0 a c → Looked items w.part w.room a c → Counted w.part w.room
    → all_shut (w.part ∷ parts_of a.wants) ≡ true → drop whole.tag items ≡ a.tree.leaves ++ drop a.at items → a.at ≡ whole.tag + length a.tree.leaves
    → Passes items whole handed a.at a.far a.tree.leaves (w ∷ a.wants) → Passes items whole handed c.at c.far c.tree.leaves c.wants
passes_met items whole handed w a c skips s sure looked counted shut read come before extra node tail later fit holes agrees =
    let place = max c.at c.far in
    let further = goes_at items w.part w.room w.tag a c s in
    let seen = seen_less items w.part w.room a c looked in
    let d = before extra node tail later fit holes (agrees_less items whole.tag (max a.at a.far) place (spell node ++ tail) (omega (arith, further, seen)) agrees) in
    let rest = rest_agrees items whole.tag a.at place a.tree.leaves tail node d.nodes read come d.spelled agrees in
    let made = step_passes items w.part w.room w.tag place extra a c tail d.nodes skips s sure counted shut d.filled rest (omega (arith, further)) (omega arith) in
    record {
      nodes = made.4.rest;
      filled = made.4.filled;
      spelled = d.spelled ∙ ap (λ l. a.tree.leaves ++ l) made.4.spelled ∙ sym (append_assoc a.tree.leaves made.0 (spell_all made.4.rest)) ∙ ap (λ l. l ++ spell_all made.4.rest) (sym made.2);
      holes = d.holes ∙ made.4.outer is_hole (skips_part w.part skips);
    }

-- a tree that is handed in is that of the hole
heads_same : (t u : Listing) (ts us : List Listing) → t ∷ ts ≡ u ∷ us → t ≡ u
heads_same t u ts us e = cc

tails_same : (t u : Listing) (ts us : List Listing) → t ∷ ts ≡ u ∷ us → ts ≡ us
tails_same t u ts us e = cc

passes_filling : (items : List Token) (node : Node) (tail leaves next : List Token) (filling : Listing) (hole : Hole) (w : Want) (ws : List Want) (later : List Listing) (extra : ℕ) (nodes : Nodes) → w.part ≡ One (form_of hole) → next ≡ leaves ++ filling.leaves
    → FilledBy extra items nodes (w ∷ ws) (first_kind tail) → spell node ≡ leaves ++ spell_all nodes → filling ∷ later ≡ outer_all is_hole nodes (w.part ∷ parts_of ws) → Passed extra items node tail next later ws
passes_filling items node tail leaves next filling hole w ws later extra none form e filled spelled holes = absurd filled
passes_filling items node tail leaves next filling hole w ws later extra (more n others) form e filled spelled holes =
    let own = outer_own hole w n (w.room + extra) (name_at items w.tag) (front (spell_all others) (first_kind tail)) form filled.0 in
    let both : filling ∷ later ≡ own.0 ∷ outer_all is_hole others (parts_of ws) = holes ∙ ap (λ l. l ++ outer_all is_hole others (parts_of ws)) own.1 in
    let first : filling.leaves ≡ spell n = ap (λ l. l.leaves) (heads_same filling own.0 later (outer_all is_hole others (parts_of ws)) both) ∙ own.2 in
    record {
      nodes = others;
      filled = filled.1;
      spelled = spelled ∙ sym (append_assoc leaves (spell n) (spell_all others)) ∙ ap (λ l. (leaves ++ l) ++ spell_all others) (sym first) ∙ ap (λ l. l ++ spell_all others) (sym e);
      holes = tails_same filling own.0 later (outer_all is_hole others (parts_of ws)) both;
    }

passes_took : (items : List Token) (whole : Want) (handed longer : List Listing) (hole : Hole) (w : Want) (ws : List Want) (from seen behind_it : ℕ) (old next filling : Listing) → w.part ≡ One (form_of hole) → ReadsWant items w from filling behind_it → longer ≡ handed ++ filling ∷ []
    → next.leaves ≡ old.leaves ++ filling.leaves → Passes items whole handed from seen old.leaves (w ∷ ws) → Passes items whole longer behind_it seen next.leaves ws
passes_took items whole handed longer hole w ws from seen behind_it old next filling form r hands leaves before extra node tail later fit holes agrees =
    let more_holes : holes_in node whole.part ≡ handed ++ filling ∷ later = holes ∙ ap (λ l. l ++ later) hands ∙ append_assoc handed (filling ∷ []) later in
    let d = before extra node tail (filling ∷ later) fit more_holes (agrees_less items whole.tag (max from seen) (max behind_it seen) (spell node ++ tail) (further (length filling.leaves) r.ends) agrees) in
    passes_filling items node tail old.leaves next.leaves filling hole w ws later extra d.nodes form leaves d.filled d.spelled d.holes
  where
    further : (n : ℕ) → behind_it ≡ from + n → max from seen ≤ max behind_it seen
    further n e = omega (arith, e)

pub comes_passes : (items : List Token) (whole : Want) (handed : List Listing) (at far : ℕ) (tree : Listing) (ws : List Want) → is_open_part whole.part ≡ false → Comes items whole handed at far tree ws → Passes items whole handed at far tree.leaves ws
comes_passes items whole handed at far tree ws e (begun first leaves marks) = passes_first items whole first leaves
comes_passes items whole handed at far tree ws e (met same w a c skips s sure looked counted before) =
    passes_met items whole same w a c skips s sure looked counted (comes_shut items whole same a.at a.far a.tree (w ∷ a.wants) e before) (comes_read items whole same a.at a.far a.tree (w ∷ a.wants) before)
    (comes_place items whole same a.at a.far a.tree (w ∷ a.wants) before) (comes_passes items whole same a.at a.far a.tree (w ∷ a.wants) e before)
comes_passes items whole handed at far tree ws e (took fewer longer hole w rest from seen behind_it old next filling form r hands leaves marks before) =
    passes_took items whole fewer longer hole w rest from seen behind_it old next filling form r hands leaves (comes_passes items whole fewer from seen old (w ∷ rest) e before)
