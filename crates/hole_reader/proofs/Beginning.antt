-- The tokens before the place to which reading comes begin a tree with the trees handed in.
use Rattle.std.proofs.Common.{◌≡◌, ◌<◌, ◌≤◌, ◌+◌, ◌-◌, ℕ, suc, max, List, [], ◌∷◌, ◌++◌, length, drop, append_assoc, refl, ap, sym, ◌∙◌, subst, arith, true, false, Option, Some, None}
use Rattle.std.proofs.lemmas.List.{length-drop, length-append}
use Rattle.std.proofs.Math.Logic.{inl, inr}
use Rattle.std.proofs.lemmas.Bool.{and_from}
use Rattle.surface_tree.specs.declared.kind.Kind.{Kind}
use Rattle.surface_tree.specs.declared.kind.Kind.TheVariants as k
use Rattle.surface_tree.specs.declared.token.Token.{Token}
use Rattle.surface_tree.specs.declared.token.Content.{Content}
use Rattle.surface_tree.specs.declared.token.Content.TheVariants.{Nothing}
use Rattle.surface_grammar.specs.declared.fault.Hole.{Hole}
use Rattle.surface_grammar.specs.declared.form.Form.TheVariants as f
use Rattle.surface_grammar.specs.declared.markup.MarkupRule.TheVariants as markup
use Rattle.surface_grammar.specs.declared.part.Part.{Part}
use Rattle.surface_grammar.specs.declared.part.Part.TheVariants.{Word, One, Many, Maybe}
use Rattle.surface_grammar.specs.declared.queries.SqlRule.TheVariants as sql
use Rattle.surface_grammar.specs.declared.rule.Rule.TheVariants as r
use Rattle.surface_grammar.specs.declared.tree.Mark.{Mark}
use Rattle.surface_grammar.specs.Fronts.{first_kind}
use Rattle.surface_grammar.specs.Listings.{Listing}
use Rattle.surface_grammar.specs.Trees.{Node, leaf, branch, Nodes, none, more, spell, spell_all, front, Fits}
use Rattle.surface_grammar.specs.Words.{accept}
use Rattle.grammar_engine.specs.declared.machine.Machine.{Machine}
use Rattle.grammar_engine.specs.declared.want.Want.{Want}
use Rattle.grammar_engine.specs.Allowed.{may_stand_behind, AllowedAt, Beside, Raised}
use Rattle.grammar_engine.specs.Growing.{Filled, Grows}
use Rattle.grammar_engine.specs.Leaving.{outer_all}
use Rattle.grammar_engine.specs.Moves.{MeetsPart}
use Rattle.grammar_engine.specs.Places.{name_at}
use Rattle.grammar_engine.proofs.Keeping.Allowing.{Ready, inside, token_at, begins_at, among_none}
use Rattle.grammar_engine.proofs.Short.Calm.{nexts, behind, calm, shortest, fill_wants, parts_of}
use Rattle.grammar_engine.proofs.Short.Filling.{short, short_fits, front_wants, filled}
use Rattle.grammar_engine.proofs.Keeping.Going.{goes_at}
use Rattle.grammar_engine.proofs.Trees.Leading.{node_led}
use Rattle.grammar_engine.proofs.Keeping.Passed.{want}
use Rattle.grammar_engine.proofs.Keeping.Readies.{first_quiet, ready_meets, roomy_tail}
use Rattle.hole_reader.specs.Holes.{form_of, is_hole, holes_in}
use Rattle.hole_reader.specs.Progress.{Comes, Looked, ReadsWant}
use Rattle.hole_reader.specs.Progress.Comes.{begun, met, took}
use Rattle.hole_reader.proofs.Following.{refollow}
use Rattle.hole_reader.proofs.Growing.{Grown, comes_grown, comes_read, outer_filling, hole_renamed}
use Rattle.grammar_engine.proofs.Bools.{and_left, and_right, every}

-- a tree with the trees handed in, and with such a token behind it, begins with the tokens before the place
pub record Fronted (items : List Token) (whole : Want) (handed : List Listing) (place : ℕ) (x : Option Kind) : Type 0 where
  pub node : Node
  pub front : List Token
  pub after : List Token
  pub later : List Listing
  pub within : place ≤ length items
  pub fits : Fits whole.room (name_at items whole.tag) node whole.part x
  pub read : drop whole.tag items ≡ front ++ drop place items
  pub spelled : spell node ≡ front ++ after
  pub holes : holes_in node whole.part ≡ handed ++ later

abbrev pub BeginsAt : List Token → Want → List Listing → ℕ → Type 0
BeginsAt items whole handed place = (x : Option Kind) → may_stand_behind whole.part x ≡ true → whole.tag ≤ length items → (n : Node) → Fits whole.room (name_at items whole.tag) n whole.part x → Fronted items whole handed place x

forget : (items : List Token) (whole : Want) (handed : List Listing) (place : ℕ) → BeginsAt items whole handed place → AllowedAt items whole.part whole.tag whole.room place
forget items whole handed place b x ok le n fit = let d = b x ok le n fit in record { node = d.node; front = d.front; after = d.after; within = d.within; fits = d.fits; read = d.read; spelled = d.spelled }

plainly : (items : List Token) (whole : Want) (handed : List Listing) (at : ℕ) (leaves : List Token) (marks : List Mark) (ws : List Want) → Grown items whole handed at leaves marks ws → Grows items whole.part whole.tag whole.room (drop at items) ws leaves marks
plainly items whole handed at leaves marks ws grows ns x e fits = let c = grows ns x e fits in record { node = c.node; fits = c.fits; listed = c.listed; spelled = c.spelled }

-- trees for what is to be read that begin with the next tokens make such a tree
fronted : (items : List Token) (whole : Want) (handed longer later : List Listing) (here place : ℕ) (leaves : List Token) (marks : List Mark) (ws : List Want) (x : Option Kind) (ns : Nodes) (t : Token) (ts rest : List Token) → Grown items whole handed here leaves marks ws
    → drop whole.tag items ≡ leaves ++ drop here items → place ≤ length items → Filled items ns ws x → spell_all ns ≡ t ∷ (ts ++ rest) → drop here items ≡ t ∷ (ts ++ drop place items)
    → handed ++ outer_all is_hole ns (parts_of ws) ≡ longer ++ later → Fronted items whole longer place x
fronted items whole handed longer later here place leaves marks ws x ns t ts rest grows read within fits e e' same =
    let c = grows ns x (ap (λ l. front l x) e ∙ sym (ap first_kind e')) fits in
    record {
      node = c.node;
      front = leaves ++ t ∷ ts;
      after = rest;
      later = later;
      within = within;
      fits = c.fits;
      read = read ∙ ap (λ l. leaves ++ l) e' ∙ sym (append_assoc leaves (t ∷ ts) (drop place items));
      spelled = c.spelled ∙ ap (λ l. leaves ++ l) e ∙ sym (append_assoc leaves (t ∷ ts) rest);
      holes = c.holes ∙ same;
    }

begins_word : (items : List Token) (whole : Want) (handed : List Listing) (here next far : ℕ) (leaves : List Token) (marks : List Mark) (w : Kind) (room tag : ℕ) (ws : List Want) (t : Token) → Grown items whole handed here leaves marks (want (Word w) room tag ∷ ws)
    → drop whole.tag items ≡ leaves ++ drop here items → Ready items whole.part whole.tag whole.room here far (want (Word w) room tag ∷ ws) → drop here items ≡ t ∷ drop next items → next ≤ length items
    → Fits room (name_at items tag) (leaf t) (Word w) None → BeginsAt items whole handed next
begins_word items whole handed here next far leaves marks w room tag ws t grows read ready is within fit x ok le n given =
    fronted items whole handed handed (outer_all is_hole (more (leaf t) (fill_wants items ws)) (Word w ∷ parts_of ws)) here next leaves marks (want (Word w) room tag ∷ ws) x (more (leaf t) (fill_wants items ws)) t [] (spell_all (fill_wants items ws)) grows read within
    (fit, filled items ws x (and_right (every (behind (Word w)) (nexts (parts_of ws) (x ∷ []))) (calm (parts_of ws) (x ∷ [])) (ready.quiet x ok)) ready.roomy) refl is refl

-- `[` in braces of a query
pub begins_splice : (items : List Token) (whole : Want) (handed : List Listing) (here far space tag : ℕ) (leaves : List Token) (marks : List Mark) (ws : List Want) → Grown items whole handed here leaves marks (want (One f.SqlBraceRest) space tag ∷ ws)
    → drop whole.tag items ≡ leaves ++ drop here items → Ready items whole.part whole.tag whole.room here far (want (One f.SqlBraceRest) space tag ∷ ws) → 0 < space → first_kind (drop here items) ≡ Some k.LeftBracket → BeginsAt items whole handed (suc here)
begins_splice items whole handed here far space tag leaves marks ws grows read ready deep bracket x ok le n given =
    let d = token_at items here k.LeftBracket bracket in
    let t = d.token in
    let name = name_at items tag in
    let y = front (spell_all (fill_wants items ws)) x in
    let quiet = ready.quiet x ok in
    let close : Token = record { kind = k.RightBracket; at = 0; content = Nothing } in
    let brace : Token = record { kind = k.RightBrace; at = 0; content = Nothing } in
    let inner = shortest 24 name f.Exp in
    let inner_fits : Fits (space - 1) name inner (One f.Exp) (Some k.RightBracket) = short_fits 24 name f.Exp (space - 1) (Some k.RightBracket) (short f.Exp).high refl (omega arith) in
    let opens : accept k.LeftBracket t.kind ≡ true = subst (λ z. accept k.LeftBracket z ≡ true) (sym d.kind) refl in
    let splice = branch (r.Markup markup.Splice) (more (leaf t) (more inner (more (leaf close) none))) in
    let splice_fits : Fits space name splice (One f.Splice) (Some k.RightBrace) = (space - 1, name, record { rule = inl refl; room_left = less_one space deep; named = λ i. refl; free = among_none (Some t.kind) }, ((opens, λ i. no_tag i), (inner_fits, ((refl, λ i. no_tag i), tt)))) in
    let node = branch (r.Sql sql.SqlSplice) (more splice (more (leaf brace) none)) in
    let node_fits : Fits space name node (One f.SqlBraceRest) y = (space, name, record { rule = inl refl; room_left = add_zero space; named = λ i. refl; free = among_none (Some t.kind) }, (splice_fits, ((refl, λ i. no_tag i), tt))) in
    fronted items whole handed handed (outer_all is_hole (more node (fill_wants items ws)) (One f.SqlBraceRest ∷ parts_of ws)) here (suc here) leaves marks (want (One f.SqlBraceRest) space tag ∷ ws) x (more node (fill_wants items ws)) t [] _ grows read d.within
    (node_fits, filled items ws x (and_right (every (behind (One f.SqlBraceRest)) (nexts (parts_of ws) (x ∷ []))) (calm (parts_of ws) (x ∷ [])) quiet) ready.roomy) refl d.is refl
  where
    add_zero : (a : ℕ) → a + 0 ≡ a
    add_zero a = search arith

    less_one : (a : ℕ) → 0 < a → (a - 1) + 1 ≡ a
    less_one a h = omega (arith, h)

    no_tag : {A : Type 0} → false ≡ true → A
    no_tag e = cc

-- a tree that is handed in has tokens
record Some_read (n : Node) : Type 0 where
  pub token : Token
  pub rest : List Token
  pub is : spell n ≡ token ∷ rest

some_read : (hole : Hole) (p : Part) (n : Node) (room : ℕ) (name : Content) (x : Option Kind) → p ≡ One (form_of hole) → Fits room name n p x → Some_read n
some_read hole p n room name x e fit = let l = node_led n (form_of hole) room name x (subst (λ q. Fits room name n q x) e fit) in record { token = l.token; rest = l.rest; is = l.is }

begins_took : (items : List Token) (whole : Want) (handed longer : List Listing) (hole : Hole) (w : Want) (ws : List Want) (from seen behind_it : ℕ) (leaves : List Token) (marks : List Mark) (filling : Listing) → w.part ≡ One (form_of hole) → ReadsWant items w from filling behind_it
    → longer ≡ handed ++ filling ∷ [] → Grown items whole handed from leaves marks (w ∷ ws) → drop whole.tag items ≡ leaves ++ drop from items → Ready items whole.part whole.tag whole.room from seen (w ∷ ws) → BeginsAt items whole longer behind_it
begins_took items whole handed longer hole w ws from seen behind_it leaves marks filling form d hands grows read ready x ok le n given =
    let o = d.reads.node in
    let quiet = ready.quiet x ok in
    let y = front (spell_all (fill_wants items ws)) x in
    let next : behind w.part y ≡ true = front_wants items (behind w.part) ws x (and_left (every (behind w.part) (nexts (parts_of ws) (x ∷ []))) (calm (parts_of ws) (x ∷ [])) quiet) in
    let fits : Fits w.room (name_at items w.tag) o w.part y =
    hole_renamed hole w.part o w.room (name_at items from) (name_at items w.tag) y form (refollow o w.part w.room (name_at items from) (first_kind (drop behind_it items)) y d.reads.fits next) in
    let l = some_read hole w.part o w.room (name_at items w.tag) y form fits in
    fronted items whole handed longer (outer_all is_hole (fill_wants items ws) (parts_of ws)) from behind_it leaves marks (w ∷ ws) x (more o (fill_wants items ws)) l.token l.rest (spell_all (fill_wants items ws)) grows read
    (bound (length items) (length (drop from items)) (length (drop behind_it items)) (length (spell o)) (length l.rest) (length filling.leaves) (length-drop from items) (ap length d.reads.spells ∙ length-append (spell o) (drop behind_it items)) (ap length l.is) (ap length d.reads.lists.0) d.ends)
    (fits, filled items ws x (and_right (every (behind w.part) (nexts (parts_of ws) (x ∷ []))) (calm (parts_of ws) (x ∷ [])) quiet) ready.roomy)
    (ap (λ z. z ++ spell_all (fill_wants items ws)) l.is) (d.reads.spells ∙ ap (λ z. z ++ drop behind_it items) l.is)
    (ap (λ l. handed ++ (l ++ outer_all is_hole (fill_wants items ws) (parts_of ws))) (outer_filling hole w o w.room (name_at items w.tag) y filling form fits d.reads.lists)
    ∙ sym (append_assoc handed (filling ∷ []) (outer_all is_hole (fill_wants items ws) (parts_of ws))) ∙ ap (λ l. l ++ outer_all is_hole (fill_wants items ws) (parts_of ws)) (sym hands))
  where
    bound : (n f b s i m : ℕ) → f ≡ n - from → f ≡ s + b → s ≡ suc i → m ≡ s → behind_it ≡ from + m → behind_it ≤ n
    bound n f b s i m e1 e2 e3 e4 e5 = omega (arith, e1, e2, e3, e4, e5)

-- where reading is: what is to be read can be filled, and what was read, and what was looked at, begins such a tree
pub record State (items : List Token) (whole : Want) (handed : List Listing) (at far : ℕ) (ws : List Want) : Type 0 where
  pub ready : Ready items whole.part whole.tag whole.room at far ws
  pub come : BeginsAt items whole handed at
  pub seen : at < far → BeginsAt items whole handed far
  pub near : far ≤ suc at

first_state : (items : List Token) (whole : Want) → State items whole [] whole.tag whole.tag (whole ∷ [])
first_state items whole = record {
  ready = record {
    quiet = λ x ok. and_from (every (behind whole.part) (x ∷ [])) true (and_from (behind whole.part x) true (first_quiet whole.part x ok) refl) refl;
    roomy = tt;
    come = begins_at items whole.part whole.tag whole.room;
    farther = begins_at items whole.part whole.tag whole.room;
  };
  come = λ x ok le n fit. record { node = n; front = []; after = spell n; later = holes_in n whole.part; within = le; fits = fit; read = refl; spelled = refl; holes = refl };
  seen = λ l. absurd (omega (arith, l));
  near = omega arith;
}

raised_by : (items : List Token) (p : Part) (room : ℕ) (a c : Machine) → Looked items p room a c → Raised (Beside items p room a.at a.wants) a.far c.far
raised_by items p room a c (inl e) = inl e
raised_by items p room a c (inr (is, deep, bracket, e)) = inr (suc a.at, e, subst (λ q. Beside items q room a.at a.wants (suc a.at)) (sym is) (deep, bracket, refl))

near_by : (items : List Token) (p : Part) (room : ℕ) (a c : Machine) → Looked items p room a c → a.at ≤ c.at → a.far ≤ suc a.at → c.far ≤ suc c.at
near_by items p room a c (inl e) l n = omega (arith, e, l, n)
near_by items p room a c (inr (is, deep, bracket, e)) l n = omega (arith, e, l, n)

-- the place stays, or a word was taken
come_met : (items : List Token) (whole : Want) (handed : List Listing) (q : Part) (room tag : ℕ) (a c : Machine) → MeetsPart items q room tag a c → Grown items whole handed a.at a.tree.leaves a.tree.marks (want q room tag ∷ a.wants)
    → drop whole.tag items ≡ a.tree.leaves ++ drop a.at items → State items whole handed a.at a.far (want q room tag ∷ a.wants) → BeginsAt items whole handed c.at
come_met items whole handed (Word w) room tag a c s grows read d =
    begins_word items whole handed a.at c.at a.far a.tree.leaves a.tree.marks w room tag a.wants s.token grows read d.ready s.next (bound s.step (inside items a.at s.token (drop c.at items) s.next)) (s.accepted, s.named)
  where
    bound : c.at ≡ a.at + 1 → a.at < length items → c.at ≤ length items
    bound e l = omega (arith, e, l)
come_met items whole handed (One g) room tag a c s grows read d = subst (BeginsAt items whole handed) (sym s.at) d.come
come_met items whole handed (Many g) room tag a c s grows read d = subst (BeginsAt items whole handed) (sym s.at) d.come
come_met items whole handed (Maybe g) room tag a c s grows read d = subst (BeginsAt items whole handed) (sym s.at) d.come

-- what was looked at
looked_met : (items : List Token) (whole : Want) (handed : List Listing) (q : Part) (room tag : ℕ) (a c : Machine) → Looked items q room a c → Grown items whole handed a.at a.tree.leaves a.tree.marks (want q room tag ∷ a.wants)
    → drop whole.tag items ≡ a.tree.leaves ++ drop a.at items → State items whole handed a.at a.far (want q room tag ∷ a.wants) → a.at < c.far → BeginsAt items whole handed c.far
looked_met items whole handed q room tag a c (inl e) grows read d l = subst (BeginsAt items whole handed) (sym e) (d.seen (before e))
  where
    before : c.far ≡ a.far → a.at < a.far
    before i = omega (arith, i, l)
looked_met items whole handed q room tag a c (inr (is, deep, bracket, e)) grows read d l =
    subst (BeginsAt items whole handed) (sym (next e))
    (begins_splice items whole handed a.at a.far room tag a.tree.leaves a.tree.marks a.wants (subst (λ p. Grown items whole handed a.at a.tree.leaves a.tree.marks (want p room tag ∷ a.wants)) is grows) read
    (subst (λ p. Ready items whole.part whole.tag whole.room a.at a.far (want p room tag ∷ a.wants)) is d.ready) deep bracket)
  where
    next : c.far ≡ max a.far (suc a.at) → c.far ≡ suc a.at
    next i = omega (arith, i, d.near)

state_met : (items : List Token) (whole : Want) (handed : List Listing) (w : Want) (a c : Machine) → MeetsPart items w.part w.room w.tag a c → Looked items w.part w.room a c → Grown items whole handed a.at a.tree.leaves a.tree.marks (w ∷ a.wants)
    → drop whole.tag items ≡ a.tree.leaves ++ drop a.at items → State items whole handed a.at a.far (w ∷ a.wants) → State items whole handed c.at c.far c.wants
state_met items whole handed w a c s looked grows read d =
    let further = goes_at items w.part w.room w.tag a c s in
    record {
      ready = ready_meets items whole.part whole.tag whole.room w.room w.tag w.part a c s (raised_by items w.part w.room a c looked) (plainly items whole handed a.at a.tree.leaves a.tree.marks (w ∷ a.wants) grows) read d.ready;
      come = come_met items whole handed w.part w.room w.tag a c s grows read d;
      seen = λ l. looked_met items whole handed w.part w.room w.tag a c looked grows read d (omega (arith, further, l));
      near = near_by items w.part w.room a c looked further d.near;
    }

state_took : (items : List Token) (whole : Want) (handed longer : List Listing) (hole : Hole) (w : Want) (ws : List Want) (from seen behind_it : ℕ) (leaves : List Token) (marks : List Mark) (filling : Listing) → w.part ≡ One (form_of hole) → ReadsWant items w from filling behind_it
    → longer ≡ handed ++ filling ∷ [] → Grown items whole handed from leaves marks (w ∷ ws) → drop whole.tag items ≡ leaves ++ drop from items → State items whole handed from seen (w ∷ ws) → State items whole longer behind_it seen ws
state_took items whole handed longer hole w ws from seen behind_it leaves marks filling form d hands grows read s =
    let come = begins_took items whole handed longer hole w ws from seen behind_it leaves marks filling form d hands grows read s.ready in
    let l = some_read hole w.part d.reads.node w.room (name_at items from) (first_kind (drop behind_it items)) form d.reads.fits in
    let further : suc from ≤ behind_it = later (length l.rest) (length filling.leaves) d.ends (ap length d.reads.lists.0 ∙ ap length l.is) in
    record {
      ready = record {
        quiet = λ x ok. and_right (every (behind w.part) (nexts (parts_of ws) (x ∷ []))) (calm (parts_of ws) (x ∷ [])) (s.ready.quiet x ok);
        roomy = roomy_tail ws s.ready.roomy;
        come = forget items whole longer behind_it come;
        farther = s.ready.farther;
      };
      come = come;
      seen = λ i. absurd (omega (arith, i, further, s.near));
      near = omega (arith, further, s.near);
    }
  where
    later : (i n : ℕ) → behind_it ≡ from + n → n ≡ suc i → suc from ≤ behind_it
    later i n e e' = omega (arith, e, e')

pub comes_state : (items : List Token) (whole : Want) (handed : List Listing) (at far : ℕ) (tree : Listing) (ws : List Want) → Comes items whole handed at far tree ws → State items whole handed at far ws
comes_state items whole handed at far tree ws (begun first leaves marks) = first_state items whole
comes_state items whole handed at far tree ws (met same w a c skips s sure looked counted before) =
    state_met items whole same w a c s looked (comes_grown items whole same a.at a.far a.tree (w ∷ a.wants) before) (comes_read items whole same a.at a.far a.tree (w ∷ a.wants) before) (comes_state items whole same a.at a.far a.tree (w ∷ a.wants) before)
comes_state items whole handed at far tree ws (took fewer longer hole w rest from seen behind_it old next filling form r hands leaves marks before) =
    state_took items whole fewer longer hole w rest from seen behind_it old.leaves old.marks filling form r hands (comes_grown items whole fewer from seen old (w ∷ rest) before) (comes_read items whole fewer from seen old (w ∷ rest) before)
    (comes_state items whole fewer from seen old (w ∷ rest) before)
