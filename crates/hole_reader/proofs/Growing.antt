-- What was read grows to a whole tree, whose first expressions and constructors are those handed in.
use Rattle.std.proofs.Common.{◌≡◌, ◌+◌, ℕ, List, [], ◌∷◌, ◌++◌, length, length-append, drop, append_assoc, append-nil, refl, ap, sym, ◌∙◌, subst, arith, Bool, true, false, if◌then◌else◌, Option, Some, None}
use Rattle.surface_tree.specs.declared.kind.Kind.{Kind}
use Rattle.surface_tree.specs.declared.token.Token.{Token}
use Rattle.surface_tree.specs.declared.token.Content.{Content}
use Rattle.surface_grammar.specs.declared.fault.Hole.{Hole}
use Rattle.surface_grammar.specs.declared.fault.Hole.TheVariants as h
use Rattle.surface_grammar.specs.declared.form.Form.{Form}
use Rattle.surface_grammar.specs.declared.form.Form.TheVariants as f
use Rattle.surface_grammar.specs.declared.part.Part.{Part}
use Rattle.surface_grammar.specs.declared.part.Part.TheVariants.{Word, One, Many, Maybe}
use Rattle.surface_grammar.specs.declared.rule.Rule.{Rule}
use Rattle.surface_grammar.specs.declared.tree.Mark.{Mark}
use Rattle.surface_grammar.specs.declared.tree.Mark.TheVariants as m
use Rattle.surface_grammar.specs.Fronts.{first_kind}
use Rattle.surface_grammar.specs.Listings.{Listing, Lists, marks_of, marks_all, marks_each}
use Rattle.surface_grammar.specs.Table.{body_of}
use Rattle.surface_grammar.specs.Trees.{Node, leaf, branch, several, absent, present, Nodes, none, more, spell, spell_all, front, must_go_on, Built, Fits, FitsAll}
use Rattle.grammar_engine.specs.declared.machine.Machine.{Machine}
use Rattle.grammar_engine.specs.declared.want.Want.{Want}
use Rattle.grammar_engine.specs.Growing.{Filled}
use Rattle.grammar_engine.specs.Leaving.{outer_in, outer_all, outer_each}
use Rattle.grammar_engine.specs.Moves.{wants_of, goes_by, MeetsPart}
use Rattle.grammar_engine.specs.Places.{name_at}
use Rattle.grammar_engine.proofs.Short.Calm.{parts_of}
use Rattle.grammar_engine.proofs.Keeping.Grown.{front_append}
use Rattle.grammar_engine.proofs.Keeping.Grows.{read_meets}
use Rattle.grammar_engine.proofs.Keeping.Going.{come_meets}
use Rattle.grammar_engine.specs.Single.{names_itself}
use Rattle.grammar_engine.proofs.Table.Naming.{rename_any}
use Rattle.grammar_engine.proofs.Keeping.Passed.{want}
use Rattle.grammar_engine.proofs.Keeping.Steps.{joined, joined_spell, joined_marks, rule_outer}
use Rattle.grammar_engine.proofs.Trees.Unique.{front_kind}
use Rattle.hole_reader.specs.Holes.{hole_of, form_of, is_hole, holes_in}
use Rattle.hole_reader.specs.Progress.{Comes, ReadsWant}
use Rattle.hole_reader.specs.Progress.Comes.{begun, met, took}

-- a whole tree: what was read and then these trees
pub record Completes (items : List Token) (whole : Want) (leaves : List Token) (marks : List Mark) (handed : List Listing) (ns : Nodes) (ws : List Want) (x : Option Kind) : Type 0 where
  pub node : Node
  pub fits : Fits whole.room (name_at items whole.tag) node whole.part x
  pub listed : marks_of node ≡ marks ++ marks_all ns
  pub spelled : spell node ≡ leaves ++ spell_all ns
  pub holes : holes_in node whole.part ≡ handed ++ outer_all is_hole ns (parts_of ws)

-- any trees for what is to be read that begin with the next token make a whole one
abbrev pub Grown : List Token → Want → List Listing → ℕ → List Token → List Mark → List Want → Type 0
Grown items whole handed at leaves marks ws = (ns : Nodes) (x : Option Kind) → front (spell_all ns) x ≡ first_kind (drop at items) → Filled items ns ws x → Completes items whole leaves marks handed ns ws x

-- a grown tree, seen from fewer trees and more that was read
regrow : (items : List Token) (whole : Want) (leaves leaves' : List Token) (marks marks' : List Mark) (handed handed' : List Listing) (ns ns' : Nodes) (ws ws' : List Want) (x : Option Kind) → Completes items whole leaves marks handed ns ws x
    → marks ++ marks_all ns ≡ marks' ++ marks_all ns' → leaves ++ spell_all ns ≡ leaves' ++ spell_all ns' → handed ++ outer_all is_hole ns (parts_of ws) ≡ handed' ++ outer_all is_hole ns' (parts_of ws') → Completes items whole leaves' marks' handed' ns' ws' x
regrow items whole leaves leaves' marks marks' handed handed' ns ns' ws ws' x c e1 e2 e3 = record { node = c.node; fits = c.fits; listed = c.listed ∙ e1; spelled = c.spelled ∙ e2; holes = c.holes ∙ e3 }

grown_at : (items : List Token) (whole : Want) (handed : List Listing) (at at' : ℕ) (leaves leaves' : List Token) (marks marks' : List Mark) (ws ws' : List Want) → at' ≡ at → leaves' ≡ leaves → marks' ≡ marks → ws' ≡ ws
    → Grown items whole handed at leaves marks ws → Grown items whole handed at' leaves' marks' ws'
grown_at items whole handed at at' leaves leaves' marks marks' ws ws' e1 e2 e3 e4 g =
    subst (λ i. Grown items whole handed i leaves' marks' ws') (sym e1)
    (subst (λ l. Grown items whole handed at l marks' ws') (sym e2)
    (subst (λ l. Grown items whole handed at leaves l ws') (sym e3)
    (subst (λ l. Grown items whole handed at leaves marks l) (sym e4) g)))

grown_word : (items : List Token) (whole : Want) (handed : List Listing) (at next : ℕ) (leaves : List Token) (marks : List Mark) (w : Kind) (room tag : ℕ) (t : Token) (ws : List Want) → drop at items ≡ t ∷ drop next items
    → Fits room (name_at items tag) (leaf t) (Word w) (Some t.kind) → Grown items whole handed at leaves marks (want (Word w) room tag ∷ ws) → Grown items whole handed next (leaves ++ t ∷ []) (marks ++ m.Leaf ∷ []) ws
grown_word items whole handed at next leaves marks w room tag t ws is fit g ns x e filled =
    regrow items whole leaves (leaves ++ t ∷ []) marks (marks ++ m.Leaf ∷ []) handed handed (more (leaf t) ns) ns (want (Word w) room tag ∷ ws) ws x (g (more (leaf t) ns) x (sym (ap first_kind is)) (fit, filled))
    (sym (append_assoc marks (m.Leaf ∷ []) (marks_all ns))) (sym (append_assoc leaves (t ∷ []) (spell_all ns))) refl

-- the trees of a rule's parts, and those of the rest
record Split (items : List Token) (ps : List Part) (room tag : ℕ) (ws : List Want) (ns : Nodes) (x : Option Kind) : Type 0 where
  pub inside : Nodes
  pub others : Nodes
  pub is : ns ≡ joined inside others
  pub fits : FitsAll room (name_at items tag) inside ps (front (spell_all others) x)
  pub filled : Filled items others ws x

split : (items : List Token) (ps : List Part) (room tag : ℕ) (ws : List Want) (ns : Nodes) (x : Option Kind) → Filled items ns (wants_of room tag ps ++ ws) x → Split items ps room tag ws ns x
split items [] room tag ws ns x d = record { inside = none; others = ns; is = refl; fits = tt; filled = d }
split items (p ∷ ps) room tag ws none x d = absurd d
split items (p ∷ ps) room tag ws (more n ns) x d =
    let s = split items ps room tag ws ns x d.1 in
    record {
      inside = more n s.inside;
      others = s.others;
      is = ap (more n) s.is;
      fits = (subst (λ y. Fits room (name_at items tag) n p y) (ap (λ l. front (spell_all l) x) s.is ∙ ap (λ l. front l x) (joined_spell s.inside s.others) ∙ front_append (spell_all s.inside) (spell_all s.others) x) d.0, s.fits);
      filled = s.filled;
    }

grown_rule : (items : List Token) (whole : Want) (handed : List Listing) (at : ℕ) (leaves : List Token) (marks : List Mark) (g : Form) (room tag inner own : ℕ) (q : Rule) (ws : List Want) → is_hole g ≡ false
    → Built room inner (name_at items tag) (name_at items own) q g (first_kind (drop at items)) → Grown items whole handed at leaves marks (want (One g) room tag ∷ ws) → Grown items whole handed at leaves (marks ++ m.Rule q ∷ []) (wants_of inner own (body_of q) ++ ws)
grown_rule items whole handed at leaves marks g room tag inner own q ws skips built grows ns x e filled =
    let s = split items (body_of q) inner own ws ns x filled in
    let spelled : spell_all ns ≡ spell_all s.inside ++ spell_all s.others = ap spell_all s.is ∙ joined_spell s.inside s.others in
    let same : front (spell_all ns) x ≡ front (spell_all s.inside) (front (spell_all s.others) x) = ap (λ l. front l x) spelled ∙ front_append (spell_all s.inside) (spell_all s.others) x in
    let here : Built room inner (name_at items tag) (name_at items own) q g (front (spell_all s.inside) (front (spell_all s.others) x)) = subst (Built room inner (name_at items tag) (name_at items own) q g) (sym e ∙ same) built in
    regrow items whole leaves leaves marks (marks ++ m.Rule q ∷ []) handed handed (more (branch q s.inside) s.others) ns (want (One g) room tag ∷ ws) (wants_of inner own (body_of q) ++ ws) x
    (grows (more (branch q s.inside) s.others) x (ap (λ l. front l x) (sym spelled) ∙ e) ((inner, name_at items own, here, s.fits), s.filled))
    (ap (λ l. marks ++ m.Rule q ∷ l) (sym (ap marks_all s.is ∙ joined_marks s.inside s.others)) ∙ sym (append_assoc marks (m.Rule q ∷ []) (marks_all ns)))
    (ap (λ l. leaves ++ l) (sym spelled))
    (ap (λ l. handed ++ l) (rule_outer is_hole g q inner own inner (name_at items own) s.inside s.others ws (front (spell_all s.others) x) skips s.fits ∙ ap (λ l. outer_all is_hole l (parts_of (wants_of inner own (body_of q) ++ ws))) (sym s.is)))

grown_end : (items : List Token) (whole : Want) (handed : List Listing) (at : ℕ) (leaves : List Token) (marks : List Mark) (g : Form) (room tag : ℕ) (ws : List Want) → must_go_on g (first_kind (drop at items)) ≡ false
    → Grown items whole handed at leaves marks (want (Many g) room tag ∷ ws) → Grown items whole handed at leaves (marks ++ m.End ∷ []) ws
grown_end items whole handed at leaves marks g room tag ws ended grows ns x e filled =
    regrow items whole leaves leaves marks (marks ++ m.End ∷ []) handed handed (more (several none) ns) ns (want (Many g) room tag ∷ ws) ws x (grows (more (several none) ns) x e (ap (must_go_on g) e ∙ ended, filled))
    (sym (append_assoc marks (m.End ∷ []) (marks_all ns))) refl refl

grown_absent : (items : List Token) (whole : Want) (handed : List Listing) (at : ℕ) (leaves : List Token) (marks : List Mark) (g : Form) (room tag : ℕ) (ws : List Want) → must_go_on g (first_kind (drop at items)) ≡ false
    → Grown items whole handed at leaves marks (want (Maybe g) room tag ∷ ws) → Grown items whole handed at leaves (marks ++ m.End ∷ []) ws
grown_absent items whole handed at leaves marks g room tag ws ended grows ns x e filled =
    regrow items whole leaves leaves marks (marks ++ m.End ∷ []) handed handed (more absent ns) ns (want (Maybe g) room tag ∷ ws) ws x (grows (more absent ns) x e (ap (must_go_on g) e ∙ ended, filled))
    (sym (append_assoc marks (m.End ∷ []) (marks_all ns))) refl refl

grown_present : (items : List Token) (whole : Want) (handed : List Listing) (at : ℕ) (leaves : List Token) (marks : List Mark) (g : Form) (room tag : ℕ) (ws : List Want)
    → Grown items whole handed at leaves marks (want (Maybe g) room tag ∷ ws) → Grown items whole handed at leaves (marks ++ m.Item ∷ []) (want (One g) room tag ∷ ws)
grown_present items whole handed at leaves marks g room tag ws grows none x e filled = absurd filled
grown_present items whole handed at leaves marks g room tag ws grows (more n ns) x e filled =
    regrow items whole leaves leaves marks (marks ++ m.Item ∷ []) handed handed (more (present n) ns) (more n ns) (want (Maybe g) room tag ∷ ws) (want (One g) room tag ∷ ws) x (grows (more (present n) ns) x e (filled.0, filled.1))
    (sym (append_assoc marks (m.Item ∷ []) (marks_of n ++ marks_all ns))) refl refl

grown_item : (items : List Token) (whole : Want) (handed : List Listing) (at : ℕ) (leaves : List Token) (marks : List Mark) (g : Form) (room tag : ℕ) (ws : List Want)
    → Grown items whole handed at leaves marks (want (Many g) room tag ∷ ws) → Grown items whole handed at leaves (marks ++ m.Item ∷ []) (want (One g) room tag ∷ want (Many g) room tag ∷ ws)
grown_item items whole handed at leaves marks g room tag ws grows none x e d = absurd d
grown_item items whole handed at leaves marks g room tag ws grows (more n none) x e d = absurd d.1
grown_item items whole handed at leaves marks g room tag ws grows (more n (more (leaf t) ns)) x e d = absurd d.1.0
grown_item items whole handed at leaves marks g room tag ws grows (more n (more (branch q ms) ns)) x e d = absurd d.1.0
grown_item items whole handed at leaves marks g room tag ws grows (more n (more absent ns)) x e d = absurd d.1.0
grown_item items whole handed at leaves marks g room tag ws grows (more n (more (present o) ns)) x e d = absurd d.1.0
grown_item items whole handed at leaves marks g room tag ws grows (more n (more (several ms) ns)) x e d =
    let first : Fits room (name_at items tag) n (One g) (front (spell_all ms) (front (spell_all ns) x)) = subst (λ y. Fits room (name_at items tag) n (One g) y) (front_append (spell_all ms) (spell_all ns) x) d.0 in
    regrow items whole leaves leaves marks (marks ++ m.Item ∷ []) handed handed (more (several (more n ms)) ns) (more n (more (several ms) ns)) (want (Many g) room tag ∷ ws) (want (One g) room tag ∷ want (Many g) room tag ∷ ws) x
    (grows (more (several (more n ms)) ns) x (ap (λ l. front l x) (append_assoc (spell n) (spell_all ms) (spell_all ns)) ∙ e) ((first, d.1.0), d.1.1))
    (ap (λ l. marks ++ m.Item ∷ l) (append_assoc (marks_of n) (marks_each ms) (marks_all ns)) ∙ sym (append_assoc marks (m.Item ∷ []) (marks_of n ++ (marks_each ms ++ marks_all ns))))
    (ap (λ l. leaves ++ l) (append_assoc (spell n) (spell_all ms) (spell_all ns)))
    (ap (λ l. handed ++ l) (append_assoc (outer_in is_hole n (One g)) (outer_each is_hole ms g) (outer_all is_hole ns (parts_of ws))))

grown_many : (b : Bool) (items : List Token) (whole : Want) (handed : List Listing) (g : Form) (room tag : ℕ) (a c : Machine) → (b ≡ false → must_go_on g (first_kind (drop a.at items)) ≡ false) → goes_by b g room tag (want (Many g) room tag ∷ []) a c → c.at ≡ a.at
    → c.tree.leaves ≡ a.tree.leaves → Grown items whole handed a.at a.tree.leaves a.tree.marks (want (Many g) room tag ∷ a.wants) → Grown items whole handed c.at c.tree.leaves c.tree.marks c.wants
grown_many true items whole handed g room tag a c is by here same grows =
    grown_at items whole handed a.at c.at a.tree.leaves c.tree.leaves (a.tree.marks ++ m.Item ∷ []) c.tree.marks (want (One g) room tag ∷ want (Many g) room tag ∷ a.wants) c.wants here same by.1 by.0 (grown_item items whole handed a.at a.tree.leaves a.tree.marks g room tag a.wants grows)
grown_many false items whole handed g room tag a c is by here same grows =
    grown_at items whole handed a.at c.at a.tree.leaves c.tree.leaves (a.tree.marks ++ m.End ∷ []) c.tree.marks a.wants c.wants here same by.1 by.0 (grown_end items whole handed a.at a.tree.leaves a.tree.marks g room tag a.wants (is refl) grows)

grown_maybe : (b : Bool) (items : List Token) (whole : Want) (handed : List Listing) (g : Form) (room tag : ℕ) (a c : Machine) → (b ≡ false → must_go_on g (first_kind (drop a.at items)) ≡ false) → goes_by b g room tag [] a c → c.at ≡ a.at
    → c.tree.leaves ≡ a.tree.leaves → Grown items whole handed a.at a.tree.leaves a.tree.marks (want (Maybe g) room tag ∷ a.wants) → Grown items whole handed c.at c.tree.leaves c.tree.marks c.wants
grown_maybe true items whole handed g room tag a c is by here same grows =
    grown_at items whole handed a.at c.at a.tree.leaves c.tree.leaves (a.tree.marks ++ m.Item ∷ []) c.tree.marks (want (One g) room tag ∷ a.wants) c.wants here same by.1 by.0 (grown_present items whole handed a.at a.tree.leaves a.tree.marks g room tag a.wants grows)
grown_maybe false items whole handed g room tag a c is by here same grows =
    grown_at items whole handed a.at c.at a.tree.leaves c.tree.leaves (a.tree.marks ++ m.End ∷ []) c.tree.marks a.wants c.wants here same by.1 by.0 (grown_absent items whole handed a.at a.tree.leaves a.tree.marks g room tag a.wants (is refl) grows)

-- what is no hole
pub no_hole : (g : Form) → hole_of (One g) ≡ None → is_hole g ≡ false
no_hole f.Exp e = cc
no_hole f.Con e = cc
no_hole g e = refl

grown_met : (items : List Token) (whole : Want) (handed : List Listing) (q : Part) (room tag : ℕ) (a c : Machine) → hole_of q ≡ None → MeetsPart items q room tag a c
    → Grown items whole handed a.at a.tree.leaves a.tree.marks (want q room tag ∷ a.wants) → Grown items whole handed c.at c.tree.leaves c.tree.marks c.wants
grown_met items whole handed (Word w) room tag a c skips s grows =
    grown_at items whole handed c.at c.at (a.tree.leaves ++ s.token ∷ []) c.tree.leaves (a.tree.marks ++ m.Leaf ∷ []) c.tree.marks a.wants c.wants refl s.leaves s.marks s.wants
    (grown_word items whole handed a.at c.at a.tree.leaves a.tree.marks w room tag s.token a.wants s.next (s.accepted, s.named) grows)
grown_met items whole handed (One g) room tag a c skips s grows =
    grown_at items whole handed a.at c.at a.tree.leaves c.tree.leaves (a.tree.marks ++ m.Rule s.rule ∷ []) c.tree.marks (wants_of s.inner s.own (body_of s.rule) ++ a.wants) c.wants s.at s.leaves s.marks s.wants
    (grown_rule items whole handed a.at a.tree.leaves a.tree.marks g room tag s.inner s.own s.rule a.wants (no_hole g skips) s.built grows)
grown_met items whole handed (Many g) room tag a c skips s grows = grown_many s.taken items whole handed g room tag a c s.sure s.by s.at s.leaves grows
grown_met items whole handed (Maybe g) room tag a c skips s grows = grown_maybe s.taken items whole handed g room tag a c s.sure s.by s.at s.leaves grows

-- a tree for a hole is one of those left to others
hole_names : (hole : Hole) → names_itself (One (form_of hole)) ≡ true
hole_names h.Exp = refl
hole_names h.Con = refl

form_is_hole : (hole : Hole) → is_hole (form_of hole) ≡ true
form_is_hole h.Exp = refl
form_is_hole h.Con = refl

listing_same : (a b : Listing) → a.leaves ≡ b.leaves → a.marks ≡ b.marks → a ≡ b
listing_same a b e i = ap (λ z. record { leaves = z; marks = a.marks }) e ∙ ap (λ z. record { leaves = b.leaves; marks = z }) i

outer_hole : (g : Form) (n : Node) (room : ℕ) (name : Content) (x : Option Kind) (tree : Listing) → is_hole g ≡ true → Fits room name n (One g) x → Lists tree n → outer_in is_hole n (One g) ≡ tree ∷ []
outer_hole g (leaf t) room name x tree i fit lists = absurd fit
outer_hole g (several ns) room name x tree i fit lists = absurd fit
outer_hole g absent room name x tree i fit lists = absurd fit
outer_hole g (present n) room name x tree i fit lists = absurd fit
outer_hole g (branch q ns) room name x tree i fit lists =
    ap (λ b. if b then record { leaves = spell_all ns; marks = m.Rule q ∷ marks_all ns } ∷ [] else outer_all is_hole ns (body_of q)) i
    ∙ ap (λ l. l ∷ []) (listing_same (record { leaves = spell_all ns; marks = m.Rule q ∷ marks_all ns }) tree (sym lists.0) (sym lists.1))

pub outer_filling : (hole : Hole) (w : Want) (n : Node) (room : ℕ) (name : Content) (x : Option Kind) (tree : Listing) → w.part ≡ One (form_of hole) → Fits room name n w.part x → Lists tree n → outer_in is_hole n w.part ≡ tree ∷ []
outer_filling hole w n room name x tree e fit lists = ap (outer_in is_hole n) e ∙ outer_hole (form_of hole) n room name x tree (form_is_hole hole) (subst (λ p. Fits room name n p x) e fit) lists

-- it is left to others as it is listed
pub outer_own : (hole : Hole) (w : Want) (n : Node) (room : ℕ) (name : Content) (x : Option Kind) → w.part ≡ One (form_of hole) → Fits room name n w.part x → (own : Listing) × (outer_in is_hole n w.part ≡ own ∷ []) × (own.leaves ≡ spell n)
outer_own hole w n room name x e fit = (record { leaves = spell n; marks = marks_of n }, outer_filling hole w n room name x (record { leaves = spell n; marks = marks_of n }) e fit (refl, refl), refl)

pub hole_renamed : (hole : Hole) (p : Part) (n : Node) (room : ℕ) (name other : Content) (x : Option Kind) → p ≡ One (form_of hole) → Fits room name n p x → Fits room other n p x
hole_renamed hole p n room name other x e fit = rename_any n p room name other x (ap names_itself e ∙ hole_names hole) fit

grown_took : (items : List Token) (whole : Want) (handed more_handed : List Listing) (hole : Hole) (w : Want) (ws : List Want) (at behind : ℕ) (tree next filling : Listing) → w.part ≡ One (form_of hole) → ReadsWant items w at filling behind
    → more_handed ≡ handed ++ filling ∷ [] → next.leaves ≡ tree.leaves ++ filling.leaves → next.marks ≡ tree.marks ++ filling.marks
    → Grown items whole handed at tree.leaves tree.marks (w ∷ ws) → Grown items whole more_handed behind next.leaves next.marks ws
grown_took items whole handed more_handed hole w ws at behind tree next filling form r hands leaves marks grows ns x e filled =
    let n = r.reads.node in
    let fits : Fits w.room (name_at items w.tag) n w.part (front (spell_all ns) x) =
    hole_renamed hole w.part n w.room (name_at items at) (name_at items w.tag) (front (spell_all ns) x) form (subst (λ y. Fits w.room (name_at items at) n w.part y) (sym e) r.reads.fits) in
    let first : front (spell_all (more n ns)) x ≡ first_kind (drop at items) =
    front_append (spell n) (spell_all ns) x ∙ ap (front (spell n)) e ∙ front_kind (spell n) (drop behind items) ∙ ap first_kind (sym r.reads.spells) in
    regrow items whole tree.leaves next.leaves tree.marks next.marks handed more_handed (more n ns) ns (w ∷ ws) ws x (grows (more n ns) x first (fits, filled))
    (sym (append_assoc tree.marks (marks_of n) (marks_all ns)) ∙ ap (λ l. (tree.marks ++ l) ++ marks_all ns) (sym r.reads.lists.1) ∙ ap (λ l. l ++ marks_all ns) (sym marks))
    (sym (append_assoc tree.leaves (spell n) (spell_all ns)) ∙ ap (λ l. (tree.leaves ++ l) ++ spell_all ns) (sym r.reads.lists.0) ∙ ap (λ l. l ++ spell_all ns) (sym leaves))
    (ap (λ l. handed ++ (l ++ outer_all is_hole ns (parts_of ws))) (outer_filling hole w n w.room (name_at items w.tag) (front (spell_all ns) x) filling form fits r.reads.lists)
    ∙ sym (append_assoc handed (filling ∷ []) (outer_all is_hole ns (parts_of ws))) ∙ ap (λ l. l ++ outer_all is_hole ns (parts_of ws)) (sym hands))

grown_first : (items : List Token) (whole : Want) (tree : Listing) → tree.leaves ≡ [] → tree.marks ≡ [] → Grown items whole [] whole.tag tree.leaves tree.marks (whole ∷ [])
grown_first items whole tree leaves marks none x e d = absurd d
grown_first items whole tree leaves marks (more n none) x e d = record {
  node = n;
  fits = d.0;
  listed = sym (append-nil (marks_of n)) ∙ ap (λ l. l ++ (marks_of n ++ [])) (sym marks);
  spelled = sym (append-nil (spell n)) ∙ ap (λ l. l ++ (spell n ++ [])) (sym leaves);
  holes = sym (append-nil (outer_in is_hole n whole.part));
}
grown_first items whole tree leaves marks (more n (more o ns)) x e d = absurd d.1

-- what reading comes to
pub comes_grown : (items : List Token) (whole : Want) (handed : List Listing) (at far : ℕ) (tree : Listing) (ws : List Want) → Comes items whole handed at far tree ws → Grown items whole handed at tree.leaves tree.marks ws
comes_grown items whole handed at far tree ws (begun first leaves marks) = grown_first items whole first leaves marks
comes_grown items whole handed at far tree ws (met same w a c skips s sure looked counted before) = grown_met items whole same w.part w.room w.tag a c skips s (comes_grown items whole same a.at a.far a.tree (w ∷ a.wants) before)
comes_grown items whole handed at far tree ws (took fewer longer hole w rest from seen behind old next filling form r hands leaves marks before) =
    grown_took items whole fewer longer hole w rest from behind old next filling form r hands leaves marks (comes_grown items whole fewer from seen old (w ∷ rest) before)

pub comes_read : (items : List Token) (whole : Want) (handed : List Listing) (at far : ℕ) (tree : Listing) (ws : List Want) → Comes items whole handed at far tree ws → drop whole.tag items ≡ tree.leaves ++ drop at items
comes_read items whole handed at far tree ws (begun first leaves marks) = ap (λ l. l ++ drop whole.tag items) (sym leaves)
comes_read items whole handed at far tree ws (met same w a c skips s sure looked counted before) = read_meets items (drop whole.tag items) w.part w.room w.tag a c s (comes_read items whole same a.at a.far a.tree (w ∷ a.wants) before)
comes_read items whole handed at far tree ws (took fewer longer hole w rest from seen behind old next filling form r hands leaves marks before) =
    comes_read items whole fewer from seen old (w ∷ rest) before ∙ ap (λ l. old.leaves ++ l) (r.reads.spells ∙ ap (λ l. l ++ drop behind items) (sym r.reads.lists.0))
    ∙ sym (append_assoc old.leaves filling.leaves (drop behind items)) ∙ ap (λ l. l ++ drop behind items) (sym leaves)

-- the place is behind what was read
pub comes_place : (items : List Token) (whole : Want) (handed : List Listing) (at far : ℕ) (tree : Listing) (ws : List Want) → Comes items whole handed at far tree ws → at ≡ whole.tag + length tree.leaves
comes_place items whole handed at far tree ws (begun first leaves marks) = none_read (length first.leaves) (ap length leaves)
  where
    none_read : (n : ℕ) → n ≡ 0 → whole.tag ≡ whole.tag + n
    none_read n e = omega (arith, e)
comes_place items whole handed at far tree ws (met same w a c skips s sure looked counted before) = come_meets items whole.tag w.part w.room w.tag a c s (comes_place items whole same a.at a.far a.tree (w ∷ a.wants) before)
comes_place items whole handed at far tree ws (took fewer longer hole w rest from seen behind old next filling form r hands leaves marks before) =
    further (length old.leaves) (length filling.leaves) (length next.leaves) (comes_place items whole fewer from seen old (w ∷ rest) before) r.ends (ap length leaves ∙ length-append old.leaves filling.leaves)
  where
    further : (i j n : ℕ) → from ≡ whole.tag + i → behind ≡ from + j → n ≡ i + j → behind ≡ whole.tag + n
    further i j n a b c = omega (arith, a, b, c)
