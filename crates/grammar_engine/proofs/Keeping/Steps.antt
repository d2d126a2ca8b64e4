-- The steps of reading pass on each tree that has the tokens read.
use Rattle.std.proofs.Common.{◌≡◌, ◌<◌, ◌≤◌, ◌+◌, ℕ, List, [], ◌∷◌, ◌++◌, take, drop, append_assoc, refl, ap, sym, ◌∙◌, subst, arith, Bool, true, false, not, ◌&&◌, if◌then◌else◌, Option, Some, None}
use Rattle.std.proofs.Math.Logic.{◌⊎◌, inl, inr}
use Rattle.std.proofs.lemmas.Bool.{cases_Bool}
use Rattle.surface_tree.specs.declared.kind.Kind.{Kind}
use Rattle.surface_tree.specs.declared.token.Token.{Token}
use Rattle.surface_tree.specs.declared.token.Content.{Content}
use Rattle.surface_grammar.specs.declared.form.Form.{Form}
use Rattle.surface_grammar.specs.declared.form.Form.TheVariants as f
use Rattle.surface_grammar.specs.declared.markup.MarkupRule.TheVariants as markup
use Rattle.surface_grammar.specs.declared.part.Part.{Part}
use Rattle.surface_grammar.specs.declared.part.Part.TheVariants.{Word, One, Many, Maybe}
use Rattle.surface_grammar.specs.declared.rule.Rule.{Rule}
use Rattle.surface_grammar.specs.declared.rule.Rule.TheVariants as r
use Rattle.surface_grammar.specs.declared.tree.Mark.TheVariants as m
use Rattle.surface_grammar.specs.Forms.{rules_of}
use Rattle.surface_grammar.specs.Fronts.{first_kind, first_content}
use Rattle.surface_grammar.specs.Listings.{marks_of, marks_all, marks_each}
use Rattle.surface_grammar.specs.Sides.{is_element}
use Rattle.surface_grammar.specs.Table.{body_of}
use Rattle.surface_grammar.specs.Trees.{Node, leaf, branch, several, absent, present, Nodes, none, more, spell, spell_all, front, begins, is_open, must_go_on, depth_of, IsIn, Built, Fits, FitsAll}
use Rattle.grammar_engine.specs.declared.want.Want.{Want}
use Rattle.grammar_engine.specs.Blocks.{StartedBy}
use Rattle.grammar_engine.specs.Laws.{is_raced_form}
use Rattle.grammar_engine.specs.Leaving.{outer_in, outer_all, outer_each}
use Rattle.grammar_engine.specs.Moves.{wants_of}
use Rattle.grammar_engine.specs.Passing.{FilledBy}
use Rattle.grammar_engine.specs.Places.{name_at}
use Rattle.grammar_engine.specs.Rooms.{least_of}
use Rattle.grammar_engine.proofs.Keeping.Agreeing.{kinds_same, contents_same, opens}
use Rattle.grammar_engine.proofs.Short.Calm.{parts_of}
use Rattle.grammar_engine.proofs.Table.Decided.{rule_solid, one_rule}
use Rattle.grammar_engine.proofs.Keeping.Grown.{front_append}
use Rattle.grammar_engine.proofs.Trees.Leading.{started, node_led, nodes_led}
use Rattle.grammar_engine.proofs.Table.Least.{least_low, least_needed}
use Rattle.grammar_engine.proofs.Keeping.Passed.{want, Stepped, StepWord, StepRule, StepMany, StepMaybe, BlockedNone}
use Rattle.grammar_engine.proofs.Keeping.Readies.{parts_append}
use Rattle.grammar_engine.proofs.Trees.Unique.{front_kind, begun_kind}
use Rattle.grammar_engine.proofs.Bools.{clash}

-- the word
word_same : (t u : Token) (a b : List Token) → take 1 (u ∷ a) ≡ take 1 (t ∷ b) → u ≡ t
word_same t u a b e = cc

pub step_word : StepWord
step_word items extra w room tag ws none tail t rest f e = absurd f
step_word items extra w room tag ws (more (leaf u) ns) tail t rest f e =
    record { rest = ns; filled = f.1; spelled = ap (λ z. z ∷ spell_all ns) (word_same t u (spell_all ns ++ tail) rest e); listed = refl; outer = λ h s. refl }
step_word items extra w room tag ws (more (branch q os) ns) tail t rest f e = absurd f.0
step_word items extra w room tag ws (more (several os) ns) tail t rest f e = absurd f.0
step_word items extra w room tag ws (more absent ns) tail t rest f e = absurd f.0
step_word items extra w room tag ws (more (present o) ns) tail t rest f e = absurd f.0

-- the trees of a rule's parts before others
abbrev pub joined : Nodes → Nodes → Nodes
joined none others = others
joined (more n ns) others = more n (joined ns others)

pub joined_spell : (ns others : Nodes) → spell_all (joined ns others) ≡ spell_all ns ++ spell_all others
joined_spell none others = refl
joined_spell (more n ns) others = ap (λ l. spell n ++ l) (joined_spell ns others) ∙ sym (append_assoc (spell n) (spell_all ns) (spell_all others))

pub joined_marks : (ns others : Nodes) → marks_all (joined ns others) ≡ marks_all ns ++ marks_all others
joined_marks none others = refl
joined_marks (more n ns) others = ap (λ l. marks_of n ++ l) (joined_marks ns others) ∙ sym (append_assoc (marks_of n) (marks_all ns) (marks_all others))

filled_join : (items : List Token) (extra room tag : ℕ) (name : Content) (ps : List Part) (ws : List Want) (ns others : Nodes) (x : Option Kind) → name ≡ name_at items tag
    → FitsAll (room + extra) name ns ps (front (spell_all others) x) → FilledBy extra items others ws x → FilledBy extra items (joined ns others) (wants_of room tag ps ++ ws) x
filled_join items extra room tag name [] ws none others x e f g = g
filled_join items extra room tag name [] ws (more n ns) others x e f g = absurd f
filled_join items extra room tag name (p ∷ ps) ws none others x e f g = absurd f
filled_join items extra room tag name (p ∷ ps) ws (more n ns) others x e f g = (
  subst (λ z. Fits (room + extra) z n p (front (spell_all (joined ns others)) x)) e (subst (λ y. Fits (room + extra) name n p y) (sym (ap (λ l. front l x) (joined_spell ns others) ∙ front_append (spell_all ns) (spell_all others) x)) f.0),
  filled_join items extra room tag name ps ws ns others x e f.1 g,
)

same_room : (inner inside deep room extra : ℕ) → inner + deep ≡ room → inside + deep ≡ room + extra → inside ≡ inner + extra
same_room inner inside deep room extra e e' = omega (arith, e, e')

-- the name of an element is what its first token holds
element_named : (q : Rule) (ns : Nodes) (room : ℕ) (own : Content) (x : Option Kind) (text : List Token) → is_element q ≡ true → FitsAll room own ns (body_of q) x → first_content (spell_all ns ++ text) ≡ own
element_named (r.Markup markup.NodeElement) none room own x text e f = absurd f
element_named (r.Markup markup.NodeElement) (more (leaf t) ns) room own x text e f = f.0.1 refl
element_named (r.Markup markup.NodeElement) (more (branch q os) ns) room own x text e f = absurd f.0
element_named (r.Markup markup.NodeElement) (more (several os) ns) room own x text e f = absurd f.0
element_named (r.Markup markup.NodeElement) (more absent ns) room own x text e f = absurd f.0
element_named (r.Markup markup.NodeElement) (more (present o) ns) room own x text e f = absurd f.0
element_named q ns room own x text e f = cc

own_same : (items : List Token) (q : Rule) (ns : Nodes) (inside tag at own : ℕ) (mine : Content) (x : Option Kind) (text : List Token) → (is_element q ≡ false → name_at items own ≡ name_at items tag) → (is_element q ≡ true → own ≡ at)
    → (is_element q ≡ false → mine ≡ name_at items tag) → FitsAll inside mine ns (body_of q) x → take 1 (spell_all ns ++ text) ≡ take 1 (drop at items) → (is_element q ≡ true) ⊎ (is_element q ≡ false) → mine ≡ name_at items own
own_same items q ns inside tag at own mine x text named begun named' f e (inl i) = sym (element_named q ns inside mine x text i f) ∙ contents_same (spell_all ns ++ text) (drop at items) e ∙ ap (name_at items) (sym (begun i))
own_same items q ns inside tag at own mine x text named begun named' f e (inr i) = named' i ∙ sym (named i)

joined_outer : (h : Form → Bool) (ns others : Nodes) (ps qs : List Part) (room : ℕ) (name : Content) (x : Option Kind) → FitsAll room name ns ps x → outer_all h (joined ns others) (ps ++ qs) ≡ outer_all h ns ps ++ outer_all h others qs
joined_outer h none others [] qs room name x f = refl
joined_outer h none others (p ∷ ps) qs room name x f = absurd f
joined_outer h (more n ns) others [] qs room name x f = absurd f
joined_outer h (more n ns) others (p ∷ ps) qs room name x f = ap (λ l. outer_in h n p ++ l) (joined_outer h ns others ps qs room name x f.1) ∙ sym (append_assoc (outer_in h n p) (outer_all h ns ps) (outer_all h others qs))

pub rule_outer : (h : Form → Bool) (g : Form) (q : Rule) (inner own inside : ℕ) (mine : Content) (ns others : Nodes) (ws : List Want) (x : Option Kind) → h g ≡ false → FitsAll inside mine ns (body_of q) x
    → outer_all h (more (branch q ns) others) (One g ∷ parts_of ws) ≡ outer_all h (joined ns others) (parts_of (wants_of inner own (body_of q) ++ ws))
rule_outer h g q inner own inside mine ns others ws x skips f =
    ap (λ b. (if b then record { leaves = spell_all ns; marks = m.Rule q ∷ marks_all ns } ∷ [] else outer_all h ns (body_of q)) ++ outer_all h others (parts_of ws)) skips
    ∙ sym (joined_outer h ns others (body_of q) (parts_of ws) inside mine x f) ∙ ap (outer_all h (joined ns others)) (sym (parts_append inner own (body_of q) ws))

rule_stepped : (items : List Token) (extra : ℕ) (g : Form) (room tag at inner own : ℕ) (q : Rule) (ws : List Want) (ns others : Nodes) (tail : List Token)
    → Built room inner (name_at items tag) (name_at items own) q g (first_kind (drop at items)) → (is_element q ≡ true → own ≡ at)
    → FilledBy extra items (more (branch q ns) others) (want (One g) room tag ∷ ws) (first_kind tail) → take 1 ((spell_all ns ++ spell_all others) ++ tail) ≡ take 1 (drop at items)
    → Stepped extra items (more (branch q ns) others) (want (One g) room tag ∷ ws) (wants_of inner own (body_of q) ++ ws) (first_kind tail) [] (m.Rule q ∷ [])
rule_stepped items extra g room tag at inner own q ws ns others tail b begun f e =
    let fits : FitsAll (inner + extra) f.0.1 ns (body_of q) (front (spell_all others) (first_kind tail)) =
    subst (λ i. FitsAll i f.0.1 ns (body_of q) (front (spell_all others) (first_kind tail))) (same_room inner f.0.0 (depth_of q) room extra b.room_left f.0.2.room_left) f.0.3 in
    let name : f.0.1 ≡ name_at items own =
    own_same items q ns f.0.0 tag at own f.0.1 (front (spell_all others) (first_kind tail)) (spell_all others ++ tail) b.named begun f.0.2.named f.0.3
    (subst (λ l. take 1 l ≡ take 1 (drop at items)) (append_assoc (spell_all ns) (spell_all others) tail) e) (cases_Bool (is_element q)) in
    record {
      rest = joined ns others;
      filled = filled_join items extra inner own f.0.1 (body_of q) ws ns others (first_kind tail) name fits f.1;
      spelled = sym (joined_spell ns others);
      listed = ap (λ l. m.Rule q ∷ l) (sym (joined_marks ns others));
      outer = λ h s. rule_outer h g q inner own f.0.0 f.0.1 ns others ws (front (spell_all others) (first_kind tail)) s f.0.3;
    }

pub step_rule : StepRule
step_rule items extra g room tag at inner own q ws none tail b begun f e same = absurd f
step_rule items extra g room tag at inner own q ws (more (leaf t) ns) tail b begun f e same = absurd f.0
step_rule items extra g room tag at inner own q ws (more (several os) ns) tail b begun f e same = absurd f.0
step_rule items extra g room tag at inner own q ws (more absent ns) tail b begun f e same = absurd f.0
step_rule items extra g room tag at inner own q ws (more (present o) ns) tail b begun f e same = absurd f.0
step_rule items extra g room tag at inner own q ws (more (branch p os) ns) tail b begun f e same =
    let is : p ≡ q = same p os ns refl in
    subst (λ z. Stepped extra items (more (branch z os) ns) (want (One g) room tag ∷ ws) (wants_of inner own (body_of q) ++ ws) (first_kind tail) [] (m.Rule q ∷ [])) (sym is)
    (rule_stepped items extra g room tag at inner own q ws os ns tail b begun (subst (λ z. FilledBy extra items (more (branch z os) ns) (want (One g) room tag ∷ ws) (first_kind tail)) is f) e)

-- where the form isn't the open one, a repetition or an option that ends has a token behind it that doesn't begin the form
pub not_open : (g : Form) (x : Option Kind) → (g ≡ f.ConForall → ⊥) → is_open g x ≡ false
not_open f.ConForall x h = absurd (h refl)
not_open g x h = refl

pub closed : (b o : Bool) → (b && not o) ≡ false → o ≡ false → b ≡ false
closed true true h e = cc
closed true false h e = cc
closed false o h e = refl

pub many_ends : (items : List Token) (extra : ℕ) (g : Form) (room tag at : ℕ) (ws : List Want) (others : Nodes) (tail : List Token) → (g ≡ f.ConForall → ⊥)
    → must_go_on g (front (spell_all others) (first_kind tail)) ≡ false → take 1 (spell_all others ++ tail) ≡ take 1 (drop at items) → begins g (first_kind (drop at items)) ≡ false
many_ends items extra g room tag at ws others tail calm f e =
    let y = front (spell_all others) (first_kind tail) in
    let same : y ≡ first_kind (drop at items) = front_kind (spell_all others) tail ∙ kinds_same (spell_all others ++ tail) (drop at items) e in
    ap (begins g) (sym same) ∙ closed (begins g y) (is_open g y) f (not_open g y calm)

pub form_begins : (g : Form) (n : Node) (room at : ℕ) (name : Content) (items rest : List Token) (x : Option Kind) → Fits room name n (One g) x → take 1 (spell n ++ rest) ≡ take 1 (drop at items) → begins g (first_kind (drop at items)) ≡ true
form_begins g n room at name items rest x f e = ap (begins g) (sym (kinds_same (spell n ++ rest) (drop at items) e)) ∙ begun_kind g (spell n) rest (node_led n g room name x f)

pub step_many : StepMany
step_many items extra g room tag at ws none tail calm f e = absurd f
step_many items extra g room tag at ws (more (leaf t) others) tail calm f e = absurd f.0
step_many items extra g room tag at ws (more (branch q os) others) tail calm f e = absurd f.0
step_many items extra g room tag at ws (more absent others) tail calm f e = absurd f.0
step_many items extra g room tag at ws (more (present o) others) tail calm f e = absurd f.0
step_many items extra g room tag at ws (more (several none) others) tail calm f e = (
  λ h. clash (begins g (first_kind (drop at items))) h (many_ends items extra g room tag at ws others tail calm f.0 e),
  λ h. record { rest = others; filled = f.1; spelled = refl; listed = refl; outer = λ s i. refl },
)
step_many items extra g room tag at ws (more (several (more n ns)) others) tail calm f e =
    let x = first_kind tail in
    let text : (spell_all (more (several (more n ns)) others)) ++ tail ≡ spell n ++ ((spell_all ns ++ spell_all others) ++ tail) =
    ap (λ l. l ++ tail) (append_assoc (spell n) (spell_all ns) (spell_all others)) ∙ append_assoc (spell n) (spell_all ns ++ spell_all others) tail in
    let begun = form_begins g n (room + extra) at (name_at items tag) items ((spell_all ns ++ spell_all others) ++ tail) (front (spell_all ns) (front (spell_all others) x)) f.0.0 (subst (λ l. take 1 l ≡ take 1 (drop at items)) text e) in (
      λ h. record {
        rest = more n (more (several ns) others);
        filled = (subst (λ y. Fits (room + extra) (name_at items tag) n (One g) y) (sym (front_append (spell_all ns) (spell_all others) x)) f.0.0, (f.0.1, f.1));
        spelled = append_assoc (spell n) (spell_all ns) (spell_all others);
        listed = ap (λ l. m.Item ∷ l) (append_assoc (marks_of n) (marks_each ns) (marks_all others));
        outer = λ s i. append_assoc (outer_in s n (One g)) (outer_each s ns g) (outer_all s others (parts_of ws));
      },
      λ h. clash (begins g (first_kind (drop at items))) begun h,
    )

pub step_maybe : StepMaybe
step_maybe items extra g room tag ws none x f = absurd f
step_maybe items extra g room tag ws (more (leaf t) others) x f = absurd f.0
step_maybe items extra g room tag ws (more (branch q os) others) x f = absurd f.0
step_maybe items extra g room tag ws (more (several os) others) x f = absurd f.0
step_maybe items extra g room tag ws (more absent others) x f = (λ h. absurd (h others refl), λ h. record { rest = others; filled = f.1; spelled = refl; listed = refl; outer = λ s i. refl })
step_maybe items extra g room tag ws (more (present o) others) x f = (λ h. record { rest = more o others; filled = (f.0, f.1); spelled = refl; listed = refl; outer = λ s i. refl }, λ h. absurd (h o others refl))

-- the token that begins a tree of a form begins the rule of the tree
pub begun_rule : (g : Form) (p : Rule) (ns : Nodes) (room inner at : ℕ) (name own : Content) (items text : List Token) (x : Option Kind) → Built room inner name own p g (front (spell_all ns) x) → FitsAll inner own ns (body_of p) x
    → take 1 (spell_all ns ++ text) ≡ take 1 (drop at items) → StartedBy (first_kind (drop at items)) p
begun_rule g p ns room inner at name own items text x b f e =
    let l = nodes_led ns (body_of p) inner own x (rule_solid g p b.rule) f in
    let first : Some l.token.kind ≡ first_kind (drop at items) = sym (ap (λ z. first_kind (z ++ text)) l.is) ∙ kinds_same (spell_all ns ++ text) (drop at items) e in
    subst (λ z. StartedBy z p) first (started p (spell_all ns) x l.token l.rest l.is b.free l.passes)

pub one_started : (g : Form) (q p : Rule) (x : Option Kind) → is_raced_form g ≡ false → IsIn q (rules_of g) → IsIn p (rules_of g) → StartedBy x q → StartedBy x p → q ≡ p
one_started g q p None calm i j a b = absurd a
one_started g q p (Some x) calm i j a b = one_rule g q p x calm i j a b

too_deep : (least room extra : ℕ) → room < least → least ≤ 2 → least ≤ room + extra → (extra ≡ 0) ⊎ (2 ≤ room) → ⊥
too_deep least room extra a b c (inl e) = absurd (omega (arith, a, c, e))
too_deep least room extra a b c (inr e) = absurd (omega (arith, a, b, e))

pub blocked_none : BlockedNone
blocked_none items (Word w) room tag at extra (leaf t) text b roomy f e = let o = opens t text (drop at items) e in b t o.rest o.is f.0 f.1
blocked_none items (Word w) room tag at extra (branch q os) text b roomy f e = absurd f
blocked_none items (Word w) room tag at extra (several os) text b roomy f e = absurd f
blocked_none items (Word w) room tag at extra absent text b roomy f e = absurd f
blocked_none items (Word w) room tag at extra (present o) text b roomy f e = absurd f
blocked_none items (One g) room tag at extra n text (inl lacks) roomy f e = clash (begins g (first_kind (drop at items))) (form_begins g n (room + extra) at (name_at items tag) items text (first_kind text) f e) lacks
blocked_none items (One g) room tag at extra (leaf t) text (inr b) roomy f e = absurd f
blocked_none items (One g) room tag at extra (several os) text (inr b) roomy f e = absurd f
blocked_none items (One g) room tag at extra absent text (inr b) roomy f e = absurd f
blocked_none items (One g) room tag at extra (present o) text (inr b) roomy f e = absurd f
blocked_none items (One g) room tag at extra (branch p os) text (inr (q, chosen, begun, calm, less)) roomy f e =
    let same : q ≡ p = one_started g q p (first_kind (drop at items)) calm chosen.0 f.2.rule begun (begun_rule g p os (room + extra) f.0 at (name_at items tag) f.1 items text (first_kind text) f.2 f.3 e) in
    too_deep (least_of q) room extra less (least_low g q chosen.0) (subst (λ z. least_of z ≤ room + extra) (sym same) (least_needed p os g (room + extra) (name_at items tag) (first_kind text) f)) roomy
blocked_none items (Many g) room tag at extra n text b roomy f e = absurd b
blocked_none items (Maybe g) room tag at extra n text b roomy f e = absurd b
