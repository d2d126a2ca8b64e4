-- One step of reading passes on each tree that has the tokens read: what the steps ask for, and what they give.
use Rattle.std.proofs.Common.{◌≡◌, ◌≤◌, ◌+◌, ◌-◌, ◌⊎◌, ℕ, List, [], ◌∷◌, ◌++◌, take, drop, Bool, true, false, Option, Some}
use Rattle.surface_tree.specs.declared.kind.Kind.{Kind}
use Rattle.surface_tree.specs.declared.kind.Kind.TheVariants as k
use Rattle.surface_tree.specs.declared.token.Token.{Token}
use Rattle.surface_tree.specs.declared.token.Content.{Content}
use Rattle.surface_grammar.specs.declared.form.Form.{Form}
use Rattle.surface_grammar.specs.declared.form.Form.TheVariants as f
use Rattle.surface_grammar.specs.declared.part.Part.{Part}
use Rattle.surface_grammar.specs.declared.part.Part.TheVariants.{Word, One, Many, Maybe}
use Rattle.surface_grammar.specs.declared.rule.Rule.{Rule}
use Rattle.surface_grammar.specs.declared.tree.Mark.{Mark}
use Rattle.surface_grammar.specs.declared.tree.Mark.TheVariants as m
use Rattle.surface_grammar.specs.Forms.{rules_of}
use Rattle.surface_grammar.specs.Fronts.{first_kind}
use Rattle.surface_grammar.specs.Listings.{marks_all}
use Rattle.surface_grammar.specs.Sides.{is_element}
use Rattle.surface_grammar.specs.Table.{body_of}
use Rattle.surface_grammar.specs.Trees.{Node, branch, absent, present, Nodes, more, spell, spell_all, front, begins, must_go_on, IsIn, Built, Fits, FitsAll}
use Rattle.grammar_engine.specs.declared.want.Want.{Want}
use Rattle.grammar_engine.specs.Leaving.{outer_all}
use Rattle.grammar_engine.specs.Moves.{wants_of}
use Rattle.grammar_engine.specs.Passing.{Agrees, Counts, FilledBy, RuleSure, OptionSure}
use Rattle.grammar_engine.specs.Places.{name_at}
use Rattle.grammar_engine.specs.Solid.{first_solid}
use Rattle.grammar_engine.specs.Stuck.{Blocked}
use Rattle.grammar_engine.proofs.Short.Calm.{parts_of}
use Rattle.grammar_engine.proofs.Fronts.Context.{is_exp_tail}
use Rattle.grammar_engine.proofs.Fronts.Scan.{scan}

-- a part that is to be read
abbrev pub want : Part → ℕ → ℕ → Want
want p room tag = record { part = p; room = room; tag = tag }

-- what is read next is no tree of such a form
abbrev pub SkipsPart : (Form → Bool) → Part → Type 0
SkipsPart h (Word w) = Unit {0}
SkipsPart h (One g) = h g ≡ false
SkipsPart h (Many g) = Unit {0}
SkipsPart h (Maybe g) = Unit {0}

abbrev pub Skips : (Form → Bool) → List Want → Type 0
Skips h [] = Unit {0}
Skips h (w ∷ ws) = SkipsPart h w.part

-- trees for what is to be read after a step, and what the step took from those before it
pub record Stepped (extra : ℕ) (items : List Token) (ns : Nodes) (before later : List Want) (x : Option Kind) (leaves : List Token) (marks : List Mark) : Type 0 where
  pub rest : Nodes
  pub filled : FilledBy extra items rest later x
  pub spelled : spell_all ns ≡ leaves ++ spell_all rest
  pub listed : marks_all ns ≡ marks ++ marks_all rest
  pub outer : (h : Form → Bool) → Skips h before → outer_all h ns (parts_of before) ≡ outer_all h rest (parts_of later)

-- the word: the next token of the text is the one that is taken
abbrev pub StepWord : Type 0
StepWord = (items : List Token) (extra : ℕ) (w : Kind) (room tag : ℕ) (ws : List Want) (ns : Nodes) (tail : List Token) (t : Token) (rest : List Token)
    → FilledBy extra items ns (want (Word w) room tag ∷ ws) (first_kind tail) → take 1 (spell_all ns ++ tail) ≡ take 1 (t ∷ rest)
    → Stepped extra items ns (want (Word w) room tag ∷ ws) ws (first_kind tail) (t ∷ []) (m.Leaf ∷ [])

-- the rule of the tree is the one that is begun (RuleSame, below); the name of an element is that of its first token
abbrev pub StepRule : Type 0
StepRule = (items : List Token) (extra : ℕ) (g : Form) (room tag at inner own : ℕ) (q : Rule) (ws : List Want) (ns : Nodes) (tail : List Token)
    → Built room inner (name_at items tag) (name_at items own) q g (first_kind (drop at items)) → (is_element q ≡ true → own ≡ at)
    → FilledBy extra items ns (want (One g) room tag ∷ ws) (first_kind tail) → take 1 (spell_all ns ++ tail) ≡ take 1 (drop at items)
    → ((p : Rule) (os others : Nodes) → ns ≡ more (branch p os) others → p ≡ q)
    → Stepped extra items ns (want (One g) room tag ∷ ws) (wants_of inner own (body_of q) ++ ws) (first_kind tail) [] (m.Rule q ∷ [])

-- a repetition goes on exactly where the next token begins its form; one of the open option is no part of a rule
abbrev pub StepMany : Type 0
StepMany = (items : List Token) (extra : ℕ) (g : Form) (room tag at : ℕ) (ws : List Want) (ns : Nodes) (tail : List Token) → (g ≡ f.ConForall → ⊥)
    → FilledBy extra items ns (want (Many g) room tag ∷ ws) (first_kind tail) → take 1 (spell_all ns ++ tail) ≡ take 1 (drop at items)
    → (begins g (first_kind (drop at items)) ≡ true → Stepped extra items ns (want (Many g) room tag ∷ ws) (want (One g) room tag ∷ want (Many g) room tag ∷ ws) (first_kind tail) [] (m.Item ∷ []))
    × (begins g (first_kind (drop at items)) ≡ false → Stepped extra items ns (want (Many g) room tag ∷ ws) ws (first_kind tail) [] (m.End ∷ []))

-- an option, where it is known whether its tree is there (OptionSame, below)
abbrev pub StepMaybe : Type 0
StepMaybe = (items : List Token) (extra : ℕ) (g : Form) (room tag : ℕ) (ws : List Want) (ns : Nodes) (x : Option Kind) → FilledBy extra items ns (want (Maybe g) room tag ∷ ws) x
    → (((others : Nodes) → ns ≡ more absent others → ⊥) → Stepped extra items ns (want (Maybe g) room tag ∷ ws) (want (One g) room tag ∷ ws) x [] (m.Item ∷ []))
    × (((o : Node) (others : Nodes) → ns ≡ more (present o) others → ⊥) → Stepped extra items ns (want (Maybe g) room tag ∷ ws) ws x [] (m.End ∷ []))

-- the rule of a tree that has the tokens through `place` is the one that was picked
abbrev pub RuleSame : Type 0
RuleSame = (items : List Token) (g : Form) (q p : Rule) (os : Nodes) (room tag inner races at far place extra : ℕ) (own : Content) (text : List Token)
    → IsIn q (rules_of g) → Built (room + extra) inner (name_at items tag) own p g (front (spell_all os) (first_kind text)) → FitsAll inner own os (body_of p) (first_kind text)
    → Agrees items at place (spell_all os ++ text) → at ≤ place → far ≤ place → (extra ≡ 0) ⊎ (2 ≤ room) → (is_exp_tail g ≡ true → scan 0 text ≡ false) → (g ≡ f.Exp → 2 ≤ races)
    → (1 ≤ races → Counts items at room (races - 1) extra) → RuleSure items g q room races at far → p ≡ q

-- where `::` stands next, the brackets of a constructor end, and a kind and `)` stand there
pub record MarkStands (items : List Token) (wants : List Want) (extra : ℕ) (text : List Token) : Type 0 where
  pub want : Want
  pub solid : first_solid wants ≡ Some want
  pub part : want.part ≡ One f.ConParenEnd
  pub colons : Token
  pub node : Node
  pub close : Token
  pub rest : List Token
  pub fits : Fits (want.room + extra) (name_at items want.tag) node (One f.KindTerm) (Some k.RightParenthesis)
  pub closes : close.kind ≡ k.RightParenthesis
  pub is : text ≡ colons ∷ spell node ++ close ∷ rest

-- an option's tree is there exactly where it was taken
abbrev pub OptionSame : Type 0
OptionSame = (taken : Bool) (items : List Token) (g : Form) (n : Node) (room tag races at far place extra : ℕ) (wants : List Want) (text : List Token)
    → Fits (room + extra) (name_at items tag) n (Maybe g) (first_kind text) → Agrees items at place (spell n ++ text) → at ≤ place → far ≤ place → (g ≡ f.ConForall → 1 ≤ races)
    → (first_kind text ≡ Some k.DoubleColon → g ≡ f.ConForall → MarkStands items wants extra text) → ((w : Want) → first_solid wants ≡ Some w → 1 ≤ races → Counts items at w.room (races - 1) extra)
    → (taken ≡ false → must_go_on g (first_kind (drop at items)) ≡ false) → (taken ≡ true → begins g (first_kind (drop at items)) ≡ true) → OptionSure taken items g races at wants far
    → (taken ≡ true → n ≡ absent → ⊥) × (taken ≡ false → (o : Node) → n ≡ present o → ⊥)

-- what is blocked has no tree that has the next token
abbrev pub BlockedNone : Type 0
BlockedNone = (items : List Token) (p : Part) (room tag at extra : ℕ) (n : Node) (text : List Token) → Blocked items p room tag at → (extra ≡ 0) ⊎ (2 ≤ room)
    → Fits (room + extra) (name_at items tag) n p (first_kind text) → take 1 (spell n ++ text) ≡ take 1 (drop at items) → ⊥
