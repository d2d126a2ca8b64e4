-- The tokens of a tree, rule by rule: what holds of the tokens of each rule where it holds of those of its parts holds of
-- every tree.
use Rattle.std.proofs.Common.{◌≡◌, ℕ, List, [], ◌∷◌, ◌++◌, refl, true, Option}
use Rattle.std.proofs.Math.Logic.{◌⊎◌, inl, inr}
use Rattle.surface_tree.specs.declared.kind.Kind.{Kind}
use Rattle.surface_tree.specs.declared.token.Token.{Token}
use Rattle.surface_tree.specs.declared.token.Content.{Content}
use Rattle.surface_grammar.specs.declared.form.Form.{Form}
use Rattle.surface_grammar.specs.declared.part.Part.{Part}
use Rattle.surface_grammar.specs.declared.part.Part.TheVariants.{Word, One, Many, Maybe}
use Rattle.surface_grammar.specs.declared.rule.Rule.{Rule}
use Rattle.surface_grammar.specs.Forms.{rules_of}
use Rattle.surface_grammar.specs.Table.{body_of}
use Rattle.surface_grammar.specs.Trees.{Node, leaf, branch, several, absent, present, Nodes, none, more, spell, spell_all, front, IsIn, Fits, FitsAll, FitsEach}
use Rattle.surface_grammar.specs.Words.{accept}
use Rattle.grammar_engine.proofs.Bools.{every}

-- the tokens of a repetition, tree by tree
pub data Run (Q : Form → List Token → Type 0) (g : Form) : List Token → Type 0 where
  nil : Run Q g []
  cons : (ts us : List Token) → Q g ts → Run Q g us → Run Q g (ts ++ us)

-- the tokens of the parts, part by part
abbrev pub Pieces : (Form → List Token → Type 0) → List Part → List Token → Type 0
Pieces Q [] l = l ≡ []
Pieces Q (Word w ∷ ps) l = (t : Token) × (us : List Token) × (l ≡ t ∷ us) × (accept w t.kind ≡ true) × Pieces Q ps us
Pieces Q (One g ∷ ps) l = (ts : List Token) × (us : List Token) × (l ≡ ts ++ us) × Q g ts × Pieces Q ps us
Pieces Q (Many g ∷ ps) l = (ts : List Token) × (us : List Token) × (l ≡ ts ++ us) × Run Q g ts × Pieces Q ps us
Pieces Q (Maybe g ∷ ps) l = (ts : List Token) × (us : List Token) × (l ≡ ts ++ us) × ((ts ≡ []) ⊎ Q g ts) × Pieces Q ps us

-- what holds of a rule's tokens where it holds of its parts'
abbrev pub Step : (Form → List Token → Type 0) → Type 0
Step Q = (g : Form) (q : Rule) (ts : List Token) → IsIn q (rules_of g) → Pieces Q (body_of q) ts → Q g ts

mutual
  pub gather : (Q : Form → List Token → Type 0) → Step Q → (n : Node) (g : Form) (room : ℕ) (name : Content) (x : Option Kind) → Fits room name n (One g) x → Q g (spell n)
  gather Q step (leaf t) g room name x f = absurd f
  gather Q step (several ns) g room name x f = absurd f
  gather Q step absent g room name x f = absurd f
  gather Q step (present n) g room name x f = absurd f
  gather Q step (branch q ns) g room name x f = step g q (spell_all ns) f.2.rule (gather_all Q step ns (body_of q) f.0 f.1 x f.3)

  pub gather_all : (Q : Form → List Token → Type 0) → Step Q → (ns : Nodes) (ps : List Part) (room : ℕ) (name : Content) (x : Option Kind) → FitsAll room name ns ps x → Pieces Q ps (spell_all ns)
  gather_all Q step none [] room name x f = refl
  gather_all Q step none (p ∷ ps) room name x f = absurd f
  gather_all Q step (more n ns) [] room name x f = absurd f
  gather_all Q step (more (leaf t) ns) (Word w ∷ ps) room name x f = (t, spell_all ns, refl, f.0.0, gather_all Q step ns ps room name x f.1)
  gather_all Q step (more (branch q ms) ns) (Word w ∷ ps) room name x f = absurd f.0
  gather_all Q step (more (several ms) ns) (Word w ∷ ps) room name x f = absurd f.0
  gather_all Q step (more absent ns) (Word w ∷ ps) room name x f = absurd f.0
  gather_all Q step (more (present n) ns) (Word w ∷ ps) room name x f = absurd f.0
  gather_all Q step (more n ns) (One g ∷ ps) room name x f = (spell n, spell_all ns, refl, gather Q step n g room name (front (spell_all ns) x) f.0, gather_all Q step ns ps room name x f.1)
  gather_all Q step (more (leaf t) ns) (Many g ∷ ps) room name x f = absurd f.0
  gather_all Q step (more (branch q ms) ns) (Many g ∷ ps) room name x f = absurd f.0
  gather_all Q step (more absent ns) (Many g ∷ ps) room name x f = absurd f.0
  gather_all Q step (more (present n) ns) (Many g ∷ ps) room name x f = absurd f.0
  gather_all Q step (more (several ms) ns) (Many g ∷ ps) room name x f = (spell_all ms, spell_all ns, refl, gather_each Q step ms g room name (front (spell_all ns) x) f.0, gather_all Q step ns ps room name x f.1)
  gather_all Q step (more (leaf t) ns) (Maybe g ∷ ps) room name x f = absurd f.0
  gather_all Q step (more (branch q ms) ns) (Maybe g ∷ ps) room name x f = absurd f.0
  gather_all Q step (more (several ms) ns) (Maybe g ∷ ps) room name x f = absurd f.0
  gather_all Q step (more absent ns) (Maybe g ∷ ps) room name x f = ([], spell_all ns, refl, inl refl, gather_all Q step ns ps room name x f.1)
  gather_all Q step (more (present n) ns) (Maybe g ∷ ps) room name x f = (spell n, spell_all ns, refl, inr (gather Q step n g room name (front (spell_all ns) x) f.0), gather_all Q step ns ps room name x f.1)

  pub gather_each : (Q : Form → List Token → Type 0) → Step Q → (ns : Nodes) (g : Form) (room : ℕ) (name : Content) (x : Option Kind) → FitsEach room name ns g x → Run Q g (spell_all ns)
  gather_each Q step none g room name x f = nil
  gather_each Q step (more n ns) g room name x f = cons (spell n) (spell_all ns) (gather Q step n g room name (front (spell_all ns) x) f.0) (gather_each Q step ns g room name x f.1)
