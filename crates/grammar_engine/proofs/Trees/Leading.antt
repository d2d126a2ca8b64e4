-- A tree begins with a token that begins its form.
use Rattle.std.proofs.Common.{◌≡◌, ℕ, List, [], ◌∷◌, ◌++◌, refl, ap, subst, Bool, true, false, not, ◌&&◌, Option, Some}
use Rattle.std.proofs.lemmas.Bool.{or_right, or_left}
use Rattle.surface_tree.specs.declared.kind.Kind.{Kind}
use Rattle.surface_tree.specs.declared.token.Token.{Token}
use Rattle.surface_tree.specs.declared.token.Content.{Content}
use Rattle.surface_grammar.specs.declared.form.Form.{Form}
use Rattle.surface_grammar.specs.declared.part.Part.{Part}
use Rattle.surface_grammar.specs.declared.part.Part.TheVariants.{Word, One, Many, Maybe}
use Rattle.surface_grammar.specs.declared.rule.Rule.{Rule}
use Rattle.surface_grammar.specs.Leads.{leads, starts}
use Rattle.surface_grammar.specs.Sides.{bars_of}
use Rattle.surface_grammar.specs.Table.{body_of}
use Rattle.surface_grammar.specs.Trees.{Node, leaf, branch, several, absent, present, Nodes, none, more, spell, spell_all, front, among, begins, Fits, FitsAll}
use Rattle.surface_grammar.specs.Words.{any_accepts}
use Rattle.grammar_engine.specs.Laws.{solid}
use Rattle.grammar_engine.proofs.Table.Decided.{rule_solid, starts_begins}

-- the tokens begin with one that passes
pub record Led (ok : Kind → Bool) (ts : List Token) : Type 0 where
  pub token : Token
  pub rest : List Token
  pub is : ts ≡ token ∷ rest
  pub passes : ok token.kind ≡ true

both : (b l : Bool) → b ≡ false → l ≡ true → (not b && l) ≡ true
both true l e h = cc
both false l e h = h

-- a rule whose bars leave the token and whose parts it begins, is begun by it
pub started : (q : Rule) (ts : List Token) (x : Option Kind) (t : Token) (rest : List Token) → ts ≡ t ∷ rest → among (bars_of q) (front ts x) ≡ false → leads (body_of q) t.kind ≡ true → starts q t.kind ≡ true
started q ts x t rest is free led = both (any_accepts (bars_of q) t.kind) (leads (body_of q) t.kind) (subst (λ l. among (bars_of q) (front l x) ≡ false) is free) led

mutual
  pub node_led : (n : Node) (g : Form) (room : ℕ) (name : Content) (x : Option Kind) → Fits room name n (One g) x → Led (λ k. begins g (Some k)) (spell n)
  node_led (leaf t) g room name x f = absurd f
  node_led (several ns) g room name x f = absurd f
  node_led absent g room name x f = absurd f
  node_led (present n) g room name x f = absurd f
  node_led (branch q ns) g room name x f =
      let l = nodes_led ns (body_of q) f.0 f.1 x (rule_solid g q f.2.rule) f.3 in
      record { token = l.token; rest = l.rest; is = l.is; passes = starts_begins g q l.token.kind f.2.rule (started q (spell_all ns) x l.token l.rest l.is f.2.free l.passes) }

  pub nodes_led : (ns : Nodes) (ps : List Part) (room : ℕ) (name : Content) (x : Option Kind) → solid ps ≡ true → FitsAll room name ns ps x → Led (leads ps) (spell_all ns)
  nodes_led none [] room name x s f = cc
  nodes_led none (p ∷ ps) room name x s f = absurd f
  nodes_led (more n ns) [] room name x s f = absurd f
  nodes_led (more (leaf t) ns) (Word w ∷ ps) room name x s f = record { token = t; rest = spell_all ns; is = refl; passes = f.0.0 }
  nodes_led (more (branch q ms) ns) (Word w ∷ ps) room name x s f = absurd f.0
  nodes_led (more (several ms) ns) (Word w ∷ ps) room name x s f = absurd f.0
  nodes_led (more absent ns) (Word w ∷ ps) room name x s f = absurd f.0
  nodes_led (more (present n) ns) (Word w ∷ ps) room name x s f = absurd f.0
  nodes_led (more n ns) (One g ∷ ps) room name x s f =
      let l = node_led n g room name (front (spell_all ns) x) f.0 in
      record { token = l.token; rest = l.rest ++ spell_all ns; is = ap (λ z. z ++ spell_all ns) l.is; passes = l.passes }
  nodes_led (more (leaf t) ns) (Many g ∷ ps) room name x s f = absurd f.0
  nodes_led (more (branch q ms) ns) (Many g ∷ ps) room name x s f = absurd f.0
  nodes_led (more absent ns) (Many g ∷ ps) room name x s f = absurd f.0
  nodes_led (more (present n) ns) (Many g ∷ ps) room name x s f = absurd f.0
  nodes_led (more (several none) ns) (Many g ∷ ps) room name x s f =
      let l = nodes_led ns ps room name x s f.1 in
      record { token = l.token; rest = l.rest; is = l.is; passes = or_right (begins g (Some l.token.kind)) _ l.passes }
  nodes_led (more (several (more n ms)) ns) (Many g ∷ ps) room name x s f =
      let l = node_led n g room name (front (spell_all ms) (front (spell_all ns) x)) f.0.0 in
      record { token = l.token; rest = l.rest ++ spell_all ms ++ spell_all ns; is = ap (λ z. z ++ spell_all ms ++ spell_all ns) l.is; passes = or_left _ (leads ps l.token.kind) l.passes }
  nodes_led (more (leaf t) ns) (Maybe g ∷ ps) room name x s f = absurd f.0
  nodes_led (more (branch q ms) ns) (Maybe g ∷ ps) room name x s f = absurd f.0
  nodes_led (more (several ms) ns) (Maybe g ∷ ps) room name x s f = absurd f.0
  nodes_led (more absent ns) (Maybe g ∷ ps) room name x s f =
      let l = nodes_led ns ps room name x s f.1 in
      record { token = l.token; rest = l.rest; is = l.is; passes = or_right (begins g (Some l.token.kind)) _ l.passes }
  nodes_led (more (present n) ns) (Maybe g ∷ ps) room name x s f =
      let l = node_led n g room name (front (spell_all ns) x) f.0 in
      record { token = l.token; rest = l.rest ++ spell_all ns; is = ap (λ z. z ++ spell_all ns) l.is; passes = or_left _ (leads ps l.token.kind) l.passes }
