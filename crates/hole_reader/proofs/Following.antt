-- A tree stays one where another token that may follow its form stands behind it.
use Rattle.std.proofs.Common.{◌≡◌, ℕ, List, [], ◌∷◌, ◌++◌, refl, ap, sym, ◌∙◌, subst, true, false, not, ◌&&◌, Option}
use Rattle.std.proofs.lemmas.Bool.{not-true}
use Rattle.surface_tree.specs.declared.kind.Kind.{Kind}
use Rattle.surface_tree.specs.declared.token.Token.{Token}
use Rattle.surface_tree.specs.declared.token.Content.{Content}
use Rattle.surface_grammar.specs.declared.form.Form.{Form}
use Rattle.surface_grammar.specs.declared.part.Part.{Part}
use Rattle.surface_grammar.specs.declared.part.Part.TheVariants.{Word, One, Many, Maybe}
use Rattle.surface_grammar.specs.Sides.{bars_of}
use Rattle.surface_grammar.specs.Table.{body_of}
use Rattle.surface_grammar.specs.Trees.{Node, leaf, branch, several, absent, present, Nodes, none, more, spell, spell_all, front, among, must_go_on, Fits, FitsAll, FitsEach}
use Rattle.grammar_engine.proofs.Short.Calm.{nexts, follows, behind, calm, calm_some}
use Rattle.grammar_engine.proofs.Table.Decided.{rule_solid}
use Rattle.grammar_engine.proofs.Short.Filling.{rule_calm, follows_one}
use Rattle.grammar_engine.proofs.Trees.Leading.{node_led, nodes_led}
use Rattle.grammar_engine.proofs.Bools.{and_left, and_right, every}

right_empty : (a b : List Token) → a ++ b ≡ [] → b ≡ []
right_empty [] b e = e
right_empty (t ∷ a) b e = cc

not_empty : {A : Type 0} (t : Token) (a b c : List Token) → a ≡ t ∷ b → a ++ c ≡ [] → A
not_empty t a b c e h = let wrong : t ∷ (b ++ c) ≡ [] = ap (λ z. z ++ c) (sym e) ∙ h in cc

-- behind parts that spell nothing comes what follows them
empties : (ns : Nodes) (ps : List Part) (room : ℕ) (name : Content) (x : Option Kind) (ys : List (Option Kind)) → FitsAll room name ns ps x → spell_all ns ≡ [] → nexts ps ys ≡ ys
empties none [] room name x ys f e = refl
empties none (p ∷ ps) room name x ys f e = absurd f
empties (more n ns) [] room name x ys f e = absurd f
empties (more (leaf t) ns) (Word w ∷ ps) room name x ys f e = cc
empties (more (branch q ms) ns) (Word w ∷ ps) room name x ys f e = absurd f.0
empties (more (several ms) ns) (Word w ∷ ps) room name x ys f e = absurd f.0
empties (more absent ns) (Word w ∷ ps) room name x ys f e = absurd f.0
empties (more (present n) ns) (Word w ∷ ps) room name x ys f e = absurd f.0
empties (more n ns) (One g ∷ ps) room name x ys f e = let l = node_led n g room name (front (spell_all ns) x) f.0 in not_empty l.token (spell n) l.rest (spell_all ns) l.is e
empties (more n ns) (Many g ∷ ps) room name x ys f e = empties ns ps room name x ys f.1 (right_empty (spell n) (spell_all ns) e)
empties (more n ns) (Maybe g ∷ ps) room name x ys f e = empties ns ps room name x ys f.1 (right_empty (spell n) (spell_all ns) e)

-- the token behind matters only where there are no others
at_front : (ts : List Token) (A : Option Kind → Type 0) (x y : Option Kind) → A (front ts x) → (ts ≡ [] → A x → A y) → A (front ts y)
at_front [] A x y a k = k refl a
at_front (t ∷ ts) A x y a k = a

fronts_same : (ts : List Token) (t : Token) (rest : List Token) (x y : Option Kind) → ts ≡ t ∷ rest → front ts x ≡ front ts y
fronts_same ts t rest x y e = ap (λ l. front l x) e ∙ sym (ap (λ l. front l y) e)

mutual
  pub refollow : (n : Node) (p : Part) (room : ℕ) (name : Content) (x y : Option Kind) → Fits room name n p x → behind p y ≡ true → Fits room name n p y
  refollow (leaf t) (Word w) room name x y f h = f
  refollow (leaf t) (One g) room name x y f h = absurd f
  refollow (leaf t) (Many g) room name x y f h = absurd f
  refollow (leaf t) (Maybe g) room name x y f h = absurd f
  refollow (branch q ns) (Word w) room name x y f h = absurd f
  refollow (branch q ns) (One g) room name x y f h =
      let l = nodes_led ns (body_of q) f.0 f.1 x (rule_solid g q f.2.rule) f.3 in (
        f.0,
        f.1,
        record { rule = f.2.rule; room_left = f.2.room_left; named = f.2.named; free = subst (λ z. among (bars_of q) z ≡ false) (fronts_same (spell_all ns) l.token l.rest x y l.is) f.2.free },
        refollow_all ns (body_of q) f.0 f.1 x y f.3 (calm_some g (body_of q) (y ∷ []) (follows_one g y h) (rule_calm g q f.2.rule)),
      )
  refollow (branch q ns) (Many g) room name x y f h = absurd f
  refollow (branch q ns) (Maybe g) room name x y f h = absurd f
  refollow (several ns) (Word w) room name x y f h = absurd f
  refollow (several ns) (One g) room name x y f h = absurd f
  refollow (several ns) (Many g) room name x y f h = refollow_each ns g room name x y f h
  refollow (several ns) (Maybe g) room name x y f h = absurd f
  refollow absent (Word w) room name x y f h = absurd f
  refollow absent (One g) room name x y f h = absurd f
  refollow absent (Many g) room name x y f h = absurd f
  refollow absent (Maybe g) room name x y f h = not-true (must_go_on g y) (and_right (follows g y) (not (must_go_on g y)) h)
  refollow (present n) (Word w) room name x y f h = absurd f
  refollow (present n) (One g) room name x y f h = absurd f
  refollow (present n) (Many g) room name x y f h = absurd f
  refollow (present n) (Maybe g) room name x y f h = refollow n (One g) room name x y f (and_left (follows g y) (not (must_go_on g y)) h)

  refollow_all : (ns : Nodes) (ps : List Part) (room : ℕ) (name : Content) (x y : Option Kind) → FitsAll room name ns ps x → calm ps (y ∷ []) ≡ true → FitsAll room name ns ps y
  refollow_all none [] room name x y f c = tt
  refollow_all none (p ∷ ps) room name x y f c = absurd f
  refollow_all (more n ns) [] room name x y f c = absurd f
  refollow_all (more n ns) (p ∷ ps) room name x y f c = (
    at_front (spell_all ns) (λ z. Fits room name n p z) x y f.0
        (λ e a. refollow n p room name x y a (and_left (behind p y) true (subst (λ l. every (behind p) l ≡ true) (empties ns ps room name x (y ∷ []) f.1 e) (and_left (every (behind p) (nexts ps (y ∷ []))) (calm ps (y ∷ [])) c)))),
    refollow_all ns ps room name x y f.1 (and_right (every (behind p) (nexts ps (y ∷ []))) (calm ps (y ∷ [])) c),
  )

  refollow_each : (ns : Nodes) (g : Form) (room : ℕ) (name : Content) (x y : Option Kind) → FitsEach room name ns g x → (follows g y && not (must_go_on g y)) ≡ true → FitsEach room name ns g y
  refollow_each none g room name x y f h = not-true (must_go_on g y) (and_right (follows g y) (not (must_go_on g y)) h)
  refollow_each (more n ns) g room name x y f h = (
    at_front (spell_all ns) (λ z. Fits room name n (One g) z) x y f.0 (λ e a. refollow n (One g) room name x y a (and_left (follows g y) (not (must_go_on g y)) h)),
    refollow_each ns g room name x y f.1 h,
  )
