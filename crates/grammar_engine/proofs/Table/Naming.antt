-- The names of elements stand in elements: elsewhere the name around a tree doesn't matter.
use Rattle.std.proofs.Common.{◌≡◌, ℕ, List, [], ◌∷◌, refl, Bool, true, false, not, ◌&&◌, ◌||◌, Option}
use Rattle.std.proofs.Math.Logic.{◌⊎◌, inl, inr}
use Rattle.surface_tree.specs.declared.kind.Kind.{Kind}
use Rattle.surface_tree.specs.declared.token.Content.{Content}
use Rattle.surface_grammar.specs.declared.form.Form.{Form}
use Rattle.surface_grammar.specs.declared.form.Form.TheVariants as f
use Rattle.surface_grammar.specs.declared.part.Part.{Part}
use Rattle.surface_grammar.specs.declared.part.Part.TheVariants.{Word, One, Many, Maybe}
use Rattle.surface_grammar.specs.declared.rule.Rule.{Rule}
use Rattle.surface_grammar.specs.Forms.{rules_of}
use Rattle.surface_grammar.specs.Sides.{is_element, is_tag}
use Rattle.surface_grammar.specs.Table.{body_of}
use Rattle.surface_grammar.specs.Trees.{Node, leaf, branch, several, absent, present, Nodes, none, more, spell_all, front, Fits, FitsAll, FitsEach}
use Rattle.grammar_engine.specs.Single.{holds_name, names_itself}
use Rattle.surface_grammar.proofs.Every.{of_each}
use Rattle.grammar_engine.proofs.Bools.{and_left, and_right, every, every_in, no_tag, clash}

abbrev all_named : List Part → Bool
all_named [] = true
all_named (p ∷ ps) = names_itself p && all_named ps

abbrev is_named : Form → Rule → Bool
is_named g q = holds_name g || (is_element q || all_named (body_of q))

-- computed
every_named : (g : Form) → every (is_named g) (rules_of g) ≡ true
every_named g = of_each (λ (g : Form). every (is_named g) (rules_of g)) refl g

either : (h e a : Bool) → (h || (e || a)) ≡ true → not h ≡ true → (e ≡ true) ⊎ (a ≡ true)
either true e a i n = cc
either false true a i n = inl refl
either false false a i n = inr i

rename_rule : (q : Rule) (ns : Nodes) (g : Form) (room : ℕ) (name other : Content) (x : Option Kind) → (is_element q ≡ true) ⊎ (all_named (body_of q) ≡ true) → (fit : Fits room name (branch q ns) (One g) x)
    → (all_named (body_of q) ≡ true → FitsAll fit.0 other ns (body_of q) x) → Fits room other (branch q ns) (One g) x
rename_rule q ns g room name other x (inl e) fit renamed = (fit.0, fit.1, record { rule = fit.2.rule; room_left = fit.2.room_left; named = λ i. clash (is_element q) e i; free = fit.2.free }, fit.3)
rename_rule q ns g room name other x (inr h) fit renamed = (fit.0, other, record { rule = fit.2.rule; room_left = fit.2.room_left; named = λ i. refl; free = fit.2.free }, renamed h)

mutual
  pub rename_any : (n : Node) (p : Part) (room : ℕ) (name other : Content) (x : Option Kind) → names_itself p ≡ true → Fits room name n p x → Fits room other n p x
  rename_any (leaf t) (Word w) room name other x h f = (f.0, λ i. no_tag (is_tag w) h i)
  rename_any (leaf t) (One g) room name other x h f = absurd f
  rename_any (leaf t) (Many g) room name other x h f = absurd f
  rename_any (leaf t) (Maybe g) room name other x h f = absurd f
  rename_any (branch q ns) (Word w) room name other x h f = absurd f
  rename_any (branch q ns) (One g) room name other x h f = rename_rule q ns g room name other x (either (holds_name g) (is_element q) (all_named (body_of q)) (every_in (is_named g) (rules_of g) q (every_named g) f.2.rule) h) f (λ i. rename_all ns (body_of q) f.0 f.1 other x i f.3)
  rename_any (branch q ns) (Many g) room name other x h f = absurd f
  rename_any (branch q ns) (Maybe g) room name other x h f = absurd f
  rename_any (several ns) (Word w) room name other x h f = absurd f
  rename_any (several ns) (One g) room name other x h f = absurd f
  rename_any (several ns) (Many g) room name other x h f = rename_each ns g room name other x h f
  rename_any (several ns) (Maybe g) room name other x h f = absurd f
  rename_any absent (Word w) room name other x h f = absurd f
  rename_any absent (One g) room name other x h f = absurd f
  rename_any absent (Many g) room name other x h f = absurd f
  rename_any absent (Maybe g) room name other x h f = f
  rename_any (present n) (Word w) room name other x h f = absurd f
  rename_any (present n) (One g) room name other x h f = absurd f
  rename_any (present n) (Many g) room name other x h f = absurd f
  rename_any (present n) (Maybe g) room name other x h f = rename_any n (One g) room name other x h f

  rename_all : (ns : Nodes) (ps : List Part) (room : ℕ) (name other : Content) (x : Option Kind) → all_named ps ≡ true → FitsAll room name ns ps x → FitsAll room other ns ps x
  rename_all none [] room name other x h f = tt
  rename_all none (p ∷ ps) room name other x h f = absurd f
  rename_all (more n ns) [] room name other x h f = absurd f
  rename_all (more n ns) (p ∷ ps) room name other x h f = (rename_any n p room name other (front (spell_all ns) x) (and_left (names_itself p) (all_named ps) h) f.0, rename_all ns ps room name other x (and_right (names_itself p) (all_named ps) h) f.1)

  rename_each : (ns : Nodes) (g : Form) (room : ℕ) (name other : Content) (x : Option Kind) → names_itself (One g) ≡ true → FitsEach room name ns g x → FitsEach room other ns g x
  rename_each none g room name other x h f = f
  rename_each (more n ns) g room name other x h f = (rename_any n (One g) room name other (front (spell_all ns) x) h f.0, rename_each ns g room name other x h f.1)
