-- The tree that is read so far becomes a whole tree by trees for what is still to be read.
use Rattle.std.proofs.Common.{◌≡◌, ℕ, List, [], ◌∷◌, ◌++◌, refl, ap, sym, ◌∙◌, subst, append_assoc, append-nil, true, false, Option}
use Rattle.surface_tree.specs.declared.kind.Kind.{Kind}
use Rattle.surface_tree.specs.declared.token.Token.{Token}
use Rattle.surface_grammar.specs.declared.form.Form.{Form}
use Rattle.surface_grammar.specs.declared.part.Part.{Part}
use Rattle.surface_grammar.specs.declared.part.Part.TheVariants.{Word, One, Many, Maybe}
use Rattle.surface_grammar.specs.declared.rule.Rule.{Rule}
use Rattle.surface_grammar.specs.declared.tree.Mark.{Mark}
use Rattle.surface_grammar.specs.declared.tree.Mark.TheVariants as m
use Rattle.surface_grammar.specs.Fronts.{first_kind}
use Rattle.surface_grammar.specs.Listings.{marks_of, marks_all, marks_each}
use Rattle.surface_grammar.specs.Sides.{is_tag}
use Rattle.surface_grammar.specs.Table.{body_of}
use Rattle.surface_grammar.specs.Trees.{leaf, branch, several, absent, present, Nodes, none, more, spell, spell_all, front, must_go_on, Built, Fits, FitsAll}
use Rattle.surface_grammar.specs.Words.{accept}
use Rattle.grammar_engine.specs.declared.want.Want.{Want}
pub use Rattle.grammar_engine.specs.Growing.{Filled, Grown, Grows}
use Rattle.grammar_engine.specs.Moves.{wants_of}
use Rattle.grammar_engine.specs.Places.{name_at}

pub front_append : (a b : List Token) (x : Option Kind) → front (a ++ b) x ≡ front a (front b x)
front_append [] b x = refl
front_append (t ∷ a) b x = refl

pub grows_first : (items : List Token) (p : Part) (at room : ℕ) (rest : List Token) → Grows items p at room rest (record { part = p; room = room; tag = at } ∷ []) [] []
grows_first items p at room rest none x e f = absurd f
grows_first items p at room rest (more n none) x e f = record { node = n; fits = f.0; listed = sym (append-nil (marks_of n)); spelled = sym (append-nil (spell n)) }
grows_first items p at room rest (more n (more o ns)) x e f = absurd f.1

-- a grown tree, seen from fewer trees and more that was read
regrow : {items : List Token} {p : Part} {at room : ℕ} {leaves leaves' : List Token} {marks marks' : List Mark} {ns ns' : Nodes} {x : Option Kind}
    → Grown items p at room leaves marks ns x → marks ++ marks_all ns ≡ marks' ++ marks_all ns' → leaves ++ spell_all ns ≡ leaves' ++ spell_all ns' → Grown items p at room leaves' marks' ns' x
regrow g e1 e2 = record { node = g.node; fits = g.fits; listed = g.listed ∙ e1; spelled = g.spelled ∙ e2 }

pub grows_word : (items : List Token) (p : Part) (at room : ℕ) (rest : List Token) (w : Kind) (r tag : ℕ) (t : Token) (ws : List Want) (leaves : List Token) (marks : List Mark)
    → accept w t.kind ≡ true → (is_tag w ≡ true → t.content ≡ name_at items tag)
    → Grows items p at room (t ∷ rest) (record { part = Word w; room = r; tag = tag } ∷ ws) leaves marks → Grows items p at room rest ws (leaves ++ t ∷ []) (marks ++ m.Leaf ∷ [])
grows_word items p at room rest w r tag t ws leaves marks ok named grows ns x e f =
    regrow (grows (more (leaf t) ns) x refl ((ok, named), f)) (sym (append_assoc marks (m.Leaf ∷ []) (marks_all ns))) (sym (append_assoc leaves (t ∷ []) (spell_all ns)))

-- the trees of a rule's parts, and those of the rest
pub record Split (items : List Token) (ps : List Part) (room tag : ℕ) (ws : List Want) (ns : Nodes) (x : Option Kind) : Type 0 where
  pub inside : Nodes
  pub others : Nodes
  pub fits : FitsAll room (name_at items tag) inside ps (front (spell_all others) x)
  pub filled : Filled items others ws x
  pub spelled : spell_all ns ≡ spell_all inside ++ spell_all others
  pub listed : marks_all ns ≡ marks_all inside ++ marks_all others

pub split : (items : List Token) (ps : List Part) (room tag : ℕ) (ws : List Want) (ns : Nodes) (x : Option Kind) → Filled items ns (wants_of room tag ps ++ ws) x → Split items ps room tag ws ns x
split items [] room tag ws ns x f = record { inside = none; others = ns; fits = tt; filled = f; spelled = refl; listed = refl }
split items (p ∷ ps) room tag ws none x f = absurd f
split items (p ∷ ps) room tag ws (more n ns) x f =
    let s = split items ps room tag ws ns x f.1 in
    record {
      inside = more n s.inside;
      others = s.others;
      fits = (subst (λ y. Fits room (name_at items tag) n p y) (ap (λ l. front l x) s.spelled ∙ front_append (spell_all s.inside) (spell_all s.others) x) f.0, s.fits);
      filled = s.filled;
      spelled = ap (λ l. spell n ++ l) s.spelled ∙ sym (append_assoc (spell n) (spell_all s.inside) (spell_all s.others));
      listed = ap (λ l. marks_of n ++ l) s.listed ∙ sym (append_assoc (marks_of n) (marks_all s.inside) (marks_all s.others));
    }

pub grows_rule : (items : List Token) (p : Part) (at room : ℕ) (rest : List Token) (g : Form) (r tag : ℕ) (q : Rule) (inner own : ℕ) (ws : List Want) (leaves : List Token) (marks : List Mark)
    → Built r inner (name_at items tag) (name_at items own) q g (first_kind rest)
    → Grows items p at room rest (record { part = One g; room = r; tag = tag } ∷ ws) leaves marks → Grows items p at room rest (wants_of inner own (body_of q) ++ ws) leaves (marks ++ m.Rule q ∷ [])
grows_rule items p at room rest g r tag q inner own ws leaves marks built grows ns x e f =
    let s = split items (body_of q) inner own ws ns x f in
    let same : front (spell_all ns) x ≡ front (spell_all s.inside) (front (spell_all s.others) x) = ap (λ l. front l x) s.spelled ∙ front_append (spell_all s.inside) (spell_all s.others) x in
    let here : Built r inner (name_at items tag) (name_at items own) q g (front (spell_all s.inside) (front (spell_all s.others) x)) = subst (Built r inner (name_at items tag) (name_at items own) q g) (sym e ∙ same) built in
    regrow (grows (more (branch q s.inside) s.others) x (ap (λ l. front l x) (sym s.spelled) ∙ e) ((inner, name_at items own, here, s.fits), s.filled))
    (ap (λ l. marks ++ m.Rule q ∷ l) (sym s.listed) ∙ sym (append_assoc marks (m.Rule q ∷ []) (marks_all ns)))
    (ap (λ l. leaves ++ l) (sym s.spelled))

pub grows_end : (items : List Token) (p : Part) (at room : ℕ) (rest : List Token) (g : Form) (r tag : ℕ) (ws : List Want) (leaves : List Token) (marks : List Mark)
    → must_go_on g (first_kind rest) ≡ false
    → Grows items p at room rest (record { part = Many g; room = r; tag = tag } ∷ ws) leaves marks → Grows items p at room rest ws leaves (marks ++ m.End ∷ [])
grows_end items p at room rest g r tag ws leaves marks ended grows ns x e f =
    regrow (grows (more (several none) ns) x e (ap (must_go_on g) e ∙ ended, f)) (sym (append_assoc marks (m.End ∷ []) (marks_all ns))) refl

pub grows_absent : (items : List Token) (p : Part) (at room : ℕ) (rest : List Token) (g : Form) (r tag : ℕ) (ws : List Want) (leaves : List Token) (marks : List Mark)
    → must_go_on g (first_kind rest) ≡ false
    → Grows items p at room rest (record { part = Maybe g; room = r; tag = tag } ∷ ws) leaves marks → Grows items p at room rest ws leaves (marks ++ m.End ∷ [])
grows_absent items p at room rest g r tag ws leaves marks ended grows ns x e f =
    regrow (grows (more absent ns) x e (ap (must_go_on g) e ∙ ended, f)) (sym (append_assoc marks (m.End ∷ []) (marks_all ns))) refl

pub grows_present : (items : List Token) (p : Part) (at room : ℕ) (rest : List Token) (g : Form) (r tag : ℕ) (ws : List Want) (leaves : List Token) (marks : List Mark)
    → Grows items p at room rest (record { part = Maybe g; room = r; tag = tag } ∷ ws) leaves marks → Grows items p at room rest (record { part = One g; room = r; tag = tag } ∷ ws) leaves (marks ++ m.Item ∷ [])
grows_present items p at room rest g r tag ws leaves marks grows none x e f = absurd f
grows_present items p at room rest g r tag ws leaves marks grows (more n ns) x e f =
    regrow (grows (more (present n) ns) x e (f.0, f.1)) (sym (append_assoc marks (m.Item ∷ []) (marks_of n ++ marks_all ns))) refl

pub grows_item : (items : List Token) (p : Part) (at room : ℕ) (rest : List Token) (g : Form) (r tag : ℕ) (ws : List Want) (leaves : List Token) (marks : List Mark)
    → Grows items p at room rest (record { part = Many g; room = r; tag = tag } ∷ ws) leaves marks
    → Grows items p at room rest (record { part = One g; room = r; tag = tag } ∷ record { part = Many g; room = r; tag = tag } ∷ ws) leaves (marks ++ m.Item ∷ [])
grows_item items p at room rest g r tag ws leaves marks grows none x e f = absurd f
grows_item items p at room rest g r tag ws leaves marks grows (more n none) x e f = absurd f.1
grows_item items p at room rest g r tag ws leaves marks grows (more n (more (leaf t) ns)) x e f = absurd f.1.0
grows_item items p at room rest g r tag ws leaves marks grows (more n (more (branch q ms) ns)) x e f = absurd f.1.0
grows_item items p at room rest g r tag ws leaves marks grows (more n (more absent ns)) x e f = absurd f.1.0
grows_item items p at room rest g r tag ws leaves marks grows (more n (more (present o) ns)) x e f = absurd f.1.0
grows_item items p at room rest g r tag ws leaves marks grows (more n (more (several ms) ns)) x e f =
    let first : Fits r (name_at items tag) n (One g) (front (spell_all ms) (front (spell_all ns) x)) = subst (λ y. Fits r (name_at items tag) n (One g) y) (front_append (spell_all ms) (spell_all ns) x) f.0 in
    regrow (grows (more (several (more n ms)) ns) x (ap (λ l. front l x) (append_assoc (spell n) (spell_all ms) (spell_all ns)) ∙ e) ((first, f.1.0), f.1.1))
    (ap (λ l. marks ++ m.Item ∷ l) (append_assoc (marks_of n) (marks_each ms) (marks_all ns)) ∙ sym (append_assoc marks (m.Item ∷ []) (marks_of n ++ (marks_each ms ++ marks_all ns))))
    (ap (λ l. leaves ++ l) (append_assoc (spell n) (spell_all ms) (spell_all ns)))
