-- How what was read grows to a whole tree.
use Rattle.std.specs.Prelude.{◌≡◌, ℕ, List, [], ◌∷◌, ◌++◌, Option}
use Rattle.surface_tree.specs.declared.kind.Kind.{Kind}
use Rattle.surface_tree.specs.declared.token.Token.{Token}
use Rattle.surface_grammar.specs.declared.part.Part.{Part}
use Rattle.surface_grammar.specs.declared.tree.Mark.{Mark}
use Rattle.surface_grammar.specs.Fronts.{first_kind}
use Rattle.surface_grammar.specs.Listings.{marks_of, marks_all}
use Rattle.surface_grammar.specs.Trees.{Node, Nodes, none, more, spell, spell_all, front, Fits}
use Rattle.grammar_engine.specs.declared.want.Want.{Want}
use Rattle.grammar_engine.specs.Places.{name_at}

-- trees for all that is to be read, with this token behind them
abbrev pub Filled : List Token → Nodes → List Want → Option Kind → Type 0
Filled items none [] x = Unit {0}
Filled items none (w ∷ ws) x = ⊥
Filled items (more n ns) [] x = ⊥
Filled items (more n ns) (w ∷ ws) x =
    Fits w.room (name_at items w.tag) n w.part (front (spell_all ns) x) × Filled items ns ws x

-- a whole tree: what was read and then these trees
pub record Grown (items : List Token) (p : Part) (at room : ℕ) (leaves : List Token) (marks : List Mark) (ns : Nodes)
    (x : Option Kind) : Type 0 where
  pub node : Node
  pub fits : Fits room (name_at items at) node p x
  pub listed : marks_of node ≡ marks ++ marks_all ns
  pub spelled : spell node ≡ leaves ++ spell_all ns

-- any trees for what is to be read that begin with the next token make a whole one
abbrev pub Grows : List Token → Part → ℕ → ℕ → List Token → List Want → List Token → List Mark → Type 0
Grows items p at room rest ws leaves marks =
    (ns : Nodes) (x : Option Kind) → front (spell_all ns) x ≡ first_kind rest → Filled items ns ws x
    → Grown items p at room leaves marks ns x
