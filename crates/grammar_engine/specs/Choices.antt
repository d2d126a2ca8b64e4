-- The choices of a tree at the places that one token does not decide, and what they leave open.
use Rattle.std.specs.Prelude.{◌≡◌, ℕ, Bool, true, false, if◌then◌else◌, List, [], ◌∷◌, ◌++◌, Option}
use Rattle.surface_tree.specs.declared.kind.Kind.{Kind}
use Rattle.surface_tree.specs.declared.token.Token.{Token}
use Rattle.surface_tree.specs.declared.token.Content.{Content}
use Rattle.surface_grammar.specs.declared.expressions.ExpRule.TheVariants as exp
use Rattle.surface_grammar.specs.declared.form.Form.{Form}
use Rattle.surface_grammar.specs.declared.part.Part.{Part}
use Rattle.surface_grammar.specs.declared.part.Part.TheVariants.{Word, One, Many, Maybe}
use Rattle.surface_grammar.specs.declared.queries.SqlRule.TheVariants as sql
use Rattle.surface_grammar.specs.declared.rule.Rule.{Rule}
use Rattle.surface_grammar.specs.declared.rule.Rule.TheVariants as r
use Rattle.surface_grammar.specs.declared.tree.Mark.{Mark}
use Rattle.surface_grammar.specs.declared.tree.Mark.TheVariants as m
use Rattle.surface_grammar.specs.Fronts.{first_kind}
use Rattle.surface_grammar.specs.Table.{body_of}
use Rattle.surface_grammar.specs.Trees.{Node, leaf, branch, several, absent, present, Nodes, none, more, spell, spell_all, front, is_open, Fits}

-- a rule whose first token may begin another rule of its form: a binding or another expression, and in
-- a query a spliced value or an expression that begins with the empty list
abbrev pub is_raced : Rule → Bool
is_raced (r.Exp exp.ExpBind) = true
is_raced (r.Exp exp.ExpPlain) = true
is_raced (r.Sql sql.SqlSplice) = true
is_raced (r.Sql sql.SqlExp) = true
is_raced _ = false

-- the raced rules of a tree for the part, and whether its open options are taken, from left to right; the
-- token x follows the tree
abbrev mutual
  pub choices : Node → Part → Option Kind → List Mark
  choices (leaf t) p x = []
  choices (branch q ns) p x = (if is_raced q then m.Rule q ∷ [] else []) ++ choices_all ns (body_of q) x
  choices (several ns) (Word w) x = []
  choices (several ns) (One g) x = []
  choices (several ns) (Many g) x = choices_each ns g x
  choices (several ns) (Maybe g) x = []
  choices absent (Word w) x = []
  choices absent (One g) x = []
  choices absent (Many g) x = []
  choices absent (Maybe g) x = if is_open g x then m.End ∷ [] else []
  choices (present n) (Word w) x = []
  choices (present n) (One g) x = []
  choices (present n) (Many g) x = []
  choices (present n) (Maybe g) x = (if is_open g (front (spell n) x) then m.Item ∷ [] else []) ++ choices n (One g) x

  pub choices_all : Nodes → List Part → Option Kind → List Mark
  choices_all none ps x = []
  choices_all (more n ns) [] x = []
  choices_all (more n ns) (p ∷ ps) x = choices n p (front (spell_all ns) x) ++ choices_all ns ps x

  pub choices_each : Nodes → Form → Option Kind → List Mark
  choices_each none g x = if is_open g x then m.End ∷ [] else []
  choices_each (more n ns) g x =
      (if is_open g (front (spell n ++ spell_all ns) x) then m.Item ∷ [] else [])
      ++ choices n (One g) (front (spell_all ns) x) ++ choices_each ns g x

-- one list of tokens begins with one tree for a part, and ends with one rest, up to the choices
abbrev pub OneTree : Type 0
OneTree = (p : Part) (n o : Node) (after behind : List Token) (room space : ℕ) (name other : Content)
    → Fits room name n p (first_kind after) → Fits space other o p (first_kind behind)
    → spell n ++ after ≡ spell o ++ behind
    → choices n p (first_kind after) ≡ choices o p (first_kind behind) → (n ≡ o) × (after ≡ behind)
