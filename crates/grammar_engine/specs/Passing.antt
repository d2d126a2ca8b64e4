-- That no tree goes on at a refused token: what reading keeps of each tree that the tokens begin.
use Rattle.std.specs.Prelude.{◌≡◌, ◌≤◌, ◌<◌, ◌⊎◌, ◌+◌, ◌-◌, ◌*◌, ℕ, suc, max, Bool, true, false, List, [], ◌∷◌, ◌++◌, length, take, drop, Option, Some}
use Rattle.surface_tree.specs.declared.kind.Kind.{Kind}
use Rattle.surface_tree.specs.declared.kind.Kind.TheVariants as k
use Rattle.surface_tree.specs.declared.token.Token.{Token}
use Rattle.surface_grammar.specs.declared.expressions.ExpRule.TheVariants as exp
use Rattle.surface_grammar.specs.declared.form.Form.{Form}
use Rattle.surface_grammar.specs.declared.form.Form.TheVariants as f
use Rattle.surface_grammar.specs.declared.part.Part.{Part}
use Rattle.surface_grammar.specs.declared.part.Part.TheVariants.{Word, One, Many, Maybe}
use Rattle.surface_grammar.specs.declared.queries.SqlRule.TheVariants as sql
use Rattle.surface_grammar.specs.declared.rule.Rule.{Rule}
use Rattle.surface_grammar.specs.declared.rule.Rule.TheVariants as r
use Rattle.surface_grammar.specs.declared.tree.Mark.TheVariants as m
use Rattle.surface_grammar.specs.Fronts.{first_kind}
use Rattle.surface_grammar.specs.Listings.{Listing, Lists}
use Rattle.surface_grammar.specs.Trees.{Node, Nodes, none, more, spell, spell_all, front, is_open, Fits}
use Rattle.grammar_engine.specs.declared.machine.Machine.{Machine}
use Rattle.grammar_engine.specs.declared.stop.Stop.{Stop}
use Rattle.grammar_engine.specs.declared.stop.Stop.TheVariants.{Refused, Memory}
use Rattle.grammar_engine.specs.declared.want.Want.{Want}
use Rattle.grammar_engine.specs.Allowed.{may_stand_behind}
use Rattle.grammar_engine.specs.Blocks.{StartedBy}
use Rattle.grammar_engine.specs.Places.{name_at}
use Rattle.grammar_engine.specs.Single.{is_text_part}
use Rattle.grammar_engine.specs.Solid.{first_solid}

-- the text has the tokens from the one place on, through the token at the other; where there is none, it ends with them
abbrev pub Agrees : List Token → ℕ → ℕ → List Token → Type 0
Agrees items at place text = take (suc place - at) text ≡ take (suc place - at) (drop at items)

-- how many races within each other reading a part may need
abbrev pub races_of : Part → ℕ
races_of (One f.KindTerm) = 0
races_of (One f.Pat) = 1
races_of _ = 2

-- so much room that reading from the place on never ends for want of it
abbrev pub Ample : List Token → ℕ → ℕ → ℕ → Type 0
Ample items at room races = 400 * (length (drop at items) + races + 1) ≤ room

-- trees of so many levels more are spoken of: of none more, or of any number where the room is ample
abbrev pub Counts : List Token → ℕ → ℕ → ℕ → ℕ → Type 0
Counts items at room races extra = (extra ≡ 0) ⊎ Ample items at room races

-- a tree for the part, with what may stand behind it, has the tokens from the one place through the other
pub record Through (items : List Token) (p : Part) (at room races place : ℕ) : Type 0 where
  pub extra : ℕ
  pub node : Node
  pub tail : List Token
  pub counts : Counts items at room races extra
  pub fits : Fits (room + extra) (name_at items at) node p (first_kind tail)
  pub behind : may_stand_behind p (first_kind tail) ≡ true
  pub agrees : Agrees items at place (spell node ++ tail)

-- no such tree goes on at the refused token
abbrev pub StopsAll : List Token → Part → ℕ → ℕ → ℕ → Stop → Type 0
StopsAll items p at room races (Refused place) =
    is_text_part p ≡ true → races_of p ≤ races → Through items p at room races place → ⊥
StopsAll items p at room races Memory = Unit {0}

-- the tree that was read is the only one that has the tokens up to where it ends and the one behind, and those that
-- were looked at
abbrev pub SoleHere : List Token → Part → ℕ → ℕ → ℕ → Listing → ℕ → ℕ → Type 0
SoleHere items p at room races tree behind far =
    is_text_part p ≡ true → races_of p ≤ races → (t : Through items p at room races (max behind far))
    → Lists tree t.node × (first_kind t.tail ≡ first_kind (drop behind items))

-- trees for all that is to be read, of so many levels more than there is room for, with this token behind them
abbrev pub FilledBy : ℕ → List Token → Nodes → List Want → Option Kind → Type 0
FilledBy extra items none [] x = Unit {0}
FilledBy extra items none (w ∷ ws) x = ⊥
FilledBy extra items (more n ns) [] x = ⊥
FilledBy extra items (more n ns) (w ∷ ws) x =
    Fits (w.room + extra) (name_at items w.tag) n w.part (front (spell_all ns) x) × FilledBy extra items ns ws x

-- a tree of the form and such a token behind it stand here, and end at the place or before it
pub record WayOpen (items : List Token) (g : Form) (y : Kind) (at far : ℕ) : Type 0 where
  pub node : Node
  pub room : ℕ
  pub behind : ℕ
  pub fits : Fits room (name_at items at) node (One g) (Some y)
  pub read : drop at items ≡ spell node ++ drop behind items
  pub next : first_kind (drop behind items) ≡ Some y
  pub seen : behind ≤ far

-- no tree of the form with such a token behind it has the tokens through the place
abbrev pub WayShut : List Token → Form → Kind → ℕ → ℕ → ℕ → ℕ → Type 0
WayShut items g y at room races far = (t : Through items (One g) at room races far) → first_kind t.tail ≡ Some y → ⊥

-- what was seen beside tells the rule from the other that the token begins: of an expression, whether a pattern and
-- `<-` stand here; in braces of a query that begin with `[`, whether `]` is next. Without room a binding and a splice
-- have no tree
abbrev pub BindSure : List Token → Rule → ℕ → ℕ → ℕ → ℕ → Type 0
BindSure items (r.Exp exp.ExpBind) room races at far = (0 < room) × WayOpen items f.Pat k.LeftArrow at far
BindSure items (r.Exp exp.ExpPlain) room races at far =
    0 < room → WayShut items f.Pat k.LeftArrow at room (races - 1) far
BindSure items _ room races at far = ⊥

abbrev pub BraceSure : List Token → Rule → ℕ → ℕ → ℕ → Type 0
BraceSure items (r.Sql sql.SqlSplice) room at far =
    (0 < room) × (first_kind (drop at items) ≡ Some k.LeftBracket) × (suc at ≤ far)
    × (first_kind (drop (suc at) items) ≡ Some k.RightBracket → ⊥)
BraceSure items (r.Sql sql.SqlExp) room at far =
    0 < room → first_kind (drop at items) ≡ Some k.LeftBracket
    → (suc at ≤ far) × (first_kind (drop (suc at) items) ≡ Some k.RightBracket)
BraceSure items _ room at far = ⊥

-- the rule by which reading goes on is that of each tree that goes on
abbrev pub RuleSure : List Token → Form → Rule → ℕ → ℕ → ℕ → ℕ → Type 0
RuleSure items f.Exp q room races at far = 2 ≤ races → BindSure items q room races at far
RuleSure items f.SqlBraceRest q room races at far = BraceSure items q room at far
RuleSure items g q room races at far = StartedBy (first_kind (drop at items)) q

-- at `::` the option is left out where a kind and `)` stand there, and taken where none do, or no brackets end there
abbrev pub MarkSure : Bool → List Token → ℕ → ℕ → List Want → ℕ → Type 0
MarkSure true items races at wants far =
    (w : Want) → first_solid wants ≡ Some w → w.part ≡ One f.ConParenEnd
    → WayShut items f.KindTerm k.RightParenthesis (suc at) w.room (races - 1) far
MarkSure false items races at wants far = WayOpen items f.KindTerm k.RightParenthesis (suc at) far

abbrev pub OptionSure : Bool → List Token → Form → ℕ → ℕ → List Want → ℕ → Type 0
OptionSure taken items g races at wants far =
    is_open g (first_kind (drop at items)) ≡ true → 1 ≤ races → MarkSure taken items races at wants far

-- what was marked: a further tree, or the end
abbrev pub Marked : Bool → Machine → Machine → Type 0
Marked true a b = b.tree.marks ≡ a.tree.marks ++ m.Item ∷ []
Marked false a b = b.tree.marks ≡ a.tree.marks ++ m.End ∷ []

-- how reading went on is how each tree goes on that has the tokens through the farthest place
abbrev pub Sure : List Token → Part → ℕ → ℕ → Machine → Machine → Type 0
Sure items (Word w) room races a b = Unit {0}
Sure items (One g) room races a b =
    (q : Rule) × (b.tree.marks ≡ a.tree.marks ++ m.Rule q ∷ []) × RuleSure items g q room races a.at b.far
Sure items (Many g) room races a b = Unit {0}
Sure items (Maybe g) room races a b =
    (taken : Bool) × Marked taken a b × OptionSure taken items g races a.at a.wants b.far
