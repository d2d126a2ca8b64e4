-- What stands before a refused token begins a tree.
use Rattle.std.specs.Prelude.{◌≡◌, ◌≤◌, ◌<◌, ◌⊎◌, ℕ, suc, max, length, Bool, true, false, List, ◌++◌, drop, Option, Some, None}
use Rattle.surface_tree.specs.declared.kind.Kind.{Kind}
use Rattle.surface_tree.specs.declared.kind.Kind.TheVariants as k
use Rattle.surface_tree.specs.declared.token.Token.{Token}
use Rattle.surface_grammar.specs.declared.form.Form.TheVariants as f
use Rattle.surface_grammar.specs.declared.part.Part.{Part}
use Rattle.surface_grammar.specs.declared.part.Part.TheVariants.{One, Maybe}
use Rattle.surface_grammar.specs.Fronts.{first_kind}
use Rattle.surface_grammar.specs.Trees.{Node, spell, Fits}
use Rattle.grammar_engine.specs.declared.machine.Machine.{Machine}
use Rattle.grammar_engine.specs.declared.stop.Stop.{Stop}
use Rattle.grammar_engine.specs.declared.stop.Stop.TheVariants.{Refused, Memory}
use Rattle.grammar_engine.specs.declared.want.Want.{Want}
use Rattle.grammar_engine.specs.Places.{name_at}
use Rattle.grammar_engine.specs.Solid.{first_solid}

-- what stands behind a tree that is read by itself: nothing; "<-" behind a pattern, ")" behind a kind
abbrev pub may_stand_behind : Part → Option Kind → Bool
may_stand_behind p None = true
may_stand_behind (One f.Pat) (Some k.LeftArrow) = true
may_stand_behind (One f.KindTerm) (Some k.RightParenthesis) = true
may_stand_behind _ _ = false

-- a tree for the part, with such a token behind it, begins with the tokens from the one place to the other
pub record Begins (items : List Token) (p : Part) (at room place : ℕ) (x : Option Kind) : Type 0 where
  pub node : Node
  pub front : List Token
  pub after : List Token
  pub within : place ≤ length items
  pub fits : Fits room (name_at items at) node p x
  pub read : drop at items ≡ front ++ drop place items
  pub spelled : spell node ≡ front ++ after

-- the same where the part has a tree at all
abbrev pub AllowedAt : List Token → Part → ℕ → ℕ → ℕ → Type 0
AllowedAt items p at room place =
    (x : Option Kind) → may_stand_behind p x ≡ true → at ≤ length items → (n : Node)
    → Fits room (name_at items at) n p x → Begins items p at room place x

-- the `::` here may begin the kind of a constructor in brackets, and that kind may come up to the place
pub record MarksKind (items : List Token) (at : ℕ) (wants : List Want) (place : ℕ) : Type 0 where
  pub want : Want
  pub solid : first_solid wants ≡ Some want
  pub part : want.part ≡ One f.ConParenEnd
  pub mark : first_kind (drop at items) ≡ Some k.DoubleColon
  pub allowed : AllowedAt items (One f.KindTerm) (suc at) want.room place

-- another way of reading the part, which is tried beside, comes up to the place; in braces of a query `[` begins a tree
abbrev pub Beside : List Token → Part → ℕ → ℕ → List Want → ℕ → Type 0
Beside items (One f.Exp) room at wants place = (0 < room) × AllowedAt items (One f.Pat) at room place
Beside items (One f.SqlBraceRest) room at wants place =
    (0 < room) × (first_kind (drop at items) ≡ Some k.LeftBracket) × (place ≡ suc at)
Beside items (Maybe f.ConForall) room at wants place = MarksKind items at wants place
Beside items _ room at wants place = ⊥

-- the farthest place stays, or becomes that of such a way where this is farther
abbrev pub Raised : (ℕ → Type 0) → ℕ → ℕ → Type 0
Raised By far farther = (farther ≡ far) ⊎ ((place : ℕ) × (farther ≡ max far place) × By place)

-- the next token is refused, or a later one to which another way came
abbrev pub RefusedHere : Machine → Stop → Type 0
RefusedHere m (Refused place) = place ≡ max m.at m.far
RefusedHere m Memory = Unit {0}

-- the same after the other ways of reading the part were tried
abbrev pub RefusesPart : List Token → Part → ℕ → Machine → Stop → Type 0
RefusesPart items p room m (Refused place) =
    (far : ℕ) × Raised (Beside items p room m.at m.wants) m.far far × (place ≡ max m.at far)
RefusesPart items p room m Memory = Unit {0}

-- what stands before the refused token begins a tree
abbrev pub StopsAllowed : List Token → Part → ℕ → ℕ → Stop → Type 0
StopsAllowed items p at room (Refused place) = AllowedAt items p at room place
StopsAllowed items p at room Memory = Unit {0}
