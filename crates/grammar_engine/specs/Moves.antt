-- What one step of reading does.
use Rattle.std.specs.Prelude.{◌≡◌, ◌≤◌, ◌+◌, ℕ, Bool, true, false, List, [], ◌∷◌, ◌++◌, Option, drop}
use Rattle.surface_tree.specs.declared.kind.Kind.{Kind}
use Rattle.surface_tree.specs.declared.token.Token.{Token}
use Rattle.surface_grammar.specs.declared.form.Form.{Form}
use Rattle.surface_grammar.specs.declared.part.Part.{Part}
use Rattle.surface_grammar.specs.declared.part.Part.TheVariants.{Word, One, Many, Maybe}
use Rattle.surface_grammar.specs.declared.rule.Rule.{Rule}
use Rattle.surface_grammar.specs.declared.tree.Mark.TheVariants as m
use Rattle.surface_grammar.specs.Forms.{rules_of}
use Rattle.surface_grammar.specs.Fronts.{first_kind}
use Rattle.surface_grammar.specs.Sides.{bars_of, is_element, is_tag}
use Rattle.surface_grammar.specs.Table.{body_of}
use Rattle.surface_grammar.specs.Trees.{Built, IsIn, among, begins, must_go_on}
use Rattle.surface_grammar.specs.Words.{accept}
use Rattle.grammar_engine.specs.declared.want.Want.{Want}
use Rattle.grammar_engine.specs.declared.machine.Machine.{Machine}
use Rattle.grammar_engine.specs.Places.{name_at}
use Rattle.grammar_engine.specs.Rooms.{least_of}

-- the parts as what is to be read
abbrev pub wants_of : ℕ → ℕ → List Part → List Want
wants_of room tag [] = []
wants_of room tag (p ∷ ps) = record { part = p; room = room; tag = tag } ∷ wants_of room tag ps

-- a rule of the form that the token does not bar
abbrev pub Chosen : Form → Option Kind → Rule → Type 0
Chosen g x q = IsIn q (rules_of g) × (among (bars_of q) x ≡ false)

-- the next token is taken for the word
pub record Takes (items : List Token) (word : Kind) (tag : ℕ) (a b : Machine) : Type 0 where
  pub token : Token
  pub step : b.at ≡ a.at + 1
  pub next : drop a.at items ≡ token ∷ drop b.at items
  pub accepted : accept word token.kind ≡ true
  pub named : is_tag word ≡ true → token.content ≡ name_at items tag
  pub wants : b.wants ≡ a.wants
  pub leaves : b.tree.leaves ≡ a.tree.leaves ++ token ∷ []
  pub marks : b.tree.marks ≡ a.tree.marks ++ m.Leaf ∷ []

-- a rule of the form is begun: its parts are to be read
pub record Expands (items : List Token) (g : Form) (room tag : ℕ) (a b : Machine) : Type 0 where
  pub rule : Rule
  pub inner : ℕ
  pub own : ℕ
  pub built : Built room inner (name_at items tag) (name_at items own) rule g (first_kind (drop a.at items))
  pub roomy : least_of rule ≤ room
  pub opened : is_element rule ≡ true → own ≡ a.at
  pub at : b.at ≡ a.at
  pub wants : b.wants ≡ wants_of inner own (body_of rule) ++ a.wants
  pub leaves : b.tree.leaves ≡ a.tree.leaves
  pub marks : b.tree.marks ≡ a.tree.marks ++ m.Rule rule ∷ []

-- a tree of the form is to be read, and then the rest; or there is none
abbrev pub goes_by : Bool → Form → ℕ → ℕ → List Want → Machine → Machine → Type 0
goes_by true g room tag rest a b =
    (b.wants ≡ record { part = One g; room = room; tag = tag } ∷ rest ++ a.wants)
    × (b.tree.marks ≡ a.tree.marks ++ m.Item ∷ [])
goes_by false g room tag rest a b = (b.wants ≡ a.wants) × (b.tree.marks ≡ a.tree.marks ++ m.End ∷ [])

-- a repetition or an option goes on where the token begins its form, or ends where it doesn't have to go on
pub record Goes (items : List Token) (g : Form) (room tag : ℕ) (rest : List Want) (a b : Machine) : Type 0 where
  pub taken : Bool
  pub by : goes_by taken g room tag rest a b
  pub sure : taken ≡ false → must_go_on g (first_kind (drop a.at items)) ≡ false
  pub begun : taken ≡ true → begins g (first_kind (drop a.at items)) ≡ true
  pub at : b.at ≡ a.at
  pub leaves : b.tree.leaves ≡ a.tree.leaves

-- the part is met
abbrev pub MeetsPart : List Token → Part → ℕ → ℕ → Machine → Machine → Type 0
MeetsPart items (Word w) room tag a b = Takes items w tag a b
MeetsPart items (One g) room tag a b = Expands items g room tag a b
MeetsPart items (Many g) room tag a b =
    Goes items g room tag (record { part = Many g; room = room; tag = tag } ∷ []) a b
MeetsPart items (Maybe g) room tag a b = Goes items g room tag [] a b

-- nothing but the farthest place of a refusal has changed
pub record Kept (a b : Machine) : Type 0 where
  pub at : b.at ≡ a.at
  pub wants : b.wants ≡ a.wants
  pub tree : b.tree ≡ a.tree

-- the part is to be read from the place on
pub record Begun (p : Part) (at room : ℕ) (a : Machine) : Type 0 where
  pub place : a.at ≡ at
  pub wants : a.wants ≡ record { part = p; room = room; tag = at } ∷ []
  pub leaves : a.tree.leaves ≡ []
  pub marks : a.tree.marks ≡ []
  pub far : a.far ≡ at
