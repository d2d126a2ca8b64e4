-- The trees of the grammar: what they spell, and which of them are of a form.
use Rattle.std.specs.Prelude.{◌≡◌, ℕ, ◌+◌, ◌⊎◌, Bool, true, false, not, ◌&&◌, if◌then◌else◌, List, [], ◌∷◌, ◌++◌, Option, Some, None}
use Rattle.surface_tree.specs.declared.kind.Kind.{Kind}
use Rattle.surface_tree.specs.declared.kind.Kind.TheVariants as k
use Rattle.surface_tree.specs.declared.token.Token.{Token}
use Rattle.surface_tree.specs.declared.token.Content.{Content}
use Rattle.surface_grammar.specs.declared.form.Form.{Form}
use Rattle.surface_grammar.specs.declared.form.Form.TheVariants as f
use Rattle.surface_grammar.specs.declared.part.Part.{Part}
use Rattle.surface_grammar.specs.declared.part.Part.TheVariants.{Word, One, Many, Maybe}
use Rattle.surface_grammar.specs.declared.rule.Rule.{Rule}
use Rattle.surface_grammar.specs.Firsts.{first_of}
use Rattle.surface_grammar.specs.Forms.{rules_of}
use Rattle.surface_grammar.specs.Sides.{is_deep, bars_of, is_element, is_tag}
use Rattle.surface_grammar.specs.Table.{body_of}
use Rattle.surface_grammar.specs.Words.{accept, any_accepts}

mutual
  -- a tree: a token; a rule with a tree for each of its parts; for a part that repeats, its trees;
  -- for a part that may be missing, nothing or its tree
  pub data Node : Type 0 where
    leaf : Token → Node
    branch : Rule → Nodes → Node
    several : Nodes → Node
    absent : Node
    present : Node → Node

  pub data Nodes : Type 0 where
    none : Nodes
    more : Node → Nodes → Nodes

-- the tokens of a tree, in order
abbrev mutual
  pub spell : Node → List Token
  spell (leaf t) = t ∷ []
  spell (branch q ns) = spell_all ns
  spell (several ns) = spell_all ns
  spell absent = []
  spell (present n) = spell n

  pub spell_all : Nodes → List Token
  spell_all none = []
  spell_all (more n ns) = spell n ++ spell_all ns

-- the kind of the first of the tokens, or the one that follows them where there are none
abbrev pub front : List Token → Option Kind → Option Kind
front [] x = x
front (t ∷ ts) x = Some t.kind

-- one of the words takes the token, where there is one
abbrev pub among : List Kind → Option Kind → Bool
among ws None = false
among ws (Some x) = any_accepts ws x

-- the token begins a tree of the form
abbrev pub begins : Form → Option Kind → Bool
begins g x = among (first_of g) x

-- the one option that the next token doesn't decide: in brackets a `::` behind a name may begin the kind of the
-- constructor that ends there
abbrev pub is_open : Form → Option Kind → Bool
is_open f.ConForall (Some k.DoubleColon) = true
is_open _ _ = false

-- a repetition or an option of the form has to go on with the token
abbrev pub must_go_on : Form → Option Kind → Bool
must_go_on g x = begins g x && not (is_open g x)

-- the rule stands in the list
abbrev pub IsIn : Rule → List Rule → Type 0
IsIn q [] = ⊥
IsIn q (p ∷ ps) = (q ≡ p) ⊎ IsIn q ps

-- what a tree of the rule adds to the depth of all that stands in it
abbrev pub depth_of : Rule → ℕ
depth_of q = if is_deep q then 1 else 0

-- What a rule asks of a tree of the form beside its parts: it is a rule of the form, there is room for its
-- depth, only an element has a name of its own, and no bar stands against its first token.
pub record Built (room inner : ℕ) (name own : Content) (q : Rule) (g : Form) (first : Option Kind) : Type 0 where
  pub rule : IsIn q (rules_of g)
  pub room_left : inner + depth_of q ≡ room
  pub named : is_element q ≡ false → own ≡ name
  pub free : among (bars_of q) first ≡ false

-- `Fits room name n p x`: the tree is one for the part, where it may be so many levels deep, the innermost
-- element around it has this name, and the token x, or nothing, follows it. A repetition and an option take
-- all that they can: they end only where what follows does not have to be taken.
abbrev mutual
  pub Fits : ℕ → Content → Node → Part → Option Kind → Type 0
  Fits room name (leaf t) (Word w) x = (accept w t.kind ≡ true) × (is_tag w ≡ true → t.content ≡ name)
  Fits room name (leaf t) (One g) x = ⊥
  Fits room name (leaf t) (Many g) x = ⊥
  Fits room name (leaf t) (Maybe g) x = ⊥
  Fits room name (branch q ns) (Word w) x = ⊥
  Fits room name (branch q ns) (One g) x =
      (inner : ℕ) × (own : Content) × Built room inner name own q g (front (spell_all ns) x)
      × FitsAll inner own ns (body_of q) x
  Fits room name (branch q ns) (Many g) x = ⊥
  Fits room name (branch q ns) (Maybe g) x = ⊥
  Fits room name (several ns) (Word w) x = ⊥
  Fits room name (several ns) (One g) x = ⊥
  Fits room name (several ns) (Many g) x = FitsEach room name ns g x
  Fits room name (several ns) (Maybe g) x = ⊥
  Fits room name absent (Word w) x = ⊥
  Fits room name absent (One g) x = ⊥
  Fits room name absent (Many g) x = ⊥
  Fits room name absent (Maybe g) x = must_go_on g x ≡ false
  Fits room name (present n) (Word w) x = ⊥
  Fits room name (present n) (One g) x = ⊥
  Fits room name (present n) (Many g) x = ⊥
  Fits room name (present n) (Maybe g) x = Fits room name n (One g) x

  pub FitsAll : ℕ → Content → Nodes → List Part → Option Kind → Type 0
  FitsAll room name none [] x = Unit {0}
  FitsAll room name none (p ∷ ps) x = ⊥
  FitsAll room name (more n ns) [] x = ⊥
  FitsAll room name (more n ns) (p ∷ ps) x = Fits room name n p (front (spell_all ns) x) × FitsAll room name ns ps x

  pub FitsEach : ℕ → Content → Nodes → Form → Option Kind → Type 0
  FitsEach room name none g x = must_go_on g x ≡ false
  FitsEach room name (more n ns) g x = Fits room name n (One g) (front (spell_all ns) x) × FitsEach room name ns g x
