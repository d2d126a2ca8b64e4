-- A scan over tokens that skips what stands in brackets, and looks for a `<-` behind what a pattern may hold outside them.
use Rattle.std.proofs.Common.{◌≡◌, ◌==◌, ℕ, zero, suc, pred, List, [], ◌∷◌, refl, true, Bool, false, not, ◌&&◌, ◌||◌}
use Rattle.surface_tree.specs.declared.kind.Kind.{Kind}
use Rattle.surface_tree.specs.declared.kind.Kind.TheVariants as k
use Rattle.surface_tree.specs.declared.token.Token.{Token}
use Rattle.surface_grammar.specs.declared.form.Form.{Form}
use Rattle.surface_grammar.specs.declared.form.Form.TheVariants as f
use Rattle.surface_grammar.specs.declared.part.Part.{Part}
use Rattle.surface_grammar.specs.declared.part.Part.TheVariants.{Word, One, Many, Maybe}
use Rattle.surface_grammar.specs.declared.rule.Rule.{Rule}
use Rattle.surface_grammar.specs.Forms.{rules_of}
use Rattle.surface_grammar.specs.Table.{body_of}
use Rattle.surface_grammar.proofs.Every.{of_each}
use Rattle.grammar_engine.proofs.Bools.{every}

pub data Turn : Type 0 where
  up : Turn
  down : Turn
  flat : Turn

-- what a token does to the number of open brackets
abbrev pub turn_of : Kind → Turn
turn_of k.LeftParenthesis = up
turn_of k.LeftBracket = up
turn_of k.LeftBrace = up
turn_of k.RightParenthesis = down
turn_of k.RightBracket = down
turn_of k.RightBrace = down
turn_of _ = flat

-- outside brackets: the answer at `<-`, on at what a pattern may hold, and no at all else
abbrev pub outside : Kind → Bool → Bool
outside k.LeftArrow b = true
outside k.TypeWord b = b
outside k.UnitWord b = b
outside k.NameWord b = b
outside k.Dash b = b
outside k.Dot b = b
outside k.DoubleColon b = b
outside k.Underscore b = b
outside k.LowerName b = b
outside k.UpperName b = b
outside k.Integer b = b
outside k.StringLiteral b = b
outside _ b = false

abbrev pub after_token : ℕ → Turn → Kind → Bool → Bool → Bool → Bool
after_token d up x u v w = u
after_token zero down x u v w = false
after_token (suc d) down x u v w = v
after_token zero flat x u v w = outside x w
after_token (suc d) flat x u v w = w

abbrev pub scan : ℕ → List Token → Bool
scan d [] = false
scan d (t ∷ ts) = after_token d (turn_of t.kind) t.kind (scan (suc d) ts) (scan (pred d) ts) (scan d ts)

-- what a tree of the form does to it
abbrev pub net_of : Form → Turn
net_of f.ConParenRest = down
net_of f.ConParenEnd = down
net_of f.BracketOpen = up
net_of f.BracketRest = down
net_of f.BracketFields = down
net_of f.BracketNameRest = down
net_of f.BracketUpperRest = down
net_of f.BracketHashRest = down
net_of f.GuardSides = down
net_of f.NameSides = down
net_of f.PathSides = down
net_of f.IntSides = down
net_of f.PatParenRest = down
net_of f.PatParenEnd = down
net_of f.PatRecordRest = down
net_of f.ArgBracketRest = down
net_of f.ArgLowerRest = down
net_of f.ArgumentRest = down
net_of f.ParenRest = down
net_of f.ParenEnd = down
net_of f.NodeBraceRest = down
net_of f.SqlBraceRest = down
net_of _ = flat

-- patterns, and their parts, whose tokens the scan passes
abbrev pub is_low : Form → Bool
is_low f.Pat = true
is_low f.PatCons = true
is_low f.PatTerm = true
is_low f.PatAtom = true
is_low f.UpperPath = true
is_low f.DotUpper = true
is_low _ = false

-- the rests of patterns in brackets
abbrev pub is_low_close : Form → Bool
is_low_close f.PatParenRest = true
is_low_close f.PatParenEnd = true
is_low_close f.PatRecordRest = true
is_low_close _ = false

-- expressions, in whose trees the scan finds no `<-`
abbrev pub is_calm_exp : Form → Bool
is_calm_exp f.Term = true
is_calm_exp f.Or = true
is_calm_exp f.OrMore = true
is_calm_exp f.And = true
is_calm_exp f.AndMore = true
is_calm_exp f.Compare = true
is_calm_exp f.CompareMore = true
is_calm_exp f.Cons = true
is_calm_exp f.ConsMore = true
is_calm_exp f.Join = true
is_calm_exp f.JoinMore = true
is_calm_exp f.Sum = true
is_calm_exp f.SumMore = true
is_calm_exp f.Product = true
is_calm_exp f.ProductMore = true
is_calm_exp f.Sign = true
is_calm_exp f.Cut = true
is_calm_exp f.CutMore = true
is_calm_exp f.Apply = true
is_calm_exp f.Argument = true
is_calm_exp f.Atom = true
is_calm_exp f.Operand = true
is_calm_exp f.Dot = true
is_calm_exp f.FieldName = true
is_calm_exp f.Primary = true
is_calm_exp f.ExpThen = true
is_calm_exp _ = false

-- the rests of expressions in brackets
abbrev pub is_calm_close : Form → Bool
is_calm_close f.ParenRest = true
is_calm_close f.ParenEnd = true
is_calm_close f.ArgumentRest = true
is_calm_close _ = false

abbrev pub by_turn : ℕ → Turn → Bool → Bool → Bool → Bool
by_turn e up u v w = u
by_turn zero down u v w = false
by_turn (suc e) down u v w = v
by_turn e flat u v w = w

abbrev pub if_flat : Turn → Bool → Bool
if_flat up b = false
if_flat down b = false
if_flat flat b = b

-- inside brackets: the parts lead from the one number of open brackets to the other
abbrev pub goes_to : ℕ → List Part → ℕ → Bool
goes_to e [] n = e == n
goes_to e (Word w ∷ ps) n = by_turn e (turn_of w) (goes_to (suc e) ps n) (goes_to (pred e) ps n) (goes_to e ps n)
goes_to e (One g ∷ ps) n = by_turn e (net_of g) (goes_to (suc e) ps n) (goes_to (pred e) ps n) (goes_to e ps n)
goes_to e (Many g ∷ ps) n = if_flat (net_of g) (goes_to e ps n)
goes_to e (Maybe g ∷ ps) n = if_flat (net_of g) (goes_to e ps n)

abbrev pub from : Turn → ℕ
from up = 0
from down = 1
from flat = 0

abbrev pub till : Turn → ℕ
till up = 1
till down = 0
till flat = 0

abbrev pub passes : Kind → Bool
passes x = not (outside x false) && outside x true

-- the same down to none, where the scan passes what stands outside
abbrev pub low_word : ℕ → Turn → Bool → Bool → Bool → Bool → Bool
low_word a up p u v w = u
low_word zero down p u v w = false
low_word (suc a) down p u v w = v
low_word zero flat p u v w = p && w
low_word (suc a) flat p u v w = w

abbrev pub low_one : ℕ → Turn → Bool → Bool → Bool → Bool → Bool
low_one zero t l c z s = l && s
low_one (suc zero) flat l c z s = s
low_one (suc zero) down l c z s = c && z
low_one (suc zero) up l c z s = false
low_one (suc (suc a)) t l c z s = false

abbrev pub low_to : ℕ → List Part → Bool
low_to zero [] = true
low_to (suc a) [] = false
low_to a (Word w ∷ ps) = low_word a (turn_of w) (passes w) (low_to (suc a) ps) (low_to (pred a) ps) (low_to a ps)
low_to a (One g ∷ ps) = low_one a (net_of g) (is_low g) (is_low_close g) (low_to zero ps) (low_to a ps)
low_to a (Many g ∷ ps) = low_one a (net_of g) (is_low g) false false (low_to a ps)
low_to a (Maybe g ∷ ps) = low_one a (net_of g) (is_low g) false false (low_to a ps)

-- or finds no `<-` where it finds none behind
abbrev pub calm_word : ℕ → Turn → Bool → Bool → Bool → Bool → Bool → Bool
calm_word a up arrow p u v w = u
calm_word zero down arrow p u v w = true
calm_word (suc a) down arrow p u v w = v
calm_word zero flat arrow p u v w = not arrow && (not p || w)
calm_word (suc a) flat arrow p u v w = w

abbrev pub calm_to : ℕ → List Part → Bool
calm_to zero [] = true
calm_to (suc a) [] = false
calm_to a (Word w ∷ ps) = calm_word a (turn_of w) (outside w false) (outside w true) (calm_to (suc a) ps) (calm_to (pred a) ps) (calm_to a ps)
calm_to a (One g ∷ ps) = low_one a (net_of g) (is_calm_exp g) (is_calm_close g) (calm_to zero ps) (calm_to a ps)
calm_to a (Many g ∷ ps) = low_one a (net_of g) (is_calm_exp g) false false (calm_to a ps)
calm_to a (Maybe g ∷ ps) = low_one a (net_of g) (is_calm_exp g) false false (calm_to a ps)

abbrev pub is_scanned : Form → Rule → Bool
is_scanned g q =
    goes_to (from (net_of g)) (body_of q) (till (net_of g)) && ((not (is_low g) || low_to 0 (body_of q)) && ((not (is_low_close g) || low_to 1 (body_of q))
    && ((not (is_calm_exp g) || calm_to 0 (body_of q)) && (not (is_calm_close g) || calm_to 1 (body_of q)))))

-- computed
pub scanned : (g : Form) → every (is_scanned g) (rules_of g) ≡ true
scanned g = of_each (λ (g : Form). every (is_scanned g) (rules_of g)) refl g
