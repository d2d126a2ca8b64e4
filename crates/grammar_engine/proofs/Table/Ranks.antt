-- A form stands above those that its rules can begin with, so that beginning rules comes to an end.
use Rattle.std.proofs.Common.{◌≡◌, ◌<◌, ◌+◌, ℕ, max, List, [], ◌∷◌, length, refl, Bool, true, ◌&&◌, nat_lt, ltb-true}
use Rattle.surface_grammar.specs.declared.form.Form.{Form}
use Rattle.surface_grammar.specs.declared.form.Form.TheVariants as f
use Rattle.surface_grammar.specs.declared.part.Part.{Part}
use Rattle.surface_grammar.specs.declared.part.Part.TheVariants.{Word, One, Many, Maybe}
use Rattle.surface_grammar.specs.declared.rule.Rule.{Rule}
use Rattle.surface_grammar.specs.Forms.{rules_of}
use Rattle.surface_grammar.specs.Table.{body_of}
use Rattle.surface_grammar.specs.Trees.{IsIn}
use Rattle.surface_grammar.proofs.Every.{of_each}
use Rattle.grammar_engine.proofs.Bools.{and_left, and_right, every, every_in}

abbrev pub rank_of : Form → ℕ
rank_of f.KindTerm = 2
rank_of f.Con = 10
rank_of f.ConProduct = 9
rank_of f.ConSum = 8
rank_of f.ConApply = 7
rank_of f.ConTerm = 6
rank_of f.ConPrimary = 5
rank_of f.ConAtom = 4
rank_of f.ConParenRest = 11
rank_of f.ConFieldTypes = 2
rank_of f.ConRowFields = 2
rank_of f.Path = 3
rank_of f.BracketRest = 10
rank_of f.BracketFields = 3
rank_of f.BracketNameRest = 9
rank_of f.BracketUpperRest = 4
rank_of f.BracketHashRest = 2
rank_of f.GuardSides = 9
rank_of f.NameSides = 8
rank_of f.Pat = 4
rank_of f.PatTerm = 3
rank_of f.PatAtom = 2
rank_of f.PatParenRest = 5
rank_of f.PatRecordRest = 2
rank_of f.PatFieldNext = 2
rank_of f.Arg = 3
rank_of f.ArgBracketRest = 9
rank_of f.ArgLowerRest = 8
rank_of f.Exp = 15
rank_of f.Term = 14
rank_of f.Body = 14
rank_of f.Or = 13
rank_of f.And = 12
rank_of f.Compare = 11
rank_of f.Cons = 10
rank_of f.Join = 9
rank_of f.Sum = 8
rank_of f.Product = 7
rank_of f.Sign = 6
rank_of f.Cut = 5
rank_of f.Apply = 4
rank_of f.Argument = 3
rank_of f.ArgumentRest = 11
rank_of f.Atom = 3
rank_of f.Operand = 2
rank_of f.ParenRest = 16
rank_of f.ExpFields = 2
rank_of f.NodeBraceRest = 16
rank_of f.KeyColumns = 2
rank_of f.Selection = 9
rank_of f.Item = 8
rank_of f.ItemUpperRest = 4
rank_of f.ItemNamed = 3
rank_of f.Source = 4
rank_of f.TableRef = 4
rank_of f.Order = 8
rank_of f.SqlOr = 7
rank_of f.SqlAnd = 6
rank_of f.SqlNot = 5
rank_of f.SqlCompare = 4
rank_of f.SqlSum = 3
rank_of f.SqlProduct = 2
rank_of f.SqlBraceRest = 16
rank_of _ = 1

-- how far up what begins the parts stands; parts that may all be empty have no bound
abbrev pub lead : List Part → ℕ
lead [] = 1000
lead (Word w ∷ ps) = 0
lead (One g ∷ ps) = rank_of g
lead (Many g ∷ ps) = max (rank_of g + 1) (lead ps)
lead (Maybe g ∷ ps) = max (rank_of g + 1) (lead ps)

abbrev pub is_ranked : Form → Rule → Bool
is_ranked g q = nat_lt (lead (body_of q)) (rank_of g) && nat_lt (length (body_of q)) 16

-- computed
all_ranked : (g : Form) → every (is_ranked g) (rules_of g) ≡ true
all_ranked g = of_each (λ (g : Form). every (is_ranked g) (rules_of g)) refl g

low : (g : Form) → nat_lt (rank_of g) 20 ≡ true
low g = of_each (λ (g : Form). nat_lt (rank_of g) 20) refl g

pub rank_low : (g : Form) → rank_of g < 20
rank_low g = ltb-true (rank_of g) 20 (low g)

pub leads_below : (g : Form) (q : Rule) → IsIn q (rules_of g) → lead (body_of q) < rank_of g
leads_below g q i = ltb-true _ _ (and_left _ (nat_lt (length (body_of q)) 16) (every_in (is_ranked g) (rules_of g) q (all_ranked g) i))

pub body_short : (g : Form) (q : Rule) → IsIn q (rules_of g) → length (body_of q) < 16
body_short g q i = ltb-true _ _ (and_right (nat_lt (lead (body_of q)) (rank_of g)) _ (every_in (is_ranked g) (rules_of g) q (all_ranked g) i))
