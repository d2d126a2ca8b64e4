-- Every form of the grammar, so that a law of all forms is one computation.
use Rattle.std.proofs.Common.{◌≡◌, ◌<◌, ℕ, zero, suc, List, [], ◌∷◌, length, get_or, refl, subst, arith, Bool, true, ◌&&◌, nat_lt, ltb-true}
use denote.Enum.Declared.{tag_of}
use Rattle.surface_grammar.specs.declared.form.Form.{Form}
use Rattle.surface_grammar.specs.declared.form.Form.TheVariants as f
use Rattle.surface_grammar.specs.contracts.form.Form.{the_type}
use Rattle.surface_grammar.proofs.Bools.{and_left, and_right}

abbrev pub forms : List Form
forms =
    f.KindTerm ∷ f.KindArrow ∷ f.KindAtom ∷ f.KindTimes ∷ f.KindMark ∷ f.Con ∷ f.ConForall ∷ f.ConArrow ∷
    f.ConProduct ∷ f.ConTimes ∷ f.ConSum ∷ f.ConConcat ∷ f.ConApply ∷ f.ConTerm ∷ f.ConDollar ∷ f.ConPrimary ∷
    f.ConIndex ∷ f.ConAtom ∷ f.HashName ∷ f.ConParenRest ∷ f.ConParenEnd ∷ f.ConComma ∷ f.ConFieldTypes ∷
    f.ConFieldMore ∷ f.ConRowFields ∷ f.ConFieldValue ∷ f.ConRowMore ∷ f.FieldName ∷ f.Path ∷ f.UpperDot ∷
    f.BracketOpen ∷ f.BracketRest ∷ f.BracketFields ∷ f.BracketNameRest ∷ f.BracketUpperRest ∷
    f.BracketHashRest ∷ f.GuardSides ∷ f.NameSides ∷ f.PathSides ∷ f.IntSides ∷ f.Pat ∷ f.PatCons ∷ f.PatTerm ∷
    f.PatAtom ∷ f.UpperPath ∷ f.DotUpper ∷ f.PatParenRest ∷ f.PatParenEnd ∷ f.PatComma ∷ f.PatRecordRest ∷
    f.PatFieldMore ∷ f.PatFieldNext ∷ f.Arg ∷ f.ArgBracketRest ∷ f.ArgLowerRest ∷ f.Exp ∷ f.ExpBindRest ∷
    f.ExpThen ∷ f.Term ∷ f.CaseBar ∷ f.CaseMore ∷ f.Body ∷ f.Or ∷ f.OrMore ∷ f.And ∷ f.AndMore ∷ f.Compare ∷
    f.CompareMore ∷ f.Cons ∷ f.ConsMore ∷ f.Join ∷ f.JoinMore ∷ f.Sum ∷ f.SumMore ∷ f.Product ∷ f.ProductMore ∷
    f.Sign ∷ f.Cut ∷ f.CutMore ∷ f.Apply ∷ f.Argument ∷ f.ArgumentRest ∷ f.Atom ∷ f.Operand ∷ f.Dot ∷
    f.Primary ∷ f.AnyName ∷ f.ParenRest ∷ f.ParenEnd ∷ f.ExpComma ∷ f.ExpFields ∷ f.ExpFieldMore ∷ f.Node ∷
    f.NodeBraceRest ∷ f.Splice ∷ f.TagName ∷ f.ElementEnd ∷ f.Attribute ∷ f.AttributeValue ∷ f.Decl ∷
    f.LetDecl ∷ f.ValRest ∷ f.RecMore ∷ f.FunMore ∷ f.TypeMark ∷ f.Parameter ∷ f.Constructor ∷ f.ConstructorOf ∷
    f.ConstructorMore ∷ f.KeyMark ∷ f.KeyColumns ∷ f.ColumnList ∷ f.ColumnMore ∷ f.InterfaceItem ∷ f.Sql ∷
    f.Where ∷ f.OrderBy ∷ f.Limit ∷ f.Offset ∷ f.ValueList ∷ f.ValueMore ∷ f.Assignment ∷ f.AssignmentMore ∷
    f.Selection ∷ f.ItemMore ∷ f.Item ∷ f.ItemUpperRest ∷ f.ItemDot ∷ f.ItemBracesRow ∷ f.ItemNamed ∷ f.Source ∷
    f.SourceMore ∷ f.AsMark ∷ f.TableRef ∷ f.TableBraces ∷ f.TableBracesExp ∷ f.Order ∷ f.Direction ∷
    f.OrderMore ∷ f.Count ∷ f.SqlOr ∷ f.SqlOrMore ∷ f.SqlAnd ∷ f.SqlAndMore ∷ f.SqlNot ∷ f.SqlCompare ∷
    f.SqlCompareMore ∷ f.SqlSum ∷ f.SqlSumMore ∷ f.SqlProduct ∷ f.SqlProductMore ∷ f.SqlTerm ∷ f.SqlBraceRest ∷
    []

abbrev pub every_form : (Form → Bool) → List Form → Bool
every_form p [] = true
every_form p (g ∷ gs) = p g && every_form p gs

-- each form stands in the list at its place; the last line stands for each other form, and is checked for each
pub found : (g : Form) → get_or forms (tag_of the_type g) f.KindTerm ≡ g
found f.KindTerm = refl
found _ = refl

pub low : (g : Form) → nat_lt (tag_of the_type g) (length forms) ≡ true
low f.KindTerm = refl
low _ = refl

every_at : (p : Form → Bool) (gs : List Form) (i : ℕ) (d : Form) → every_form p gs ≡ true → i < length gs → p (get_or gs i d) ≡ true
every_at p [] i d h lt = absurd (omega arith)
every_at p (g ∷ gs) zero d h lt = and_left (p g) (every_form p gs) h
every_at p (g ∷ gs) (suc i) d h lt = every_at p gs i d (and_right (p g) (every_form p gs) h) (omega arith)

-- what is computed for the list holds of each form
pub of_each : (p : Form → Bool) → every_form p forms ≡ true → (g : Form) → p g ≡ true
of_each p h g =
    subst (λ x. p x ≡ true) (found g)
    (every_at p forms (tag_of the_type g) f.KindTerm h (ltb-true (tag_of the_type g) (length forms) (low g)))
