-- The rules of each form.
use Rattle.std.specs.Prelude.{List, [], ◌∷◌}
use Rattle.surface_grammar.specs.declared.form.Form.{Form}
use Rattle.surface_grammar.specs.declared.form.Form.TheVariants as f
use Rattle.surface_grammar.specs.declared.rule.Rule.{Rule}
use Rattle.surface_grammar.specs.declared.rule.Rule.TheVariants as r
use Rattle.surface_grammar.specs.declared.kinds.KindRule.TheVariants as kind
use Rattle.surface_grammar.specs.declared.constructors.ConRule.TheVariants as con
use Rattle.surface_grammar.specs.declared.patterns.PatRule.TheVariants as pat
use Rattle.surface_grammar.specs.declared.parameters.ArgRule.TheVariants as arg
use Rattle.surface_grammar.specs.declared.expressions.ExpRule.TheVariants as exp
use Rattle.surface_grammar.specs.declared.markup.MarkupRule.TheVariants as markup
use Rattle.surface_grammar.specs.declared.declarations.DeclRule.TheVariants as decl
use Rattle.surface_grammar.specs.declared.queries.SqlRule.TheVariants as sql

-- the rules of a form: a tree of it is made by one of them
abbrev pub rules_of : Form → List Rule
rules_of f.KindTerm = r.Kind kind.KindTerm ∷ []
rules_of f.KindArrow = r.Kind kind.KindArrow ∷ []
rules_of f.KindAtom =
    r.Kind kind.KindType ∷ r.Kind kind.KindUnit ∷ r.Kind kind.KindName ∷ r.Kind kind.KindRow ∷ r.Kind kind.KindTuple ∷
    []
rules_of f.KindTimes = r.Kind kind.KindTimes ∷ []
rules_of f.KindMark = r.Kind kind.KindMark ∷ []
rules_of f.Con = r.Con con.ConLambda ∷ r.Con con.ConLower ∷ r.Con con.ConBracket ∷ r.Con con.ConOther ∷ []
rules_of f.ConForall = r.Con con.ConExplicit ∷ r.Con con.ConImplicit ∷ []
rules_of f.ConArrow = r.Con con.ConArrow ∷ []
rules_of f.ConProduct = r.Con con.ConProduct ∷ []
rules_of f.ConTimes = r.Con con.ConTimes ∷ []
rules_of f.ConSum = r.Con con.ConSum ∷ []
rules_of f.ConConcat = r.Con con.ConConcat ∷ []
rules_of f.ConApply = r.Con con.ConApply ∷ []
rules_of f.ConTerm = r.Con con.ConRecord ∷ r.Con con.ConPlain ∷ []
rules_of f.ConDollar = r.Con con.ConDollar ∷ []
rules_of f.ConPrimary = r.Con con.ConPrimary ∷ []
rules_of f.ConIndex = r.Con con.ConIndex ∷ []
rules_of f.ConAtom =
    r.Con con.ConPath ∷ r.Con con.ConWild ∷ r.Con con.ConHash ∷ r.Con con.ConParens ∷ r.Con con.ConFields ∷
    r.Con con.ConRow ∷ []
rules_of f.HashName = r.Con con.HashUpper ∷ r.Con con.HashInt ∷ []
rules_of f.ConParenRest = r.Con con.ConUnit ∷ r.Con con.ConGroup ∷ []
rules_of f.ConParenEnd = r.Con con.ConClose ∷ r.Con con.ConMarked ∷ r.Con con.ConTuple ∷ []
rules_of f.ConComma = r.Con con.ConComma ∷ []
rules_of f.ConFieldTypes = r.Con con.ConFieldTypes ∷ []
rules_of f.ConFieldMore = r.Con con.ConFieldMore ∷ []
rules_of f.ConRowFields = r.Con con.ConRowFields ∷ []
rules_of f.ConFieldValue = r.Con con.ConFieldValue ∷ []
rules_of f.ConRowMore = r.Con con.ConRowMore ∷ []
rules_of f.FieldName = r.Con con.FieldUpper ∷ r.Con con.FieldInt ∷ r.Con con.FieldHash ∷ r.Con con.FieldLower ∷ []
rules_of f.Path = r.Con con.Path ∷ []
rules_of f.UpperDot = r.Con con.UpperDot ∷ []
rules_of f.BracketOpen = r.Con con.BracketOpen ∷ []
rules_of f.BracketRest =
    r.Con con.BracketEmpty ∷ r.Con con.BracketInt ∷ r.Con con.BracketLower ∷ r.Con con.BracketUpper ∷
    r.Con con.BracketHash ∷ r.Con con.BracketGuard ∷ []
rules_of f.BracketFields = r.Con con.BracketFields ∷ []
rules_of f.BracketNameRest = r.Con con.BracketNameRow ∷ r.Con con.BracketNameGuard ∷ []
rules_of f.BracketUpperRest = r.Con con.BracketUpperRow ∷ r.Con con.BracketUpperGuard ∷ []
rules_of f.BracketHashRest = r.Con con.BracketHashUpper ∷ r.Con con.BracketHashInt ∷ []
rules_of f.GuardSides = r.Con con.GuardSides ∷ []
rules_of f.NameSides = r.Con con.NameSides ∷ []
rules_of f.PathSides = r.Con con.PathSides ∷ []
rules_of f.IntSides = r.Con con.IntSides ∷ []
rules_of f.Pat = r.Pat pat.Pat ∷ []
rules_of f.PatCons = r.Pat pat.PatCons ∷ []
rules_of f.PatTerm = r.Pat pat.PatConstructor ∷ r.Pat pat.PatPlain ∷ []
rules_of f.PatAtom =
    r.Pat pat.PatWild ∷ r.Pat pat.PatVariable ∷ r.Pat pat.PatInt ∷ r.Pat pat.PatNegative ∷ r.Pat pat.PatString ∷
    r.Pat pat.PatName ∷ r.Pat pat.PatList ∷ r.Pat pat.PatParens ∷ r.Pat pat.PatRecord ∷ []
rules_of f.UpperPath = r.Pat pat.UpperPath ∷ []
rules_of f.DotUpper = r.Pat pat.DotUpper ∷ []
rules_of f.PatParenRest = r.Pat pat.PatUnit ∷ r.Pat pat.PatGroup ∷ []
rules_of f.PatParenEnd = r.Pat pat.PatClose ∷ r.Pat pat.PatTyped ∷ r.Pat pat.PatTuple ∷ []
rules_of f.PatComma = r.Pat pat.PatComma ∷ []
rules_of f.PatRecordRest = r.Pat pat.PatRecordEmpty ∷ r.Pat pat.PatRecordDots ∷ r.Pat pat.PatRecordFields ∷ []
rules_of f.PatFieldMore = r.Pat pat.PatFieldMore ∷ []
rules_of f.PatFieldNext = r.Pat pat.PatFieldDots ∷ r.Pat pat.PatFieldNamed ∷ []
rules_of f.Arg = r.Arg arg.ArgPattern ∷ r.Arg arg.ArgBracket ∷ []
rules_of f.ArgBracketRest = r.Arg arg.ArgList ∷ r.Arg arg.ArgLower ∷ r.Arg arg.ArgGuard ∷ []
rules_of f.ArgLowerRest =
    r.Arg arg.ArgType ∷ r.Arg arg.ArgExplicit ∷ r.Arg arg.ArgImplicit ∷ r.Arg arg.ArgLowerGuard ∷ []
rules_of f.Exp = r.Exp exp.ExpBind ∷ r.Exp exp.ExpPlain ∷ []
rules_of f.ExpBindRest = r.Exp exp.ExpBindRest ∷ []
rules_of f.ExpThen = r.Exp exp.ExpThen ∷ []
rules_of f.Term = r.Exp exp.TermLambda ∷ r.Exp exp.TermCase ∷ r.Exp exp.TermIf ∷ r.Exp exp.TermOr ∷ []
rules_of f.CaseBar = r.Exp exp.CaseBar ∷ []
rules_of f.CaseMore = r.Exp exp.CaseMore ∷ []
rules_of f.Body = r.Exp exp.BodyIf ∷ r.Exp exp.BodyOr ∷ []
rules_of f.Or = r.Exp exp.Or ∷ []
rules_of f.OrMore = r.Exp exp.OrMore ∷ []
rules_of f.And = r.Exp exp.And ∷ []
rules_of f.AndMore = r.Exp exp.AndMore ∷ []
rules_of f.Compare = r.Exp exp.Compare ∷ []
rules_of f.CompareMore =
    r.Exp exp.CompareEqual ∷ r.Exp exp.CompareNotEqual ∷ r.Exp exp.CompareLess ∷ r.Exp exp.CompareLessOrEqual ∷
    r.Exp exp.CompareGreater ∷ r.Exp exp.CompareGreaterOrEqual ∷ []
rules_of f.Cons = r.Exp exp.Cons ∷ []
rules_of f.ConsMore = r.Exp exp.ConsMore ∷ []
rules_of f.Join = r.Exp exp.Join ∷ []
rules_of f.JoinMore = r.Exp exp.JoinTexts ∷ r.Exp exp.JoinRecords ∷ []
rules_of f.Sum = r.Exp exp.Sum ∷ []
rules_of f.SumMore = r.Exp exp.SumPlus ∷ r.Exp exp.SumMinus ∷ []
rules_of f.Product = r.Exp exp.Product ∷ []
rules_of f.ProductMore = r.Exp exp.ProductTimes ∷ r.Exp exp.ProductDivide ∷ r.Exp exp.ProductModulo ∷ []
rules_of f.Sign = r.Exp exp.SignMinus ∷ r.Exp exp.SignNone ∷ []
rules_of f.Cut = r.Exp exp.Cut ∷ []
rules_of f.CutMore = r.Exp exp.CutField ∷ r.Exp exp.CutRow ∷ []
rules_of f.Apply = r.Exp exp.Apply ∷ []
rules_of f.Argument = r.Exp exp.ArgumentTerm ∷ r.Exp exp.ArgumentBracket ∷ r.Exp exp.ArgumentGuard ∷ []
rules_of f.ArgumentRest = r.Exp exp.ArgumentList ∷ r.Exp exp.ArgumentCon ∷ []
rules_of f.Atom = r.Exp exp.AtomTerm ∷ r.Exp exp.AtomList ∷ []
rules_of f.Operand = r.Exp exp.Operand ∷ []
rules_of f.Dot = r.Exp exp.Dot ∷ []
rules_of f.Primary =
    r.Exp exp.PrimaryInt ∷ r.Exp exp.PrimaryString ∷ r.Exp exp.PrimaryLower ∷ r.Exp exp.PrimaryUpper ∷
    r.Exp exp.PrimaryAt ∷ r.Exp exp.PrimaryAtAt ∷ r.Exp exp.PrimaryParens ∷ r.Exp exp.PrimaryRecord ∷
    r.Exp exp.PrimaryLet ∷ r.Exp exp.PrimaryXmlEmpty ∷ r.Exp exp.PrimaryXml ∷ []
rules_of f.AnyName = r.Exp exp.AnyLower ∷ r.Exp exp.AnyUpper ∷ []
rules_of f.ParenRest = r.Exp exp.ParenUnit ∷ r.Exp exp.ParenGroup ∷ r.Exp exp.ParenSql ∷ []
rules_of f.ParenEnd = r.Exp exp.ParenClose ∷ r.Exp exp.ParenTyped ∷ r.Exp exp.ParenTuple ∷ []
rules_of f.ExpComma = r.Exp exp.ExpComma ∷ []
rules_of f.ExpFields = r.Exp exp.ExpFields ∷ []
rules_of f.ExpFieldMore = r.Exp exp.ExpFieldMore ∷ []
rules_of f.Node = r.Markup markup.NodeText ∷ r.Markup markup.NodeBrace ∷ r.Markup markup.NodeElement ∷ []
rules_of f.NodeBraceRest = r.Markup markup.NodeSplice ∷ r.Markup markup.NodeExp ∷ []
rules_of f.Splice = r.Markup markup.Splice ∷ []
rules_of f.TagName = r.Markup markup.TagName ∷ []
rules_of f.ElementEnd = r.Markup markup.ElementEmpty ∷ r.Markup markup.ElementFull ∷ []
rules_of f.Attribute = r.Markup markup.Attribute ∷ []
rules_of f.AttributeValue =
    r.Markup markup.AttributeString ∷ r.Markup markup.AttributeInt ∷ r.Markup markup.AttributeExp ∷ []
rules_of f.Decl =
    r.Decl decl.DeclVal ∷ r.Decl decl.DeclFun ∷ r.Decl decl.DeclCon ∷ r.Decl decl.DeclType ∷ r.Decl decl.DeclDatatype ∷
    r.Decl decl.DeclTable ∷ r.Decl decl.DeclSequence ∷ r.Decl decl.DeclCookie ∷ []
rules_of f.LetDecl = r.Decl decl.LetVal ∷ r.Decl decl.LetFun ∷ []
rules_of f.ValRest = r.Decl decl.ValPlain ∷ r.Decl decl.ValRec ∷ []
rules_of f.RecMore = r.Decl decl.RecMore ∷ []
rules_of f.FunMore = r.Decl decl.FunMore ∷ []
rules_of f.TypeMark = r.Decl decl.TypeMark ∷ []
rules_of f.Parameter = r.Decl decl.Parameter ∷ []
rules_of f.Constructor = r.Decl decl.Constructor ∷ []
rules_of f.ConstructorOf = r.Decl decl.ConstructorOf ∷ []
rules_of f.ConstructorMore = r.Decl decl.ConstructorMore ∷ []
rules_of f.KeyMark = r.Decl decl.KeyMark ∷ []
rules_of f.KeyColumns = r.Decl decl.KeyColumn ∷ r.Decl decl.KeyList ∷ []
rules_of f.ColumnList = r.Decl decl.ColumnList ∷ []
rules_of f.ColumnMore = r.Decl decl.ColumnMore ∷ []
rules_of f.InterfaceItem = r.Decl decl.InterfaceItem ∷ []
rules_of f.Sql =
    r.Sql sql.SqlSelect ∷ r.Sql sql.SqlInsert ∷ r.Sql sql.SqlUpdate ∷ r.Sql sql.SqlDelete ∷ r.Sql sql.SqlWhere ∷ []
rules_of f.Where = r.Sql sql.Where ∷ []
rules_of f.OrderBy = r.Sql sql.OrderBy ∷ []
rules_of f.Limit = r.Sql sql.Limit ∷ []
rules_of f.Offset = r.Sql sql.Offset ∷ []
rules_of f.ValueList = r.Sql sql.ValueList ∷ []
rules_of f.ValueMore = r.Sql sql.ValueMore ∷ []
rules_of f.Assignment = r.Sql sql.Assignment ∷ []
rules_of f.AssignmentMore = r.Sql sql.AssignmentMore ∷ []
rules_of f.Selection = r.Sql sql.SelectAll ∷ r.Sql sql.SelectItems ∷ []
rules_of f.ItemMore = r.Sql sql.ItemMore ∷ []
rules_of f.Item = r.Sql sql.ItemLower ∷ r.Sql sql.ItemUpper ∷ r.Sql sql.ItemOther ∷ []
rules_of f.ItemUpperRest = r.Sql sql.ItemUpperDot ∷ r.Sql sql.ItemUpperNamed ∷ []
rules_of f.ItemDot = r.Sql sql.ItemColumn ∷ r.Sql sql.ItemStar ∷ r.Sql sql.ItemBraces ∷ []
rules_of f.ItemBracesRow = r.Sql sql.ItemBracesRow ∷ []
rules_of f.ItemNamed = r.Sql sql.ItemNamed ∷ []
rules_of f.Source = r.Sql sql.SourceTable ∷ r.Sql sql.SourceExp ∷ []
rules_of f.SourceMore = r.Sql sql.SourceMore ∷ []
rules_of f.AsMark = r.Sql sql.AsMark ∷ []
rules_of f.TableRef = r.Sql sql.RefTable ∷ r.Sql sql.RefExp ∷ []
rules_of f.TableBraces = r.Sql sql.TableBraces ∷ []
rules_of f.TableBracesExp = r.Sql sql.TableBracesExp ∷ []
rules_of f.Order = r.Sql sql.Order ∷ []
rules_of f.Direction = r.Sql sql.DirectionAsc ∷ r.Sql sql.DirectionDesc ∷ []
rules_of f.OrderMore = r.Sql sql.OrderMore ∷ []
rules_of f.Count = r.Sql sql.CountInt ∷ r.Sql sql.CountExp ∷ []
rules_of f.SqlOr = r.Sql sql.SqlOr ∷ []
rules_of f.SqlOrMore = r.Sql sql.SqlOrMore ∷ []
rules_of f.SqlAnd = r.Sql sql.SqlAnd ∷ []
rules_of f.SqlAndMore = r.Sql sql.SqlAndMore ∷ []
rules_of f.SqlNot = r.Sql sql.SqlNegated ∷ r.Sql sql.SqlCompared ∷ []
rules_of f.SqlCompare = r.Sql sql.SqlCompare ∷ []
rules_of f.SqlCompareMore =
    r.Sql sql.SqlEqual ∷ r.Sql sql.SqlNotEqual ∷ r.Sql sql.SqlLess ∷ r.Sql sql.SqlLessOrEqual ∷ r.Sql sql.SqlGreater ∷
    r.Sql sql.SqlGreaterOrEqual ∷ []
rules_of f.SqlSum = r.Sql sql.SqlSum ∷ []
rules_of f.SqlSumMore = r.Sql sql.SqlPlus ∷ r.Sql sql.SqlMinus ∷ []
rules_of f.SqlProduct = r.Sql sql.SqlProduct ∷ []
rules_of f.SqlProductMore = r.Sql sql.SqlTimes ∷ r.Sql sql.SqlDivide ∷ r.Sql sql.SqlModulo ∷ []
rules_of f.SqlTerm =
    r.Sql sql.SqlNegative ∷ r.Sql sql.SqlInt ∷ r.Sql sql.SqlString ∷ r.Sql sql.SqlTrue ∷ r.Sql sql.SqlFalse ∷
    r.Sql sql.SqlField ∷ r.Sql sql.SqlColumn ∷ r.Sql sql.SqlBrace ∷ r.Sql sql.SqlParens ∷ []
rules_of f.SqlBraceRest = r.Sql sql.SqlSplice ∷ r.Sql sql.SqlExp ∷ []
