-- The grammar: one line for each rule, in the order of the forms.
use Rattle.std.specs.Prelude.{List, [], ◌∷◌}
use Rattle.surface_tree.specs.declared.kind.Kind.TheVariants as k
use Rattle.surface_grammar.specs.declared.form.Form.TheVariants as f
use Rattle.surface_grammar.specs.declared.rule.Rule.{Rule}
use Rattle.surface_grammar.specs.declared.rule.Rule.TheVariants as r
use Rattle.surface_grammar.specs.declared.kinds.KindRule.{KindRule}
use Rattle.surface_grammar.specs.declared.kinds.KindRule.TheVariants as kind
use Rattle.surface_grammar.specs.declared.constructors.ConRule.{ConRule}
use Rattle.surface_grammar.specs.declared.constructors.ConRule.TheVariants as con
use Rattle.surface_grammar.specs.declared.patterns.PatRule.{PatRule}
use Rattle.surface_grammar.specs.declared.patterns.PatRule.TheVariants as pat
use Rattle.surface_grammar.specs.declared.parameters.ArgRule.{ArgRule}
use Rattle.surface_grammar.specs.declared.parameters.ArgRule.TheVariants as arg
use Rattle.surface_grammar.specs.declared.expressions.ExpRule.{ExpRule}
use Rattle.surface_grammar.specs.declared.expressions.ExpRule.TheVariants as exp
use Rattle.surface_grammar.specs.declared.markup.MarkupRule.{MarkupRule}
use Rattle.surface_grammar.specs.declared.markup.MarkupRule.TheVariants as markup
use Rattle.surface_grammar.specs.declared.declarations.DeclRule.{DeclRule}
use Rattle.surface_grammar.specs.declared.declarations.DeclRule.TheVariants as decl
use Rattle.surface_grammar.specs.declared.queries.SqlRule.{SqlRule}
use Rattle.surface_grammar.specs.declared.queries.SqlRule.TheVariants as sql
use Rattle.surface_grammar.specs.declared.part.Part.{Part}
use Rattle.surface_grammar.specs.declared.part.Part.TheVariants.{Word, One, Many, Maybe}

-- the parts of the rules of kinds
abbrev pub kinds_body : KindRule → List Part
kinds_body kind.KindTerm = One f.KindAtom ∷ Maybe f.KindArrow ∷ []
kinds_body kind.KindArrow = Word k.Arrow ∷ One f.KindTerm ∷ []
kinds_body kind.KindType = Word k.TypeWord ∷ []
kinds_body kind.KindUnit = Word k.UnitWord ∷ []
kinds_body kind.KindName = Word k.NameWord ∷ []
kinds_body kind.KindRow = Word k.LeftBrace ∷ One f.KindTerm ∷ Word k.RightBrace ∷ []
kinds_body kind.KindTuple = Word k.LeftParenthesis ∷ One f.KindTerm ∷ Many f.KindTimes ∷ Word k.RightParenthesis ∷ []
kinds_body kind.KindTimes = Word k.Star ∷ One f.KindTerm ∷ []
kinds_body kind.KindMark = Word k.DoubleColon ∷ One f.KindTerm ∷ []

-- the parts of the rules of constructors
abbrev pub constructors_body : ConRule → List Part
constructors_body con.ConLambda =
    Word k.KeywordFn ∷ Word k.LowerName ∷ Maybe f.KindMark ∷ Word k.DoubleArrow ∷ One f.Con ∷ []
constructors_body con.ConLower =
    Word k.LowerName ∷ Maybe f.ConForall ∷ Many f.ConIndex ∷ Many f.ConTerm ∷ Many f.ConConcat ∷ Many f.ConTimes ∷
    Maybe f.ConArrow ∷ []
constructors_body con.ConBracket = One f.BracketOpen ∷ One f.BracketRest ∷ []
constructors_body con.ConOther = One f.ConProduct ∷ Maybe f.ConArrow ∷ []
constructors_body con.ConExplicit = Word k.DoubleColon ∷ One f.KindAtom ∷ Word k.Arrow ∷ One f.Con ∷ []
constructors_body con.ConImplicit = Word k.TripleColon ∷ One f.KindAtom ∷ Word k.Arrow ∷ One f.Con ∷ []
constructors_body con.ConArrow = Word k.Arrow ∷ One f.Con ∷ []
constructors_body con.ConProduct = One f.ConSum ∷ Many f.ConTimes ∷ []
constructors_body con.ConTimes = Word k.Star ∷ One f.ConSum ∷ []
constructors_body con.ConSum = One f.ConApply ∷ Many f.ConConcat ∷ []
constructors_body con.ConConcat = Word k.DoublePlus ∷ One f.ConApply ∷ []
constructors_body con.ConApply = One f.ConTerm ∷ Many f.ConTerm ∷ []
constructors_body con.ConRecord = Word k.Dollar ∷ Many f.ConDollar ∷ One f.ConPrimary ∷ []
constructors_body con.ConPlain = One f.ConPrimary ∷ []
constructors_body con.ConDollar = Word k.Dollar ∷ []
constructors_body con.ConPrimary = One f.ConAtom ∷ Many f.ConIndex ∷ []
constructors_body con.ConIndex = Word k.Dot ∷ Word k.Integer ∷ []
constructors_body con.ConPath = One f.Path ∷ []
constructors_body con.ConWild = Word k.Underscore ∷ []
constructors_body con.ConHash = Word k.Hash ∷ One f.HashName ∷ []
constructors_body con.ConParens = Word k.LeftParenthesis ∷ One f.ConParenRest ∷ []
constructors_body con.ConFields = Word k.LeftBrace ∷ Maybe f.ConFieldTypes ∷ Word k.RightBrace ∷ []
constructors_body con.ConRow = Word k.LeftBracket ∷ Maybe f.ConRowFields ∷ Word k.RightBracket ∷ []
constructors_body con.HashUpper = Word k.UpperName ∷ []
constructors_body con.HashInt = Word k.Integer ∷ []
constructors_body con.ConUnit = Word k.RightParenthesis ∷ []
constructors_body con.ConGroup = One f.Con ∷ One f.ConParenEnd ∷ []
constructors_body con.ConClose = Word k.RightParenthesis ∷ []
constructors_body con.ConMarked = Word k.DoubleColon ∷ One f.KindTerm ∷ Word k.RightParenthesis ∷ []
constructors_body con.ConTuple = Word k.Comma ∷ One f.Con ∷ Many f.ConComma ∷ Word k.RightParenthesis ∷ []
constructors_body con.ConComma = Word k.Comma ∷ One f.Con ∷ []
constructors_body con.ConFieldTypes = One f.FieldName ∷ Word k.Colon ∷ One f.Con ∷ Many f.ConFieldMore ∷ []
constructors_body con.ConFieldMore = Word k.Comma ∷ One f.FieldName ∷ Word k.Colon ∷ One f.Con ∷ []
constructors_body con.ConRowFields = One f.FieldName ∷ Maybe f.ConFieldValue ∷ Many f.ConRowMore ∷ []
constructors_body con.ConFieldValue = Word k.EqualSign ∷ One f.Con ∷ []
constructors_body con.ConRowMore = Word k.Comma ∷ One f.FieldName ∷ Maybe f.ConFieldValue ∷ []
constructors_body con.FieldUpper = Word k.UpperName ∷ []
constructors_body con.FieldInt = Word k.Integer ∷ []
constructors_body con.FieldHash = Word k.Hash ∷ Word k.UpperName ∷ []
constructors_body con.FieldLower = Word k.LowerName ∷ []
constructors_body con.Path = Many f.UpperDot ∷ Word k.LowerName ∷ []
constructors_body con.UpperDot = Word k.UpperName ∷ Word k.Dot ∷ []
constructors_body con.BracketOpen = Word k.LeftBracket ∷ []
constructors_body con.BracketEmpty =
    Word k.RightBracket ∷ Many f.ConIndex ∷ Many f.ConTerm ∷ Many f.ConConcat ∷ Many f.ConTimes ∷ Maybe f.ConArrow ∷
    []
constructors_body con.BracketInt =
    Word k.Integer ∷ One f.BracketFields ∷ Many f.ConIndex ∷ Many f.ConTerm ∷ Many f.ConConcat ∷ Many f.ConTimes ∷
    Maybe f.ConArrow ∷ []
constructors_body con.BracketLower = Word k.LowerName ∷ One f.BracketNameRest ∷ []
constructors_body con.BracketUpper = Word k.UpperName ∷ One f.BracketUpperRest ∷ []
constructors_body con.BracketHash = Word k.Hash ∷ One f.BracketHashRest ∷ []
constructors_body con.BracketGuard = One f.GuardSides ∷ Word k.DoubleArrow ∷ One f.Con ∷ []
constructors_body con.BracketFields = Maybe f.ConFieldValue ∷ Many f.ConRowMore ∷ Word k.RightBracket ∷ []
constructors_body con.BracketNameRow =
    One f.BracketFields ∷ Many f.ConIndex ∷ Many f.ConTerm ∷ Many f.ConConcat ∷ Many f.ConTimes ∷ Maybe f.ConArrow ∷
    []
constructors_body con.BracketNameGuard = One f.NameSides ∷ Word k.DoubleArrow ∷ One f.Con ∷ []
constructors_body con.BracketUpperRow =
    One f.BracketFields ∷ Many f.ConIndex ∷ Many f.ConTerm ∷ Many f.ConConcat ∷ Many f.ConTimes ∷ Maybe f.ConArrow ∷
    []
constructors_body con.BracketUpperGuard = One f.PathSides ∷ Word k.DoubleArrow ∷ One f.Con ∷ []
constructors_body con.BracketHashUpper = Word k.UpperName ∷ One f.BracketNameRest ∷ []
constructors_body con.BracketHashInt = One f.IntSides ∷ Word k.DoubleArrow ∷ One f.Con ∷ []
constructors_body con.GuardSides = One f.ConSum ∷ Word k.Tilde ∷ One f.ConSum ∷ Word k.RightBracket ∷ []
constructors_body con.NameSides =
    Many f.ConIndex ∷ Many f.ConTerm ∷ Many f.ConConcat ∷ Word k.Tilde ∷ One f.ConSum ∷ Word k.RightBracket ∷ []
constructors_body con.PathSides =
    Word k.Dot ∷ One f.Path ∷ Many f.ConIndex ∷ Many f.ConTerm ∷ Many f.ConConcat ∷ Word k.Tilde ∷ One f.ConSum ∷
    Word k.RightBracket ∷ []
constructors_body con.IntSides =
    Word k.Integer ∷ Many f.ConIndex ∷ Many f.ConTerm ∷ Many f.ConConcat ∷ Word k.Tilde ∷ One f.ConSum ∷
    Word k.RightBracket ∷ []

-- the parts of the rules of patterns
abbrev pub patterns_body : PatRule → List Part
patterns_body pat.Pat = One f.PatTerm ∷ Maybe f.PatCons ∷ []
patterns_body pat.PatCons = Word k.DoubleColon ∷ One f.Pat ∷ []
patterns_body pat.PatConstructor = One f.UpperPath ∷ Maybe f.PatAtom ∷ []
patterns_body pat.PatPlain = One f.PatAtom ∷ []
patterns_body pat.PatWild = Word k.Underscore ∷ []
patterns_body pat.PatVariable = Word k.LowerName ∷ []
patterns_body pat.PatInt = Word k.Integer ∷ []
patterns_body pat.PatNegative = Word k.Dash ∷ Word k.Integer ∷ []
patterns_body pat.PatString = Word k.StringLiteral ∷ []
patterns_body pat.PatName = One f.UpperPath ∷ []
patterns_body pat.PatList = Word k.LeftBracket ∷ Word k.RightBracket ∷ []
patterns_body pat.PatParens = Word k.LeftParenthesis ∷ One f.PatParenRest ∷ []
patterns_body pat.PatRecord = Word k.LeftBrace ∷ One f.PatRecordRest ∷ []
patterns_body pat.UpperPath = Word k.UpperName ∷ Many f.DotUpper ∷ []
patterns_body pat.DotUpper = Word k.Dot ∷ Word k.UpperName ∷ []
patterns_body pat.PatUnit = Word k.RightParenthesis ∷ []
patterns_body pat.PatGroup = One f.Pat ∷ One f.PatParenEnd ∷ []
patterns_body pat.PatClose = Word k.RightParenthesis ∷ []
patterns_body pat.PatTyped = Word k.Colon ∷ One f.Con ∷ Word k.RightParenthesis ∷ []
patterns_body pat.PatTuple = Word k.Comma ∷ One f.Pat ∷ Many f.PatComma ∷ Word k.RightParenthesis ∷ []
patterns_body pat.PatComma = Word k.Comma ∷ One f.Pat ∷ []
patterns_body pat.PatRecordEmpty = Word k.RightBrace ∷ []
patterns_body pat.PatRecordDots = Word k.Comma ∷ Word k.Ellipsis ∷ Word k.RightBrace ∷ []
patterns_body pat.PatRecordFields =
    One f.FieldName ∷ Word k.EqualSign ∷ One f.Pat ∷ Maybe f.PatFieldMore ∷ Word k.RightBrace ∷ []
patterns_body pat.PatFieldMore = Word k.Comma ∷ One f.PatFieldNext ∷ []
patterns_body pat.PatFieldDots = Word k.Ellipsis ∷ []
patterns_body pat.PatFieldNamed = One f.FieldName ∷ Word k.EqualSign ∷ One f.Pat ∷ Maybe f.PatFieldMore ∷ []

-- the parts of the rules of parameters of functions
abbrev pub parameters_body : ArgRule → List Part
parameters_body arg.ArgPattern = One f.PatAtom ∷ []
parameters_body arg.ArgBracket = Word k.LeftBracket ∷ One f.ArgBracketRest ∷ []
parameters_body arg.ArgList = Word k.RightBracket ∷ []
parameters_body arg.ArgLower = Word k.LowerName ∷ One f.ArgLowerRest ∷ []
parameters_body arg.ArgGuard = One f.ConSum ∷ Word k.Tilde ∷ One f.ConSum ∷ Word k.RightBracket ∷ []
parameters_body arg.ArgType = Word k.RightBracket ∷ []
parameters_body arg.ArgExplicit = Word k.DoubleColon ∷ One f.KindTerm ∷ Word k.RightBracket ∷ []
parameters_body arg.ArgImplicit = Word k.TripleColon ∷ One f.KindTerm ∷ Word k.RightBracket ∷ []
parameters_body arg.ArgLowerGuard =
    Many f.ConIndex ∷ Many f.ConTerm ∷ Many f.ConConcat ∷ Word k.Tilde ∷ One f.ConSum ∷ Word k.RightBracket ∷ []

-- the parts of the rules of expressions
abbrev pub expressions_body : ExpRule → List Part
expressions_body exp.ExpBind = One f.Pat ∷ One f.ExpBindRest ∷ []
expressions_body exp.ExpPlain = One f.Term ∷ Maybe f.ExpThen ∷ []
expressions_body exp.ExpBindRest = Word k.LeftArrow ∷ One f.Body ∷ Word k.Semicolon ∷ One f.Exp ∷ []
expressions_body exp.ExpThen = Word k.Semicolon ∷ One f.Exp ∷ []
expressions_body exp.TermLambda = Word k.KeywordFn ∷ One f.Arg ∷ Many f.Arg ∷ Word k.DoubleArrow ∷ One f.Exp ∷ []
expressions_body exp.TermCase =
    Word k.KeywordCase ∷ One f.Exp ∷ Word k.KeywordOf ∷ Maybe f.CaseBar ∷ One f.Pat ∷ Word k.DoubleArrow ∷ One f.Exp ∷
    Many f.CaseMore ∷ []
expressions_body exp.TermIf =
    Word k.KeywordIf ∷ One f.Exp ∷ Word k.KeywordThen ∷ One f.Exp ∷ Word k.KeywordElse ∷ One f.Term ∷ []
expressions_body exp.TermOr = One f.Or ∷ []
expressions_body exp.CaseBar = Word k.Bar ∷ []
expressions_body exp.CaseMore = Word k.Bar ∷ One f.Pat ∷ Word k.DoubleArrow ∷ One f.Exp ∷ []
expressions_body exp.BodyIf =
    Word k.KeywordIf ∷ One f.Exp ∷ Word k.KeywordThen ∷ One f.Exp ∷ Word k.KeywordElse ∷ One f.Body ∷ []
expressions_body exp.BodyOr = One f.Or ∷ []
expressions_body exp.Or = One f.And ∷ Many f.OrMore ∷ []
expressions_body exp.OrMore = Word k.DoubleBar ∷ One f.And ∷ []
expressions_body exp.And = One f.Compare ∷ Many f.AndMore ∷ []
expressions_body exp.AndMore = Word k.DoubleAmpersand ∷ One f.Compare ∷ []
expressions_body exp.Compare = One f.Cons ∷ Maybe f.CompareMore ∷ []
expressions_body exp.CompareEqual = Word k.EqualSign ∷ One f.Cons ∷ []
expressions_body exp.CompareNotEqual = Word k.NotEqual ∷ One f.Cons ∷ []
expressions_body exp.CompareLess = Word k.LessThan ∷ One f.Cons ∷ []
expressions_body exp.CompareLessOrEqual = Word k.LessOrEqual ∷ One f.Cons ∷ []
expressions_body exp.CompareGreater = Word k.GreaterThan ∷ One f.Cons ∷ []
expressions_body exp.CompareGreaterOrEqual = Word k.GreaterOrEqual ∷ One f.Cons ∷ []
expressions_body exp.Cons = One f.Join ∷ Maybe f.ConsMore ∷ []
expressions_body exp.ConsMore = Word k.DoubleColon ∷ One f.Cons ∷ []
expressions_body exp.Join = One f.Sum ∷ Many f.JoinMore ∷ []
expressions_body exp.JoinTexts = Word k.Caret ∷ One f.Sum ∷ []
expressions_body exp.JoinRecords = Word k.DoublePlus ∷ One f.Sum ∷ []
expressions_body exp.Sum = One f.Product ∷ Many f.SumMore ∷ []
expressions_body exp.SumPlus = Word k.Plus ∷ One f.Product ∷ []
expressions_body exp.SumMinus = Word k.Dash ∷ One f.Product ∷ []
expressions_body exp.Product = One f.Sign ∷ Many f.ProductMore ∷ []
expressions_body exp.ProductTimes = Word k.Star ∷ One f.Sign ∷ []
expressions_body exp.ProductDivide = Word k.Slash ∷ One f.Sign ∷ []
expressions_body exp.ProductModulo = Word k.Percent ∷ One f.Sign ∷ []
expressions_body exp.SignMinus = Word k.Dash ∷ One f.Sign ∷ []
expressions_body exp.SignNone = One f.Cut ∷ []
expressions_body exp.Cut = One f.Apply ∷ Many f.CutMore ∷ []
expressions_body exp.CutField = Word k.DoubleDash ∷ One f.ConTerm ∷ []
expressions_body exp.CutRow = Word k.TripleDash ∷ One f.ConTerm ∷ []
expressions_body exp.Apply = One f.Atom ∷ Many f.Argument ∷ []
expressions_body exp.ArgumentTerm = One f.Operand ∷ []
expressions_body exp.ArgumentBracket = Word k.LeftBracket ∷ One f.ArgumentRest ∷ []
expressions_body exp.ArgumentGuard = Word k.Exclamation ∷ []
expressions_body exp.ArgumentList = Word k.RightBracket ∷ Many f.Dot ∷ []
expressions_body exp.ArgumentCon = One f.Con ∷ Word k.RightBracket ∷ []
expressions_body exp.AtomTerm = One f.Operand ∷ []
expressions_body exp.AtomList = Word k.LeftBracket ∷ Word k.RightBracket ∷ Many f.Dot ∷ []
expressions_body exp.Operand = One f.Primary ∷ Many f.Dot ∷ []
expressions_body exp.Dot = Word k.Dot ∷ One f.FieldName ∷ []
expressions_body exp.PrimaryInt = Word k.Integer ∷ []
expressions_body exp.PrimaryString = Word k.StringLiteral ∷ []
expressions_body exp.PrimaryLower = Word k.LowerName ∷ []
expressions_body exp.PrimaryUpper = Word k.UpperName ∷ []
expressions_body exp.PrimaryAt = Word k.AtSign ∷ One f.AnyName ∷ []
expressions_body exp.PrimaryAtAt = Word k.DoubleAtSign ∷ One f.AnyName ∷ []
expressions_body exp.PrimaryParens = Word k.LeftParenthesis ∷ One f.ParenRest ∷ []
expressions_body exp.PrimaryRecord = Word k.LeftBrace ∷ Maybe f.ExpFields ∷ Word k.RightBrace ∷ []
expressions_body exp.PrimaryLet =
    Word k.KeywordLet ∷ Many f.LetDecl ∷ Word k.KeywordIn ∷ One f.Exp ∷ Word k.KeywordEnd ∷ []
expressions_body exp.PrimaryXmlEmpty = Word k.XmlEmpty ∷ []
expressions_body exp.PrimaryXml = Word k.XmlOpen ∷ Many f.Node ∷ Word k.XmlClose ∷ []
expressions_body exp.AnyLower = Word k.LowerName ∷ []
expressions_body exp.AnyUpper = Word k.UpperName ∷ []
expressions_body exp.ParenUnit = Word k.RightParenthesis ∷ []
expressions_body exp.ParenGroup = One f.Exp ∷ One f.ParenEnd ∷ []
expressions_body exp.ParenSql = One f.Sql ∷ Word k.RightParenthesis ∷ []
expressions_body exp.ParenClose = Word k.RightParenthesis ∷ []
expressions_body exp.ParenTyped = Word k.Colon ∷ One f.Con ∷ Word k.RightParenthesis ∷ []
expressions_body exp.ParenTuple = Word k.Comma ∷ One f.Exp ∷ Many f.ExpComma ∷ Word k.RightParenthesis ∷ []
expressions_body exp.ExpComma = Word k.Comma ∷ One f.Exp ∷ []
expressions_body exp.ExpFields = One f.FieldName ∷ Word k.EqualSign ∷ One f.Exp ∷ Many f.ExpFieldMore ∷ []
expressions_body exp.ExpFieldMore = Word k.Comma ∷ One f.FieldName ∷ Word k.EqualSign ∷ One f.Exp ∷ []

-- the parts of the rules of markup
abbrev pub markup_body : MarkupRule → List Part
markup_body markup.NodeText = Word k.TextRun ∷ []
markup_body markup.NodeBrace = Word k.LeftBrace ∷ One f.NodeBraceRest ∷ []
markup_body markup.NodeElement = Word k.TagOpen ∷ Maybe f.TagName ∷ Many f.Attribute ∷ One f.ElementEnd ∷ []
markup_body markup.NodeSplice = One f.Splice ∷ Word k.RightBrace ∷ []
markup_body markup.NodeExp = One f.Exp ∷ Word k.RightBrace ∷ []
markup_body markup.Splice = Word k.LeftBracket ∷ One f.Exp ∷ Word k.RightBracket ∷ []
markup_body markup.TagName = Word k.LeftBrace ∷ One f.Con ∷ Word k.RightBrace ∷ []
markup_body markup.ElementEmpty = Word k.TagSelfClose ∷ []
markup_body markup.ElementFull = Word k.GreaterThan ∷ Many f.Node ∷ Word k.TagClose ∷ []
markup_body markup.Attribute = Word k.AttributeName ∷ Word k.EqualSign ∷ One f.AttributeValue ∷ []
markup_body markup.AttributeString = Word k.StringLiteral ∷ []
markup_body markup.AttributeInt = Word k.Integer ∷ []
markup_body markup.AttributeExp = Word k.LeftBrace ∷ One f.Exp ∷ Word k.RightBrace ∷ []

-- the parts of the rules of declarations
abbrev pub declarations_body : DeclRule → List Part
declarations_body decl.DeclVal = Word k.KeywordVal ∷ One f.ValRest ∷ []
declarations_body decl.DeclFun =
    Word k.KeywordFun ∷ Word k.LowerName ∷ One f.Arg ∷ Many f.Arg ∷ Maybe f.TypeMark ∷ Word k.EqualSign ∷ One f.Exp ∷
    Many f.FunMore ∷ []
declarations_body decl.DeclCon =
    Word k.KeywordCon ∷ Word k.LowerName ∷ Maybe f.KindMark ∷ Word k.EqualSign ∷ One f.Con ∷ []
declarations_body decl.DeclType = Word k.KeywordType ∷ Word k.LowerName ∷ Word k.EqualSign ∷ One f.Con ∷ []
declarations_body decl.DeclDatatype =
    Word k.KeywordDatatype ∷ Word k.LowerName ∷ Many f.Parameter ∷ Word k.EqualSign ∷ One f.Constructor ∷
    Many f.ConstructorMore ∷ []
declarations_body decl.DeclTable =
    Word k.KeywordTable ∷ Word k.LowerName ∷ Word k.Colon ∷ One f.Con ∷ Maybe f.KeyMark ∷ []
declarations_body decl.DeclSequence = Word k.KeywordSequence ∷ Word k.LowerName ∷ []
declarations_body decl.DeclCookie = Word k.KeywordCookie ∷ Word k.LowerName ∷ Word k.Colon ∷ One f.Con ∷ []
declarations_body decl.LetVal = Word k.KeywordVal ∷ One f.ValRest ∷ []
declarations_body decl.LetFun =
    Word k.KeywordFun ∷ Word k.LowerName ∷ One f.Arg ∷ Many f.Arg ∷ Maybe f.TypeMark ∷ Word k.EqualSign ∷ One f.Exp ∷
    Many f.FunMore ∷ []
declarations_body decl.ValPlain = Word k.LowerName ∷ Maybe f.TypeMark ∷ Word k.EqualSign ∷ One f.Exp ∷ []
declarations_body decl.ValRec =
    Word k.KeywordRec ∷ Word k.LowerName ∷ Word k.Colon ∷ One f.Con ∷ Word k.EqualSign ∷ One f.Exp ∷ Many f.RecMore ∷
    []
declarations_body decl.RecMore =
    Word k.KeywordAnd ∷ Word k.LowerName ∷ Word k.Colon ∷ One f.Con ∷ Word k.EqualSign ∷ One f.Exp ∷ []
declarations_body decl.FunMore =
    Word k.KeywordAnd ∷ Word k.LowerName ∷ One f.Arg ∷ Many f.Arg ∷ Maybe f.TypeMark ∷ Word k.EqualSign ∷ One f.Exp ∷
    []
declarations_body decl.TypeMark = Word k.Colon ∷ One f.Con ∷ []
declarations_body decl.Parameter = Word k.LowerName ∷ []
declarations_body decl.Constructor = Word k.UpperName ∷ Maybe f.ConstructorOf ∷ []
declarations_body decl.ConstructorOf = Word k.KeywordOf ∷ One f.Con ∷ []
declarations_body decl.ConstructorMore = Word k.Bar ∷ One f.Constructor ∷ []
declarations_body decl.KeyMark = Word k.SqlPrimary ∷ Word k.SqlKey ∷ One f.KeyColumns ∷ []
declarations_body decl.KeyColumn = Word k.UpperName ∷ []
declarations_body decl.KeyList = One f.ColumnList ∷ []
declarations_body decl.ColumnList =
    Word k.LeftParenthesis ∷ Word k.UpperName ∷ Many f.ColumnMore ∷ Word k.RightParenthesis ∷ []
declarations_body decl.ColumnMore = Word k.Comma ∷ Word k.UpperName ∷ []
declarations_body decl.InterfaceItem = Word k.KeywordVal ∷ Word k.LowerName ∷ Word k.Colon ∷ One f.Con ∷ []

-- the parts of the rules of queries and changes of tables
abbrev pub queries_body : SqlRule → List Part
queries_body sql.SqlSelect =
    Word k.SqlSelect ∷ One f.Selection ∷ Word k.SqlFrom ∷ One f.Source ∷ Many f.SourceMore ∷ Maybe f.Where ∷
    Maybe f.OrderBy ∷ Maybe f.Limit ∷ Maybe f.Offset ∷ []
queries_body sql.SqlInsert =
    Word k.SqlInsert ∷ Word k.SqlInto ∷ One f.TableRef ∷ One f.ColumnList ∷ Word k.SqlValues ∷ One f.ValueList ∷ []
queries_body sql.SqlUpdate =
    Word k.SqlUpdate ∷ One f.TableRef ∷ Word k.SqlSet ∷ One f.Assignment ∷ Many f.AssignmentMore ∷ Word k.SqlWhere ∷
    One f.SqlOr ∷ []
queries_body sql.SqlDelete = Word k.SqlDelete ∷ Word k.SqlFrom ∷ One f.TableRef ∷ Word k.SqlWhere ∷ One f.SqlOr ∷ []
queries_body sql.SqlWhere = Word k.SqlWhere ∷ One f.SqlOr ∷ []
queries_body sql.Where = Word k.SqlWhere ∷ One f.SqlOr ∷ []
queries_body sql.OrderBy = Word k.SqlOrder ∷ Word k.SqlBy ∷ One f.Order ∷ Many f.OrderMore ∷ []
queries_body sql.Limit = Word k.SqlLimit ∷ One f.Count ∷ []
queries_body sql.Offset = Word k.SqlOffset ∷ One f.Count ∷ []
queries_body sql.ValueList = Word k.LeftParenthesis ∷ One f.SqlOr ∷ Many f.ValueMore ∷ Word k.RightParenthesis ∷ []
queries_body sql.ValueMore = Word k.Comma ∷ One f.SqlOr ∷ []
queries_body sql.Assignment = Word k.UpperName ∷ Word k.EqualSign ∷ One f.SqlOr ∷ []
queries_body sql.AssignmentMore = Word k.Comma ∷ One f.Assignment ∷ []
queries_body sql.SelectAll = Word k.Star ∷ []
queries_body sql.SelectItems = One f.Item ∷ Many f.ItemMore ∷ []
queries_body sql.ItemMore = Word k.Comma ∷ One f.Item ∷ []
queries_body sql.ItemLower = Word k.LowerName ∷ Word k.Dot ∷ One f.ItemDot ∷ []
queries_body sql.ItemUpper = Word k.UpperName ∷ One f.ItemUpperRest ∷ []
queries_body sql.ItemOther = One f.SqlOr ∷ Word k.SqlAs ∷ Word k.UpperName ∷ []
queries_body sql.ItemUpperDot = Word k.Dot ∷ One f.ItemDot ∷ []
queries_body sql.ItemUpperNamed = One f.ItemNamed ∷ []
queries_body sql.ItemColumn = Word k.UpperName ∷ Maybe f.ItemNamed ∷ []
queries_body sql.ItemStar = Word k.Star ∷ []
queries_body sql.ItemBraces = Word k.LeftBrace ∷ One f.ItemBracesRow ∷ Word k.RightBrace ∷ []
queries_body sql.ItemBracesRow = Word k.LeftBrace ∷ One f.Con ∷ Word k.RightBrace ∷ []
queries_body sql.ItemNamed =
    Many f.SqlProductMore ∷ Many f.SqlSumMore ∷ Maybe f.SqlCompareMore ∷ Many f.SqlAndMore ∷ Many f.SqlOrMore ∷
    Word k.SqlAs ∷ Word k.UpperName ∷ []
queries_body sql.SourceTable = One f.Path ∷ Maybe f.AsMark ∷ []
queries_body sql.SourceExp = One f.TableBraces ∷ Word k.SqlAs ∷ Word k.UpperName ∷ []
queries_body sql.SourceMore = Word k.Comma ∷ One f.Source ∷ []
queries_body sql.AsMark = Word k.SqlAs ∷ Word k.UpperName ∷ []
queries_body sql.RefTable = One f.Path ∷ []
queries_body sql.RefExp = One f.TableBraces ∷ []
queries_body sql.TableBraces = Word k.LeftBrace ∷ One f.TableBracesExp ∷ Word k.RightBrace ∷ []
queries_body sql.TableBracesExp = Word k.LeftBrace ∷ One f.Exp ∷ Word k.RightBrace ∷ []
queries_body sql.Order = One f.SqlOr ∷ Maybe f.Direction ∷ []
queries_body sql.DirectionAsc = Word k.SqlAsc ∷ []
queries_body sql.DirectionDesc = Word k.SqlDesc ∷ []
queries_body sql.OrderMore = Word k.Comma ∷ One f.Order ∷ []
queries_body sql.CountInt = Word k.Integer ∷ []
queries_body sql.CountExp = Word k.LeftBrace ∷ One f.Exp ∷ Word k.RightBrace ∷ []
queries_body sql.SqlOr = One f.SqlAnd ∷ Many f.SqlOrMore ∷ []
queries_body sql.SqlOrMore = Word k.SqlOr ∷ One f.SqlAnd ∷ []
queries_body sql.SqlAnd = One f.SqlNot ∷ Many f.SqlAndMore ∷ []
queries_body sql.SqlAndMore = Word k.SqlAnd ∷ One f.SqlNot ∷ []
queries_body sql.SqlNegated = Word k.SqlNot ∷ One f.SqlNot ∷ []
queries_body sql.SqlCompared = One f.SqlCompare ∷ []
queries_body sql.SqlCompare = One f.SqlSum ∷ Maybe f.SqlCompareMore ∷ []
queries_body sql.SqlEqual = Word k.EqualSign ∷ One f.SqlSum ∷ []
queries_body sql.SqlNotEqual = Word k.NotEqual ∷ One f.SqlSum ∷ []
queries_body sql.SqlLess = Word k.LessThan ∷ One f.SqlSum ∷ []
queries_body sql.SqlLessOrEqual = Word k.LessOrEqual ∷ One f.SqlSum ∷ []
queries_body sql.SqlGreater = Word k.GreaterThan ∷ One f.SqlSum ∷ []
queries_body sql.SqlGreaterOrEqual = Word k.GreaterOrEqual ∷ One f.SqlSum ∷ []
queries_body sql.SqlSum = One f.SqlProduct ∷ Many f.SqlSumMore ∷ []
queries_body sql.SqlPlus = Word k.Plus ∷ One f.SqlProduct ∷ []
queries_body sql.SqlMinus = Word k.Dash ∷ One f.SqlProduct ∷ []
queries_body sql.SqlProduct = One f.SqlTerm ∷ Many f.SqlProductMore ∷ []
queries_body sql.SqlTimes = Word k.Star ∷ One f.SqlTerm ∷ []
queries_body sql.SqlDivide = Word k.Slash ∷ One f.SqlTerm ∷ []
queries_body sql.SqlModulo = Word k.Percent ∷ One f.SqlTerm ∷ []
queries_body sql.SqlNegative = Word k.Dash ∷ One f.SqlTerm ∷ []
queries_body sql.SqlInt = Word k.Integer ∷ []
queries_body sql.SqlString = Word k.StringLiteral ∷ []
queries_body sql.SqlTrue = Word k.SqlTrue ∷ []
queries_body sql.SqlFalse = Word k.SqlFalse ∷ []
queries_body sql.SqlField = Word k.LowerName ∷ Word k.Dot ∷ Word k.UpperName ∷ []
queries_body sql.SqlColumn = Word k.UpperName ∷ Maybe f.DotUpper ∷ []
queries_body sql.SqlBrace = Word k.LeftBrace ∷ One f.SqlBraceRest ∷ []
queries_body sql.SqlParens = Word k.LeftParenthesis ∷ One f.SqlOr ∷ Word k.RightParenthesis ∷ []
queries_body sql.SqlSplice = One f.Splice ∷ Word k.RightBrace ∷ []
queries_body sql.SqlExp = One f.Exp ∷ Word k.RightBrace ∷ []

-- the parts of a rule
abbrev pub body_of : Rule → List Part
body_of (r.Kind rule) = kinds_body rule
body_of (r.Con rule) = constructors_body rule
body_of (r.Pat rule) = patterns_body rule
body_of (r.Arg rule) = parameters_body rule
body_of (r.Exp rule) = expressions_body rule
body_of (r.Markup rule) = markup_body rule
body_of (r.Decl rule) = declarations_body rule
body_of (r.Sql rule) = queries_body rule
