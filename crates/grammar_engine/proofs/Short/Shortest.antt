-- For each form a short tree: its rule, its first token and the room that it needs; and the tokens that may follow
-- a tree of the form where short trees are read behind it.
use Rattle.std.proofs.Common.{ℕ, List, [], ◌∷◌}
use Rattle.surface_tree.specs.declared.kind.Kind.{Kind}
use Rattle.surface_tree.specs.declared.kind.Kind.TheVariants as k
use Rattle.surface_grammar.specs.declared.form.Form.{Form}
use Rattle.surface_grammar.specs.declared.form.Form.TheVariants as f

-- which of its rules makes the short tree
abbrev pub pick_of : Form → ℕ
pick_of f.Con = 1
pick_of f.ConTerm = 1
pick_of f.ConAtom = 1
pick_of f.Exp = 1
pick_of f.Term = 3
pick_of f.Body = 1
pick_of f.Sign = 1
pick_of f.Argument = 2
pick_of f.NodeBraceRest = 1
pick_of f.Decl = 6
pick_of f.SqlNot = 1
pick_of f.SqlTerm = 1
pick_of f.SqlBraceRest = 1
pick_of _ = 0

abbrev pub need_of : Form → ℕ
need_of f.KindArrow = 1
need_of f.ConForall = 1
need_of f.ConArrow = 1
need_of f.BracketOpen = 1
need_of f.BracketRest = 1
need_of f.BracketFields = 1
need_of f.BracketNameRest = 1
need_of f.BracketUpperRest = 1
need_of f.BracketHashRest = 1
need_of f.GuardSides = 1
need_of f.NameSides = 1
need_of f.PathSides = 1
need_of f.IntSides = 1
need_of f.PatCons = 1
need_of f.ExpBindRest = 1
need_of f.ExpThen = 1
need_of f.ConsMore = 1
need_of f.Splice = 1
need_of f.TagName = 1
need_of f.ColumnList = 1
need_of f.ValueList = 1
need_of f.ItemBracesRow = 1
need_of f.TableBraces = 2
need_of f.TableBracesExp = 1
need_of _ = 0

abbrev pub start_of : Form → Kind
start_of f.KindTerm = k.TypeWord
start_of f.KindArrow = k.Arrow
start_of f.KindAtom = k.TypeWord
start_of f.KindTimes = k.Star
start_of f.KindMark = k.DoubleColon
start_of f.Con = k.LowerName
start_of f.ConForall = k.DoubleColon
start_of f.ConArrow = k.Arrow
start_of f.ConProduct = k.Underscore
start_of f.ConTimes = k.Star
start_of f.ConSum = k.Underscore
start_of f.ConConcat = k.DoublePlus
start_of f.ConApply = k.Underscore
start_of f.ConTerm = k.Underscore
start_of f.ConDollar = k.Dollar
start_of f.ConPrimary = k.Underscore
start_of f.ConIndex = k.Dot
start_of f.ConAtom = k.Underscore
start_of f.HashName = k.UpperName
start_of f.ConParenRest = k.RightParenthesis
start_of f.ConParenEnd = k.RightParenthesis
start_of f.ConComma = k.Comma
start_of f.ConFieldTypes = k.UpperName
start_of f.ConFieldMore = k.Comma
start_of f.ConRowFields = k.UpperName
start_of f.ConFieldValue = k.EqualSign
start_of f.ConRowMore = k.Comma
start_of f.FieldName = k.UpperName
start_of f.Path = k.LowerName
start_of f.UpperDot = k.UpperName
start_of f.BracketOpen = k.LeftBracket
start_of f.BracketRest = k.RightBracket
start_of f.BracketFields = k.RightBracket
start_of f.BracketNameRest = k.RightBracket
start_of f.BracketUpperRest = k.RightBracket
start_of f.BracketHashRest = k.UpperName
start_of f.GuardSides = k.Underscore
start_of f.NameSides = k.Tilde
start_of f.PathSides = k.Dot
start_of f.IntSides = k.Integer
start_of f.Pat = k.UpperName
start_of f.PatCons = k.DoubleColon
start_of f.PatTerm = k.UpperName
start_of f.PatAtom = k.Underscore
start_of f.UpperPath = k.UpperName
start_of f.DotUpper = k.Dot
start_of f.PatParenRest = k.RightParenthesis
start_of f.PatParenEnd = k.RightParenthesis
start_of f.PatComma = k.Comma
start_of f.PatRecordRest = k.RightBrace
start_of f.PatFieldMore = k.Comma
start_of f.PatFieldNext = k.Ellipsis
start_of f.Arg = k.Underscore
start_of f.ArgBracketRest = k.RightBracket
start_of f.ArgLowerRest = k.RightBracket
start_of f.Exp = k.Integer
start_of f.ExpBindRest = k.LeftArrow
start_of f.ExpThen = k.Semicolon
start_of f.Term = k.Integer
start_of f.CaseBar = k.Bar
start_of f.CaseMore = k.Bar
start_of f.Body = k.Integer
start_of f.Or = k.Integer
start_of f.OrMore = k.DoubleBar
start_of f.And = k.Integer
start_of f.AndMore = k.DoubleAmpersand
start_of f.Compare = k.Integer
start_of f.CompareMore = k.EqualSign
start_of f.Cons = k.Integer
start_of f.ConsMore = k.DoubleColon
start_of f.Join = k.Integer
start_of f.JoinMore = k.Caret
start_of f.Sum = k.Integer
start_of f.SumMore = k.Plus
start_of f.Product = k.Integer
start_of f.ProductMore = k.Star
start_of f.Sign = k.Integer
start_of f.Cut = k.Integer
start_of f.CutMore = k.DoubleDash
start_of f.Apply = k.Integer
start_of f.Argument = k.Exclamation
start_of f.ArgumentRest = k.RightBracket
start_of f.Atom = k.Integer
start_of f.Operand = k.Integer
start_of f.Dot = k.Dot
start_of f.Primary = k.Integer
start_of f.AnyName = k.LowerName
start_of f.ParenRest = k.RightParenthesis
start_of f.ParenEnd = k.RightParenthesis
start_of f.ExpComma = k.Comma
start_of f.ExpFields = k.UpperName
start_of f.ExpFieldMore = k.Comma
start_of f.Node = k.TextRun
start_of f.NodeBraceRest = k.Integer
start_of f.Splice = k.LeftBracket
start_of f.TagName = k.LeftBrace
start_of f.ElementEnd = k.TagSelfClose
start_of f.Attribute = k.AttributeName
start_of f.AttributeValue = k.StringLiteral
start_of f.Decl = k.KeywordSequence
start_of f.LetDecl = k.KeywordVal
start_of f.ValRest = k.LowerName
start_of f.RecMore = k.KeywordAnd
start_of f.FunMore = k.KeywordAnd
start_of f.TypeMark = k.Colon
start_of f.Parameter = k.LowerName
start_of f.Constructor = k.UpperName
start_of f.ConstructorOf = k.KeywordOf
start_of f.ConstructorMore = k.Bar
start_of f.KeyMark = k.SqlPrimary
start_of f.KeyColumns = k.UpperName
start_of f.ColumnList = k.LeftParenthesis
start_of f.ColumnMore = k.Comma
start_of f.InterfaceItem = k.KeywordVal
start_of f.Sql = k.SqlSelect
start_of f.Where = k.SqlWhere
start_of f.OrderBy = k.SqlOrder
start_of f.Limit = k.SqlLimit
start_of f.Offset = k.SqlOffset
start_of f.ValueList = k.LeftParenthesis
start_of f.ValueMore = k.Comma
start_of f.Assignment = k.UpperName
start_of f.AssignmentMore = k.Comma
start_of f.Selection = k.Star
start_of f.ItemMore = k.Comma
start_of f.Item = k.LowerName
start_of f.ItemUpperRest = k.Dot
start_of f.ItemDot = k.UpperName
start_of f.ItemBracesRow = k.LeftBrace
start_of f.ItemNamed = k.SqlAs
start_of f.Source = k.LowerName
start_of f.SourceMore = k.Comma
start_of f.AsMark = k.SqlAs
start_of f.TableRef = k.LowerName
start_of f.TableBraces = k.LeftBrace
start_of f.TableBracesExp = k.LeftBrace
start_of f.Order = k.Integer
start_of f.Direction = k.SqlAsc
start_of f.OrderMore = k.Comma
start_of f.Count = k.Integer
start_of f.SqlOr = k.Integer
start_of f.SqlOrMore = k.SqlOr
start_of f.SqlAnd = k.Integer
start_of f.SqlAndMore = k.SqlAnd
start_of f.SqlNot = k.Integer
start_of f.SqlCompare = k.Integer
start_of f.SqlCompareMore = k.EqualSign
start_of f.SqlSum = k.Integer
start_of f.SqlSumMore = k.Plus
start_of f.SqlProduct = k.Integer
start_of f.SqlProductMore = k.Star
start_of f.SqlTerm = k.Integer
start_of f.SqlBraceRest = k.Integer

-- what stands behind several forms
abbrev pub behind_parameter : List Kind
behind_parameter = k.EqualSign ∷ k.DoubleArrow ∷ []

abbrev pub behind_con : List Kind
behind_con = k.RightParenthesis ∷ k.DoubleColon ∷ k.EqualSign ∷ k.RightBracket ∷ k.RightBrace ∷ []

abbrev pub behind_con_sum : List Kind
behind_con_sum = k.RightParenthesis ∷ k.DoubleColon ∷ k.EqualSign ∷ k.RightBracket ∷ k.RightBrace ∷ k.Tilde ∷ []

abbrev pub behind_con_term : List Kind
behind_con_term = k.KeywordElse ∷ k.KeywordEnd ∷ k.KeywordIn ∷ k.KeywordOf ∷ k.KeywordThen ∷ k.RightParenthesis ∷ k.DoubleColon ∷ k.Semicolon ∷ k.EqualSign ∷ k.RightBracket ∷ k.RightBrace ∷ k.Tilde ∷ []

abbrev pub behind_pat : List Kind
behind_pat = k.RightParenthesis ∷ k.LeftArrow ∷ k.DoubleArrow ∷ k.RightBrace ∷ []

abbrev pub behind_pat_atom : List Kind
behind_pat_atom = k.RightParenthesis ∷ k.LeftArrow ∷ k.EqualSign ∷ k.DoubleArrow ∷ k.RightBrace ∷ []

abbrev pub behind_exp : List Kind
behind_exp = k.KeywordElse ∷ k.KeywordEnd ∷ k.KeywordIn ∷ k.KeywordOf ∷ k.KeywordThen ∷ k.RightParenthesis ∷ k.RightBracket ∷ k.RightBrace ∷ []

abbrev pub behind_operand : List Kind
behind_operand = k.KeywordElse ∷ k.KeywordEnd ∷ k.KeywordIn ∷ k.KeywordOf ∷ k.KeywordThen ∷ k.RightParenthesis ∷ k.Semicolon ∷ k.RightBracket ∷ k.RightBrace ∷ []

abbrev pub behind_node : List Kind
behind_node = k.TagClose ∷ k.XmlClose ∷ []

abbrev pub behind_sql : List Kind
behind_sql = k.SqlAs ∷ k.SqlWhere ∷ k.RightParenthesis ∷ []

-- the tokens that may follow a tree of the form; the last line is of what stands before an operator, or is one
abbrev pub follow_of : Form → List Kind
follow_of f.KindTerm = k.RightParenthesis ∷ k.EqualSign ∷ k.DoubleArrow ∷ k.RightBracket ∷ k.RightBrace ∷ []
follow_of f.KindArrow = k.RightParenthesis ∷ k.EqualSign ∷ k.DoubleArrow ∷ k.RightBracket ∷ k.RightBrace ∷ []
follow_of f.KindAtom = k.RightParenthesis ∷ k.Arrow ∷ k.EqualSign ∷ k.DoubleArrow ∷ k.RightBracket ∷ k.RightBrace ∷ []
follow_of f.KindTimes = k.RightParenthesis ∷ []
follow_of f.KindMark = behind_parameter
follow_of f.Con = behind_con
follow_of f.ConForall = behind_con
follow_of f.ConArrow = behind_con
follow_of f.ConProduct = behind_con
follow_of f.ConTimes = behind_con
follow_of f.ConSum = behind_con_sum
follow_of f.ConConcat = behind_con_sum
follow_of f.ConApply = behind_con_sum
follow_of f.ConTerm = behind_con_term
follow_of f.ConDollar = k.Underscore ∷ []
follow_of f.ConPrimary = behind_con_term
follow_of f.ConIndex = behind_con_term
follow_of f.ConAtom = behind_con_term
follow_of f.HashName = behind_con_term
follow_of f.ConParenRest = behind_con_term
follow_of f.ConParenEnd = behind_con_term
follow_of f.ConComma = k.RightParenthesis ∷ []
follow_of f.ConFieldTypes = k.RightBrace ∷ []
follow_of f.ConFieldMore = k.RightBrace ∷ []
follow_of f.ConRowFields = k.RightBracket ∷ []
follow_of f.ConFieldValue = k.RightBracket ∷ []
follow_of f.ConRowMore = k.RightBracket ∷ []
follow_of f.FieldName = k.KeywordElse ∷ k.KeywordEnd ∷ k.KeywordIn ∷ k.KeywordOf ∷ k.KeywordThen ∷ k.RightParenthesis ∷ k.Colon ∷ k.Semicolon ∷ k.EqualSign ∷ k.RightBracket ∷ k.RightBrace ∷ []
follow_of f.Path = k.KeywordElse ∷ k.KeywordEnd ∷ k.KeywordIn ∷ k.KeywordOf ∷ k.KeywordThen ∷ k.SqlSet ∷ k.SqlWhere ∷ k.LeftParenthesis ∷ k.RightParenthesis ∷ k.DoubleColon ∷ k.Semicolon ∷ k.EqualSign ∷ k.RightBracket ∷ k.RightBrace ∷ k.Tilde ∷ []
follow_of f.UpperDot = k.LowerName ∷ []
follow_of f.BracketOpen = k.RightBracket ∷ []
follow_of f.BracketRest = behind_con
follow_of f.BracketFields = behind_con
follow_of f.BracketNameRest = behind_con
follow_of f.BracketUpperRest = behind_con
follow_of f.BracketHashRest = behind_con
follow_of f.GuardSides = k.DoubleArrow ∷ []
follow_of f.NameSides = k.DoubleArrow ∷ []
follow_of f.PathSides = k.DoubleArrow ∷ []
follow_of f.IntSides = k.DoubleArrow ∷ []
follow_of f.Pat = behind_pat
follow_of f.PatCons = behind_pat
follow_of f.PatTerm = behind_pat
follow_of f.PatAtom = behind_pat_atom
follow_of f.UpperPath = behind_pat_atom
follow_of f.DotUpper = k.SqlAs ∷ k.SqlWhere ∷ k.RightParenthesis ∷ k.LeftArrow ∷ k.EqualSign ∷ k.DoubleArrow ∷ k.RightBrace ∷ []
follow_of f.PatParenRest = behind_pat_atom
follow_of f.PatParenEnd = behind_pat_atom
follow_of f.PatComma = k.RightParenthesis ∷ []
follow_of f.PatRecordRest = behind_pat_atom
follow_of f.PatFieldMore = k.RightBrace ∷ []
follow_of f.PatFieldNext = k.RightBrace ∷ []
follow_of f.Arg = behind_parameter
follow_of f.ArgBracketRest = behind_parameter
follow_of f.ArgLowerRest = behind_parameter
follow_of f.Exp = behind_exp
follow_of f.ExpBindRest = behind_exp
follow_of f.ExpThen = behind_exp
follow_of f.Term = behind_exp
follow_of f.CaseBar = k.UpperName ∷ []
follow_of f.CaseMore = behind_exp
follow_of f.Body = k.Semicolon ∷ []
follow_of f.ExpComma = k.RightParenthesis ∷ []
follow_of f.ExpFields = k.RightBrace ∷ []
follow_of f.ExpFieldMore = k.RightBrace ∷ []
follow_of f.Node = behind_node
follow_of f.NodeBraceRest = behind_node
follow_of f.Splice = k.RightBrace ∷ []
follow_of f.TagName = k.TagSelfClose ∷ []
follow_of f.ElementEnd = behind_node
follow_of f.Attribute = k.TagSelfClose ∷ []
follow_of f.AttributeValue = k.TagSelfClose ∷ []
follow_of f.Decl = []
follow_of f.LetDecl = k.KeywordIn ∷ []
follow_of f.ValRest = k.KeywordIn ∷ []
follow_of f.RecMore = k.KeywordIn ∷ []
follow_of f.FunMore = k.KeywordIn ∷ []
follow_of f.TypeMark = k.EqualSign ∷ []
follow_of f.Parameter = k.EqualSign ∷ []
follow_of f.Constructor = []
follow_of f.ConstructorOf = []
follow_of f.ConstructorMore = []
follow_of f.KeyMark = []
follow_of f.KeyColumns = []
follow_of f.ColumnList = k.SqlValues ∷ []
follow_of f.ColumnMore = k.RightParenthesis ∷ []
follow_of f.InterfaceItem = []
follow_of f.Sql = k.RightParenthesis ∷ []
follow_of f.Where = k.RightParenthesis ∷ []
follow_of f.OrderBy = k.RightParenthesis ∷ []
follow_of f.Limit = k.RightParenthesis ∷ []
follow_of f.Offset = k.RightParenthesis ∷ []
follow_of f.ValueList = k.RightParenthesis ∷ []
follow_of f.ValueMore = k.RightParenthesis ∷ []
follow_of f.Assignment = k.SqlWhere ∷ []
follow_of f.AssignmentMore = k.SqlWhere ∷ []
follow_of f.Selection = k.SqlFrom ∷ []
follow_of f.ItemMore = k.SqlFrom ∷ []
follow_of f.Item = k.SqlFrom ∷ []
follow_of f.ItemUpperRest = k.SqlFrom ∷ []
follow_of f.ItemDot = k.SqlFrom ∷ []
follow_of f.ItemBracesRow = k.RightBrace ∷ []
follow_of f.ItemNamed = k.SqlFrom ∷ []
follow_of f.Source = k.RightParenthesis ∷ []
follow_of f.SourceMore = k.RightParenthesis ∷ []
follow_of f.AsMark = k.RightParenthesis ∷ []
follow_of f.TableRef = k.SqlSet ∷ k.SqlWhere ∷ k.LeftParenthesis ∷ []
follow_of f.TableBraces = k.SqlAs ∷ k.SqlSet ∷ k.SqlWhere ∷ k.LeftParenthesis ∷ []
follow_of f.TableBracesExp = k.RightBrace ∷ []
follow_of f.Order = k.RightParenthesis ∷ []
follow_of f.Direction = k.RightParenthesis ∷ []
follow_of f.OrderMore = k.RightParenthesis ∷ []
follow_of f.Count = k.RightParenthesis ∷ []
follow_of f.SqlOr = behind_sql
follow_of f.SqlOrMore = behind_sql
follow_of f.SqlAnd = behind_sql
follow_of f.SqlAndMore = behind_sql
follow_of f.SqlNot = behind_sql
follow_of f.SqlCompare = behind_sql
follow_of f.SqlCompareMore = behind_sql
follow_of f.SqlSum = behind_sql
follow_of f.SqlSumMore = behind_sql
follow_of f.SqlProduct = behind_sql
follow_of f.SqlProductMore = behind_sql
follow_of f.SqlTerm = behind_sql
follow_of f.SqlBraceRest = behind_sql
follow_of _ = behind_operand
