-- Words and symbols, in full, and how they are looked up.
use Rattle.std.specs.Prelude.{ℕ, Bool, List, [], ◌∷◌, length, Option, Some, None, not, ◌==◌, ◌&&◌, if◌then◌else◌, nat_eq, codes}
use Rattle.std.specs.List.{starts_with}
use Rattle.std.specs.Cmp.Lexicographic.{pointwise}
use Rattle.surface_tree.specs.declared.kind.Kind.{Kind}
use Rattle.surface_tree.specs.declared.kind.Kind.TheVariants.{Underscore, KeywordAnd, KeywordCase, KeywordCon, KeywordCookie, KeywordDatatype, KeywordElse, KeywordEnd, KeywordFn, KeywordFun, KeywordFunctor, KeywordIf, KeywordIn, KeywordLet, KeywordOf, KeywordOpen, KeywordRec, KeywordSequence, KeywordSig, KeywordSignature, KeywordStruct, KeywordStructure, KeywordTable, KeywordThen, KeywordType, KeywordVal, KeywordWhere, SqlAnd, SqlAs, SqlAsc, SqlBy, SqlConstraint, SqlDelete, SqlDesc, SqlFalse, SqlFrom, SqlInsert, SqlInto, SqlIs, SqlJoin, SqlKey, SqlLeft, SqlLimit, SqlNot, SqlNull, SqlOffset, SqlOn, SqlOr, SqlOrder, SqlPrimary, SqlSelect, SqlSet, SqlTrue, SqlUnique, SqlUpdate, SqlValues, SqlWhere, TypeWord, UnitWord, NameWord, XmlEmpty, XmlOpen, Ellipsis, TripleColon, TripleDash, DoubleAtSign, DoubleColon, Arrow, DoubleArrow, LeftArrow, NotEqual, LessOrEqual, GreaterOrEqual, DoublePlus, DoubleDash, DoubleAmpersand, DoubleBar, AtSign, Colon, EqualSign, LessThan, GreaterThan, Plus, Dash, Star, Slash, Percent, Caret, Exclamation, Tilde, Hash, Dollar, Dot, Comma, Semicolon, Bar, LeftParenthesis, RightParenthesis, LeftBracket, RightBracket, LeftBrace, RightBrace, TagSelfClose}
use Rattle.ur_lexer.specs.declared.state.Turn.{Turn}
use Rattle.ur_lexer.specs.declared.state.Turn.TheVariants.{Stay, EnterBrace, LeaveBrace, EnterLiteral, EnterElement, LeaveTag}
use Rattle.ur_lexer.specs.Bytes.{Bytes}

-- what is shaped as a lower-case name and is none: `_` alone, and the keywords
abbrev pub keywords : List (Bytes × Kind)
keywords =
    (codes "_", Underscore) ∷
    (codes "and", KeywordAnd) ∷
    (codes "case", KeywordCase) ∷
    (codes "con", KeywordCon) ∷
    (codes "cookie", KeywordCookie) ∷
    (codes "datatype", KeywordDatatype) ∷
    (codes "else", KeywordElse) ∷
    (codes "end", KeywordEnd) ∷
    (codes "fn", KeywordFn) ∷
    (codes "fun", KeywordFun) ∷
    (codes "functor", KeywordFunctor) ∷
    (codes "if", KeywordIf) ∷
    (codes "in", KeywordIn) ∷
    (codes "let", KeywordLet) ∷
    (codes "of", KeywordOf) ∷
    (codes "open", KeywordOpen) ∷
    (codes "rec", KeywordRec) ∷
    (codes "sequence", KeywordSequence) ∷
    (codes "sig", KeywordSig) ∷
    (codes "signature", KeywordSignature) ∷
    (codes "struct", KeywordStruct) ∷
    (codes "structure", KeywordStructure) ∷
    (codes "table", KeywordTable) ∷
    (codes "then", KeywordThen) ∷
    (codes "type", KeywordType) ∷
    (codes "val", KeywordVal) ∷
    (codes "where", KeywordWhere) ∷
    []

-- what is shaped as an upper-case name and has a kind of its own: the words of SQL, and the names of three kinds
abbrev pub upper_words : List (Bytes × Kind)
upper_words =
    (codes "AND", SqlAnd) ∷
    (codes "AS", SqlAs) ∷
    (codes "ASC", SqlAsc) ∷
    (codes "BY", SqlBy) ∷
    (codes "CONSTRAINT", SqlConstraint) ∷
    (codes "DELETE", SqlDelete) ∷
    (codes "DESC", SqlDesc) ∷
    (codes "FALSE", SqlFalse) ∷
    (codes "FROM", SqlFrom) ∷
    (codes "INSERT", SqlInsert) ∷
    (codes "INTO", SqlInto) ∷
    (codes "IS", SqlIs) ∷
    (codes "JOIN", SqlJoin) ∷
    (codes "KEY", SqlKey) ∷
    (codes "LEFT", SqlLeft) ∷
    (codes "LIMIT", SqlLimit) ∷
    (codes "NOT", SqlNot) ∷
    (codes "NULL", SqlNull) ∷
    (codes "OFFSET", SqlOffset) ∷
    (codes "ON", SqlOn) ∷
    (codes "OR", SqlOr) ∷
    (codes "ORDER", SqlOrder) ∷
    (codes "PRIMARY", SqlPrimary) ∷
    (codes "SELECT", SqlSelect) ∷
    (codes "SET", SqlSet) ∷
    (codes "TRUE", SqlTrue) ∷
    (codes "UNIQUE", SqlUnique) ∷
    (codes "UPDATE", SqlUpdate) ∷
    (codes "VALUES", SqlValues) ∷
    (codes "WHERE", SqlWhere) ∷
    (codes "Type", TypeWord) ∷
    (codes "Unit", UnitWord) ∷
    (codes "Name", NameWord) ∷
    []

-- the symbols of code, each with what it does to the mode
abbrev pub symbols : List (Bytes × Kind × Turn)
symbols =
    (codes "<xml/>", XmlEmpty, Stay) ∷
    (codes "<xml>", XmlOpen, EnterLiteral) ∷
    (codes "...", Ellipsis, Stay) ∷
    (codes ":::", TripleColon, Stay) ∷
    (codes "---", TripleDash, Stay) ∷
    (codes "@@", DoubleAtSign, Stay) ∷
    (codes "::", DoubleColon, Stay) ∷
    (codes "->", Arrow, Stay) ∷
    (codes "=>", DoubleArrow, Stay) ∷
    (codes "<-", LeftArrow, Stay) ∷
    (codes "<>", NotEqual, Stay) ∷
    (codes "<=", LessOrEqual, Stay) ∷
    (codes ">=", GreaterOrEqual, Stay) ∷
    (codes "++", DoublePlus, Stay) ∷
    (codes "--", DoubleDash, Stay) ∷
    (codes "&&", DoubleAmpersand, Stay) ∷
    (codes "||", DoubleBar, Stay) ∷
    (codes "@", AtSign, Stay) ∷
    (codes ":", Colon, Stay) ∷
    (codes "=", EqualSign, Stay) ∷
    (codes "<", LessThan, Stay) ∷
    (codes ">", GreaterThan, Stay) ∷
    (codes "+", Plus, Stay) ∷
    (codes "-", Dash, Stay) ∷
    (codes "*", Star, Stay) ∷
    (codes "/", Slash, Stay) ∷
    (codes "%", Percent, Stay) ∷
    (codes "^", Caret, Stay) ∷
    (codes "!", Exclamation, Stay) ∷
    (codes "~", Tilde, Stay) ∷
    (codes "#", Hash, Stay) ∷
    (codes "$", Dollar, Stay) ∷
    (codes ".", Dot, Stay) ∷
    (codes ",", Comma, Stay) ∷
    (codes ";", Semicolon, Stay) ∷
    (codes "|", Bar, Stay) ∷
    (codes "(", LeftParenthesis, Stay) ∷
    (codes ")", RightParenthesis, Stay) ∷
    (codes "[", LeftBracket, Stay) ∷
    (codes "]", RightBracket, Stay) ∷
    (codes "{", LeftBrace, EnterBrace) ∷
    (codes "}", RightBrace, LeaveBrace) ∷
    []

-- the symbols of a tag
abbrev pub tag_symbols : List (Bytes × Kind × Turn)
tag_symbols =
    (codes "/>", TagSelfClose, LeaveTag) ∷
    (codes "=", EqualSign, Stay) ∷
    (codes ">", GreaterThan, EnterElement) ∷
    (codes "{", LeftBrace, EnterBrace) ∷
    []

-- the kind of a word of a table
abbrev pub word_kind : List (Bytes × Kind) → Bytes → Option Kind
word_kind [] word = None
word_kind (entry ∷ table) word = if pointwise nat_eq entry.0 word then Some entry.1 else word_kind table word

abbrev pub stands : Bytes → Bytes → Bool
stands symbol bytes = not (length symbol == 0) && starts_with nat_eq bytes symbol

-- the first symbol of a table that stands at the front of the bytes: its kind, its length, and what it does to
-- the mode
abbrev pub symbol_at : List (Bytes × Kind × Turn) → Bytes → Option (Kind × ℕ × Turn)
symbol_at [] bytes = None
symbol_at (entry ∷ table) bytes =
    if stands entry.0 bytes then Some (entry.1, length entry.0, entry.2) else symbol_at table bytes
