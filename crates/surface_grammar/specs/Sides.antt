-- What a rule asks beside its parts.
use Rattle.std.specs.Prelude.{Bool, true, false, List, [], ◌∷◌}
use Rattle.surface_tree.specs.declared.kind.Kind.{Kind}
use Rattle.surface_tree.specs.declared.kind.Kind.TheVariants as k
use Rattle.surface_grammar.specs.declared.rule.Rule.{Rule}
use Rattle.surface_grammar.specs.declared.rule.Rule.TheVariants as r
use Rattle.surface_grammar.specs.declared.kinds.KindRule.TheVariants as kind
use Rattle.surface_grammar.specs.declared.constructors.ConRule.TheVariants as con
use Rattle.surface_grammar.specs.declared.patterns.PatRule.TheVariants as pat
use Rattle.surface_grammar.specs.declared.parameters.ArgRule.TheVariants as arg
use Rattle.surface_grammar.specs.declared.expressions.ExpRule.TheVariants as exp
use Rattle.surface_grammar.specs.declared.markup.MarkupRule.TheVariants as markup
use Rattle.surface_grammar.specs.declared.declarations.DeclRule.TheVariants as decl
use Rattle.surface_grammar.specs.declared.queries.SqlRule.TheVariants as sql

-- everything in a tree of the rule lies one deeper
abbrev pub is_deep : Rule → Bool
is_deep (r.Kind kind.KindArrow) = true
is_deep (r.Kind kind.KindRow) = true
is_deep (r.Kind kind.KindTuple) = true
is_deep (r.Con con.ConLambda) = true
is_deep (r.Con con.ConExplicit) = true
is_deep (r.Con con.ConImplicit) = true
is_deep (r.Con con.ConArrow) = true
is_deep (r.Con con.ConParens) = true
is_deep (r.Con con.ConFields) = true
is_deep (r.Con con.ConRow) = true
is_deep (r.Con con.BracketOpen) = true
is_deep (r.Con con.BracketGuard) = true
is_deep (r.Con con.BracketFields) = true
is_deep (r.Con con.BracketNameGuard) = true
is_deep (r.Con con.BracketUpperGuard) = true
is_deep (r.Con con.BracketHashInt) = true
is_deep (r.Con con.GuardSides) = true
is_deep (r.Con con.NameSides) = true
is_deep (r.Con con.PathSides) = true
is_deep (r.Con con.IntSides) = true
is_deep (r.Pat pat.PatCons) = true
is_deep (r.Pat pat.PatList) = true
is_deep (r.Pat pat.PatParens) = true
is_deep (r.Pat pat.PatRecord) = true
is_deep (r.Arg arg.ArgBracket) = true
is_deep (r.Exp exp.ExpBindRest) = true
is_deep (r.Exp exp.ExpThen) = true
is_deep (r.Exp exp.TermLambda) = true
is_deep (r.Exp exp.TermCase) = true
is_deep (r.Exp exp.TermIf) = true
is_deep (r.Exp exp.BodyIf) = true
is_deep (r.Exp exp.ConsMore) = true
is_deep (r.Exp exp.SignMinus) = true
is_deep (r.Exp exp.ArgumentBracket) = true
is_deep (r.Exp exp.AtomList) = true
is_deep (r.Exp exp.PrimaryParens) = true
is_deep (r.Exp exp.PrimaryRecord) = true
is_deep (r.Exp exp.PrimaryLet) = true
is_deep (r.Markup markup.NodeBrace) = true
is_deep (r.Markup markup.NodeElement) = true
is_deep (r.Markup markup.Splice) = true
is_deep (r.Markup markup.TagName) = true
is_deep (r.Markup markup.AttributeExp) = true
is_deep (r.Decl decl.ColumnList) = true
is_deep (r.Sql sql.ValueList) = true
is_deep (r.Sql sql.ItemBraces) = true
is_deep (r.Sql sql.ItemBracesRow) = true
is_deep (r.Sql sql.TableBraces) = true
is_deep (r.Sql sql.TableBracesExp) = true
is_deep (r.Sql sql.CountExp) = true
is_deep (r.Sql sql.SqlNegated) = true
is_deep (r.Sql sql.SqlNegative) = true
is_deep (r.Sql sql.SqlBrace) = true
is_deep (r.Sql sql.SqlParens) = true
is_deep _ = false

-- words that the first token of the rule may not stand for: another rule reads them there
abbrev pub bars_of : Rule → List Kind
bars_of (r.Con con.ConOther) = k.LowerName ∷ k.LeftBracket ∷ []
bars_of (r.Con con.BracketGuard) = k.LowerName ∷ k.UpperName ∷ k.Hash ∷ []
bars_of (r.Pat pat.PatPlain) = k.UpperName ∷ []
bars_of (r.Arg arg.ArgPattern) = k.LeftBracket ∷ []
bars_of (r.Arg arg.ArgGuard) = k.LowerName ∷ []
bars_of (r.Markup markup.NodeExp) = k.LeftBracket ∷ []
bars_of (r.Sql sql.ItemOther) = k.LowerName ∷ k.UpperName ∷ []
bars_of _ = []

-- an element, whose closing tag has the name of its opening tag
abbrev pub is_element : Rule → Bool
is_element (r.Markup markup.NodeElement) = true
is_element _ = false

-- a word whose token has the name of the innermost element
abbrev pub is_tag : Kind → Bool
is_tag k.TagOpen = true
is_tag k.TagClose = true
is_tag _ = false
