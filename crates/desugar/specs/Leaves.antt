-- Tokens as what trees stand for.
use Rattle.std.specs.Prelude.{codes}
use Rattle.surface_tree.specs.declared.kind.Kind.{Kind}
use Rattle.surface_tree.specs.declared.kind.Kind.TheVariants.{TypeWord, UnitWord, NameWord}
use Rattle.surface_tree.specs.declared.token.Token.{Token}
use Rattle.surface_tree.specs.declared.token.Content.{Content}
use Rattle.surface_tree.specs.declared.token.Content.TheVariants.{Characters}

-- what a token holds; the words for kinds, which are upper-case names too, hold their spelling
abbrev pub spelled_content : Kind → Content → Content
spelled_content TypeWord c = Characters (codes "Type")
spelled_content UnitWord c = Characters (codes "Unit")
spelled_content NameWord c = Characters (codes "Name")
spelled_content _ c = c

abbrev pub spelled : Token → Token
spelled t = record { kind = t.kind; at = t.at; content = spelled_content t.kind t.content }
