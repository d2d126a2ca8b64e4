-- How much room a rule needs.
use Rattle.std.specs.Prelude.{ℕ}
use Rattle.surface_grammar.specs.declared.constructors.ConRule.TheVariants as con
use Rattle.surface_grammar.specs.declared.expressions.ExpRule.TheVariants as exp
use Rattle.surface_grammar.specs.declared.queries.SqlRule.TheVariants as sql
use Rattle.surface_grammar.specs.declared.rule.Rule.{Rule}
use Rattle.surface_grammar.specs.declared.rule.Rule.TheVariants as r
use Rattle.surface_grammar.specs.Trees.{depth_of}

-- how many levels every tree of the rule has, as far as a part that it must have shows it
abbrev pub least_of : Rule → ℕ
least_of (r.Con con.ConBracket) = 1
least_of (r.Con con.BracketInt) = 1
least_of (r.Con con.BracketLower) = 1
least_of (r.Con con.BracketUpper) = 1
least_of (r.Con con.BracketHash) = 1
least_of (r.Con con.BracketHashUpper) = 1
least_of (r.Exp exp.ExpBind) = 1
least_of (r.Sql sql.SqlInsert) = 1
least_of (r.Sql sql.ItemBraces) = 2
least_of (r.Sql sql.TableBraces) = 2
least_of q = depth_of q
