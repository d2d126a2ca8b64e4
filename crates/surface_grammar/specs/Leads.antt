-- Which tokens begin a rule.
use Rattle.std.specs.Prelude.{Bool, false, not, ◌||◌, ◌&&◌, List, [], ◌∷◌, Some}
use Rattle.surface_tree.specs.declared.kind.Kind.{Kind}
use Rattle.surface_grammar.specs.declared.part.Part.{Part}
use Rattle.surface_grammar.specs.declared.part.Part.TheVariants.{Word, One, Many, Maybe}
use Rattle.surface_grammar.specs.declared.rule.Rule.{Rule}
use Rattle.surface_grammar.specs.Sides.{bars_of}
use Rattle.surface_grammar.specs.Table.{body_of}
use Rattle.surface_grammar.specs.Trees.{begins}
use Rattle.surface_grammar.specs.Words.{accept, any_accepts}

-- the token begins the parts: the first of them, or a later one where those before it may be empty
abbrev pub leads : List Part → Kind → Bool
leads [] x = false
leads (Word w ∷ ps) x = accept w x
leads (One g ∷ ps) x = begins g (Some x)
leads (Many g ∷ ps) x = begins g (Some x) || leads ps x
leads (Maybe g ∷ ps) x = begins g (Some x) || leads ps x

-- the token begins the rule
abbrev pub starts : Rule → Kind → Bool
starts q x = not (any_accepts (bars_of q) x) && leads (body_of q) x
