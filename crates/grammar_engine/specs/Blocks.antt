-- Why one step of reading is refused.
use Rattle.std.specs.Prelude.{◌≡◌, ◌<◌, ℕ, true, List, ◌∷◌, drop, Option, Some, None}
use Rattle.surface_tree.specs.declared.kind.Kind.{Kind}
use Rattle.surface_tree.specs.declared.token.Token.{Token}
use Rattle.surface_grammar.specs.declared.rule.Rule.{Rule}
use Rattle.surface_grammar.specs.Leads.{starts}
use Rattle.surface_grammar.specs.Sides.{is_tag}
use Rattle.surface_grammar.specs.Words.{accept}
use Rattle.grammar_engine.specs.declared.stop.Stop.{Stop}
use Rattle.grammar_engine.specs.declared.stop.Stop.TheVariants.{Refused, Memory}
use Rattle.grammar_engine.specs.Places.{name_at}
use Rattle.grammar_engine.specs.Rooms.{least_of}

-- the next token can't be taken for the word: there is none, it doesn't stand for the word, or it has another name
abbrev pub TakeBlocked : List Token → Kind → ℕ → ℕ → Stop → Type 0
TakeBlocked items w tag at (Refused place) =
    (t : Token) (rest : List Token) → drop at items ≡ t ∷ rest → accept w t.kind ≡ true
    → (is_tag w ≡ true → t.content ≡ name_at items tag) → ⊥
TakeBlocked items w tag at Memory = Unit {0}

-- there is less room than the rule needs
abbrev pub Cramped : Rule → ℕ → Stop → Type 0
Cramped q room (Refused place) = room < least_of q
Cramped q room Memory = Unit {0}

-- the token begins the rule
abbrev pub StartedBy : Option Kind → Rule → Type 0
StartedBy None q = ⊥
StartedBy (Some x) q = starts q x ≡ true
