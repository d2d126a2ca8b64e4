-- The words that begin a tree of a form, as the rules give them.
use Rattle.std.specs.Prelude.{◌≡◌, ◌+◌, ℕ, zero, suc, Bool, false, ◌||◌, ◌==◌, if◌then◌else◌, List, [], ◌∷◌, ◌++◌}
use Rattle.surface_tree.specs.declared.kind.Kind.{Kind}
use Rattle.surface_grammar.specs.declared.form.Form.{Form}
use Rattle.surface_grammar.specs.declared.part.Part.{Part}
use Rattle.surface_grammar.specs.declared.part.Part.TheVariants.{Word, One, Many, Maybe}
use Rattle.surface_grammar.specs.declared.rule.Rule.{Rule}
use Rattle.surface_grammar.specs.Forms.{rules_of}
use Rattle.surface_grammar.specs.Sides.{bars_of}
use Rattle.surface_grammar.specs.Table.{body_of}
use Rattle.surface_grammar.specs.Words.{kind_code, any_accepts}

-- the word stands in the list
abbrev pub holds : Kind → List Kind → Bool
holds x [] = false
holds x (w ∷ ws) = (kind_code w == kind_code x) || holds x ws

-- the words of the first list, and behind them those of the second that it hasn't
abbrev pub joined : List Kind → List Kind → List Kind
joined ws [] = ws
joined ws (v ∷ vs) = joined (if holds v ws then ws else ws ++ v ∷ []) vs

-- the words that the bars leave
abbrev pub free : List Kind → List Kind → List Kind
free bars [] = []
free bars (w ∷ ws) = if any_accepts bars w then free bars ws else w ∷ free bars ws

-- the words that begin the parts, where these begin each form: those of the first part, and of a later one where all
-- before it may be empty
abbrev pub heads : (Form → List Kind) → List Part → List Kind
heads first [] = []
heads first (Word w ∷ ps) = w ∷ []
heads first (One g ∷ ps) = first g
heads first (Many g ∷ ps) = joined (first g) (heads first ps)
heads first (Maybe g ∷ ps) = joined (first g) (heads first ps)

-- the words that begin one of the rules
abbrev pub rule_heads : (Form → List Kind) → List Rule → List Kind
rule_heads first [] = []
rule_heads first (q ∷ qs) = joined (free (bars_of q) (heads first (body_of q))) (rule_heads first qs)

-- the words that begin a tree of the form whose first token lies in at most so many trees within each other
abbrev pub first_in : ℕ → Form → List Kind
first_in zero g = []
first_in (suc n) g = rule_heads (first_in n) (rules_of g)

-- the words that begin a tree of the form: sixteen trees within each other are as many as begin with one token
unfoldable pub first_of : Form → List Kind
first_of g = first_in 16 g

-- more trees within each other add no word
abbrev pub WordsAreComputed : Type 0
WordsAreComputed = (g : Form) (more : ℕ) → first_in (16 + more) g ≡ first_of g
