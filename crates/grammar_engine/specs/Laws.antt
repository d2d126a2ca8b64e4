-- The laws of the table that one token decides: computed for each form and each kind of token.
use Rattle.std.specs.Prelude.{Bool, true, false, not, ◌&&◌, ◌||◌, if◌then◌else◌, List, [], ◌∷◌, Some}
use Rattle.surface_tree.specs.declared.kind.Kind.{Kind}
use Rattle.surface_grammar.specs.declared.form.Form.{Form}
use Rattle.surface_grammar.specs.declared.form.Form.TheVariants as f
use Rattle.surface_grammar.specs.declared.part.Part.{Part}
use Rattle.surface_grammar.specs.declared.part.Part.TheVariants.{Word, One, Many, Maybe}
use Rattle.surface_grammar.specs.declared.rule.Rule.{Rule}
use Rattle.surface_grammar.specs.Forms.{rules_of}
use Rattle.surface_grammar.specs.Leads.{starts}
use Rattle.surface_grammar.specs.Table.{body_of}
use Rattle.surface_grammar.specs.Trees.{begins}

-- the two forms with rules that one token does not tell apart
abbrev pub is_raced_form : Form → Bool
is_raced_form f.Exp = true
is_raced_form f.SqlBraceRest = true
is_raced_form _ = false

-- the token begins no rule of the list, exactly one, at least one
abbrev pub starts_none : List Rule → Kind → Bool
starts_none [] x = true
starts_none (q ∷ qs) x = not (starts q x) && starts_none qs x

abbrev pub starts_single : List Rule → Kind → Bool
starts_single [] x = true
starts_single (q ∷ qs) x = if starts q x then starts_none qs x else starts_single qs x

-- the tokens that begin a form are those that begin its rules, and each begins one rule of it alone, but in
-- the two raced forms
abbrev pub one_token_decides : Form → Kind → Bool
one_token_decides g x =
    (if begins g (Some x) then not (starts_none (rules_of g) x) else starts_none (rules_of g) x)
    && (is_raced_form g || starts_single (rules_of g) x)

-- the parts hold one that can't be left out, so that each tree has a token
abbrev pub solid : List Part → Bool
solid [] = false
solid (Word w ∷ ps) = true
solid (One g ∷ ps) = true
solid (Many g ∷ ps) = solid ps
solid (Maybe g ∷ ps) = solid ps

abbrev pub all_solid : List Rule → Bool
all_solid [] = true
all_solid (q ∷ qs) = solid (body_of q) && all_solid qs

abbrev pub every_kind : (Kind → Bool) → List Kind → Bool
every_kind p [] = true
every_kind p (x ∷ xs) = p x && every_kind p xs
