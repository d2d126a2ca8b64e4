-- Modes: code, tags and text, and how tokens lead from one to another.
use Rattle.std.specs.Prelude.{List, [], ◌∷◌, Bool, true, false}
use Rattle.ur_lexer.specs.declared.state.Mode.{Mode}
use Rattle.ur_lexer.specs.declared.state.Mode.TheVariants.{Code, Tag, Text}
use Rattle.ur_lexer.specs.declared.state.Open.{Open}
use Rattle.ur_lexer.specs.declared.state.Open.TheVariants.{Brace, Literal, Element}
use Rattle.ur_lexer.specs.declared.state.Turn.{Turn}
use Rattle.ur_lexer.specs.declared.state.Turn.TheVariants.{Stay, EnterBrace, LeaveBrace, EnterLiteral, EnterTag, EnterElement, LeaveTag, LeaveElement}
use Rattle.ur_lexer.specs.Where.{Where}

-- a text begins in code, with nothing open
abbrev pub start : Where
start = record { mode = Code; around = [] }

-- whether the innermost thing that is open is an XML literal, so that no element is open in it
abbrev pub at_literal : List Open → Bool
at_literal [] = false
at_literal (Brace _ ∷ _) = false
at_literal (Literal ∷ _) = true
at_literal (Element ∷ _) = false

abbrev pub in_literal : Where → Bool
in_literal here = at_literal here.around

-- behind the end of what is open innermost: a brace leads back to the mode that it was met in, an XML literal
-- to code, an element to the text around it
abbrev pub left_from : Mode → List Open → Where
left_from now [] = record { mode = now; around = [] }
left_from _ (Brace back ∷ around) = record { mode = back; around = around }
left_from _ (Literal ∷ around) = record { mode = Code; around = around }
left_from _ (Element ∷ around) = record { mode = Text; around = around }

abbrev pub left : Where → Where
left here = left_from here.mode here.around

-- where the lexer is behind a token
abbrev pub turned : Turn → Where → Where
turned Stay here = here
turned EnterBrace here = record { mode = Code; around = Brace here.mode ∷ here.around }
turned LeaveBrace here = left here
turned EnterLiteral here = record { mode = Text; around = Literal ∷ here.around }
turned EnterTag here = record { mode = Tag; around = here.around }
turned EnterElement here = record { mode = Text; around = Element ∷ here.around }
turned LeaveTag here = record { mode = Text; around = here.around }
turned LeaveElement here = left here
