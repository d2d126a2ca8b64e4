-- What a reader leaves to another.
use Rattle.std.specs.Prelude.{Bool, true, false, List, Option, Some, None}
use Rattle.surface_grammar.specs.declared.fault.Hole.{Hole}
use Rattle.surface_grammar.specs.declared.fault.Hole.TheVariants as hole
use Rattle.surface_grammar.specs.declared.form.Form.{Form}
use Rattle.surface_grammar.specs.declared.form.Form.TheVariants as f
use Rattle.surface_grammar.specs.declared.part.Part.{Part}
use Rattle.surface_grammar.specs.declared.part.Part.TheVariants.{One, Many, Maybe}
use Rattle.surface_grammar.specs.Listings.{Listing}
use Rattle.surface_grammar.specs.Trees.{Node}
use Rattle.grammar_engine.specs.Leaving.{outer_in}

-- an expression and a constructor
abbrev pub hole_of : Part → Option Hole
hole_of (One f.Exp) = Some hole.Exp
hole_of (One f.Con) = Some hole.Con
hole_of _ = None

-- the form of the trees that fill the hole
abbrev pub form_of : Hole → Form
form_of hole.Exp = f.Exp
form_of hole.Con = f.Con

-- such a form
abbrev pub is_hole : Form → Bool
is_hole f.Exp = true
is_hole f.Con = true
is_hole _ = false

-- the outermost expressions and constructors of a tree for the part, from left to right
abbrev pub holes_in : Node → Part → List Listing
holes_in n p = outer_in is_hole n p

-- a part of the one form that stands only in constructors, and of which the next token doesn't tell whether a tree is
-- there
abbrev pub is_open_part : Part → Bool
is_open_part (Many f.ConForall) = true
is_open_part (Maybe f.ConForall) = true
is_open_part _ = false
