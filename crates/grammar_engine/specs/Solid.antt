-- The first of what is still to be read that can't be left out.
use Rattle.std.specs.Prelude.{List, [], ◌∷◌, Option, Some, None}
use Rattle.surface_grammar.specs.declared.part.Part.{Part}
use Rattle.surface_grammar.specs.declared.part.Part.TheVariants.{Word, One, Many, Maybe}
use Rattle.grammar_engine.specs.declared.want.Want.{Want}

-- this one, or one behind it where it may be left out
abbrev pub solid_or : Part → Want → Option Want → Option Want
solid_or (Word x) w later = Some w
solid_or (One g) w later = Some w
solid_or (Many g) w later = later
solid_or (Maybe g) w later = later

abbrev pub first_solid : List Want → Option Want
first_solid [] = None
first_solid (w ∷ ws) = solid_or w.part w (first_solid ws)
