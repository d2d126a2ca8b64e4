-- What a type applies, and to what.
use Rattle.std.specs.Prelude.{List, [], ◌∷◌, ◌++◌}
use Rattle.con_terms.specs.Trees.{Cn, app}

abbrev pub head_of : Cn → Cn
head_of (app f a) = head_of f
head_of c = c

abbrev pub arguments_of : Cn → List Cn
arguments_of (app f a) = arguments_of f ++ a ∷ []
arguments_of c = []
