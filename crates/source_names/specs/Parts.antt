-- Parts of constructors that a walk finds, and what is asked of them.
use Rattle.std.specs.Prelude.{Bool, false, ◌&&◌, Option, Some, None}
use Rattle.con_terms.specs.Trees.{Cn}
use Rattle.con_terms.specs.View.{con_tree}
use Rattle.source_names.specs.declared.parts.Two.{Two}

-- the two sides of an application, or of a concatenation
abbrev pub two_trees : Two → Cn × Cn
two_trees t = (con_tree t.left.now, con_tree t.right.now)

-- whether there is a part, and it passes
abbrev pub if_any : (Cn → Bool) → Option Cn → Bool
if_any first None = false
if_any first (Some c) = first c

-- whether there are two parts, and each passes
abbrev pub if_both : (Cn → Bool) → (Cn → Bool) → Option (Cn × Cn) → Bool
if_both first second None = false
if_both first second (Some p) = first p.0 && second p.1
