-- What is made unless memory ends.
use Rattle.std.specs.Prelude.{◌≡◌, Result, IfOk}
use Rattle.std.specs.declared.alloc.AllocError.{AllocError}
use Rattle.con_terms.specs.Trees.{Cn, Kd, Prs}
use Rattle.con_terms.specs.View.{con_tree, kind_tree, pairs_tree}
use Rattle.con_terms.specs.declared.con.Con.{Con}
use Rattle.con_terms.specs.declared.con.Pair.{Pair}
use Rattle.con_terms.specs.declared.con.Pairs.{Pairs}
use Rattle.con_terms.specs.declared.kind.Kind.{Kind}

-- a constructor that was made is this tree
abbrev pub Makes : Result Con AllocError → Cn → Type 0
Makes r t = IfOk r (λ c. con_tree c ≡ t)

-- a kind that was made is this tree
abbrev pub MakesKind : Result Kind AllocError → Kd → Type 0
MakesKind r t = IfOk r (λ k. kind_tree k ≡ t)

-- a field that was made has this name and this value
abbrev pub MakesPair : Result Pair AllocError → Cn × Cn → Type 0
MakesPair r t = IfOk r (λ p. (con_tree p.name, con_tree p.value) ≡ t)

-- fields that were made are these
abbrev pub MakesPairs : Result Pairs AllocError → Prs → Type 0
MakesPairs r t = IfOk r (λ ps. pairs_tree ps ≡ t)
