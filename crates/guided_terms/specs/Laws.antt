-- Statements about guided terms. None of them is proved yet, and nothing stands on them.
use Rattle.std.specs.Prelude.{◌≡◌}
use Rattle.con_terms.specs.Trees.{Cn}
use Rattle.con_terms.specs.Equal.{Equal}
use Rattle.core_terms.specs.Trees.{Ex}
use Rattle.plain_tree.specs.Trees.{ExpTree}
use Rattle.guided_terms.specs.Guided.{Guided, Determined}
use Rattle.guided_terms.specs.Heres.{Here}
use Rattle.guided_terms.specs.Matching.{Matches}
use Rattle.guided_terms.specs.SameTerms.{SameTerm}
use Rattle.guided_terms.specs.Wanted.{Want}
use Rattle.unknowns.specs.Unknowns.{Fd}

-- Unproved: a source has one guided term, of one type. Two that differ only in places, and in inserted types that are
-- equal, count as one.
abbrev pub OneTermIsGuided : Type 0
OneTermIsGuided = (h : Here) (w : Want) (s : ExpTree) (e d : Ex) (t u : Cn)
    → Guided h w s e t
    → Guided h w s d u
    → SameTerm e d × Equal t u

-- Unproved: a pattern and a type have one answer at most.
abbrev pub OneAnswer : Type 0
OneAnswer = (f g l : Fd) (p a : Cn) → Matches f p a g → Matches f p a l → g ≡ l

-- a term that counts as the guided one
abbrev pub CountsAsGuided : Here → Want → ExpTree → Ex → Cn → Type 0
CountsAsGuided h w s e t = (d : Ex) × (u : Cn) × Guided h w s d u × SameTerm d e × Equal u t

-- Unproved: a guided term is determined, whatever is asked of guards.
abbrev pub GuidedIsDetermined : Type 0
GuidedIsDetermined = (h : Here) (w : Want) (s : ExpTree) (e : Ex) (t : Cn)
    → Guided h w s e t
    → Determined h w s e t
