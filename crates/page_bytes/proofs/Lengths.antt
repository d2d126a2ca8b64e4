-- Lengths of bytes one after the other.
use Rattle.std.proofs.Common.{◌≡◌, ℕ, ◌+◌, List, ◌++◌, length, length-append, min, subst, arith}
use Rattle.xml_trees.specs.Markup.{Markup}
use Rattle.xml_trees.specs.Grammar.{IsPage}
use Rattle.page_bytes.specs.Lengths.{length_told}
use Rattle.page_bytes.specs.Pages.{IsLengthOf}

pub told_then : (x y : List ℕ) (a b r : ℕ) → a ≡ length_told x → b ≡ length_told y → r ≡ min (a + b) 16777217 → r ≡ length_told (x ++ y)
told_then x y a b r p q e = omega (arith, length-append x y)

pub told_all : (x all : List ℕ) (r : ℕ) → x ≡ all → r ≡ length_told x → r ≡ length_told all
told_all x all r e p = subst (λ (l : List ℕ). r ≡ length_told l) e p

-- the bytes of a page's trees, and what stands around them
pub told_framed : (front bytes back : List ℕ) (a r : ℕ) → length front + length back ≡ 28 → a ≡ length_told bytes → r ≡ min (a + 28) 16777217 → r ≡ length_told (front ++ (bytes ++ back))
told_framed front bytes back a r n p e = omega (arith, length-append front (bytes ++ back), length-append bytes back)

pub is_length : (bytes : List ℕ) (trees : Markup) (r : ℕ) → IsPage bytes trees → r ≡ length_told bytes → IsLengthOf r trees
is_length bytes trees r page e = (bytes, page, e)
