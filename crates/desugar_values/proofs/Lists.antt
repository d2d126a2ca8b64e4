-- Lists of meanings, one part after another.
use Rattle.std.proofs.Common.{◌≡◌, List, [], ◌∷◌, ◌++◌, map, refl, ap, ◌∙◌, sym}
use Rattle.desugar_values.specs.Meanings.{MeaningTree, MeaningsTree, no_meaning, meaning, and_one}
use Rattle.desugar_values.specs.View.{meaning_tree, meanings_tree, meanings_from, meaning_step, meanings_step}
use Rattle.desugar_values.specs.declared.meaning.Meaning.{Meaning}
use Rattle.desugar_values.specs.declared.meaning.Meanings.{Meanings}
use Rattle.desugar_values.specs.declared.meaning.Meaning.TheOpen.{Meanings-F}
use Rattle.desugar_values.specs.declared.meaning.Meaning.TheViews.{out-Meanings, roll-Meanings}
use Rattle.desugar_values.specs.declared.meaning.Meaning.TheFolds.{fold_out-Meanings, fold-roll-Meanings}

pub meanings_tree_is : (ms : Meanings) → meanings_tree ms ≡ meanings_from (map meaning_tree (out-Meanings ms).items.items)
meanings_tree_is ms = fold_out-Meanings MeaningTree MeaningsTree meaning_step meanings_step ms

pub meanings_tree-roll : (r : Meanings-F Meaning Meanings) → meanings_tree (roll-Meanings r) ≡ meanings_from (map meaning_tree r.items.items)
meanings_tree-roll r = fold-roll-Meanings MeaningTree MeaningsTree meaning_step meanings_step r

-- one more at the end
pub from_more : {X : Type 0} (view : X → MeaningTree) (xs : List X) (x : X) → meanings_from (map view (xs ++ x ∷ [])) ≡ and_one (meanings_from (map view xs)) (view x)
from_more view [] x = refl
from_more view (y ∷ xs) x = ap (λ ms. meaning (view y) ms) (from_more view xs x)

-- what a loop has gathered, with one more
pub gathered_more : {X Y : Type 0} (view : X → Y) (xs : List X) (x : X) (ys : List Y) → map view (xs ++ x ∷ []) ++ ys ≡ map view xs ++ view x ∷ ys
gathered_more view [] x ys = refl
gathered_more view (z ∷ xs) x ys = ap (λ zs. view z ∷ zs) (gathered_more view xs x ys)

-- and all of it
pub gathered_all : {Y : Type 0} (ys : List Y) → ys ++ [] ≡ ys
gathered_all [] = refl
gathered_all (y ∷ ys) = ap (λ zs. y ∷ zs) (gathered_all ys)
