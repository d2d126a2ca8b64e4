-- Parts one after another.
use Rattle.std.proofs.Common.{◌≡◌, ℕ, List, [], ◌∷◌, ◌++◌, map, refl, ap, sym, ◌∙◌}
use Rattle.con_terms.specs.declared.place.Place.{Place}
use Rattle.plain_tree.specs.ExpView.{arg_tree}
use Rattle.plain_tree.specs.declared.arg.Arg.{Arg}
use Rattle.placed_terms.specs.Source.{parameter_then, parameters_then}
use Rattle.placed_terms.specs.declared.made_parts.MadePart.{MadePart}
use Rattle.placed_terms.specs.declared.source_parts.SourcePart.{SourcePart}
use Rattle.placed_terms.specs.Parts.{made_before, made_listed, made_then, source_before, source_listed, source_then}
use Rattle.placed_terms.specs.Parts.{then_all}

made_last : (xs : List MadePart) (x : MadePart) (more : List Place)
    → made_before (xs ++ x ∷ []) more ≡ made_then x (made_before xs more)
made_last [] x more = refl
made_last (y ∷ ys) x more = made_last ys x (made_then y more)

pub made_push : (xs : List MadePart) (x : MadePart) → made_listed (xs ++ x ∷ []) ≡ made_then x (made_listed xs)
made_push xs x = made_last xs x []

source_last : (xs : List SourcePart) (x : SourcePart) (more : List ℕ)
    → source_before (xs ++ x ∷ []) more ≡ source_then x (source_before xs more)
source_last [] x more = refl
source_last (y ∷ ys) x more = source_last ys x (source_then y more)

pub source_push : (xs : List SourcePart) (x : SourcePart)
    → source_listed (xs ++ x ∷ []) ≡ source_then x (source_listed xs)
source_push xs x = source_last xs x []

-- the last element of a list is the first that is put
pub all_last : {A B : Type 0} (one : A → B → B) (xs : List A) (x : A) (more : B)
    → then_all one (xs ++ x ∷ []) more ≡ then_all one xs (one x more)
all_last one [] x more = refl
all_last one (y ∷ ys) x more = ap (one y) (all_last one ys x more)

-- a step of a loop that puts the last element of what is left
pub all_step : {A B : Type 0} (one : A → B → B) (rest others : List A) (last : A) (before after whole : B)
    → then_all one rest before ≡ whole → rest ≡ others ++ last ∷ [] → after ≡ one last before
    → then_all one others after ≡ whole
all_step one rest others last before after whole i e n =
    ap (then_all one others) n ∙ sym (all_last one others last before) ∙ sym (ap (λ xs. then_all one xs before) e) ∙ i

-- the same for parameters of a function, all of which stand at one byte
pub parameter_last : (at : ℕ) (xs : List Arg) (x : Arg) (more : List ℕ)
    → parameters_then at (map arg_tree (xs ++ x ∷ [])) more
    ≡ parameters_then at (map arg_tree xs) (at ∷ parameter_then (arg_tree x) more)
parameter_last at [] x more = refl
parameter_last at (y ∷ ys) x more = ap (λ z. at ∷ parameter_then (arg_tree y) z) (parameter_last at ys x more)
