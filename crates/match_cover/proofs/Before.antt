-- The datatypes of declarations, one after another.
use Rattle.std.proofs.Common.{◌≡◌, ℕ, ◌+◌, ◌<◌, ◌≤◌, List, ◌∷◌, ◌++◌, length, map, take, get_or, ap, sym, ◌∙◌, arith, append_assoc, take_all, []}
use Rattle.std.proofs.lemmas.List.{map_more, take-map, length-map}
use Rattle.core_terms.specs.Trees.{Dt}
use Rattle.core_terms.specs.View.{decl_tree}
use Rattle.core_terms.specs.declared.decl.Decl.{Decl}
use Rattle.core_terms.specs.Datatypes.{basis_datatypes}
use Rattle.core_typing.specs.Declarations.{datatypes, datatypes_before}
use Rattle.core_typing.proofs.AcceptedScopes.{datatypes_of as datatypes_end}

one_more : (xs : List Decl) (i : ℕ) (d : Decl) → i < length xs → d ≡ get_or xs i d → take (i + 1) (map decl_tree xs) ≡ take i (map decl_tree xs) ++ decl_tree d ∷ []
one_more xs i d h e =
    take-map decl_tree (i + 1) xs ∙ map_more decl_tree xs i d h ∙ ap (λ x. map decl_tree (take i xs) ++ decl_tree x ∷ []) (sym e)
    ∙ ap (λ ys. ys ++ decl_tree d ∷ []) (sym (take-map decl_tree i xs))

pub before_on : (xs : List Decl) (i : ℕ) (d : Decl) (all more : List Dt) → i < length xs → d ≡ get_or xs i d
    → all ≡ datatypes_before i (map decl_tree xs) → more ≡ all ++ datatypes (decl_tree d ∷ [])
    → more ≡ datatypes_before (i + 1) (map decl_tree xs)
before_on xs i d all more h is before e =
    e ∙ ap (λ ds. ds ++ datatypes (decl_tree d ∷ [])) before
    ∙ append_assoc basis_datatypes (datatypes (take i (map decl_tree xs))) (datatypes (decl_tree d ∷ []))
    ∙ ap (λ ds. basis_datatypes ++ ds) (sym (datatypes_end (take i (map decl_tree xs)) (decl_tree d ∷ [])))
    ∙ ap (λ ds. basis_datatypes ++ datatypes ds) (sym (one_more xs i d h is))

pub before_all : (xs : List Decl) (i c : ℕ) (all : List Dt) → length xs ≤ i → i ≤ c → all ≡ datatypes_before i (map decl_tree xs) → all ≡ datatypes_before c (map decl_tree xs)
before_all xs i c all h k e =
    e ∙ ap (λ ds. basis_datatypes ++ datatypes ds)
    (take_all i (map decl_tree xs) (omega (arith, h, length-map xs decl_tree)) ∙ sym (take_all c (map decl_tree xs) (omega (arith, h, k, length-map xs decl_tree))))
