-- Where the values of a program stand, and copies of names.
use Rattle.std.proofs.Common.{◌≡◌, ℕ, suc, ◌+◌, ◌<◌, ◌≤◌, List, [], ◌∷◌, ◌++◌, length, map, get_or, drop, refl, ap, sym, ◌∙◌, arith, drop-cons, drop_of_length-le}
use Rattle.std.proofs.lemmas.List.{append_assoc, append-nil, map-append}
use Rattle.con_terms.specs.declared.place.Place.{Place}
use Rattle.core_terms.specs.Trees.{Ex, Nms, no_named, named, De, val, vals, con_is, datatype, thing}
use Rattle.core_terms.specs.View.{decl_tree, named_from, named_tree}
use Rattle.core_terms.specs.declared.decl.Decl.{Decl}
use Rattle.core_terms.specs.declared.exp.Named.{Named}
use Rattle.core_typing.specs.Declarations.{Value, named_values, values}
use Rattle.core_checker.specs.Twice.{places_of, named_places, decl_places, all_places}
use Rattle.core_checker.proofs.DeclSteps.{open_at}

-- the places of names that are declared together
pub names_on : (xs : List Named) (i : ℕ) (x : Named) (old new all : List Place) → x ≡ get_or xs i x → i < length xs →
    new ≡ old ++ (named_tree x).0 ∷ [] →
    old ++ named_places (named_from (map named_tree (drop i xs))) ≡ all →
    new ++ named_places (named_from (map named_tree (drop (i + 1) xs))) ≡ all
names_on xs i x old new all e h n k =
    let rest = named_places (named_from (map named_tree (drop (i + 1) xs))) in
    ap (λ ys. ys ++ rest) n ∙ append_assoc old ((named_tree x).0 ∷ []) rest
    ∙ ap (λ ys. old ++ named_places (named_from (map named_tree ys))) (sym (open_at xs i x e h)) ∙ k

pub names_end : (xs : List Named) (i : ℕ) (old all : List Place) → length xs ≤ i →
    old ++ named_places (named_from (map named_tree (drop i xs))) ≡ all → old ≡ all
names_end xs i old all h k =
    sym (append-nil old) ∙ ap (λ ys. old ++ named_places (named_from (map named_tree ys))) (sym (drop_of_length-le xs h)) ∙ k

-- of declarations
pub places_on : (xs : List Decl) (i : ℕ) (x : Decl) (old new all : List Place) → x ≡ get_or xs i x → i < length xs →
    new ≡ old ++ decl_places (decl_tree x) →
    old ++ all_places (map decl_tree (drop i xs)) ≡ all →
    new ++ all_places (map decl_tree (drop (i + 1) xs)) ≡ all
places_on xs i x old new all e h n k =
    let rest = all_places (map decl_tree (drop (i + 1) xs)) in
    ap (λ ys. ys ++ rest) n ∙ append_assoc old (decl_places (decl_tree x)) rest
    ∙ ap (λ ys. old ++ all_places (map decl_tree ys)) (sym (open_at xs i x e h)) ∙ k

pub places_end : (xs : List Decl) (i : ℕ) (old all : List Place) → length xs ≤ i →
    old ++ all_places (map decl_tree (drop i xs)) ≡ all → old ≡ all
places_end xs i old all h k =
    sym (append-nil old) ∙ ap (λ ys. old ++ all_places (map decl_tree ys)) (sym (drop_of_length-le xs h)) ∙ k

-- they are those of the values
named_are : (path : List ℕ) (ns : Nms) → named_places ns ≡ places_of (named_values path ns)
named_are path no_named = refl
named_are path (named p x w t e ns) = ap (λ qs. p ∷ qs) (named_are path ns)

pub places_are : (ds : List De) → all_places ds ≡ places_of (values ds)
places_are [] = refl
places_are (val path p x w t e ∷ ds) = ap (λ qs. p ∷ qs) (places_are ds)
places_are (vals path ns ∷ ds) =
    ap (λ qs. qs ++ all_places ds) (named_are path ns) ∙ ap (λ qs. places_of (named_values path ns) ++ qs) (places_are ds)
    ∙ sym (map-append (λ (v : Value). v.place) (named_values path ns) (values ds))
places_are (con_is path p x w k c ∷ ds) = places_are ds
places_are (datatype d ∷ ds) = places_are ds
places_are (thing path p x k t ∷ ds) = ap (λ qs. p ∷ qs) (places_are ds)

-- a copy of texts
pub texts_on : (xs : List (List ℕ)) (i : ℕ) (x : List ℕ) (old new : List (List ℕ)) → x ≡ get_or xs i [] → i < length xs →
    new ≡ old ++ x ∷ [] → old ++ drop i xs ≡ xs → new ++ drop (i + 1) xs ≡ xs
texts_on xs i x old new e h n k =
    ap (λ ys. ys ++ drop (i + 1) xs) n ∙ append_assoc old (x ∷ []) (drop (i + 1) xs)
    ∙ ap (λ y. old ++ y ∷ drop (i + 1) xs) e
    ∙ ap (λ m. old ++ get_or xs i [] ∷ drop m xs) (let p : i + 1 ≡ suc i = omega arith in p)
    ∙ ap (λ ys. old ++ ys) (sym (drop-cons xs i [] h)) ∙ k

pub texts_end : (xs : List (List ℕ)) (i : ℕ) (old : List (List ℕ)) → length xs ≤ i → old ++ drop i xs ≡ xs → old ≡ xs
texts_end xs i old h k = sym (append-nil old) ∙ ap (λ ys. old ++ ys) (sym (drop_of_length-le xs h)) ∙ k
