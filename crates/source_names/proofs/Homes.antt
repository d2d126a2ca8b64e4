-- Modules that are seen with the last one first.
use Rattle.std.proofs.Common.{◌≡◌, ◌+◌, ◌-◌, ◌<◌, List, [], ◌∷◌, length, map, reverse, take, get_or, ap, sym, ◌∙◌, arith}
use Rattle.std.proofs.lemmas.List.{take_all, take_more, map-append, reverse-append}
use Rattle.source_names.specs.Scopes.{Words, capital}
use Rattle.source_names.specs.Standing.{home_of, module_named}

pub turned_last : {A B : Type 0} (f : A → B) (xs : List A) (d : A) → 0 < length xs →
    reverse (map f xs) ≡ f (get_or xs (length xs - 1) d) ∷ reverse (map f (take (length xs - 1) xs))
turned_last f xs d h =
    ap (λ l. reverse (map f l))
    (sym (take_all (length xs - 1 + 1) xs (omega arith)) ∙ take_more xs (length xs - 1) d (omega arith))
    ∙ ap reverse (map-append f (take (length xs - 1) xs) (get_or xs (length xs - 1) d ∷ []))
    ∙ reverse-append (map f (take (length xs - 1) xs)) (f (get_or xs (length xs - 1) d) ∷ [])

-- what one name before the dot leads to
pub home_by_name : (ms xs : List Words) (m : Words) → length ms ≡ 1 → m ≡ get_or ms 0 m → 0 < length xs →
    module_named m (reverse (map capital (take (length xs - 1) xs))) ≡ home_of ms (reverse (map capital xs))
home_by_name [] xs m one is h = absurd (omega arith)
home_by_name (k ∷ []) xs m one is h =
    ap (λ y. module_named y (reverse (map capital (take (length xs - 1) xs)))) is
    ∙ ap (home_of (k ∷ [])) (sym (turned_last capital xs [] h))
home_by_name (k ∷ j ∷ ks) xs m one is h = absurd (omega arith)
