-- What is computed is the place of the first token that shows a form that isn't built yet.
use Rattle.std.proofs.Common.{◌≡◌, ℕ, Bool, true, false, List, [], ◌∷◌, Option, Some, None, if◌then◌else◌, refl, ap}
use Rattle.std.proofs.lemmas.List.Elements.{All-nil, All-cons}
use Rattle.surface_tree.specs.declared.token.Token.{Token}
use Rattle.unbuilt_forms.specs.Unbuilt.{IsBuilt, IsFirstUnbuilt, first_unbuilt, is_unbuilt}

pub first_is : (tokens : List Token) → IsFirstUnbuilt tokens (first_unbuilt tokens)
first_is [] = All-nil IsBuilt
first_is (t ∷ ts) = by_token (is_unbuilt t) refl (first_unbuilt ts) (first_is ts)
  where
    by_token : (b : Bool) → is_unbuilt t ≡ b → (o : Option ℕ) → IsFirstUnbuilt ts o → IsFirstUnbuilt (t ∷ ts) (if b then Some t.at else o)
    by_token true h o later = ([], t, ts, refl, All-nil IsBuilt, h, refl)
    by_token false h None later = All-cons IsBuilt t ts h later
    by_token false h (Some at) (before, token, after, is, none, there, place) =
        (t ∷ before, token, after, ap (λ (l : List Token). t ∷ l) is, All-cons IsBuilt t before h none, there, place)
