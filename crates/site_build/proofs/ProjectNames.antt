-- The name of a project's file among others (for `project_name` and the laws).
use Rattle.std.proofs.Common.{◌≡◌, ℕ, zero, suc, ◌<◌, ◌⊎◌, inl, inr, ⊎_elim, Bool, true, false, cond, List, [], ◌∷◌, length, get_or, refl, sym, ap, ◌∙◌, arith}
use Rattle.std.specs.Prelude.{filter}
use Rattle.std.proofs.lemmas.Bool.{true≢false}
use Rattle.project_sources.specs.Projects.{IsOnlyProject, is_project_name}

-- one name, by whether it is a project file's
none_cons : (b : Bool) (x : List ℕ) (rest : List (List ℕ)) → cond b (x ∷ rest) rest ≡ [] → (b ≡ false) × (rest ≡ [])
none_cons true x rest e = absurd (cc e)
none_cons false x rest e = (refl, e)

one_cons : (b : Bool) (x name : List ℕ) (rest : List (List ℕ)) → cond b (x ∷ rest) rest ≡ name ∷ [] → ((x ≡ name) × (rest ≡ [])) ⊎ ((b ≡ false) × (rest ≡ name ∷ []))
one_cons true x name rest e = inl (cc e, cc e)
one_cons false x name rest e = inr (refl, e)

-- where none is one, none is one at a place
none_there : (names : List (List ℕ)) (i : ℕ) (found : List ℕ) → i < length names → found ≡ get_or names i found → is_project_name found ≡ true
    → filter is_project_name names ≡ [] → ⊥
none_there [] i found inside is named none = absurd (omega (arith, inside))
none_there (x ∷ names) zero found inside is named none =
    true≢false (sym named ∙ ap is_project_name is ∙ (none_cons (is_project_name x) x (filter is_project_name names) none).0)
none_there (x ∷ names) (suc i) found inside is named none =
    none_there names i found (omega (arith, inside)) is named (none_cons (is_project_name x) x (filter is_project_name names) none).1

-- what is one at a place is the only one
pub only_there : (names : List (List ℕ)) (i : ℕ) (found name : List ℕ) → i < length names → found ≡ get_or names i found → is_project_name found ≡ true
    → IsOnlyProject names name → found ≡ name
only_there [] i found name inside is named only = absurd (omega (arith, inside))
only_there (x ∷ names) zero found name inside is named only =
    ⊎_elim
    (λ h. is ∙ h.0)
    (λ h. absurd (true≢false (sym named ∙ ap is_project_name is ∙ h.0)))
    (one_cons (is_project_name x) x name (filter is_project_name names) only)
only_there (x ∷ names) (suc i) found name inside is named only =
    ⊎_elim
    (λ h. absurd (none_there names i found (omega (arith, inside)) is named h.1))
    (λ h. only_there names i found name (omega (arith, inside)) is named h.1)
    (one_cons (is_project_name x) x name (filter is_project_name names) only)

same_head : (a b : List ℕ) → ◌≡◌ {A = List (List ℕ)} (a ∷ []) (b ∷ []) → a ≡ b
same_head a b e = cc e

pub one_name : (names : List (List ℕ)) (name other : List ℕ) → IsOnlyProject names name → IsOnlyProject names other → name ≡ other
one_name names name other h k = same_head name other (sym h ∙ k)
