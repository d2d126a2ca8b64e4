-- The names of project files among others.
use Rattle.std.proofs.Common.{◌≡◌, ℕ, ◌<◌, ◌≤◌, ◌+◌, true, false, cond, List, [], ◌∷◌, length, get_or}
use Rattle.std.proofs.Common.{drop, Option, Some, None, Bor, sym, ap, ◌∙◌}
use Rattle.std.specs.Prelude.{filter}
use Rattle.std.specs.Option.{is_some, option_map, MatchOption}
use Rattle.std.proofs.lemmas.List.{at_drop_more, at_drop_all}
use Rattle.project_sources.specs.Projects.{IsOnlyProject, is_project_name}

-- a name that was found before others
abbrev pub found_before : Option (List ℕ) → List (List ℕ) → List (List ℕ)
found_before None names = names
found_before (Some name) names = name ∷ names

-- what was found, and what the rest holds, are those of all names
abbrev pub Found : Option (List ℕ) → List (List ℕ) → List (List ℕ) → Type 0
Found found rest names = found_before found (filter is_project_name rest) ≡ filter is_project_name names

-- the next name, by whether it is a project file's
pass : (found : Option (List ℕ)) (name : List ℕ) (rest names : List (List ℕ)) → Found found (name ∷ rest) names
    → is_project_name name ≡ false → Found found rest names
pass None name rest names h e = sym (ap (λ b. cond b (name ∷ filter is_project_name rest)
    (filter is_project_name rest)) e) ∙ h
pass (Some x) name rest names h e = sym (ap (λ b. x ∷ cond b (name ∷ filter is_project_name rest)
    (filter is_project_name rest)) e) ∙ h

take_it : (name : List ℕ) (rest names : List (List ℕ)) → Found None (name ∷ rest) names
    → is_project_name name ≡ true → Found (Some name) rest names
take_it name rest names h e = sym (ap (λ b. cond b (name ∷ filter is_project_name rest)
    (filter is_project_name rest)) e) ∙ h

two : (x name : List ℕ) (rest names : List (List ℕ)) (other : List ℕ) → Found (Some x) (name ∷ rest) names
    → is_project_name name ≡ true → IsOnlyProject names other → ⊥
two x name rest names other h e only =
    let both : x ∷ name ∷ filter is_project_name rest ≡ other ∷ [] = sym (ap (λ b. x ∷ cond b
    (name ∷ filter is_project_name rest) (filter is_project_name rest)) e) ∙ h ∙ only in
    absurd (cc both)

-- the same at a place
pub pass_at : (found : Option (List ℕ)) (names : List (List ℕ)) (i : ℕ) (name : List ℕ) → Found found
    (drop i names) names → i < length names → name ≡ get_or names i name
    → is_project_name name ≡ false → Found found (drop (i + 1) names) names
pass_at found names i name h below is e =
    pass found name (drop (i + 1) names) names
    (sym (at_drop_more (λ rest. found_before found (filter is_project_name rest)) names i name below ∙ ap
    (λ n. found_before found (filter is_project_name (n ∷ drop (i + 1) names))) (sym is)) ∙ h) e

pub take_at_place : (names : List (List ℕ)) (i : ℕ) (name : List ℕ) → Found None (drop i names) names
    → i < length names → name ≡ get_or names i name
    → is_project_name name ≡ true → Found (Some name) (drop (i + 1) names) names
take_at_place names i name h below is e =
    take_it name (drop (i + 1) names) names
    (sym (at_drop_more (λ rest. filter is_project_name rest) names i name below ∙ ap (λ n. filter is_project_name
    (n ∷ drop (i + 1) names)) (sym is)) ∙ h) e

pub two_at : (x : List ℕ) (names : List (List ℕ)) (i : ℕ) (name other : List ℕ) → Found (Some x)
    (drop i names) names → i < length names → name ≡ get_or names i name
    → is_project_name name ≡ true → IsOnlyProject names other → ⊥
two_at x names i name other h below is e =
    two x name (drop (i + 1) names) names other
    (sym (at_drop_more (λ rest. x ∷ filter is_project_name rest) names i name below ∙ ap
    (λ n. x ∷ filter is_project_name (n ∷ drop (i + 1) names)) (sym is)) ∙ h) e

-- all names were looked at
pub one_found : (names : List (List ℕ)) (i : ℕ) (name : List ℕ) → Found (Some name) (drop i names) names
    → length names ≤ i → IsOnlyProject names name
one_found names i name h past = sym h ∙ at_drop_all (λ rest. name ∷ filter is_project_name rest) names i past

pub none_found : (names : List (List ℕ)) (i : ℕ) (name : List ℕ) → Found None (drop i names) names
    → length names ≤ i → IsOnlyProject names name → ⊥
none_found names i name h past only =
    let e : [] ≡ name ∷ [] = sym (at_drop_all (λ rest. filter is_project_name rest) names i past) ∙ h ∙ only in
    absurd (cc e)

-- ---- as the loop has them

-- a second one
pub two_some : (o : Option (Bor (List ℕ))) (names : List (List ℕ)) (i : ℕ) (name other : List ℕ) → is_some o ≡ true
    → Found (option_map (λ (x : Bor (List ℕ)). x.now) o) (drop i names) names → i < length names
    → name ≡ get_or names i name
    → is_project_name name ≡ true → IsOnlyProject names other → ⊥
two_some None names i name other some h below is e only = absurd (cc some)
two_some (Some x) names i name other some h below is e only = two_at x.now names i name other h below is e only

-- the first one
pub first_some : (o : Option (Bor (List ℕ))) (names : List (List ℕ)) (i : ℕ) (name : List ℕ) → is_some o ≡ false
    → Found (option_map (λ (x : Bor (List ℕ)). x.now) o) (drop i names) names → i < length names
    → name ≡ get_or names i name
    → is_project_name name ≡ true → Found (Some name) (drop (i + 1) names) names
first_some None names i name none h below is e = take_at_place names i name h below is e
first_some (Some x) names i name none h below is e = absurd (cc none)

pub all_found : (o : Option (Bor (List ℕ))) (names : List (List ℕ)) (i : ℕ) → Found (option_map (λ (x : Bor
    (List ℕ)). x.now) o) (drop i names) names → length names ≤ i
    → MatchOption o ((name : List ℕ) → IsOnlyProject names name → ⊥) (λ name. IsOnlyProject names name.now)
all_found None names i h past = λ name. none_found names i name h past
all_found (Some x) names i h past = one_found names i x.now h past
