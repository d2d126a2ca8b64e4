-- The files in a folder and their names.
use Rattle.std.proofs.Common.{◌≡◌, ℕ, Bool, true, false, cond, List, [], ◌∷◌, ◌++◌, length, drop, Option}
use Rattle.std.proofs.Common.{Some, None, ◌⊎◌, inl, inr, refl, sym, ap, ◌∙◌, subst, append_assoc}
use Rattle.std.specs.Prelude.{filter, bytes_eq, codes, if◌then◌else◌}
use Rattle.std.proofs.lemmas.Bool.{or_parts, true≢false}
use Rattle.std.proofs.lemmas.Bool.Decides.{Decides-eqb}
use Rattle.std.proofs.lemmas.Slice.Eq.{starts_is, bytes_eq-Decides}
use Rattle.ur_outside.specs.Files.{Told, begins_with, behind, has_folder, has_slash, is_there, named_before}
use Rattle.ur_outside.specs.Files.{names_in, within}
use Rattle.project_sources.specs.Modules.{file_in}
use Rattle.project_sources.specs.Projects.{IsProjectFile, is_project_name}

-- a folder that isn't there holds no names
unnamed : (o : Option (List ℕ)) (names : List (List ℕ)) → is_there o ≡ false → names ≡ [] → named_before o names ≡ []
unnamed None names e h = h
unnamed (Some name) names e h = absurd (cc e)

pub no_names : (files : Told) (dir : List ℕ) → has_folder files dir ≡ false → names_in files dir ≡ []
no_names [] dir e = refl
no_names (f ∷ fs) dir e =
    let parts = or_parts (is_there (within dir f.0)) (has_folder fs dir) e in
    unnamed (within dir f.0) (names_in fs dir) parts.0 (no_names fs dir parts.1)

-- so none of them is a project file's
pub no_folder : (files : Told) (dir name : List ℕ) → has_folder files dir ≡ false → IsProjectFile files dir name → ⊥
no_folder files dir name e only =
    let none : [] ≡ name ∷ [] = sym (ap (λ names. filter is_project_name names) (no_names files dir e)) ∙ only in
    absurd (cc none)

-- a name is one of these
abbrev Named : List ℕ → List (List ℕ) → Type 0
Named name [] = ⊥
Named name (n ∷ ns) = (n ≡ name) ⊎ Named name ns

from_cond : (b : Bool) (n name : List ℕ) (rest : List (List ℕ)) (ns : List (List ℕ)) → (Named name ns
    → Named name rest) → Named name (cond b (n ∷ ns) ns) → Named name (n ∷ rest)
from_cond true n name rest ns more (inl e) = inl e
from_cond true n name rest ns more (inr h) = inr (more h)
from_cond false n name rest ns more h = inr (more h)

from_filter : (p : List ℕ → Bool) (name : List ℕ) (names : List (List ℕ)) → Named name (filter p names)
    → Named name names
from_filter p name [] h = h
from_filter p name (n ∷ ns) h = from_cond (p n) n name ns (filter p ns) (from_filter p name ns) h

-- what stands behind a folder
after_front : (front path rest : List ℕ) → behind front path ≡ Some rest → path ≡ front ++ rest
after_front front path rest e = front_cases (begins_with front path) refl e
  where
    front_cases : (b : Bool) → begins_with front path ≡ b → (if b then Some (drop
        (length front) path) else None) ≡ Some rest → path ≡ front ++ rest
    front_cases true is h = (starts_is Decides-eqb path front _ refl).0 is ∙ ap (λ l. front ++ l) (cc h)
    front_cases false is h = absurd (cc h)

slash_cases : (dir path rest : List ℕ) (o : Option (List ℕ)) → behind dir path ≡ o → elim o as (λ _. Option
    (List ℕ)) [ None ↦ None | Some more ↦ behind (47 ∷ []) more ] ≡ Some rest
    → path ≡ dir ++ (47 ∷ rest)
slash_cases dir path rest None is e = absurd (cc e)
slash_cases dir path rest (Some more) is e = after_front dir path more is ∙ ap (λ l. dir ++ l) (after_front
    (47 ∷ []) more rest e)

within_path : (dir path rest : List ℕ) → within dir path ≡ Some rest → path ≡ dir ++ (47 ∷ rest)
within_path dir path rest e = slash_cases dir path rest (behind dir path) refl e

path_is : (dir name : List ℕ) → dir ++ codes "/" ++ name ≡ dir ++ (47 ∷ name)
path_is dir name = append_assoc dir (47 ∷ []) name

not_first : (b : Bool) (x : List ℕ) (o : Option (List ℕ)) → cond b (Some x) o ≡ None → (b ≡ false) × (o ≡ None)
not_first true x o e = absurd (cc e)
not_first false x o e = (refl, e)

either : (b : Bool) (n name : List ℕ) (ns : List (List ℕ)) → Named name (if b then ns else (n ∷ ns)) →
    (n ≡ name) ⊎ Named name ns
either true n name ns h = inr h
either false n name ns h = h

-- a name in a folder is that of a file that is there
there_first : (f : List ℕ × List ℕ) (fs : Told) (dir name : List ℕ) (o : Option (List ℕ)) → within dir f.0 ≡ o
    → Named name (named_before o (names_in fs dir))
    → (Named name (names_in fs dir) → file_in fs dir name ≡ None → ⊥) → file_in (f ∷ fs) dir name ≡ None → ⊥
there_first f fs dir name None is h more e = more h (not_first (bytes_eq f.0 (dir ++ codes "/" ++ name)) f.1
    (file_in fs dir name) e).1
there_first f fs dir name (Some n) is h more e =
    let past = not_first (bytes_eq f.0 (dir ++ codes "/" ++ name)) f.1 (file_in fs dir name) e in
    elim (either (has_slash n) n name (names_in fs dir) h) [
      | inl same ↦ absurd (true≢false (sym ((bytes_eq-Decides f.0 (dir ++ codes "/" ++ name)).1
          (within_path dir f.0 n is ∙ ap (λ l. dir ++ (47 ∷ l)) same ∙ sym (path_is dir name))) ∙ past.0))
      | inr later ↦ more later past.1
    ]

named_there : (files : Told) (dir name : List ℕ) → Named name (names_in files dir) → file_in files dir name ≡ None → ⊥
named_there [] dir name h e = absurd h
named_there (f ∷ fs) dir name h e = there_first f fs dir name (within dir f.0) refl h (named_there fs dir name) e

-- the project file of a folder is there
pub project_there : (files : Told) (dir name : List ℕ) → IsProjectFile files dir name
    → file_in files dir name ≡ None → ⊥
project_there files dir name only e =
    named_there files dir name (from_filter is_project_name name (names_in files dir) (subst (λ ns. Named name ns)
    (sym only) (inl refl))) e
