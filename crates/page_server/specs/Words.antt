-- Which command words name.
use Rattle.std.specs.Prelude.{ℕ, Bool, true, false, ◌==◌, not, List, [], ◌∷◌, codes, bytes_eq, Option, Some, None, if◌then◌else◌}
use Rattle.page_server.specs.declared.words.Command.{Command}
use Rattle.page_server.specs.declared.words.Command.TheVariants.{Page, Check, Explicit}

-- what words ask for: the page of the input, or a project in a folder
pub data Asked : Type 0 where
  for_page : Asked
  for_check : List ℕ → Asked
  for_explicit : List ℕ → Asked

-- the name of a folder isn't empty, and doesn't begin with `-`, as options do
abbrev pub is_folder : List ℕ → Bool
is_folder [] = false
is_folder (b ∷ bs) = not (b == 45)

abbrev pub one_word : List ℕ → Option Asked
one_word word = if bytes_eq word (codes "page") then Some for_page else None

abbrev pub two_words : List ℕ → List ℕ → Option Asked
two_words word dir =
    if not (is_folder dir) then None
    else if bytes_eq word (codes "check") then Some (for_check dir)
    else if bytes_eq word (codes "explicit") then Some (for_explicit dir) else None

-- the command that words name, where they name one: `page`, `check DIR` or `explicit DIR`
abbrev pub reads : List (List ℕ) → Option Asked
reads [] = None
reads (word ∷ []) = one_word word
reads (word ∷ (dir ∷ [])) = two_words word dir
reads (word ∷ (dir ∷ (more ∷ rest))) = None

-- whether a project is asked for
abbrev pub is_build : Option Asked → Bool
is_build None = false
is_build (Some for_page) = false
is_build (Some (for_check dir)) = true
is_build (Some (for_explicit dir)) = true

abbrev pub asked : Command → Asked
asked Page = for_page
asked (Check dir) = for_check dir.now
asked (Explicit dir) = for_explicit dir.now
