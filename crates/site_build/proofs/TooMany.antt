-- At which line of a project file too many tables are told (for `file_of`, `line_in` and `too_many_tables`).
use Rattle.std.proofs.Common.{◌≡◌, ℕ, List, Option, Some, None, IfSome, sym, ap, ◌∙◌, subst}
use Rattle.ur_outside.specs.Files.{Told, names_in}
use Rattle.project_files.specs.Lines.{HasLines, Line}
use Rattle.project_sources.specs.Modules.{file_in}
use Rattle.project_sources.specs.Projects.{IsOnlyProject, IsProjectFile}
use Rattle.project_sources.specs.declared.fault.SourceFault.TheVariants.{BadProject}
use Rattle.site_build.specs.Causes.{IsLineOf}
use Rattle.site_build.specs.Faults.{IsAtModule}
use Rattle.site_build.specs.declared.fault.BuildFault.TheVariants.{Source}

-- the name that was found is that of the project file
pub file_named : (told : Option Told) (dir : List ℕ) (names : List (List ℕ)) (found file : List ℕ) → IfSome told (λ files. names ≡ names_in files dir)
    → ((name : List ℕ) → IsOnlyProject names name → found ≡ name) → file ≡ found
    → IfSome told (λ files. (name : List ℕ) → IsProjectFile files dir name → file ≡ name)
file_named None dir names found file is only same = tt
file_named (Some files) dir names found file is only same = λ name h. same ∙ only name (subst (λ (ns : List (List ℕ)). IsOnlyProject ns name) (sym is) h)

same_bytes : (bytes other : List ℕ) → ◌≡◌ {A = Option (List ℕ)} (Some bytes) (Some other) → bytes ≡ other
same_bytes bytes other e = cc e

-- what was read a second time is what the file holds
pub line_named : (told : Option Told) (dir file path bytes slice : List ℕ) (name key : Line) (line : ℕ) → path ≡ file → slice ≡ bytes → key ≡ name
    → IfSome told (λ files. file_in files dir path ≡ Some bytes) → ((lines : List Line) → HasLines slice lines → IsLineOf lines key line)
    → IfSome told (λ files. (other : List ℕ) → file_in files dir file ≡ Some other → (lines : List Line) → HasLines other lines → IsLineOf lines name line)
line_named None dir file path bytes slice name key line same whole named is found = tt
line_named (Some files) dir file path bytes slice name key line same whole named is found = λ other there lines h.
    let here : file_in files dir file ≡ Some bytes = ap (λ (f : List ℕ). file_in files dir f) (sym same) ∙ is in
    let all : other ≡ slice = same_bytes other bytes (sym there ∙ here) ∙ sym whole in
    subst (λ (k : Line). IsLineOf lines k line) named (found lines (subst (λ (b : List ℕ). HasLines b lines) all h))

-- so the line is the one at which the project file names the module
pub told_at : (told later : Option Told) (dir : List ℕ) (file : List ℕ) (name : Line) (line : ℕ) → later ≡ told
    → IfSome told (λ files. (n : List ℕ) → IsProjectFile files dir n → file ≡ n)
    → IfSome later (λ files. (bytes : List ℕ) → file_in files dir file ≡ Some bytes → (lines : List Line) → HasLines bytes lines → IsLineOf lines name line)
    → IfSome told (λ files. IsAtModule files dir name (Source (BadProject file line)))
told_at None later dir file name line kept is at = tt
told_at (Some files) later dir file name line kept is at = λ said says.
    let here = subst (λ (o : Option Told). IfSome o (λ (fs : Told). (bytes : List ℕ) → file_in fs dir file ≡ Some bytes → (lines : List Line) → HasLines bytes lines → IsLineOf lines name line)) kept at in
    let same : file ≡ says.name = is says.name says.only in
    (line, here says.bytes (ap (λ (n : List ℕ). file_in files dir n) same ∙ says.there) says.says.lines says.says.has_lines, ap (λ (n : List ℕ). Source (BadProject n line)) same)
