-- From a folder's names and its project file to what it says, or to why it says nothing.
use Rattle.std.proofs.Common.{◌≡◌, ℕ, ◌≤◌, false, List, length, Some, None, IfSome, IfOk, IfErr, sym}
use Rattle.std.proofs.Common.{subst}
use Rattle.std.specs.declared.option.Option.{Option}
use Rattle.std.specs.declared.result.Result.{Result}
use Rattle.std.proofs.lemmas.Result.{IfOk-weaker, IfErr-weaker}
use Rattle.ur_outside.specs.Files.{Told, has_folder, names_in}
use Rattle.project_files.specs.Projects as text
use Rattle.project_files.specs.View.{said_by}
use Rattle.project_files.specs.declared.projects.Project.{Project}
use Rattle.project_sources.specs.declared.fault.SourceFault.{SourceFault}
use Rattle.project_sources.specs.Causes.{Says}
use Rattle.project_sources.specs.Modules.{file_in}
use Rattle.project_sources.specs.Projects.{IsOnlyProject, IsProjectFile, SaysProject, SaysNoProject, no_file}
use Rattle.project_sources.specs.Projects.{too_long, bad_line}
use Rattle.project_sources.specs.Steps.{IsBadFolder, IsBadLine, IsTooLong}
use Rattle.project_sources.proofs.Folders.{no_folder, project_there}
use Rattle.project_sources.proofs.Saying.{says-weaker, told_one, told_two}

-- ---- the name of the project file

pub name_found : (told : Option Told) (dir : List ℕ) (names : List (List ℕ)) (name other : List ℕ) → IfSome told
    (λ files. names ≡ names_in files dir)
    → IsOnlyProject names name → other ≡ name → IfSome told (λ files. IsProjectFile files dir other)
name_found told dir names name other are only is =
    told_one told (λ files. names ≡ names_in files dir) (λ files. IsProjectFile files dir other) are
    (λ files h. subst (λ (n : List ℕ). IsProjectFile files dir n) (sym is) (subst (λ (ns : List
    (List ℕ)). IsOnlyProject ns name) h only))

bad_folder : (files : Told) (dir : List ℕ) (fault : SourceFault) → ((name : List ℕ) → IsProjectFile files dir name
    → ⊥) → Says (IsBadFolder dir) fault → Says (SaysNoProject files dir) fault
bad_folder files dir fault none bad = says-weaker (IsBadFolder dir) (SaysNoProject files dir)
    (λ f e. no_file none e) fault bad

pub none_named : (told : Option Told) (dir : List ℕ) (names : List (List ℕ)) (fault : SourceFault) → IfSome told
    (λ files. names ≡ names_in files dir)
    → ((name : List ℕ) → IsOnlyProject names name → ⊥) → Says (IsBadFolder dir) fault → IfSome told (λ files. Says
    (SaysNoProject files dir) fault)
none_named told dir names fault are none bad =
    told_one told (λ files. names ≡ names_in files dir) (λ files. Says (SaysNoProject files dir) fault) are
    (λ files h. bad_folder files dir fault (λ name only. none name (subst (λ (ns : List
    (List ℕ)). IsOnlyProject ns name) (sym h) only)) bad)

pub folder_missing : (told : Option Told) (dir : List ℕ) (fault : SourceFault) → IfSome told
    (λ files. has_folder files dir ≡ false)
    → Says (IsBadFolder dir) fault → IfSome told (λ files. Says (SaysNoProject files dir) fault)
folder_missing told dir fault gone bad =
    told_one told (λ files. has_folder files dir ≡ false) (λ files. Says (SaysNoProject files dir) fault) gone
    (λ files h. bad_folder files dir fault (λ name only. no_folder files dir name h only) bad)

-- ---- what it holds; `now` is what is told when it was found

pub project_long : (told now : Option Told) (dir name other : List ℕ) (fault : SourceFault) → now ≡ told → other ≡ name
    → IfSome told (λ files. IsProjectFile files dir name) → IfSome now (λ files. Says (IsTooLong
    (file_in files dir other) other) fault)
    → IfSome told (λ files. Says (SaysNoProject files dir) fault)
project_long told now dir name other fault kept is only long =
    told_two told (λ files. IsProjectFile files dir name) (λ files. Says (IsTooLong
    (file_in files dir name) name) fault) (λ files. Says (SaysNoProject files dir) fault)
    only (subst (λ (n : List ℕ). IfSome told (λ files. Says (IsTooLong (file_in files dir n) n) fault)) is (subst (λ
    (t : Option Told). IfSome t (λ files. Says (IsTooLong (file_in files dir other) other) fault)) kept long))
    (λ files p q. says-weaker (IsTooLong (file_in files dir name) name) (SaysNoProject files dir)
    (λ f h. too_long name h.0 p h.1 h.2 h.3) fault q)

-- the content as it was told then, of this name
told_then : (told now : Option Told) (dir name other : List ℕ) (content : Option (List ℕ)) → now ≡ told → other ≡ name
    → IfSome now (λ files. file_in files dir other ≡ content) → IfSome told (λ files. file_in files dir name ≡ content)
told_then told now dir name other content kept is there =
    subst (λ (n : List ℕ). IfSome told (λ files. file_in files dir n ≡ content)) is (subst (λ
    (t : Option Told). IfSome t (λ files. file_in files dir other ≡ content)) kept there)

-- a project file doesn't go
pub project_gone : (told now : Option Told) (dir name other : List ℕ) (P : Told → Type 0) → now ≡ told → other ≡ name
    → IfSome told (λ files. IsProjectFile files dir name) → IfSome now (λ files. file_in files dir other ≡ None)
    → IfSome told P
project_gone told now dir name other P kept is only gone =
    told_two told (λ files. IsProjectFile files dir name) (λ files. file_in files dir name ≡ None) P only
    (told_then told now dir name other None kept is gone)
    (λ files p q. absurd (project_there files dir name p q))

pub project_says : (told now : Option Told) (dir name other bytes all : List ℕ) (r : Result Project SourceFault)
    → now ≡ told → other ≡ name → all ≡ bytes
    → IfSome told (λ files. IsProjectFile files dir name) → IfSome now
    (λ files. file_in files dir other ≡ Some bytes) → length bytes ≤ 4194304
    → IfOk r (λ p. text.IsProject all (said_by p)) → IfOk r (λ p. IfSome told (λ files. SaysProject files dir
    (said_by p)))
project_says told now dir name other bytes all r kept is same only there few =
    IfOk-weaker r (λ p. text.IsProject all (said_by p)) (λ p. IfSome told (λ files. SaysProject files dir (said_by p)))
    (λ p says. told_two told (λ files. IsProjectFile files dir name) (λ files. file_in files dir name ≡ Some bytes)
    (λ files. SaysProject files dir (said_by p))
    only (told_then told now dir name other (Some bytes) kept is there)
    (λ files a b. record {
      name = name;
      only = a;
      bytes = bytes;
      there = b;
      few = few;
      says = subst (λ
          (l : List ℕ). text.IsProject l (said_by p)) same says;
    }))

pub project_refused : (told now : Option Told) (dir name other bytes all : List ℕ) (r : Result Project SourceFault)
    → now ≡ told → other ≡ name → all ≡ bytes
    → IfSome told (λ files. IsProjectFile files dir name) → IfSome now
    (λ files. file_in files dir other ≡ Some bytes) → length bytes ≤ 4194304
    → IfErr r (Says (IsBadLine name all)) → IfErr r (λ fault. IfSome told (λ files. Says
    (SaysNoProject files dir) fault))
project_refused told now dir name other bytes all r kept is same only there few =
    IfErr-weaker r (Says (IsBadLine name all)) (λ fault. IfSome told (λ files. Says (SaysNoProject files dir) fault))
    (λ fault bad. told_two told (λ files. IsProjectFile files dir name)
    (λ files. file_in files dir name ≡ Some bytes) (λ files. Says (SaysNoProject files dir) fault)
    only (told_then told now dir name other (Some bytes) kept is there)
    (λ files a b. says-weaker (IsBadLine name bytes) (SaysNoProject files dir)
    (λ f h. bad_line name bytes h.0 a b few h.1 h.2) fault
    (subst (λ (l : List ℕ). Says (IsBadLine name l) fault) same bad)))
