-- What the top call promises.
use Rattle.std.specs.Prelude.{◌≡◌, ℕ, true, List, [], Option, Some, None, IfSome, ◌⊎◌}
use Rattle.std.specs.Io.KnownBytes.{Appends, IsAtEnd}
use Rattle.xml_trees.specs.Trees.{Trees}
use Rattle.xml_trees.specs.Written.{written}
use Rattle.xml_trees.specs.Grammar.{IsPage}
use Rattle.page_bytes.specs.Pages.{WritesPage}
use Rattle.core_terms.specs.Trees.{Pg}
use Rattle.core_typing.specs.Accepts.{Accepts}
use Rattle.site_pages.specs.Shown.{IsShown}
use Rattle.ur_outside.specs.Files.{Told}
use Rattle.ur_outside.specs.Whole.{AppendsFront}
use Rattle.site_build.specs.declared.fault.BuildFault.{BuildFault}
use Rattle.site_build.specs.Causes.{IsCauseIn}
use Rattle.site_build.specs.Lines.{line_of as line_of_build}
use Rattle.site_build.specs.Sources.{HasProgram, IsProgramOfText}
use Rattle.site_build.specs.Unshown.{HasNoPage}
use Rattle.page_server.specs.Lines.{accepted}
use Rattle.page_server.specs.Words.{is_build, reads, for_check, for_explicit, for_page}

-- the one word `page`
abbrev pub IsPageCommand : List (List ℕ) → Type 0
IsPageCommand words = reads words ≡ Some for_page

-- the word `check`, or the word `explicit`, and a folder
abbrev pub IsBuildCommand : List (List ℕ) → Type 0
IsBuildCommand words = is_build (reads words) ≡ true

-- one of both, and this folder
abbrev pub IsBuildOf : List (List ℕ) → List ℕ → Type 0
IsBuildOf words dir = (reads words ≡ Some (for_check dir)) ⊎ (reads words ≡ Some (for_explicit dir))

abbrev pub IsNoCommand : List (List ℕ) → Type 0
IsNoCommand words = reads words ≡ None

-- these trees are the page of an accepted program that is what the module says
abbrev pub IsMeant : List ℕ → Trees → Type 0
IsMeant input trees = (p : Pg) × IsProgramOfText input p × Accepts p × IsShown p trees

-- The input was read to its end, and the output grew by the text of its page. `before` and `left` are what the input
-- had and has left, `old` and `new` what the output held and holds.
abbrev pub PageIsWritten : Option (List ℕ) → Option (List ℕ) → Option (List ℕ) → Option (List ℕ) → Type 0
PageIsWritten before left old new =
    IfSome before (λ input. IsAtEnd left × (trees : Trees) × IsMeant input trees × WritesPage old new (written trees))

-- The input has no page, and the output grew by the line that says why.
abbrev pub RefusalIsWritten : Option (List ℕ) → Option (List ℕ) → Option (List ℕ) → Type 0
RefusalIsWritten before old new =
    IfSome before (λ input. (line : List ℕ) × HasNoPage input line × Appends old new line)

-- The bytes are what the program answers to this input: the text of its page, or the line that says why it has none.
abbrev pub IsAnswer : List ℕ → List ℕ → Type 0
IsAnswer input bytes = ((trees : Trees) × IsMeant input trees × IsPage bytes (written trees)) ⊎ HasNoPage input bytes

-- The output grew by a front of the answer to the input.
abbrev pub FrontIsWritten : Option (List ℕ) → Option (List ℕ) → Option (List ℕ) → Type 0
FrontIsWritten before old new = IfSome before (λ input. (answer : List ℕ) × IsAnswer input answer
    × AppendsFront old new answer)

-- The project in a folder isn't built, and the output grew by the line that says why. Where the files are told, that
-- has its cause in them.
abbrev pub UnbuiltIsWritten : Option Told → List ℕ → Option (List ℕ) → Option (List ℕ) → Type 0
UnbuiltIsWritten told dir old new =
    (fault : BuildFault) × (line : List ℕ) × (line_of_build fault ≡ Some line) × Appends old new line
    × IfSome told (λ files. IsCauseIn files dir [] fault)

-- It isn't built, and the output grew by a front of that line.
abbrev pub UnbuiltFrontIsWritten : Option Told → List ℕ → Option (List ℕ) → Option (List ℕ) → Type 0
UnbuiltFrontIsWritten told dir old new =
    (fault : BuildFault) × (line : List ℕ) × (line_of_build fault ≡ Some line) × AppendsFront old new line
    × IfSome told (λ files. IsCauseIn files dir [] fault)

-- the project has an accepted program, where the files are told
abbrev pub IsBuilt : Option Told → List ℕ → Type 0
IsBuilt told dir = IfSome told (λ files. HasProgram files dir [])

-- The output grew by a front of what `check` says of the project: that it is accepted, or why it isn't built.
abbrev pub CheckFrontIsWritten : Option Told → List ℕ → Option (List ℕ) → Option (List ℕ) → Type 0
CheckFrontIsWritten told dir old new =
    (IsBuilt told dir × AppendsFront old new accepted) ⊎ UnbuiltFrontIsWritten told dir old new

-- The output grew by a front of what `explicit` says of it: some text, or why it isn't built.
abbrev pub ExplicitFrontIsWritten : Option Told → List ℕ → Option (List ℕ) → Option (List ℕ) → Type 0
ExplicitFrontIsWritten told dir old new =
    (IsBuilt told dir × (text : List ℕ) × AppendsFront old new text) ⊎ UnbuiltFrontIsWritten told dir old new

-- the output grew by some text, or by a front of one
abbrev pub SomeIsWritten : Option (List ℕ) → Option (List ℕ) → Type 0
SomeIsWritten old new = (text : List ℕ) × Appends old new text

abbrev pub SomeFrontIsWritten : Option (List ℕ) → Option (List ℕ) → Type 0
SomeFrontIsWritten old new = (text : List ℕ) × AppendsFront old new text
