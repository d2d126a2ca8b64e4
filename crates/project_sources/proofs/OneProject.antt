-- A folder holds one project at most, or none for one reason.
use Rattle.std.proofs.Common.{◌≡◌, ℕ, ◌<◌, ◌≤◌, Bool, true, false, List, [], ◌∷◌, ◌++◌, length, Some, sym}
use Rattle.std.proofs.Common.{ap, ap₂, ◌∙◌, subst, arith}
use Rattle.std.specs.List.{list_all}
use Rattle.std.proofs.lemmas.Bool.{true≢false, and_parts}
use Rattle.ur_outside.specs.Files.{Told}
use Rattle.project_files.specs.Lines.{Line}
use Rattle.project_files.specs.Projects.{Said, is_among, IsRefusedAt, ProjectsHaveOneAnswer, RefusalsHaveOneLine}
use Rattle.project_files.specs.Projects as text
use Rattle.project_sources.specs.declared.fault.SourceFault.{SourceFault}
use Rattle.project_sources.specs.declared.fault.SourceFault.TheVariants.{BadProject, UnknownForeign, FileTooLong}
use Rattle.project_sources.specs.Texts.{longest}
use Rattle.project_sources.specs.Modules.{AreModules, HaveNoModules, file_in}
use Rattle.project_sources.specs.Projects.{IsProjectFile, SaysProject, SaysNoProject, no_file, too_long, bad_line}
use Rattle.project_sources.specs.Projects.{AllThere, IsFirstUnknown, ProjectTrees, HoldsProject, HoldsNoProject}
use Rattle.project_sources.specs.Projects.{no_project, unknown_foreign, no_modules, FoldersHaveOneAnswer}
use Rattle.project_sources.specs.Projects.{RefusalsHaveOneCause}
use Rattle.project_sources.proofs.OneText.{Readers}
use Rattle.project_sources.proofs.OneModule.{one_list, modules_or_none, one_first}

-- ---- the project file

one_name : (names : List (List ℕ)) (name other : List ℕ) → names ≡ name ∷ [] → names ≡ other ∷ [] → other ≡ name
one_name names name other e e' = let both : name ∷ [] ≡ other ∷ [] = sym e ∙ e' in cc

-- two project files of a folder are one, and hold the same
one_content : (files : Told) (dir name other bytes others : List ℕ) → IsProjectFile files dir name
    → IsProjectFile files dir other → file_in files dir name ≡ Some bytes → file_in files dir other ≡ Some others
    → others ≡ bytes
one_content files dir name other bytes others e e' there there' =
    let both : Some others ≡ Some bytes = sym there' ∙ ap (λ n. file_in files dir n) (one_name _ name other e e')
    ∙ there in
    cc

too_few : (bytes others : List ℕ) → others ≡ bytes → longest < length bytes → length others ≤ longest → ⊥
too_few bytes others e l few = let same : length others ≡ length bytes = ap length e in omega (arith, l, few, same)

pub one_said : ProjectsHaveOneAnswer → (files : Told) (dir : List ℕ) (said other : Said)
    → SaysProject files dir said → SaysProject files dir other → said ≡ other
one_said one files dir said other h k =
    (one h.bytes said 0 h.says).0 other
    (subst (λ (l : List ℕ). text.IsProject l other) (one_content files dir h.name k.name h.bytes k.bytes h.only
    k.only h.there k.there) k.says)

said_or_none : ProjectsHaveOneAnswer → (files : Told) (dir : List ℕ) (said : Said) (fault : SourceFault)
    → SaysProject files dir said → SaysNoProject files dir fault → ⊥
said_or_none one files dir said fault h (no_file none e) = none h.name h.only
said_or_none one files dir said fault h (too_long name bytes only there l e) =
    too_few bytes h.bytes (one_content files dir name h.name bytes h.bytes only h.only there h.there) l h.few
said_or_none one files dir said fault h (bad_line name bytes line only there few refused e) =
    (one bytes said line (subst (λ (l : List ℕ). text.IsProject l said)
    (one_content files dir name h.name bytes h.bytes only h.only there h.there) h.says)).1 refused

one_none : RefusalsHaveOneLine → (files : Told) (dir : List ℕ) (fault again : SourceFault)
    → SaysNoProject files dir fault → SaysNoProject files dir again → fault ≡ again
one_none one files dir fault again (no_file none e) (no_file none' e') = e ∙ sym e'
one_none one files dir fault again (no_file none e) (too_long name bytes only there l e') = absurd (none name only)
one_none one files dir fault again (no_file none e) (bad_line name bytes line only there few refused e') = absurd
    (none name only)
one_none one files dir fault again (too_long name bytes only there l e) (no_file none e') = absurd (none name only)
one_none one files dir fault again (too_long name bytes only there l e)
    (too_long other others only' there' l' e') = e ∙ ap FileTooLong (sym (one_name _ name other only only')) ∙ sym e'
one_none one files dir fault again (too_long name bytes only there l e)
    (bad_line other others line only' there' few refused e') =
    absurd (too_few bytes others (one_content files dir name other bytes others only only' there there') l few)
one_none one files dir fault again (bad_line name bytes line only there few refused e) (no_file none e') = absurd
    (none name only)
one_none one files dir fault again (bad_line name bytes line only there few refused e)
    (too_long other others only' there' l e') =
    absurd (too_few others bytes (one_content files dir other name others bytes only' only there' there) l few)
one_none one files dir fault again (bad_line name bytes line only there few refused e)
    (bad_line other others line' only' there' few' refused' e') =
    let names : name ≡ other = sym (one_name _ name other only only') in
    let lines : line ≡ line' = one bytes line line' refused (subst (λ (l : List ℕ). IsRefusedAt l line')
    (one_content files dir name other bytes others only only' there there') refused') in
    e ∙ ap₂ BadProject names lines ∙ sym e'

-- ---- foreign modules

no_both : (b : Bool) → b ≡ true → b ≡ false → ⊥
no_both b e e' = absurd (true≢false (sym e ∙ e'))

there_or_first : (objects before after : List Line) (name : Line) → AllThere objects (before ++ name ∷ after)
    → is_among name objects ≡ false → ⊥
there_or_first objects [] after name all unknown = no_both (is_among name objects) (and_parts (is_among name objects)
    (list_all (λ n. is_among n objects) after) all).0 unknown
there_or_first objects (b ∷ before) after name all unknown =
    there_or_first objects before after name (and_parts (is_among b objects) (list_all (λ n. is_among n objects)
    (before ++ name ∷ after)) all).1 unknown

known_or_first : (objects names : List Line) (name : Line) → AllThere objects names
    → IsFirstUnknown objects names name → ⊥
known_or_first objects names name all h = there_or_first objects h.before h.after name (subst
    (λ ns. AllThere objects ns) h.names_are all) h.unknown

abbrev first_name : List Line → Line
first_name [] = []
first_name (l ∷ ls) = l

abbrev later_names : List Line → List Line
later_names [] = []
later_names (l ∷ ls) = ls

one_unknown : (objects before after front rest : List Line) (name other : Line)
    → before ++ name ∷ after ≡ front ++ other ∷ rest
    → AllThere objects before → is_among name objects ≡ false → AllThere objects front
    → is_among other objects ≡ false → name ≡ other
one_unknown objects [] after [] rest name other e h lacks k nor = ap first_name e
one_unknown objects [] after (f ∷ front) rest name other e h lacks k nor =
    absurd (no_both (is_among f objects) (and_parts (is_among f objects) (list_all
    (λ n. is_among n objects) front) k).0 (sym (ap (λ n. is_among n objects) (ap first_name e)) ∙ lacks))
one_unknown objects (b ∷ before) after [] rest name other e h lacks k nor =
    absurd (no_both (is_among b objects) (and_parts (is_among b objects) (list_all
    (λ n. is_among n objects) before) h).0 (ap (λ n. is_among n objects) (ap first_name e) ∙ nor))
one_unknown objects (b ∷ before) after (f ∷ front) rest name other e h lacks k nor =
    one_unknown objects before after front rest name other (ap later_names e)
    (and_parts (is_among b objects) (list_all (λ n. is_among n objects) before) h).1 lacks
    (and_parts (is_among f objects) (list_all (λ n. is_among n objects) front) k).1 nor

one_first_unknown : (objects names : List Line) (name other : Line) → IsFirstUnknown objects names name
    → IsFirstUnknown objects names other → name ≡ other
one_first_unknown objects names name other h k =
    one_unknown objects h.before h.after k.before k.after name other (sym h.names_are
    ∙ k.names_are) h.known h.unknown k.known k.unknown

-- ---- the project

one_project : Readers → ProjectsHaveOneAnswer → (files : Told) (dir : List ℕ) (objects : List Line)
    (p q : ProjectTrees) → HoldsProject files dir objects p → HoldsProject files dir objects q → p ≡ q
one_project laws one files dir objects p q h k =
    let said : p.said ≡ q.said = one_said one files dir p.said q.said h.says k.says in
    let modules : p.modules ≡ q.modules = one_list laws files dir p.said.modules p.modules q.modules h.modules (subst
    (λ (s : Said). AreModules files dir s.modules q.modules) (sym said) k.modules) in
    λ i. record { said = said i; modules = modules i }

project_or_none : Readers → ProjectsHaveOneAnswer → (files : Told) (dir : List ℕ) (objects : List Line)
    (p : ProjectTrees) (fault : SourceFault) → HoldsProject files dir objects p
    → HoldsNoProject files dir objects fault → ⊥
project_or_none laws one files dir objects p fault h (no_project none) = said_or_none one files dir p.said fault
    h.says none
project_or_none laws one files dir objects p fault h (unknown_foreign said says name first e) =
    known_or_first objects p.said.foreign name h.foreign (subst (λ (s : Said). IsFirstUnknown objects s.foreign name)
    (one_said one files dir said p.said says h.says) first)
project_or_none laws one files dir objects p fault h (no_modules said says known none) =
    modules_or_none laws files dir p.said.modules p.modules fault h.modules (subst (λ
    (s : Said). HaveNoModules files dir s.modules fault) (one_said one files dir said p.said says h.says) none)

pub one_answer : Readers → ProjectsHaveOneAnswer → FoldersHaveOneAnswer
one_answer laws one files dir objects p fault h = (
  λ other k. one_project laws one files dir objects p other h k,
  project_or_none laws one files dir objects p
      fault h,
)

pub one_cause : Readers → ProjectsHaveOneAnswer → RefusalsHaveOneLine → RefusalsHaveOneCause
one_cause laws one line files dir objects fault again (no_project none)
    (no_project none') = one_none line files dir fault again none none'
one_cause laws one line files dir objects fault again (no_project none)
    (unknown_foreign said says name first e) = absurd (said_or_none one files dir said fault says none)
one_cause laws one line files dir objects fault again (no_project none) (no_modules said says known h) = absurd
    (said_or_none one files dir said fault says none)
one_cause laws one line files dir objects fault again (unknown_foreign said says name first e)
    (no_project none) = absurd (said_or_none one files dir said again says none)
one_cause laws one line files dir objects fault again (unknown_foreign said says name first e)
    (unknown_foreign said' says' name' first' e') =
    let same : said' ≡ said = one_said one files dir said' said says' says in
    e ∙ ap UnknownForeign (one_first_unknown objects said.foreign name name' first (subst (λ
    (s : Said). IsFirstUnknown objects s.foreign name') same first')) ∙ sym e'
one_cause laws one line files dir objects fault again (unknown_foreign said says name first e)
    (no_modules said' says' known h) =
    absurd (known_or_first objects said.foreign name (subst (λ (s : Said). AllThere objects s.foreign)
    (one_said one files dir said' said says' says) known) first)
one_cause laws one line files dir objects fault again (no_modules said says known h) (no_project none) = absurd
    (said_or_none one files dir said again says none)
one_cause laws one line files dir objects fault again (no_modules said says known h)
    (unknown_foreign said' says' name first e) =
    absurd (known_or_first objects said'.foreign name (subst (λ (s : Said). AllThere objects s.foreign)
    (one_said one files dir said said' says says') known) first)
one_cause laws one line files dir objects fault again (no_modules said says known h)
    (no_modules said' says' known' h') =
    one_first laws files dir said.modules fault again h (subst (λ
    (s : Said). HaveNoModules files dir s.modules again) (one_said one files dir said' said says' says) h')
