-- Too many tables are told at one line at most (for the laws).
use Rattle.std.proofs.Common.{◌≡◌, ℕ, ◌+◌, ◌<◌, ◌≤◌, List, [], ◌∷◌, ◌++◌, Option, Some, count_by, sym, ap, ap₂, ◌∙◌, subst, arith}
use Rattle.surface_grammar.specs.Trees.{spell}
use Rattle.ur_outside.specs.Files.{Told, names_in}
use Rattle.project_files.specs.Lines.{HasLines, Line}
use Rattle.project_files.specs.Projects.{Said}
use Rattle.project_sources.specs.Modules.{ModuleTrees, file_in}
use Rattle.project_sources.specs.Projects.{FoldersHaveOneAnswer, HoldsProject, ProjectTrees, SaysProject}
use Rattle.project_sources.specs.declared.fault.SourceFault.{SourceFault}
use Rattle.project_sources.specs.declared.fault.SourceFault.TheVariants.{BadProject}
use Rattle.site_build.specs.Causes.{HaveManyTables, HoldsTooMany, IsBeyond, IsLineOf, tables_in}
use Rattle.site_build.specs.Tables.{is_table}
use Rattle.site_build.proofs.ProjectNames.{one_name}
use Rattle.site_build.proofs.ProjectLines.{same_lines, same_number}

-- the project file of a folder has one name
one_project_file : (files : Told) (dir : List ℕ) (said : Said) (p q : SaysProject files dir said) → p.name ≡ q.name
one_project_file files dir said p q = one_name (names_in files dir) p.name q.name p.only q.only

same_bytes : (bytes other : List ℕ) → ◌≡◌ {A = Option (List ℕ)} (Some bytes) (Some other) → bytes ≡ other
same_bytes bytes other e = cc e

-- and one list of lines
one_lines : (files : Told) (dir : List ℕ) (said : Said) (p q : SaysProject files dir said) → p.says.lines ≡ q.says.lines
one_lines files dir said p q =
    let bytes : p.bytes ≡ q.bytes = same_bytes p.bytes q.bytes (sym p.there ∙ ap (λ (n : List ℕ). file_in files dir n) (one_project_file files dir said p q) ∙ q.there) in
    same_lines q.bytes p.says.lines q.says.lines (subst (λ (b : List ℕ). HasLines b p.says.lines) bytes p.says.has_lines) q.says.has_lines

-- one module is the first with which they are too many, after those before it have so many tables
abbrev first_module : List ModuleTrees → ModuleTrees → ModuleTrees
first_module [] n = n
first_module (m ∷ ms) n = m

abbrev rest_of : List ModuleTrees → List ModuleTrees
rest_of [] = []
rest_of (m ∷ ms) = ms

same_sum : (m n : ModuleTrees) → m ≡ n → count_by is_table (spell m.tree) ≡ count_by is_table (spell n.tree)
same_sum m n e = ap (λ (x : ModuleTrees). count_by is_table (spell x.tree)) e

one_beyond : (before other : List ModuleTrees) (m n : ModuleTrees) (after behind : List ModuleTrees) (k : ℕ) → before ++ m ∷ after ≡ other ++ n ∷ behind
    → k + tables_in before ≤ 1000 → 1000 < k + tables_in (before ++ m ∷ []) → k + tables_in other ≤ 1000 → 1000 < k + tables_in (other ++ n ∷ []) → m ≡ n
one_beyond [] [] m n after behind k e few many few' many' = ap (λ ms. first_module ms n) e
one_beyond [] (y ∷ other) m n after behind k e few many few' many' =
    let same : m ≡ y = ap (λ ms. first_module ms n) e in absurd (omega (arith, same_sum m y same, many, few'))
one_beyond (x ∷ before) [] m n after behind k e few many few' many' =
    let same : x ≡ n = ap (λ ms. first_module ms n) e in absurd (omega (arith, same_sum x n same, many', few))
one_beyond (x ∷ before) (y ∷ other) m n after behind k e few many few' many' =
    let same : x ≡ y = ap (λ ms. first_module ms n) e in
    let sum = same_sum x y same in
    one_beyond before other m n after behind (k + count_by is_table (spell x.tree)) (ap rest_of e)
    (omega (arith, few)) (omega (arith, many)) (omega (arith, few', sum)) (omega (arith, many', sum))

same_beyond : (ms : List ModuleTrees) (m n : ModuleTrees) → IsBeyond ms m → IsBeyond ms n → m ≡ n
same_beyond ms m n p q = one_beyond p.before q.before m n p.after q.after 0 (sym p.modules_are ∙ q.modules_are)
    (omega (arith, p.few)) (omega (arith, p.many)) (omega (arith, q.few)) (omega (arith, q.many))

fewer : (before : List ModuleTrees) (m : ModuleTrees) (after : List ModuleTrees) → tables_in (before ++ m ∷ []) ≤ tables_in (before ++ m ∷ after)
fewer [] m after = omega arith
fewer (x ∷ before) m after = omega (arith, fewer before m after)

pub many_of_beyond : (ms : List ModuleTrees) (m : ModuleTrees) → IsBeyond ms m → HaveManyTables ms
many_of_beyond ms m h = subst HaveManyTables (sym h.modules_are) (omega (arith, fewer h.before m h.after, h.many))

-- too many tables are told at one line
abbrev TooManyOf : Told → List ℕ → List (List ℕ) → SourceFault → ProjectTrees → Type 0
TooManyOf files dir objects fault p =
    (holds : HoldsProject files dir objects p) × (m : ModuleTrees) × IsBeyond p.modules m
    × (line : ℕ) × IsLineOf holds.says.says.lines m.line line × (fault ≡ BadProject holds.says.name line)

one_told : (files : Told) (dir : List ℕ) (objects : List (List ℕ)) (fault other : SourceFault) (p : ProjectTrees) → TooManyOf files dir objects fault p
    → TooManyOf files dir objects other p → fault ≡ other
one_told files dir objects fault other p (holds, m, beyond, line, is, e) (holds', n, beyond', line', is', e') =
    let here : IsLineOf holds'.says.says.lines n.line line =
    subst (λ (x : ModuleTrees). IsLineOf holds'.says.says.lines x.line line) (same_beyond p.modules m n beyond beyond')
    (subst (λ (ls : List Line). IsLineOf ls m.line line) (one_lines files dir p.said holds.says holds'.says) is) in
    e ∙ ap₂ BadProject (one_project_file files dir p.said holds.says holds'.says) (same_number holds'.says.says.lines n.line line line' here is') ∙ sym e'

pub many_source : FoldersHaveOneAnswer → (files : Told) (dir : List ℕ) (objects : List (List ℕ)) (fault other : SourceFault) → HoldsTooMany files dir objects fault
    → HoldsTooMany files dir objects other → fault ≡ other
many_source one files dir objects fault other (p, holds, m, beyond, line, is, e) (q, holds', n, beyond', line', is', e') =
    one_told files dir objects fault other p (holds, m, beyond, line, is, e)
    (subst (TooManyOf files dir objects other) ((one files dir objects q fault holds').0 p holds) (holds', n, beyond', line', is', e'))
