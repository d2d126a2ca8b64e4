-- From what the steps of building tell of a fault to its cause.
use Rattle.std.proofs.Common.{ℕ, List, refl, subst, sym, inl, inr}
use Rattle.ur_outside.specs.Files.{Told}
use Rattle.ur_parser.specs.Sources.{module_part}
use Rattle.surface_grammar.specs.Trees.{Node}
use Rattle.project_files.specs.Lines.{Line}
use Rattle.project_sources.specs.Causes.{Says}
use Rattle.project_sources.specs.Projects.{HoldsProject, HoldsNoProject, ProjectTrees}
use Rattle.project_sources.specs.Texts.{HasNoTree, IsModuleTree}
use Rattle.project_sources.specs.declared.fault.SourceFault.{SourceFault}
use Rattle.project_sources.specs.declared.fault.SourceFault.TheVariants as source
use Rattle.site_build.specs.Causes.{AreBuilt, HaveFewTables, IsCauseIn, IsCauseOfText, IsLineOf, only_file}
use Rattle.site_build.specs.Faults.{IsAtModule, IsBeyondAt, IsOfForms, IsOfModules, IsOfOutside, IsOfProgram}
use Rattle.site_build.specs.Lines.{of_source}
use Rattle.site_build.specs.Sources.{only_module}
use Rattle.site_build.specs.declared.fault.BuildFault.{BuildFault}
use Rattle.site_build.specs.declared.fault.BuildFault.TheVariants.{Source, NotBuilt, Refused, ReadFault, Memory}

-- a fault of forms is one of the modules
pub of_forms : (p : ProjectTrees) (fault : BuildFault) → IsOfForms p.modules fault → IsOfModules p fault
of_forms p (Source fault) h = absurd h
of_forms p (NotBuilt file at) h = h
of_forms p (Refused file at told) h = absurd h
of_forms p ReadFault h = absurd h
of_forms p Memory h = tt

-- so is one of their program, where they are built
pub of_program : (p : ProjectTrees) (fault : BuildFault) → AreBuilt p.modules → IsOfProgram p fault → IsOfModules p fault
of_program p (Source fault) built h = absurd h
of_program p (NotBuilt file at) built h = absurd h
of_program p (Refused file at told) built h = (built, h)
of_program p ReadFault built h = absurd h
of_program p Memory built h = tt

-- ---- projects

-- the folder holds no project
pub unread_in : (files : Told) (dir : List ℕ) (objects : List (List ℕ)) (fault : SourceFault) → Says (HoldsNoProject files dir objects) fault
    → IsCauseIn files dir objects (of_source fault)
unread_in files dir objects (source.BadProject file line) h = inl h
unread_in files dir objects (source.UnknownForeign name) h = inl h
unread_in files dir objects (source.MissingFile file) h = inl h
unread_in files dir objects (source.FileTooLong file) h = inl h
unread_in files dir objects (source.NotUtf8 file) h = inl h
unread_in files dir objects (source.Unread file told) h = inl h
unread_in files dir objects (source.Unparsed file told) h = inl h
unread_in files dir objects source.ReadFault h = tt
unread_in files dir objects source.Memory h = tt

-- it holds one with too many tables
pub tables_in_project : (files : Told) (dir : List ℕ) (objects : List (List ℕ)) (p : ProjectTrees) (name : Line) (fault : BuildFault)
    → HoldsProject files dir objects p → IsBeyondAt p.modules name → IsAtModule files dir name fault → IsCauseIn files dir objects fault
tables_in_project files dir objects p name fault holds (m, beyond, named) at =
    let (line, is, told) = at p.said holds.says in
    subst (IsCauseIn files dir objects) (sym told)
    (inr (p, holds, m, beyond, line, subst (λ (l : Line). IsLineOf holds.says.says.lines l line) (sym named) is, refl))

-- the outside or want of memory
pub outside_in : (files : Told) (dir : List ℕ) (objects : List (List ℕ)) (fault : BuildFault) → IsOfOutside fault → IsCauseIn files dir objects fault
outside_in files dir objects (Source fault) h = absurd h
outside_in files dir objects (NotBuilt file at) h = absurd h
outside_in files dir objects (Refused file at told) h = absurd h
outside_in files dir objects ReadFault h = tt
outside_in files dir objects Memory h = tt

-- it holds one that isn't built
pub modules_in : (files : Told) (dir : List ℕ) (objects : List (List ℕ)) (p : ProjectTrees) (fault : BuildFault) → HoldsProject files dir objects p
    → HaveFewTables p.modules → IsOfModules p fault → IsCauseIn files dir objects fault
modules_in files dir objects p (Source fault) holds few h = absurd h
modules_in files dir objects p (NotBuilt file at) holds few h = (p, holds, few, h)
modules_in files dir objects p (Refused file at told) holds few h = (p, holds, few, h)
modules_in files dir objects p ReadFault holds few h = tt
modules_in files dir objects p Memory holds few h = tt

-- ---- a module alone

pub unread_text : (bytes : List ℕ) (fault : SourceFault) → Says (HasNoTree module_part only_file bytes) fault → IsCauseOfText bytes (of_source fault)
unread_text bytes (source.BadProject file line) h = inl h
unread_text bytes (source.UnknownForeign name) h = inl h
unread_text bytes (source.MissingFile file) h = inl h
unread_text bytes (source.FileTooLong file) h = inl h
unread_text bytes (source.NotUtf8 file) h = inl h
unread_text bytes (source.Unread file told) h = inl h
unread_text bytes (source.Unparsed file told) h = inl h
unread_text bytes source.ReadFault h = tt
unread_text bytes source.Memory h = tt

pub modules_text : (bytes : List ℕ) (tree : Node) (fault : BuildFault) → IsModuleTree bytes tree → HaveFewTables (only_module tree).modules
    → IsOfModules (only_module tree) fault → IsCauseOfText bytes fault
modules_text bytes tree (Source fault) is few h = absurd h
modules_text bytes tree (NotBuilt file at) is few h = (tree, is, few, h)
modules_text bytes tree (Refused file at told) is few h = (tree, is, few, h)
modules_text bytes tree ReadFault is few h = tt
modules_text bytes tree Memory is few h = tt
