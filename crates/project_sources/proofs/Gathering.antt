-- From what was read of a module's files to the module, and to the project, as far as files are told.
use Rattle.std.proofs.Common.{◌≡◌, ℕ, ◌<◌, ◌≤◌, ◌+◌, List, [], ◌∷◌, ◌++◌, length, take, get_or, Some, None, IfSome}
use Rattle.std.proofs.Common.{IfOk, IfErr, refl, ap, subst}
use Rattle.std.specs.declared.option.Option.{Option}
use Rattle.std.specs.declared.result.Result.{Result}
use Rattle.std.proofs.lemmas.Result.{IfOk-weaker, IfErr-weaker}
use Rattle.surface_grammar.specs.Listings.{Listing}
use Rattle.surface_grammar.specs.Trees.{Node}
use Rattle.ur_outside.specs.Files.{Told}
use Rattle.ur_parser.specs.Sources.{module_part, interface_part}
use Rattle.project_files.specs.Lines.{Line}
use Rattle.project_files.specs.View.{said_by}
use Rattle.project_files.specs.declared.projects.Project.{Project}
use Rattle.project_sources.specs.declared.fault.SourceFault.{SourceFault}
use Rattle.project_sources.specs.declared.fault.SourceFault.TheVariants.{MissingFile}
use Rattle.project_sources.specs.declared.modules.ModuleSource.{ModuleSource}
use Rattle.project_sources.specs.declared.projects.Sources.{Sources}
use Rattle.project_sources.specs.Causes.{Says}
use Rattle.project_sources.specs.Texts.{HasNoTree}
use Rattle.project_sources.specs.Modules.{HasModuleFile, HasNoModule, HaveNoModules, missing, no_tree, no_interface}
use Rattle.project_sources.specs.Modules.{file_in, module_file, interface_file}
use Rattle.project_sources.specs.Projects.{AllThere, SaysProject, SaysNoProject, HoldsNoProject, no_project}
use Rattle.project_sources.specs.Projects.{unknown_foreign, no_modules, IsCause}
use Rattle.project_sources.specs.Steps.{IsTooLong, IsUnknown}
use Rattle.project_sources.specs.View.{IsModuleListing, IsInterfaceListing, IsModuleRead, IsInterfaceRead}
use Rattle.project_sources.specs.View.{IsModuleSource, AreModuleSources, IsProject}
use Rattle.project_sources.proofs.Files.{module_read, interface_read, interface_missing, long_module, long_interface}
use Rattle.project_sources.proofs.Files.{module_is, module_more, module_none, none_read, all_read}
use Rattle.project_sources.proofs.Saying.{says-weaker, told_one, told_two, told_all}

-- ---- a module's file

pub tree_long : (told : Option Told) (dir : List ℕ) (line : Line) (name : List ℕ) (fault : SourceFault)
    → name ≡ module_file line
    → IfSome told (λ files. Says (IsTooLong (file_in files dir name) name) fault) → IfSome told (λ files. Says
    (HasNoModule files dir line) fault)
tree_long told dir line name fault is long =
    told_one told (λ files. Says (IsTooLong (file_in files dir (module_file line)) (module_file line)) fault)
    (λ files. Says (HasNoModule files dir line) fault)
    (subst (λ (n : List ℕ). IfSome told (λ files. Says (IsTooLong (file_in files dir n) n) fault)) is long)
    (λ files h. says-weaker (IsTooLong (file_in files dir (module_file line)) (module_file line))
    (HasNoModule files dir line) (λ f. long_module files dir line f) fault h)

named : (told : Option Told) (dir name other : List ℕ) (content : Option (List ℕ)) → name ≡ other → IfSome told
    (λ files. file_in files dir name ≡ content) → IfSome told (λ files. file_in files dir other ≡ content)
named told dir name other content is there = subst (λ (n : List ℕ). IfSome told
    (λ files. file_in files dir n ≡ content)) is there

pub tree_missing : (told : Option Told) (dir : List ℕ) (line : Line) (name file : List ℕ) → name ≡ module_file line
    → file ≡ module_file line
    → IfSome told (λ files. file_in files dir name ≡ None) → IfSome told (λ files. HasNoModule files dir line
    (MissingFile file))
tree_missing told dir line name file is also gone =
    told_one told (λ files. file_in files dir (module_file line) ≡ None) (λ files. HasNoModule files dir line
    (MissingFile file)) (named told dir name (module_file line) None is gone)
    (λ files h. missing h (ap MissingFile also))

pub tree_is : (told : Option Told) (dir : List ℕ) (line : Line) (name bytes all : List ℕ)
    (r : Result Listing SourceFault) → name ≡ module_file line → all ≡ bytes
    → IfSome told (λ files. file_in files dir name ≡ Some bytes) → IfOk r (IsModuleListing all)
    → IfOk r (λ tree. IfSome told (λ files. IsModuleRead (file_in files dir (module_file line)) tree))
tree_is told dir line name bytes all r is same there =
    IfOk-weaker r (IsModuleListing all) (λ tree. IfSome told (λ files. IsModuleRead (file_in files dir
    (module_file line)) tree))
    (λ tree h. told_one told (λ files. file_in files dir (module_file line) ≡ Some bytes) (λ files. IsModuleRead
    (file_in files dir (module_file line)) tree)
    (named told dir name (module_file line) (Some bytes) is there)
    (λ files e. module_read (file_in files dir (module_file line)) bytes tree e (subst (λ
    (l : List ℕ). IsModuleListing l tree) same h)))

-- a refusal of a file's bytes, under its name
renamed : (part : _) (name other bytes all : List ℕ) (fault : SourceFault) → name ≡ other → all ≡ bytes → Says
    (HasNoTree part name all) fault → Says (HasNoTree part other bytes) fault
renamed part name other bytes all fault is same h =
    subst (λ (n : List ℕ). Says (HasNoTree part n bytes) fault) is (subst (λ (l : List ℕ). Says
    (HasNoTree part name l) fault) same h)

pub tree_refused : (told : Option Told) (dir : List ℕ) (line : Line) (name bytes all : List ℕ)
    (r : Result Listing SourceFault) → name ≡ module_file line → all ≡ bytes
    → IfSome told (λ files. file_in files dir name ≡ Some bytes) → IfErr r (Says (HasNoTree module_part name all))
    → IfErr r (λ fault. IfSome told (λ files. Says (HasNoModule files dir line) fault))
tree_refused told dir line name bytes all r is same there =
    IfErr-weaker r (Says (HasNoTree module_part name all)) (λ fault. IfSome told (λ files. Says
    (HasNoModule files dir line) fault))
    (λ fault h. told_one told (λ files. file_in files dir (module_file line) ≡ Some bytes) (λ files. Says
    (HasNoModule files dir line) fault)
    (named told dir name (module_file line) (Some bytes) is there)
    (λ files e. says-weaker (HasNoTree module_part (module_file line) bytes) (HasNoModule files dir line)
    (λ f. no_tree bytes e) fault
    (renamed module_part name (module_file line) bytes all fault is same h)))

-- ---- the file of its interface

-- what is told of a fault, where the module's own file has a tree
abbrev pub Beside : Told → List ℕ → Line → SourceFault → Type 0
Beside files dir line fault = (tree : Node) → HasModuleFile (file_in files dir (module_file line)) tree → Says
    (HasNoModule files dir line) fault

pub interface_long : (told : Option Told) (dir : List ℕ) (line : Line) (name : List ℕ) (fault : SourceFault)
    → name ≡ interface_file line
    → IfSome told (λ files. Says (IsTooLong (file_in files dir name) name) fault) → IfSome told
    (λ files. Beside files dir line fault)
interface_long told dir line name fault is long =
    told_one told (λ files. Says (IsTooLong (file_in files dir (interface_file line)) (interface_file line)) fault)
    (λ files. Beside files dir line fault)
    (subst (λ (n : List ℕ). IfSome told (λ files. Says (IsTooLong (file_in files dir n) n) fault)) is long)
    (λ files h tree has. says-weaker (IsTooLong (file_in files dir (interface_file line)) (interface_file line))
    (HasNoModule files dir line) (λ f. long_interface files dir line tree has f) fault h)

pub interface_none : (told : Option Told) (dir : List ℕ) (line : Line) (name : List ℕ) → name ≡ interface_file line
    → IfSome told (λ files. file_in files dir name ≡ None) → IfSome told (λ files. IsInterfaceRead (file_in files dir
    (interface_file line)) None)
interface_none told dir line name is gone =
    told_one told (λ files. file_in files dir (interface_file line) ≡ None) (λ files. IsInterfaceRead
    (file_in files dir (interface_file line)) None)
    (named told dir name (interface_file line) None is gone) (λ files h. interface_missing (file_in files dir
    (interface_file line)) h)

pub interface_is : (told : Option Told) (dir : List ℕ) (line : Line) (name bytes all : List ℕ) (tree : Listing)
    → name ≡ interface_file line → all ≡ bytes
    → IfSome told (λ files. file_in files dir name ≡ Some bytes) → IsInterfaceListing all tree
    → IfSome told (λ files. IsInterfaceRead (file_in files dir (interface_file line)) (Some tree))
interface_is told dir line name bytes all tree is same there h =
    told_one told (λ files. file_in files dir (interface_file line) ≡ Some bytes) (λ files. IsInterfaceRead
    (file_in files dir (interface_file line)) (Some tree))
    (named told dir name (interface_file line) (Some bytes) is there)
    (λ files e. interface_read (file_in files dir (interface_file line)) bytes tree e (subst (λ
    (l : List ℕ). IsInterfaceListing l tree) same h))

pub interface_refused : (told : Option Told) (dir : List ℕ) (line : Line) (name bytes all : List ℕ)
    (fault : SourceFault) → name ≡ interface_file line → all ≡ bytes
    → IfSome told (λ files. file_in files dir name ≡ Some bytes) → Says (HasNoTree interface_part name all) fault
    → IfSome told (λ files. Beside files dir line fault)
interface_refused told dir line name bytes all fault is same there h =
    told_one told (λ files. file_in files dir (interface_file line) ≡ Some bytes) (λ files. Beside files dir line fault)
    (named told dir name (interface_file line) (Some bytes) is there)
    (λ files e tree has. says-weaker (HasNoTree interface_part (interface_file line) bytes)
    (HasNoModule files dir line) (λ f. no_interface tree has bytes e) fault
    (renamed interface_part name (interface_file line) bytes all fault is same h))

-- ---- the module; `now` is what is told when its own file was read

pub source_refused : (told now : Option Told) (dir : List ℕ) (line : Line) (tree : Listing) (fault : SourceFault)
    → now ≡ told
    → IfSome told (λ files. IsModuleRead (file_in files dir (module_file line)) tree) → IfSome now
    (λ files. Beside files dir line fault)
    → IfSome told (λ files. Says (HasNoModule files dir line) fault)
source_refused told now dir line tree fault kept read beside =
    told_two told (λ files. IsModuleRead (file_in files dir (module_file line)) tree)
    (λ files. Beside files dir line fault) (λ files. Says (HasNoModule files dir line) fault)
    read (subst (λ (t : Option Told). IfSome t (λ files. Beside files dir line fault)) kept beside)
    (λ files a b. b a.0 a.1)

pub source_is : (told now : Option Told) (dir : List ℕ) (line : Line) (source : ModuleSource) → now ≡ told
    → source.line ≡ line
    → IfSome told (λ files. IsModuleRead (file_in files dir (module_file line)) source.tree) → IfSome now
    (λ files. IsInterfaceRead (file_in files dir (interface_file line)) source.interface)
    → IfSome told (λ files. IsModuleSource files dir line source)
source_is told now dir line source kept is read beside =
    told_two told (λ files. IsModuleRead (file_in files dir (module_file line)) source.tree)
    (λ files. IsInterfaceRead (file_in files dir (interface_file line)) source.interface)
    (λ files. IsModuleSource files dir line source)
    read (subst (λ (t : Option Told). IfSome t (λ files. IsInterfaceRead (file_in files dir
    (interface_file line)) source.interface)) kept beside)
    (λ files a b. module_is files dir line source is a b)

-- ---- modules in order; `now` is what is told when those before were read

pub sources_none : (told : Option Told) (dir : List ℕ) → IfSome told (λ files. AreModuleSources files dir [] [])
sources_none told dir = told_all told (λ files. AreModuleSources files dir [] []) (λ files. none_read files dir)

pub sources_more : (told now : Option Told) (dir : List ℕ) (lines : List Line) (i : ℕ) (line : Line)
    (sources : List ModuleSource) (source : ModuleSource) → now ≡ told
    → i < length lines → line ≡ get_or lines i line
    → IfSome told (λ files. AreModuleSources files dir (take i lines) sources) → IfSome now
    (λ files. IsModuleSource files dir line source)
    → IfSome told (λ files. AreModuleSources files dir (take (i + 1) lines) (sources ++ source ∷ []))
sources_more told now dir lines i line sources source kept below is read one =
    told_two told (λ files. AreModuleSources files dir (take i lines) sources)
    (λ files. IsModuleSource files dir line source)
    (λ files. AreModuleSources files dir (take (i + 1) lines) (sources ++ source ∷ []))
    read (subst (λ (t : Option Told). IfSome t (λ files. IsModuleSource files dir line source)) kept one)
    (λ files a b. module_more files dir lines i line sources source below is a b)

pub sources_refused : (told now : Option Told) (dir : List ℕ) (lines : List Line) (i : ℕ) (line : Line)
    (sources : List ModuleSource) (fault : SourceFault) → now ≡ told
    → i < length lines → line ≡ get_or lines i line
    → IfSome told (λ files. AreModuleSources files dir (take i lines) sources) → IfSome now (λ files. Says
    (HasNoModule files dir line) fault)
    → IfSome told (λ files. Says (HaveNoModules files dir lines) fault)
sources_refused told now dir lines i line sources fault kept below is read none =
    told_two told (λ files. AreModuleSources files dir (take i lines) sources) (λ files. Says
    (HasNoModule files dir line) fault)
    (λ files. Says (HaveNoModules files dir lines) fault)
    read (subst (λ (t : Option Told). IfSome t (λ files. Says (HasNoModule files dir line) fault)) kept none)
    (λ files a b. says-weaker (HasNoModule files dir line) (HaveNoModules files dir lines)
    (λ f. module_none files dir lines i line sources f below is a) fault b)

pub sources_all : (told : Option Told) (dir : List ℕ) (lines : List Line) (i : ℕ) (sources : List ModuleSource)
    → length lines ≤ i
    → IfSome told (λ files. AreModuleSources files dir (take i lines) sources) → IfSome told
    (λ files. AreModuleSources files dir lines sources)
sources_all told dir lines i sources past read =
    told_one told (λ files. AreModuleSources files dir (take i lines) sources)
    (λ files. AreModuleSources files dir lines sources) read
    (λ files a. all_read files dir lines i sources past a)

-- ---- the project

pub file_refused : (told : Option Told) (dir : List ℕ) (objects : List Line) (fault : SourceFault)
    → IfSome told (λ files. Says (SaysNoProject files dir) fault) → IfSome told
    (λ files. IsCause files dir objects fault)
file_refused told dir objects fault h =
    told_one told (λ files. Says (SaysNoProject files dir) fault) (λ files. IsCause files dir objects fault) h
    (λ files a. says-weaker (SaysNoProject files dir) (HoldsNoProject files dir objects) (λ f. no_project) fault a)

pub foreign_refused : (told : Option Told) (dir : List ℕ) (objects names : List Line) (project : Project)
    (fault : SourceFault) → names ≡ project.foreign.items
    → IfSome told (λ files. SaysProject files dir (said_by project)) → Says (IsUnknown objects names) fault
    → IfSome told (λ files. IsCause files dir objects fault)
foreign_refused told dir objects names project fault are says h =
    told_one told (λ files. SaysProject files dir (said_by project)) (λ files. IsCause files dir objects fault) says
    (λ files a. says-weaker (IsUnknown objects project.foreign.items) (HoldsNoProject files dir objects)
    (λ f u. unknown_foreign (said_by project) a u.0 u.1 u.2) fault
    (subst (λ (ns : List Line). Says (IsUnknown objects ns) fault) are h))

pub modules_refused : (told now : Option Told) (dir : List ℕ) (objects names lines : List Line) (project : Project)
    (fault : SourceFault) → now ≡ told
    → names ≡ project.foreign.items → lines ≡ project.modules.items
    → IfSome told (λ files. SaysProject files dir (said_by project)) → AllThere objects names → IfSome now
    (λ files. Says (HaveNoModules files dir lines) fault)
    → IfSome told (λ files. IsCause files dir objects fault)
modules_refused told now dir objects names lines project fault kept are named says known h =
    told_two told (λ files. SaysProject files dir (said_by project)) (λ files. Says
    (HaveNoModules files dir project.modules.items) fault) (λ files. IsCause files dir objects fault) says
    (subst (λ (ls : List Line). IfSome told (λ files. Says (HaveNoModules files dir ls) fault)) named (subst (λ
    (t : Option Told). IfSome t (λ files. Says (HaveNoModules files dir lines) fault)) kept h))
    (λ files a b. says-weaker (HaveNoModules files dir project.modules.items) (HoldsNoProject files dir objects)
    (λ f u. no_modules (said_by project) a (subst (λ (ns : List Line). AllThere objects ns) are known) u) fault b)

pub project_is : (told now : Option Told) (dir : List ℕ) (objects names lines : List Line) (sources : Sources)
    → now ≡ told
    → names ≡ sources.project.foreign.items → lines ≡ sources.project.modules.items
    → IfSome told (λ files. SaysProject files dir (said_by sources.project)) → AllThere objects names → IfSome now
    (λ files. AreModuleSources files dir lines sources.modules.items)
    → IfSome told (λ files. IsProject files dir objects sources)
project_is told now dir objects names lines sources kept are named says known h =
    told_two told (λ files. SaysProject files dir (said_by sources.project))
    (λ files. AreModuleSources files dir sources.project.modules.items sources.modules.items)
    (λ files. IsProject files dir objects sources) says
    (subst (λ (ls : List Line). IfSome told (λ files. AreModuleSources files dir ls sources.modules.items)) named
    (subst (λ (t : Option Told). IfSome t (λ files. AreModuleSources files dir lines sources.modules.items)) kept
    h))
    (λ files a b. (
      record { said = said_by sources.project; modules = b.0 },
      record { says = a; foreign = subst (λ (ns : List Line). AllThere objects ns) are known; modules = b.1 },
      record { said = refl; modules = b.2 },
    ))
