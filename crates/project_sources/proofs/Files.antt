-- From the files of a module to the module, or to why there is none.
use Rattle.std.proofs.Common.{◌≡◌, ℕ, ◌<◌, ◌≤◌, ◌+◌, List, [], ◌∷◌, ◌++◌, length, take, drop, get_or, Some, None}
use Rattle.std.proofs.Common.{refl, sym, ap, ◌∙◌, subst}
use Rattle.std.specs.declared.option.Option.{Option}
use Rattle.std.proofs.lemmas.List.{take-append-drop, take_more, take_all, drop_more}
use Rattle.surface_grammar.specs.Listings.{Listing}
use Rattle.surface_grammar.specs.Trees.{Node}
use Rattle.ur_outside.specs.Files.{Told}
use Rattle.project_files.specs.Lines.{Line}
use Rattle.project_sources.specs.declared.fault.SourceFault.{SourceFault}
use Rattle.project_sources.specs.declared.modules.ModuleSource.{ModuleSource}
use Rattle.project_sources.specs.Texts.{too_long}
use Rattle.project_sources.specs.Modules.{ModuleTrees, HasModuleFile, HasInterfaceFile, IsModule, AreModules}
use Rattle.project_sources.specs.Modules.{HasNoModule, no_tree, no_interface, HaveNoModules, file_in, module_file}
use Rattle.project_sources.specs.Modules.{interface_file}
use Rattle.project_sources.specs.Steps.{IsTooLong}
use Rattle.project_sources.specs.View.{IsModuleListing, IsInterfaceListing, IsModuleRead, IsInterfaceRead}
use Rattle.project_sources.specs.View.{IsModuleSource, AreModuleSources, ListsModule, ListsModules}

-- a file that was read is that of a module, or of an interface
pub module_read : (content : Option (List ℕ)) (bytes : List ℕ) (tree : Listing) → content ≡ Some bytes
    → IsModuleListing bytes tree → IsModuleRead content tree
module_read content bytes tree there h = (h.0, subst (λ o. HasModuleFile o h.0) (sym there) h.1, h.2)

pub interface_read : (content : Option (List ℕ)) (bytes : List ℕ) (tree : Listing) → content ≡ Some bytes
    → IsInterfaceListing bytes tree → IsInterfaceRead content (Some tree)
interface_read content bytes tree there h = (Some h.0, subst (λ o. HasInterfaceFile o (Some h.0)) (sym there) h.1, h.2)

-- there is no interface where its file isn't there
pub interface_missing : (content : Option (List ℕ)) → content ≡ None → IsInterfaceRead content None
interface_missing content none = (None, subst (λ o. HasInterfaceFile o None) (sym none) tt, tt)

-- a module's file that is too long, and that of its interface
pub long_module : (files : Told) (dir : List ℕ) (line : Line) (fault : SourceFault) → IsTooLong (file_in files dir
    (module_file line)) (module_file line) fault → HasNoModule files dir line fault
long_module files dir line fault h = no_tree h.0 h.1 (too_long h.2 h.3)

pub long_interface : (files : Told) (dir : List ℕ) (line : Line) (tree : Node) → HasModuleFile (file_in files dir
    (module_file line)) tree
    → (fault : SourceFault) → IsTooLong (file_in files dir (interface_file line)) (interface_file line) fault
    → HasNoModule files dir line fault
long_interface files dir line tree has fault h = no_interface tree has h.0 h.1 (too_long h.2 h.3)

-- what was read of a module's files is the module
pub module_is : (files : Told) (dir : List ℕ) (line : Line) (source : ModuleSource) → source.line ≡ line
    → IsModuleRead (file_in files dir (module_file line)) source.tree → IsInterfaceRead (file_in files dir
    (interface_file line)) source.interface
    → IsModuleSource files dir line source
module_is files dir line source named tree interface = (
  record { line = line; tree = tree.0; interface = interface.0 },
  record { named = refl; tree = tree.1; interface = interface.1 },
  record { line = named; tree = tree.2; interface = interface.2 },
)

-- ---- modules in order

modules_more : (files : Told) (dir : List ℕ) (lines : List Line) (ms : List ModuleTrees) (line : Line) (m : ModuleTrees)
    → AreModules files dir lines ms → IsModule files dir line m → AreModules files dir (lines ++ line ∷ [])
    (ms ++ m ∷ [])
modules_more files dir [] [] line m h is = (is, tt)
modules_more files dir [] (n ∷ ns) line m h is = absurd h
modules_more files dir (l ∷ ls) [] line m h is = absurd h
modules_more files dir (l ∷ ls) (n ∷ ns) line m h is = (h.0, modules_more files dir ls ns line m h.1 is)

sources_more : (sources : List ModuleSource) (ms : List ModuleTrees) (source : ModuleSource) (m : ModuleTrees)
    → ListsModules sources ms → ListsModule source m → ListsModules (sources ++ source ∷ []) (ms ++ m ∷ [])
sources_more [] [] source m h is = (is, tt)
sources_more [] (n ∷ ns) source m h is = absurd h
sources_more (s ∷ ss) [] source m h is = absurd h
sources_more (s ∷ ss) (n ∷ ns) source m h is = (h.0, sources_more ss ns source m h.1 is)

-- a module more
pub module_more : (files : Told) (dir : List ℕ) (lines : List Line) (i : ℕ) (line : Line)
    (sources : List ModuleSource) (source : ModuleSource)
    → i < length lines → line ≡ get_or lines i line
    → AreModuleSources files dir (take i lines) sources → IsModuleSource files dir line source
    → AreModuleSources files dir (take (i + 1) lines) (sources ++ source ∷ [])
module_more files dir lines i line sources source below is read one = (
  read.0 ++ one.0 ∷ [],
  subst (λ ls. AreModules files dir ls (read.0 ++ one.0 ∷ [])) (sym (take_more lines i line below ∙ ap
      (λ l. take i lines ++ l ∷ []) (sym is)))
      (modules_more files dir (take i lines) read.0 line one.0 read.1 one.1),
  sources_more sources read.0 source one.0 read.2 one.2,
)

-- or the first that is none
pub module_none : (files : Told) (dir : List ℕ) (lines : List Line) (i : ℕ) (line : Line)
    (sources : List ModuleSource) (fault : SourceFault)
    → i < length lines → line ≡ get_or lines i line
    → AreModuleSources files dir (take i lines) sources → HasNoModule files dir line fault
    → HaveNoModules files dir lines fault
module_none files dir lines i line sources fault below is read none = record {
  before = take i lines;
  line = line;
  after = drop (i + 1) lines;
  lines_are = sym (take-append-drop i lines) ∙ ap (λ l. take i lines ++ l) (drop_more lines i line below ∙ ap
      (λ l. l ∷ drop (i + 1) lines) (sym is));
  modules = read.0;
  read = read.1;
  none = none;
}

-- none was read yet, and all were
pub none_read : (files : Told) (dir : List ℕ) → AreModuleSources files dir [] []
none_read files dir = ([], tt, tt)

pub all_read : (files : Told) (dir : List ℕ) (lines : List Line) (i : ℕ) (sources : List ModuleSource)
    → length lines ≤ i
    → AreModuleSources files dir (take i lines) sources → AreModuleSources files dir lines sources
all_read files dir lines i sources past read = subst (λ ls. AreModuleSources files dir ls sources)
    (take_all i lines past) read
