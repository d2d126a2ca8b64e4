-- A line names one module at most, or none for one reason.
use Rattle.std.proofs.Common.{◌≡◌, ℕ, List, [], ◌∷◌, ◌++◌, Some, None, refl, sym, ap, ap₂, ◌∙◌, subst}
use Rattle.std.specs.declared.option.Option.{Option}
use Rattle.surface_grammar.specs.Trees.{Node}
use Rattle.ur_outside.specs.Files.{Told}
use Rattle.ur_parser.specs.Sources.{module_part, interface_part}
use Rattle.project_files.specs.Lines.{Line}
use Rattle.project_sources.specs.declared.fault.SourceFault.{SourceFault}
use Rattle.project_sources.specs.Texts.{HasNoTree}
use Rattle.project_sources.specs.Modules.{ModuleTrees, HasModuleFile, HasInterfaceFile, IsModule, AreModules}
use Rattle.project_sources.specs.Modules.{HasNoModule, missing, no_tree, no_interface, HaveNoModules, file_in}
use Rattle.project_sources.specs.Modules.{module_file, interface_file}
use Rattle.project_sources.proofs.OneText.{Readers, one_tree, tree_or_none, one_reason}

one_file : Readers → (content : Option (List ℕ)) (n o : Node) → HasModuleFile content n → HasModuleFile content o
    → n ≡ o
one_file laws None n o h k = absurd h
one_file laws (Some bytes) n o h k = one_tree laws module_part bytes n o refl h k

one_interface : Readers → (content : Option (List ℕ)) (n o : Option Node) → HasInterfaceFile content n
    → HasInterfaceFile content o → n ≡ o
one_interface laws None None None h k = refl
one_interface laws None None (Some o) h k = absurd k
one_interface laws None (Some n) o h k = absurd h
one_interface laws (Some bytes) None o h k = absurd h
one_interface laws (Some bytes) (Some n) None h k = absurd k
one_interface laws (Some bytes) (Some n) (Some o) h k = ap Some (one_tree laws interface_part bytes n o refl h k)

pub one_module : Readers → (files : Told) (dir : List ℕ) (line : Line) (m o : ModuleTrees)
    → IsModule files dir line m → IsModule files dir line o → m ≡ o
one_module laws files dir line m o h k =
    let named : m.line ≡ o.line = h.named ∙ sym k.named in
    let trees : m.tree ≡ o.tree = one_file laws (file_in files dir (module_file line)) m.tree o.tree h.tree k.tree in
    let interfaces : m.interface ≡ o.interface = one_interface laws (file_in files dir
    (interface_file line)) m.interface o.interface h.interface k.interface in
    λ i. record { line = named i; tree = trees i; interface = interfaces i }

-- what is there isn't missing, and is one
not_there : (content : Option (List ℕ)) (n : Node) → HasModuleFile content n → content ≡ None → ⊥
not_there content n h none = subst (λ o. HasModuleFile o n) none h

one_bytes : (content : Option (List ℕ)) (bytes others : List ℕ) → content ≡ Some bytes → content ≡ Some others
    → others ≡ bytes
one_bytes content bytes others e e' = cc

no_bytes : (content : Option (List ℕ)) (bytes : List ℕ) → content ≡ None → content ≡ Some bytes → ⊥
no_bytes content bytes e e' = absurd (cc (sym e ∙ e'))

file_or_none : Readers → (content : Option (List ℕ)) (name bytes : List ℕ) (n : Node) (fault : SourceFault)
    → HasModuleFile content n → content ≡ Some bytes → HasNoTree module_part name bytes fault → ⊥
file_or_none laws content name bytes n fault h there none = tree_or_none laws module_part name bytes n fault (subst
    (λ o. HasModuleFile o n) there h) none

interface_or_none : Readers → (content : Option (List ℕ)) (name bytes : List ℕ) (n : Option Node)
    (fault : SourceFault) → HasInterfaceFile content n → content ≡ Some bytes
    → HasNoTree interface_part name bytes fault → ⊥
interface_or_none laws content name bytes None fault h there none = subst (λ o. HasInterfaceFile o None) there h
interface_or_none laws content name bytes (Some n) fault h there none = tree_or_none laws interface_part name bytes n
    fault (subst (λ o. HasInterfaceFile o (Some n)) there h) none

pub module_or_none : Readers → (files : Told) (dir : List ℕ) (line : Line) (m : ModuleTrees) (fault : SourceFault)
    → IsModule files dir line m → HasNoModule files dir line fault → ⊥
module_or_none laws files dir line m fault h (missing none e) = not_there (file_in files dir
    (module_file line)) m.tree h.tree none
module_or_none laws files dir line m fault h (no_tree bytes there none) = file_or_none laws (file_in files dir
    (module_file line)) (module_file line) bytes m.tree fault h.tree there none
module_or_none laws files dir line m fault h (no_interface tree has bytes there none) = interface_or_none laws
    (file_in files dir (interface_file line)) (interface_file line) bytes m.interface fault h.interface there none

same_bytes : Readers → (part : _) (content : Option (List ℕ)) (name bytes others : List ℕ)
    (fault again : SourceFault) → content ≡ Some bytes → content ≡ Some others
    → HasNoTree part name bytes fault → HasNoTree part name others again → fault ≡ again
same_bytes laws part content name bytes others fault again e e' h k =
    one_reason laws part name bytes fault again h (subst (λ (l : List ℕ). HasNoTree part name l again)
    (one_bytes content bytes others e e') k)

pub one_none : Readers → (files : Told) (dir : List ℕ) (line : Line) (fault again : SourceFault)
    → HasNoModule files dir line fault → HasNoModule files dir line again → fault ≡ again
one_none laws files dir line fault again (missing none e) (missing none' e') = e ∙ sym e'
one_none laws files dir line fault again (missing none e) (no_tree bytes there h) = absurd (no_bytes _ bytes none there)
one_none laws files dir line fault again (missing none e) (no_interface tree has bytes there h) = absurd
    (not_there _ tree has none)
one_none laws files dir line fault again (no_tree bytes there h) (missing none e) = absurd (no_bytes _ bytes none there)
one_none laws files dir line fault again (no_tree bytes there h)
    (no_tree others there' h') = same_bytes laws module_part (file_in files dir (module_file line))
    (module_file line) bytes others fault again there there' h h'
one_none laws files dir line fault again (no_tree bytes there h) (no_interface tree has others there' h') = absurd
    (file_or_none laws (file_in files dir (module_file line)) (module_file line) bytes tree fault has there h)
one_none laws files dir line fault again (no_interface tree has bytes there h) (missing none e) = absurd
    (not_there _ tree has none)
one_none laws files dir line fault again (no_interface tree has bytes there h) (no_tree others there' h') = absurd
    (file_or_none laws (file_in files dir (module_file line)) (module_file line) others tree again has there' h')
one_none laws files dir line fault again (no_interface tree has bytes there h)
    (no_interface tree' has' others there' h') = same_bytes laws interface_part (file_in files dir
    (interface_file line)) (interface_file line) bytes others fault again there there' h h'

-- ---- modules in order

pub one_list : Readers → (files : Told) (dir : List ℕ) (lines : List Line) (ms os : List ModuleTrees)
    → AreModules files dir lines ms → AreModules files dir lines os → ms ≡ os
one_list laws files dir [] [] [] h k = refl
one_list laws files dir [] [] (o ∷ os) h k = absurd k
one_list laws files dir [] (m ∷ ms) os h k = absurd h
one_list laws files dir (l ∷ ls) [] os h k = absurd h
one_list laws files dir (l ∷ ls) (m ∷ ms) [] h k = absurd k
one_list laws files dir (l ∷ ls) (m ∷ ms) (o ∷ os) h k = ap₂ (λ x xs. x ∷ xs)
    (one_module laws files dir l m o h.0 k.0) (one_list laws files dir ls ms os h.1 k.1)

abbrev first_line : List Line → Line
first_line [] = []
first_line (l ∷ ls) = l

abbrev later_lines : List Line → List Line
later_lines [] = []
later_lines (l ∷ ls) = ls

list_or_none : Readers → (files : Told) (dir : List ℕ) (before after : List Line) (line : Line)
    (ms : List ModuleTrees) (fault : SourceFault) → AreModules files dir (before ++ line ∷ after) ms
    → HasNoModule files dir line fault → ⊥
list_or_none laws files dir [] after line [] fault h none = h
list_or_none laws files dir [] after line (m ∷ ms) fault h none = module_or_none laws files dir line m fault h.0 none
list_or_none laws files dir (l ∷ before) after line [] fault h none = h
list_or_none laws files dir (l ∷ before) after line (m ∷ ms) fault h none = list_or_none laws files dir before after
    line ms fault h.1 none

pub modules_or_none : Readers → (files : Told) (dir : List ℕ) (lines : List Line) (ms : List ModuleTrees)
    (fault : SourceFault) → AreModules files dir lines ms → HaveNoModules files dir lines fault → ⊥
modules_or_none laws files dir lines ms fault h k =
    list_or_none laws files dir k.before k.after k.line ms fault (subst
    (λ ls. AreModules files dir ls ms) k.lines_are h) k.none

one_stop : Readers → (files : Told) (dir : List ℕ) (before after front rest : List Line) (line last : Line)
    (ms os : List ModuleTrees) (fault again : SourceFault)
    → before ++ line ∷ after ≡ front ++ last ∷ rest → AreModules files dir before ms → HasNoModule files dir line fault
    → AreModules files dir front os → HasNoModule files dir last again → fault ≡ again
one_stop laws files dir [] after [] rest line last ms os fault again e h none k nor =
    one_none laws files dir line fault again none (subst (λ l. HasNoModule files dir l again) (sym
    (ap first_line e)) nor)
one_stop laws files dir [] after (l ∷ front) rest line last ms [] fault again e h none k nor = absurd k
one_stop laws files dir [] after (l ∷ front) rest line last ms (o ∷ os) fault again e h none k nor =
    absurd (module_or_none laws files dir l o fault k.0 (subst (λ x. HasNoModule files dir x fault)
    (ap first_line e) none))
one_stop laws files dir (l ∷ before) after [] rest line last [] os fault again e h none k nor = absurd h
one_stop laws files dir (l ∷ before) after [] rest line last (m ∷ ms) os fault again e h none k nor =
    absurd (module_or_none laws files dir l m again h.0 (subst (λ x. HasNoModule files dir x again) (sym
    (ap first_line e)) nor))
one_stop laws files dir (l ∷ before) after (l' ∷ front) rest line last [] os fault again e h none k nor = absurd h
one_stop laws files dir (l ∷ before) after (l' ∷ front) rest line last (m ∷ ms) [] fault again e h none k nor = absurd k
one_stop laws files dir (l ∷ before) after (l' ∷ front) rest line last (m ∷ ms) (o ∷ os) fault again e h none k nor =
    one_stop laws files dir before after front rest line last ms os fault again (ap later_lines e) h.1 none k.1 nor

pub one_first : Readers → (files : Told) (dir : List ℕ) (lines : List Line) (fault again : SourceFault)
    → HaveNoModules files dir lines fault → HaveNoModules files dir lines again → fault ≡ again
one_first laws files dir lines fault again h k =
    one_stop laws files dir h.before h.after k.before k.after h.line k.line h.modules k.modules fault again
    (sym h.lines_are ∙ k.lines_are) h.read h.none k.read k.none
