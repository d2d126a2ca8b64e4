-- From what inference and the checker promise to why a project's program is refused (for `elaborated` and `unchecked`),
-- and to what its program is (for `elaborated`).
use Rattle.std.proofs.Common.{◌≡◌, ℕ, List, Option, true, map, subst, sym, inl, inr}
use Rattle.con_terms.specs.declared.place.Place.{Place}
use Rattle.core_terms.specs.Lists.{foreigns_view, rules_view}
use Rattle.core_terms.specs.Trees.{Pg, Ru}
use Rattle.core_typing.specs.Faults.{Fault}
use Rattle.core_typing.specs.Tells.{ProgramTells}
use Rattle.fault_lines.specs.Lines.{IsToldOf, IsToldOfElaboration}
use Rattle.inserted_terms.specs.Programs.{InsertsChosen}
use Rattle.name_scopes.specs.declared.fault.ElabFault.{ElabFault}
use Rattle.placed_terms.specs.Placed.{are_placed}
use Rattle.plain_projects.specs.Said.{exported_said, names_said, rules_said, trees_said}
use Rattle.plain_tree.specs.Trees.{DeclTree}
use Rattle.plain_tree.specs.View.{plain_view}
use Rattle.program_elaborator.specs.Causes.{is_caused}
use Rattle.program_elaborator.specs.declared.program.Source.{Source as AnySource}
use Rattle.project_sources.specs.Projects.{ProjectTrees}
use Rattle.source_terms.specs.Programs.{is_source}
use Rattle.site_build.specs.Faults.{IsOfElaboration, IsOfProgram, IsRefusalAt, IsSourceOf}
use Rattle.site_build.specs.Sources.{IsProgramOf}
use Rattle.site_build.specs.declared.fault.BuildFault.{BuildFault}
use Rattle.site_build.specs.declared.fault.BuildFault.TheVariants.{Source, NotBuilt, Refused, ReadFault, Memory}

-- the program that inference gives is what the project says
pub program_of : (p : ProjectTrees) (s : AnySource) → IsSourceOf p s → (g : Pg)
    → is_source s.modules (map plain_view s.trees.items) s.exported (rules_view s.rules) (foreigns_view s.foreign) g ≡ true
    → InsertsChosen s.modules (map plain_view s.trees.items) g → are_placed (map plain_view s.trees.items) g ≡ true
    → IsProgramOf p g
program_of p s is g says inserts placed =
    let trees = map plain_view s.trees.items in
    let by_names = subst (λ (n : List (List ℕ)). is_source n trees s.exported (rules_view s.rules) (foreigns_view s.foreign) g ≡ true) is.names says in
    let by_trees = subst (λ (t : List (List DeclTree)). is_source (names_said p.modules) t s.exported (rules_view s.rules) (foreigns_view s.foreign) g ≡ true) is.trees by_names in
    let by_exported = subst (λ (e : Option (List (List ℕ))). is_source (names_said p.modules) (trees_said p.modules) e (rules_view s.rules) (foreigns_view s.foreign) g ≡ true) is.exported by_trees in
    let by_rules = subst (λ (r : List Ru). is_source (names_said p.modules) (trees_said p.modules) (exported_said p.modules) r (foreigns_view s.foreign) g ≡ true) is.rules by_exported in
    let by_foreign = subst (λ (f : List (List ℕ × List ℕ)). is_source (names_said p.modules) (trees_said p.modules) (exported_said p.modules) (rules_said p.said.rules) f g ≡ true) is.foreign by_rules in
    let chosen = subst (λ (n : List (List ℕ)). InsertsChosen n trees g) is.names inserts in
    let there = subst (λ (t : List (List DeclTree)). are_placed t g ≡ true) is.trees placed in
    record { says = by_foreign; inserts = subst (λ (t : List (List DeclTree)). InsertsChosen (names_said p.modules) t g) is.trees chosen; placed = there }

-- a cause in what inference begins with is one in the project
caused_of : (p : ProjectTrees) (s : AnySource) → IsSourceOf p s → (f : ElabFault)
    → is_caused s.modules (map plain_view s.trees.items) (foreigns_view s.foreign) f ≡ true
    → is_caused (names_said p.modules) (trees_said p.modules) p.said.effects f ≡ true
caused_of p s is f caused =
    let by_names = subst (λ (n : List (List ℕ)). is_caused n (map plain_view s.trees.items) (foreigns_view s.foreign) f ≡ true) is.names caused in
    let by_trees = subst (λ (t : List (List DeclTree)). is_caused (names_said p.modules) t (foreigns_view s.foreign) f ≡ true) is.trees by_names in
    subst (λ (e : List (List ℕ × List ℕ)). is_caused (names_said p.modules) (trees_said p.modules) e f ≡ true) is.foreign by_trees

-- what inference refuses
pub uninferred : (p : ProjectTrees) (s : AnySource) → IsSourceOf p s → (texts : List (List ℕ)) (f : ElabFault)
    → is_caused s.modules (map plain_view s.trees.items) (foreigns_view s.foreign) f ≡ true
    → (fault : BuildFault) → IsOfElaboration p.modules texts f fault → IsOfProgram p fault
uninferred p s is texts f caused (Source fault) (place, text, tells, h) = absurd h
uninferred p s is texts f caused (NotBuilt file at) (place, text, tells, h) = absurd h
uninferred p s is texts f caused (Refused file at told) (place, text, tells, (there, same)) =
    (place, there, inl (f, texts, caused_of p s is f caused, subst (λ (t : List ℕ). IsToldOfElaboration texts (names_said p.modules) f place t) (sym same) tells))
uninferred p s is texts f caused ReadFault (place, text, tells, h) = absurd h
uninferred p s is texts f caused Memory (place, text, tells, h) = absurd h

-- what the checker refuses
pub unchecked : (p : ProjectTrees) (g : Pg) → IsProgramOf p g → (f : Fault) → ProgramTells g f → (place : Place) (text : List ℕ) → IsToldOf g f place text
    → (fault : BuildFault) → IsRefusalAt p.modules place text fault → IsOfProgram p fault
unchecked p g is f tells place text told (Source fault) h = absurd h
unchecked p g is f tells place text told (NotBuilt file at) h = absurd h
unchecked p g is f tells place text told (Refused file at said) (there, same) =
    (place, there, inr (g, is, f, tells, subst (λ (t : List ℕ). IsToldOf g f place t) (sym same) told))
unchecked p g is f tells place text told ReadFault h = absurd h
unchecked p g is f tells place text told Memory h = absurd h
