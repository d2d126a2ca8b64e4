-- What is so of the trees that the modules which were read list.
use Rattle.std.proofs.Common.{◌≡◌, ℕ, zero, suc, ◌+◌, ◌<◌, ◌≤◌, inl, inr, List, [], ◌∷◌, ◌++◌, Option, Some, None, count_by, get_or, length, min, take, slice_get, true, refl, ap, ap₂, sym, ◌∙◌, subst, arith}
use Rattle.std.specs.List.{list_any}
use Rattle.con_terms.specs.declared.place.Place.{Place}
use Rattle.surface_grammar.specs.Trees.{spell}
use Rattle.surface_tree.specs.declared.token.Token.{Token}
use Rattle.unbuilt_forms.specs.Unbuilt.{IsFirstUnbuilt}
use Rattle.project_sources.specs.Modules.{ModuleTrees, module_file}
use Rattle.project_sources.specs.View.{ListsModules}
use Rattle.project_sources.specs.declared.modules.ModuleSource.{ModuleSource}
pub use Rattle.plain_projects.proofs.Sources.{names_are as listed_names}
use Rattle.site_build.specs.Causes.{AreBuilt, IsUnbuiltAt, tables_in}
use Rattle.site_build.specs.Faults.{IsBeyondAt}
use Rattle.site_build.specs.Refusals.{IsAt, begins_at}
use Rattle.site_build.specs.Tables.{is_table}

-- ---- tables

-- how many tables modules that were read declare
abbrev pub tables_of : List ModuleSource → ℕ
tables_of [] = 0
tables_of (s ∷ ss) = count_by is_table s.tree.leaves + tables_of ss

listed_tables : (ss : List ModuleSource) (ms : List ModuleTrees) → ListsModules ss ms → tables_in ms ≡ tables_of ss
listed_tables [] [] h = refl
listed_tables [] (m ∷ ms) h = absurd h
listed_tables (s ∷ ss) [] h = absurd h
listed_tables (s ∷ ss) (m ∷ ms) (one, rest) = ap₂ (λ (a b : ℕ). a + b) (ap (λ (l : List Token). count_by is_table l) (sym one.tree.0)) (listed_tables ss ms rest)

front_tables : (ss : List ModuleSource) (n : ℕ) → tables_of (take n ss) ≤ tables_of ss
front_tables [] zero = omega arith
front_tables [] (suc n) = omega arith
front_tables (s ∷ ss) zero = omega arith
front_tables (s ∷ ss) (suc n) = omega (arith, front_tables ss n)

pub more_tables : (ss : List ModuleSource) (i : ℕ) (s : ModuleSource) → i < length ss → s ≡ get_or ss i s
    → tables_of (take (suc i) ss) ≡ tables_of (take i ss) + count_by is_table s.tree.leaves
more_tables [] i s h is = absurd (omega (arith, h))
more_tables (x ∷ ss) zero s h is = rw is (omega arith)
more_tables (x ∷ ss) (suc i) s h is = omega (arith, more_tables ss i s (omega (arith, h)) is)

-- a sum that stops at the largest number, by whether it is more than a thousand
pub many_sum : (a b : ℕ) → 1000 < min (a + b) 18446744073709551615 → 1000 < a + b
many_sum a b h = omega (arith, h)

pub few_sum : (a b : ℕ) → min (a + b) 18446744073709551615 ≤ 1000 → min (a + b) 18446744073709551615 ≡ a + b
few_sum a b h = omega (arith, h)

pub many_listed : (ss : List ModuleSource) (i : ℕ) (s : ModuleSource) → i < length ss → s ≡ get_or ss i s
    → 1000 < tables_of (take i ss) + count_by is_table s.tree.leaves → (ms : List ModuleTrees) → ListsModules ss ms → 1000 < tables_in ms
many_listed ss i s h is many ms lists = omega (arith, many, more_tables ss i s h is, front_tables ss (suc i), listed_tables ss ms lists)

pub few_listed : (ss : List ModuleSource) → tables_of ss ≤ 1000 → (ms : List ModuleTrees) → ListsModules ss ms → tables_in ms ≤ 1000
few_listed ss few ms lists = omega (arith, few, listed_tables ss ms lists)

-- what stands at a place of the modules, and how many tables those before it declare, and those with it
placed_tables : (ss : List ModuleSource) (i : ℕ) (s : ModuleSource) → i < length ss → s ≡ get_or ss i s → (ms : List ModuleTrees) → ListsModules ss ms
    → (before : List ModuleTrees) × (m : ModuleTrees) × (after : List ModuleTrees) × (ms ≡ before ++ m ∷ after) × (m.line ≡ s.line)
    × (tables_in before ≡ tables_of (take i ss)) × (tables_in (before ++ m ∷ []) ≡ tables_of (take i ss) + count_by is_table s.tree.leaves)
placed_tables [] i s h is ms lists = absurd (omega (arith, h))
placed_tables (x ∷ ss) i s h is [] lists = absurd lists
placed_tables (x ∷ ss) zero s h is (m ∷ ms) (one, rest) =
    let here : count_by is_table (spell m.tree) ≡ count_by is_table s.tree.leaves =
    ap (λ (l : List Token). count_by is_table l) (sym one.tree.0) ∙ ap (λ (y : ModuleSource). count_by is_table y.tree.leaves) (sym is) in
    ([], m, ms, refl, sym one.line ∙ ap (λ (y : ModuleSource). y.line) (sym is), refl, omega (arith, here))
placed_tables (x ∷ ss) (suc i) s h is (m ∷ ms) (one, rest) =
    let t = placed_tables ss i s (omega (arith, h)) is ms rest in
    let first : count_by is_table (spell m.tree) ≡ count_by is_table x.tree.leaves = ap (λ (l : List Token). count_by is_table l) (sym one.tree.0) in
    (m ∷ t.0, t.1, t.2, ap (λ l. m ∷ l) t.3, t.4, omega (arith, first, t.5), omega (arith, first, t.6))

-- so it is the first with which they are too many
pub beyond_listed : (ss : List ModuleSource) (i : ℕ) (s : ModuleSource) → i < length ss → s ≡ get_or ss i s → tables_of (take i ss) ≤ 1000
    → 1000 < tables_of (take i ss) + count_by is_table s.tree.leaves → (ms : List ModuleTrees) → ListsModules ss ms → IsBeyondAt ms s.line
beyond_listed ss i s h is few many ms lists =
    let t = placed_tables ss i s h is ms lists in
    (t.1, record { before = t.0; after = t.2; modules_are = t.3; few = omega (arith, few, t.5); many = omega (arith, many, t.6) }, t.4)

-- ---- forms that aren't built yet

abbrev pub AreBuiltSources : List ModuleSource → Type 0
AreBuiltSources [] = Unit {0}
AreBuiltSources (s ∷ ss) = IsFirstUnbuilt s.tree.leaves None × AreBuiltSources ss

pub built_more : (ss : List ModuleSource) (i : ℕ) (s : ModuleSource) → i < length ss → s ≡ get_or ss i s → AreBuiltSources (take i ss)
    → IsFirstUnbuilt s.tree.leaves None → AreBuiltSources (take (suc i) ss)
built_more [] i s h is before here = absurd (omega (arith, h))
built_more (x ∷ ss) zero s h is before here = (subst (λ (m : ModuleSource). IsFirstUnbuilt m.tree.leaves None) is here, tt)
built_more (x ∷ ss) (suc i) s h is (first, before) here = (first, built_more ss i s (omega (arith, h)) is before here)

pub built_listed : (ss : List ModuleSource) → AreBuiltSources ss → (ms : List ModuleTrees) → ListsModules ss ms → AreBuilt ms
built_listed [] h [] lists = tt
built_listed [] h (m ∷ ms) lists = absurd lists
built_listed (s ∷ ss) h [] lists = absurd lists
built_listed (s ∷ ss) (first, h) (m ∷ ms) (one, rest) =
    (subst (λ (l : List Token). IsFirstUnbuilt l None) one.tree.0 first, built_listed ss h ms rest)

pub unbuilt_listed : (ss : List ModuleSource) (i : ℕ) (s : ModuleSource) (file : List ℕ) (at : ℕ) → i < length ss → s ≡ get_or ss i s
    → AreBuiltSources (take i ss) → IsFirstUnbuilt s.tree.leaves (Some at) → file ≡ module_file s.line → (ms : List ModuleTrees) → ListsModules ss ms
    → IsUnbuiltAt ms file at
unbuilt_listed [] i s file at h is before here name ms lists = absurd (omega (arith, h))
unbuilt_listed (x ∷ ss) i s file at h is before here name [] lists = absurd lists
unbuilt_listed (x ∷ ss) zero s file at h is before here name (m ∷ ms) (one, rest) =
    inl (
      name ∙ ap (λ (y : ModuleSource). module_file y.line) is ∙ ap module_file one.line,
      subst (λ (l : List Token). IsFirstUnbuilt l (Some at)) one.tree.0 (subst (λ (y : ModuleSource). IsFirstUnbuilt y.tree.leaves (Some at)) is here),
    )
unbuilt_listed (x ∷ ss) (suc i) s file at h is before here name (m ∷ ms) (one, rest) =
    inr (subst (λ (l : List Token). IsFirstUnbuilt l None) one.tree.0 before.0, unbuilt_listed ss i s file at (omega (arith, h)) is before.1 here name ms rest)

-- ---- the files of modules

same_module : (x s : ModuleSource) → ◌≡◌ {A = Option ModuleSource} (Some x) (Some s) → x ≡ s
same_module x s e = cc e

no_module : (s : ModuleSource) → ◌≡◌ {A = Option ModuleSource} None (Some s) → ⊥
no_module s e = absurd (cc e)

numbered : (ss : List ModuleSource) (i : ℕ) (s : ModuleSource) (file : List ℕ) (at : ℕ) → slice_get ss i ≡ Some s → file ≡ module_file s.line
    → list_any (begins_at at) s.tree.leaves ≡ true → (ms : List ModuleTrees) → ListsModules ss ms
    → (m : ModuleTrees) × (slice_get ms i ≡ Some m) × (file ≡ module_file m.line) × (at ≡ at) × (list_any (begins_at at) (spell m.tree) ≡ true)
numbered [] i s file at is name begins ms lists = absurd (no_module s is)
numbered (x ∷ ss) i s file at is name begins [] lists = absurd lists
numbered (x ∷ ss) zero s file at is name begins (m ∷ ms) (one, rest) =
    let same : s ≡ x = sym (same_module x s is) in (
      m,
      refl,
      name ∙ ap (λ (y : ModuleSource). module_file y.line) same ∙ ap module_file one.line,
      refl,
      subst (λ (l : List Token). list_any (begins_at at) l ≡ true) one.tree.0
          (subst (λ (y : ModuleSource). list_any (begins_at at) y.tree.leaves ≡ true) same begins),
    )
numbered (x ∷ ss) (suc i) s file at is name begins (m ∷ ms) (one, rest) = numbered ss i s file at is name begins ms rest

-- a place in a module that was read is one in the module with its number (for `file_at`)
pub placed : (ss : List ModuleSource) (place : Place) (s : ModuleSource) (file : List ℕ) → slice_get ss place.file ≡ Some s → file ≡ module_file s.line
    → list_any (begins_at place.at) s.tree.leaves ≡ true → (ms : List ModuleTrees) → ListsModules ss ms → IsAt ms place file place.at
placed ss place s file is name begins ms lists = numbered ss place.file s file place.at is name begins ms lists
