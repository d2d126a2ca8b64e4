-- Modules, one after the other.
use Rattle.std.proofs.Common.{◌≡◌, ℕ, zero, suc, ◌+◌, ◌<◌, ◌≤◌, Bool, List, [], ◌∷◌, ◌++◌, Option, Some, None, map, length, get_or, drop, refl, ap, sym, ◌∙◌, subst, arith}
use Rattle.std.proofs.lemmas.List.{append_assoc, drop_more}
use Rattle.core_terms.specs.Trees.{Ru}
use Rattle.project_files.specs.declared.projects.AddressRule.{AddressRule}
use Rattle.surface_grammar.specs.Listings.{Listing}
use Rattle.surface_grammar.specs.Trees.{Node}
use Rattle.plain_tree.specs.Trees.{DeclTree}
use Rattle.project_files.specs.Directives.{module_name}
use Rattle.project_sources.specs.Modules.{ModuleTrees}
use Rattle.project_sources.specs.View.{ListsOption, ListsModules}
use Rattle.project_sources.specs.declared.modules.ModuleSource.{ModuleSource}
use Rattle.plain_projects.specs.Listed.{IsWholeInterface, AreWhole, IsPlainOf, ArePlainOf, AreSigned, AreExported}
use Rattle.plain_projects.specs.Said.{names_said, trees_said, exported_by, exported_said, rules_said}

-- their names
pub names_are : (ms : List ModuleSource) (ts : List ModuleTrees) → ListsModules ms ts → map (λ (m : ModuleSource). module_name m.line) ms ≡ names_said ts
names_are [] [] h = refl
names_are [] (t ∷ ts) h = absurd h
names_are (m ∷ ms) [] h = absurd h
names_are (m ∷ ms) (t ∷ ts) (one, rest) =
    ap (λ l. module_name l ∷ map (λ (m : ModuleSource). module_name m.line) ms) one.line ∙ ap (λ ns. module_name t.line ∷ ns) (names_are ms ts rest)

-- their declarations
pub trees_are : (ms : List ModuleSource) (ts : List ModuleTrees) (ds : List (List DeclTree)) → ListsModules ms ts → AreWhole ts → ArePlainOf ms ds → ds ≡ trees_said ts
trees_are [] [] [] h w p = refl
trees_are [] [] (d ∷ ds) h w p = absurd p
trees_are [] (t ∷ ts) ds h w p = absurd h
trees_are (m ∷ ms) [] ds h w p = absurd h
trees_are (m ∷ ms) (t ∷ ts) [] h w p = absurd p
trees_are (m ∷ ms) (t ∷ ts) (d ∷ ds) (one, others) (whole, wholes) (p, ps) =
    ap (λ e. e ∷ ds) (p whole.tree.0 t.tree one.tree whole.tree.1) ∙ ap (λ es. (trees_said (t ∷ [])) ++ es) (trees_are ms ts ds others wholes ps)

-- an interface's names
signed_are : (i : Option Listing) (n : Option Node) (names : Option (List (List ℕ))) → ListsOption i n → IsWholeInterface n → AreSigned i names → names ≡ exported_by n
signed_are None None None h w s = refl
signed_are None None (Some x) h w s = absurd s
signed_are None (Some n) names h w s = absurd h
signed_are (Some i) None names h w s = absurd h
signed_are (Some i) (Some n) None h w s = absurd s
signed_are (Some i) (Some n) (Some x) h w s = ap Some (s w.0 n h w.1)

pub exported_are : (ms : List ModuleSource) (ts : List ModuleTrees) (names : Option (List (List ℕ))) → ListsModules ms ts → AreWhole ts → AreExported ms names → names ≡ exported_said ts
exported_are [] [] None h w e = refl
exported_are [] [] (Some x) h w e = absurd e
exported_are [] (t ∷ ts) names h w e = absurd h
exported_are (m ∷ ms) [] names h w e = absurd h
exported_are (m ∷ []) (t ∷ []) names (one, others) (whole, wholes) e = signed_are m.interface t.interface names one.interface whole.interface e
exported_are (m ∷ []) (t ∷ u ∷ ts) names (one, others) w e = absurd others
exported_are (m ∷ n ∷ ms) (t ∷ []) names (one, others) w e = absurd others
exported_are (m ∷ n ∷ ms) (t ∷ u ∷ ts) names (one, others) (whole, wholes) e = exported_are (n ∷ ms) (u ∷ ts) names others wholes e

-- the last module is the one that exports
pub last_exports : (before : List ModuleSource) (m : ModuleSource) (names : Option (List (List ℕ))) → AreSigned m.interface names → AreExported (before ++ m ∷ []) names
last_exports [] m names s = s
last_exports (x ∷ []) m names s = s
last_exports (x ∷ y ∷ before) m names s = last_exports (y ∷ before) m names s

-- a list from one of its elements on
dropped : {X : Type 0} (xs : List X) (i : ℕ) (x : X) → i < length xs → x ≡ get_or xs i x → drop i xs ≡ x ∷ drop (i + 1) xs
dropped xs i x h e = drop_more xs i x h ∙ ap (λ z. z ∷ drop (i + 1) xs) (sym e)

-- one more module's declarations
pub plain_more : (ms : List ModuleSource) (i : ℕ) (m : ModuleSource) (rest : List (List DeclTree)) (d : List DeclTree)
    → i < length ms → m ≡ get_or ms i m → IsPlainOf m.tree d → ArePlainOf (drop (i + 1) ms) rest → ArePlainOf (drop i ms) (d ∷ rest)
plain_more ms i m rest d h e p ps = subst (λ l. ArePlainOf l (d ∷ rest)) (sym (dropped ms i m h e)) (p, ps)

-- and no more
pub plain_none : (ms : List ModuleSource) (i : ℕ) → length ms ≤ i → ArePlainOf (drop i ms) []
plain_none [] zero h = tt
plain_none [] (suc i) h = tt
plain_none (m ∷ ms) zero h = absurd (omega arith)
plain_none (m ∷ ms) (suc i) h = plain_none ms i (omega arith)

-- one more rule on addresses
abbrev pub pairs_of : List AddressRule → List (Bool × List ℕ)
pairs_of rs = map (λ (r : AddressRule). (r.allow, r.pattern)) rs

pub rules_more : (rs qs : List AddressRule) (i : ℕ) (r : AddressRule) (old new whole : List Ru) → qs ≡ rs → i < length qs → r ≡ get_or qs i r
    → old ++ rules_said (pairs_of (drop i rs)) ≡ whole → new ≡ old ++ record { allow = r.allow; pattern = r.pattern } ∷ []
    → new ++ rules_said (pairs_of (drop (i + 1) rs)) ≡ whole
rules_more rs qs i r old new whole same h e so_far grown =
    ap (λ l. l ++ rules_said (pairs_of (drop (i + 1) rs))) grown
    ∙ append_assoc old (record { allow = r.allow; pattern = r.pattern } ∷ []) (rules_said (pairs_of (drop (i + 1) rs)))
    ∙ ap (λ l. old ++ rules_said (pairs_of l)) (sym (dropped rs i r (subst (λ l. i < length l) same h) (subst (λ l. r ≡ get_or l i r) same e)))
    ∙ so_far
