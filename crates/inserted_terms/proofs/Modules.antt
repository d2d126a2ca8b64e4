-- One more module in front (for `modules_chosen`).
use Rattle.std.proofs.Common.{◌≡◌, ℕ, suc, ◌+◌, ◌<◌, ◌≤◌, List, [], ◌∷◌, length, map, drop, take, get_or, Option, Some, IfSome, ap, sym, ◌∙◌, subst}
use Rattle.std.proofs.Math.Seq.{drop-cons}
use Rattle.std.proofs.lemmas.List.{drop-drop, drop-map, drop_all, take-map}
use Rattle.core_terms.specs.Trees.{De, Pg}
use Rattle.core_terms.specs.View.{decl_tree}
use Rattle.core_terms.specs.declared.decl.Decl.{Decl}
use Rattle.plain_tree.specs.declared.decl.Plain.{Plain}
use Rattle.source_names.specs.Scopes.{Words, Tables}
use Rattle.inserted_terms.specs.Inside.{Reached}
use Rattle.inserted_terms.specs.Programs.{DeclsChosen, ModulesChosen, behind_all, in_module}
use Rattle.inserted_terms.specs.View.{count_of}
use Rattle.inserted_terms.proofs.Searches.{plus_one}

-- a list from a place on
pub from_place : {X : Type 0} (xs : List X) (i : ℕ) (x : X) → i < length xs → x ≡ get_or xs i x
    → drop i xs ≡ x ∷ drop (i + 1) xs
from_place xs i x l e =
    drop-cons xs i x l ∙ ap (λ y. y ∷ drop (suc i) xs) (sym e) ∙ ap (λ n. x ∷ drop n xs) (plus_one i)

pub modules_step : (t : Tables) (p : Pg) (r s : Reached) (names : List Words) (trees : List Plain) (i : ℕ) (x : Words)
    (m : Plain) (ds : List De) (next : ℕ)
    → i < length names → x ≡ get_or names i x → i < length trees → m ≡ get_or trees i m
    → DeclsChosen t p (in_module x r) (take (count_of m) (drop next ds))
    → s ≡ behind_all t (take (count_of m) (drop next ds)) (in_module x r)
    → ModulesChosen t p s (drop (i + 1) names) (map count_of (drop (i + 1) trees)) (drop (next + count_of m) ds)
    → ModulesChosen t p r (drop i names) (map count_of (drop i trees)) (drop next ds)
modules_step t p r s names trees i x m ds next a ex b em chosen behind rest =
    let left : drop (next + count_of m) ds ≡ drop (count_of m) (drop next ds) = sym (drop-drop (count_of m) next ds) in
    let more = subst (λ es. ModulesChosen t p s (drop (i + 1) names) (map count_of (drop (i + 1) trees)) es) left rest in
    let there = subst (λ z. ModulesChosen t p z (drop (i + 1) names) (map count_of (drop (i + 1) trees))
    (drop (count_of m) (drop next ds))) behind more in
    subst (λ ns. ModulesChosen t p r ns (map count_of (drop i trees)) (drop next ds)) (sym (from_place names i x a ex))
    (subst (λ ms. ModulesChosen t p r (x ∷ drop (i + 1) names) (map count_of ms) (drop next ds))
    (sym (from_place trees i m b em)) (chosen, there))

-- behind the last module nothing is left
pub modules_end : (t : Tables) (p : Pg) (r : Reached) (ds : List De) (next : ℕ) → length ds ≤ next
    → ModulesChosen t p r [] [] (drop next ds)
modules_end t p r ds next h = drop_all next ds h

-- what holds of what there is
pub of_some : {X : Type 0} (o : Option X) (x : X) (P : X → Type 0) → o ≡ Some x → IfSome o P → P x
of_some o x P e h = subst (λ z. IfSome z P) e h

-- behind a module whose declarations are these
pub module_on : (t : Tables) (p : Pg) (r b s : Reached) (names : List Words) (trees : List Plain) (i : ℕ) (x : Words)
    (m : Plain) (ds slice : List De) (next count : ℕ)
    → i < length names → x ≡ get_or names i x → i < length trees → m ≡ get_or trees i m
    → count ≡ count_of m → slice ≡ take count (drop next ds) → b ≡ in_module x r
    → DeclsChosen t p b slice × (s ≡ behind_all t slice b)
    → ModulesChosen t p s (drop (i + 1) names) (map count_of (drop (i + 1) trees)) (drop (next + count) ds)
    → ModulesChosen t p r (drop i names) (map count_of (drop i trees)) (drop next ds)
module_on t p r b s names trees i x m ds slice next count a ex l em c is begun both rest =
    let same : slice ≡ take (count_of m) (drop next ds) = is ∙ ap (λ n. take n (drop next ds)) c in
    let chosen = subst (λ z. DeclsChosen t p z (take (count_of m) (drop next ds))) begun
    (subst (λ z. DeclsChosen t p b z) same both.0) in
    let behind : s ≡ behind_all t (take (count_of m) (drop next ds)) (in_module x r) =
    both.1 ∙ ap (λ z. behind_all t z b) same
    ∙ ap (behind_all t (take (count_of m) (drop next ds))) begun in
    modules_step t p r s names trees i x m ds next a ex l em chosen behind
    (subst (λ n. ModulesChosen t p s (drop (i + 1) names) (map count_of (drop (i + 1) trees)) (drop (next + n) ds)) c rest)

-- the declarations of a module among all
pub own_decls : (xs ys zs : List Decl) (next count k : ℕ) → ys ≡ take k (drop next zs) → k ≡ count → zs ≡ xs
    → map decl_tree ys ≡ take count (drop next (map decl_tree xs))
own_decls xs ys zs next count k e c z =
    ap (map decl_tree) e
    ∙ ap (λ n. map decl_tree (take n (drop next zs))) c
    ∙ ap (λ l. map decl_tree (take count (drop next l))) z
    ∙ sym (take-map decl_tree count (drop next xs))
    ∙ ap (take count) (sym (drop-map decl_tree next xs))
