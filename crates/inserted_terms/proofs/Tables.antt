-- The tables of a program, and how many declarations modules have (for `inserts_chosen`).
use Rattle.std.proofs.Common.{◌≡◌, ℕ, List, [], ◌∷◌, length, map, refl, ap}
use Rattle.con_terms.specs.Trees.{Kd}
use Rattle.core_terms.specs.View.{folder_view, program_view}
use Rattle.core_terms.specs.declared.program.FolderName.{FolderName}
use Rattle.core_terms.specs.declared.program.Program.{Program}
use Rattle.guided_terms.specs.Declarations.{tables_of}
use Rattle.plain_tree.specs.View.{decl_tree, plain_view}
use Rattle.std.proofs.lemmas.List.{length-map}
use Rattle.plain_tree.specs.declared.decl.Plain.{Plain}
use Rattle.source_names.specs.Scopes.{Words}
use Rattle.source_names.specs.View.{folder_symbol, tables_view}
use Rattle.inserted_terms.specs.Inside.{Reached}
use Rattle.inserted_terms.specs.Programs.{InsertsChosen, ModulesChosen, at_start, count_decls}
use Rattle.inserted_terms.specs.View.{count_of}
use Rattle.std.proofs.Common.{subst, ◌∙◌, Bool, Result, Ok, Err, IfOk, IsTrue}
use Rattle.source_names.specs.Scopes.{Declared, nothing_declared}
use Rattle.con_terms.specs.Trees.{Cn}

folder_symbols : (fs : List FolderName) → map folder_symbol fs ≡ map (λ (f : Kd × ℕ). f.1) (map folder_view fs)
folder_symbols [] = refl
folder_symbols (f ∷ fs) = ap (λ ns. folder_symbol f ∷ ns) (folder_symbols fs)

tables_are : (p : Program) → tables_view p ≡ tables_of (program_view p)
tables_are p =
    ap (λ ns. record { texts = p.names; effects = (tables_view p).effects; folders = ns })
    (folder_symbols p.folders.items.items)

counts_are : (ts : List Plain) → map count_of ts ≡ map count_decls (map plain_view ts)
counts_are [] = refl
counts_are (t ∷ ts) = ap (λ ns. count_of t ∷ ns) (counts_are ts)

pub whole_program : (p : Program) (r : Reached) (names : List Words) (ts : List Plain) → r ≡ at_start
    → ModulesChosen (tables_view p) (program_view p) r names (map count_of ts) (program_view p).decls
    → InsertsChosen names (map plain_view ts) (program_view p)
whole_program p r names ts e h =
    subst (λ t. ModulesChosen t (program_view p) at_start names (map count_decls (map plain_view ts)) (program_view p).decls)
    (tables_are p)
    (subst (λ ns. ModulesChosen (tables_view p) (program_view p) at_start names ns (program_view p).decls) (counts_are ts)
    (subst (λ z. ModulesChosen (tables_view p) (program_view p) z names (map count_of ts) (program_view p).decls) e h))

-- before the first module
pub reached_start : (d : Declared) (l : List Cn) → d ≡ nothing_declared → l ≡ []
    → (let r : Reached = record { declared = d; tops = l } in r) ≡ at_start
reached_start d l e f =
    ap (λ z. let r : Reached = record { declared = z; tops = l } in r) e
    ∙ ap (λ z. let r : Reached = record { declared = nothing_declared; tops = z } in r) f

-- what follows where the answer is yes
pub ok_then : {E : Type 0} (r : Result Bool E) (A B : Type 0) → (A → B) → IfOk r (λ b. IsTrue b → A)
    → IfOk r (λ b. IsTrue b → B)
ok_then (Ok b) A B f h = λ t. f (h t)
ok_then (Err e) A B f h = tt

-- how many declarations a module has
pub count_is : (m : Plain) → count_of m ≡ length m.decls.items.items
count_is m = length-map m.decls.items.items decl_tree
