-- From the files of a project to what its program is held against.
use Rattle.std.proofs.Common.{◌≡◌, ℕ, List, [], ◌∷◌, Option, Some, None, IfSome, Result, Ok, Err, IfErr, IfOk, subst}
use Rattle.surface_grammar.specs.Refusals.{deepest, Whole}
use Rattle.surface_grammar.specs.Trees.{Node}
use Rattle.ur_outside.specs.Files.{Told}
use Rattle.ur_parser.specs.Sources.{module_part}
use Rattle.project_files.specs.Lines.{Line}
use Rattle.project_sources.specs.Modules.{ModuleTrees, HasModuleFile, HasInterfaceFile, AreModules}
use Rattle.plain_projects.specs.Listed.{IsWholeInterface, AreWhole}

-- the tree of a file is whole
whole_tree : (content : Option (List ℕ)) (n : Node) → HasModuleFile content n → (room : ℕ) × Whole room module_part n
whole_tree None n h = absurd h
whole_tree (Some bytes) n h = (deepest, h.whole)

whole_interface : (content : Option (List ℕ)) (i : Option Node) → HasInterfaceFile content i → IsWholeInterface i
whole_interface None None h = tt
whole_interface None (Some n) h = absurd h
whole_interface (Some bytes) None h = absurd h
whole_interface (Some bytes) (Some n) h = (deepest, h.whole)

-- so are those of the modules of a project
pub whole_modules : (files : Told) (dir : List ℕ) (lines : List Line) (ms : List ModuleTrees) → AreModules files dir lines ms → AreWhole ms
whole_modules files dir [] [] h = tt
whole_modules files dir [] (m ∷ ms) h = absurd h
whole_modules files dir (line ∷ lines) [] h = absurd h
whole_modules files dir (line ∷ lines) (m ∷ ms) (one, rest) =
    (record { tree = whole_tree _ m.tree one.tree; interface = whole_interface _ m.interface one.interface }, whole_modules files dir lines ms rest)

-- what holds where files are told
pub where_told : {X : Type 0} (o : Option X) (P Q : X → Type 0) → ((x : X) → P x → Q x) → IfSome o P → IfSome o Q
where_told None P Q f h = tt
where_told (Some x) P Q f h = f x h

-- and where they are told twice, the second time the same
pub where_both : {X : Type 0} (o later : Option X) (P Q R : X → Type 0) → later ≡ o → ((x : X) → P x → Q x → R x) → IfSome o P → IfSome later Q → IfSome o R
where_both None later P Q R same f h k = tt
where_both (Some x) later P Q R same f h k = f x h (subst (λ o. IfSome o Q) same k)

-- what holds of a result
pub where_ok : {X E : Type 0} (r : Result X E) (P Q : X → Type 0) → ((x : X) → P x → Q x) → IfOk r P → IfOk r Q
where_ok (Ok x) P Q f h = f x h
where_ok (Err e) P Q f h = tt

-- what holds of a refusal
pub where_err : {X E : Type 0} (r : Result X E) (P Q : E → Type 0) → ((e : E) → P e → Q e) → IfErr r P → IfErr r Q
where_err (Ok x) P Q f h = tt
where_err (Err e) P Q f h = f e h
