-- One cause at most (for `texts_have_one_cause` and `projects_have_one_cause`).
use Rattle.std.proofs.Common.{◌≡◌, ℕ, inl, inr, List, [], ◌∷◌, ◌++◌, true, All, Option, Some, None, refl, sym, ap, ◌∙◌, subst, arith}
use Rattle.std.proofs.lemmas.List.Elements.{All-head, All-tail}
use Rattle.surface_tree.specs.declared.token.Token.{Token}
use Rattle.surface_grammar.specs.Trees.{Node, spell}
use Rattle.ur_outside.specs.Files.{Told}
use Rattle.unbuilt_forms.specs.Unbuilt.{IsBuilt, IsFirstUnbuilt, first_unbuilt, is_unbuilt}
use Rattle.project_sources.specs.Modules.{ModuleTrees}
use Rattle.project_sources.specs.Projects.{FoldersHaveOneAnswer, RefusalsHaveOneCause, HoldsProject, ProjectTrees}
use Rattle.project_sources.specs.Texts.{IsModuleTree, ModulesHaveOneAnswer}
use Rattle.project_sources.specs.declared.fault.SourceFault.{SourceFault}
use Rattle.site_build.specs.Causes.{AreBuilt, HaveFewTables, HaveManyTables, IsCauseIn, IsCauseOf, IsCauseOfText, IsUnbuiltAt, only_file}
use Rattle.site_build.specs.Laws.{AreOne, ProjectsHaveOneCause, TextsHaveOneCause}
use Rattle.site_build.proofs.OneLine.{many_of_beyond, many_source}
use Rattle.site_build.specs.Sources.{only_module}
use Rattle.site_build.specs.declared.fault.BuildFault.{BuildFault}
use Rattle.site_build.specs.declared.fault.BuildFault.TheVariants.{Source, NotBuilt, Refused, ReadFault, Memory}

-- ---- the first form that isn't built yet

-- what is first by its definition is what is computed
none_first : (tokens : List Token) → All IsBuilt tokens → first_unbuilt tokens ≡ None
none_first [] h = refl
none_first (t ∷ ts) h = rw (All-head IsBuilt t ts h) (none_first ts (All-tail IsBuilt t ts h))

some_first : (before : List Token) (token : Token) (after : List Token) → All IsBuilt before → is_unbuilt token ≡ true → first_unbuilt (before ++ token ∷ after) ≡ Some token.at
some_first [] token after none there = rw there refl
some_first (t ∷ ts) token after none there = rw (All-head IsBuilt t ts none) (some_first ts token after (All-tail IsBuilt t ts none) there)

first_computed : (tokens : List Token) (first : Option ℕ) → IsFirstUnbuilt tokens first → first_unbuilt tokens ≡ first
first_computed tokens None h = none_first tokens h
first_computed tokens (Some at) (before, token, after, is, none, there, place) =
    ap first_unbuilt is ∙ some_first before token after none there ∙ ap Some (sym place)

one_first : (tokens : List Token) (first other : Option ℕ) → IsFirstUnbuilt tokens first → IsFirstUnbuilt tokens other → first ≡ other
one_first tokens first other h k = sym (first_computed tokens first h) ∙ first_computed tokens other k

same_place : (at place : ℕ) → ◌≡◌ {A = Option ℕ} (Some at) (Some place) → at ≡ place
same_place at place e = cc e

no_place : (at : ℕ) → ◌≡◌ {A = Option ℕ} (Some at) None → ⊥
no_place at e = absurd (cc e)

never : (tokens : List Token) (at : ℕ) → IsFirstUnbuilt tokens (Some at) → IsFirstUnbuilt tokens None → ⊥
never tokens at h k = no_place at (one_first tokens (Some at) None h k)

built_or_not : (ms : List ModuleTrees) (file : List ℕ) (at : ℕ) → IsUnbuiltAt ms file at → AreBuilt ms → ⊥
built_or_not [] file at h k = h
built_or_not (m ∷ ms) file at (inl (is, first)) (none, rest) = never (spell m.tree) at first none
built_or_not (m ∷ ms) file at (inr (before, h)) (none, rest) = built_or_not ms file at h rest

one_unbuilt : (ms : List ModuleTrees) (file other : List ℕ) (at place : ℕ) → IsUnbuiltAt ms file at → IsUnbuiltAt ms other place → (file ≡ other) × (at ≡ place)
one_unbuilt [] file other at place h k = absurd h
one_unbuilt (m ∷ ms) file other at place (inl (is, first)) (inl (is', first')) =
    (is ∙ sym is', same_place at place (one_first (spell m.tree) (Some at) (Some place) first first'))
one_unbuilt (m ∷ ms) file other at place (inl (is, first)) (inr (none, k)) = absurd (never (spell m.tree) at first none)
one_unbuilt (m ∷ ms) file other at place (inr (none, h)) (inl (is', first')) = absurd (never (spell m.tree) place first' none)
one_unbuilt (m ∷ ms) file other at place (inr (none, h)) (inr (none', k)) = one_unbuilt ms file other at place h k

many_or_few : (ms : List ModuleTrees) → HaveManyTables ms → HaveFewTables ms → ⊥
many_or_few ms many few = omega (arith, many, few)

-- causes in the same project
one_of_modules : (p : ProjectTrees) (fault other : BuildFault) → IsCauseOf p fault → IsCauseOf p other
    → AreOne fault other
one_of_modules p (Source fault) other h k = absurd h
one_of_modules p (NotBuilt file at) (Source fault) h k = absurd k
one_of_modules p (NotBuilt file at) (NotBuilt other place) h k = one_unbuilt p.modules file other at place h k
one_of_modules p (NotBuilt file at) (Refused other place told) h k = built_or_not p.modules file at h k.0
one_of_modules p (NotBuilt file at) ReadFault h k = tt
one_of_modules p (NotBuilt file at) Memory h k = tt
one_of_modules p (Refused file at told) (Source fault) h k = absurd k
one_of_modules p (Refused file at told) (NotBuilt other place) h k = built_or_not p.modules other place k h.0
one_of_modules p (Refused file at told) (Refused other place again) h k = tt
one_of_modules p (Refused file at told) ReadFault h k = tt
one_of_modules p (Refused file at told) Memory h k = tt
one_of_modules p ReadFault other h k = tt
one_of_modules p Memory other h k = tt

-- ---- a module alone

text_source : ModulesHaveOneAnswer → (bytes : List ℕ) (fault other : SourceFault) → IsCauseOfText bytes (Source fault) → IsCauseOfText bytes (Source other) → fault ≡ other
text_source law bytes fault other (inl h) (inl k) = law.one_refusal only_file bytes fault other h k
text_source law bytes fault other (inl h) (inr (tree, is, many, e)) = absurd (law.not_refused only_file bytes tree fault is h)
text_source law bytes fault other (inr (tree, is, many, e)) (inl k) = absurd (law.not_refused only_file bytes tree other is k)
text_source law bytes fault other (inr (tree, is, many, e)) (inr (tree', is', many', e')) = e ∙ sym e'

-- the text has this tree, with few tables
text_taken : ModulesHaveOneAnswer → (bytes : List ℕ) (tree : Node) (fault : SourceFault) → IsModuleTree bytes tree → HaveFewTables (only_module tree).modules
    → IsCauseOfText bytes (Source fault) → ⊥
text_taken law bytes tree fault is few (inl h) = law.not_refused only_file bytes tree fault is h
text_taken law bytes tree fault is few (inr (other, is', many, e)) =
    let same : other ≡ tree = law.one_tree bytes other tree is' is in
    many_or_few (only_module tree).modules (subst (λ (n : Node). HaveManyTables (only_module n).modules) same many) few

text_tree : ModulesHaveOneAnswer → (bytes : List ℕ) (fault other : BuildFault) (tree node : Node) → IsModuleTree bytes tree → IsModuleTree bytes node
    → IsCauseOf (only_module tree) fault → IsCauseOf (only_module node) other → AreOne fault other
text_tree law bytes fault other tree node is is' h k =
    let same : node ≡ tree = law.one_tree bytes node tree is' is in
    one_of_modules (only_module tree) fault other h (subst (λ (n : Node). IsCauseOf (only_module n) other) same k)

pub one_of_texts : ModulesHaveOneAnswer → TextsHaveOneCause
one_of_texts law bytes (Source fault) (Source other) h k = text_source law bytes fault other h k
one_of_texts law bytes (Source fault) (NotBuilt file at) h (tree, is, few, k) = text_taken law bytes tree fault is few h
one_of_texts law bytes (Source fault) (Refused file at told) h (tree, is, few, k) = text_taken law bytes tree fault is few h
one_of_texts law bytes (Source fault) ReadFault h k = tt
one_of_texts law bytes (Source fault) Memory h k = tt
one_of_texts law bytes (NotBuilt file at) (Source fault) (tree, is, few, h) k = text_taken law bytes tree fault is few k
one_of_texts law bytes (NotBuilt file at) (NotBuilt other place) (tree, is, few, h) (node, is', few', k) =
    text_tree law bytes (NotBuilt file at) (NotBuilt other place) tree node is is' h k
one_of_texts law bytes (NotBuilt file at) (Refused other place told) (tree, is, few, h) (node, is', few', k) =
    text_tree law bytes (NotBuilt file at) (Refused other place told) tree node is is' h k
one_of_texts law bytes (NotBuilt file at) ReadFault h k = tt
one_of_texts law bytes (NotBuilt file at) Memory h k = tt
one_of_texts law bytes (Refused file at told) (Source fault) (tree, is, few, h) k = text_taken law bytes tree fault is few k
one_of_texts law bytes (Refused file at told) (NotBuilt other place) (tree, is, few, h) (node, is', few', k) =
    text_tree law bytes (Refused file at told) (NotBuilt other place) tree node is is' h k
one_of_texts law bytes (Refused file at told) (Refused other place again) h k = tt
one_of_texts law bytes (Refused file at told) ReadFault h k = tt
one_of_texts law bytes (Refused file at told) Memory h k = tt
one_of_texts law bytes ReadFault other h k = tt
one_of_texts law bytes Memory other h k = tt

-- ---- a project

project_source : FoldersHaveOneAnswer → RefusalsHaveOneCause → (files : Told) (dir : List ℕ) (objects : List (List ℕ)) (fault other : SourceFault)
    → IsCauseIn files dir objects (Source fault) → IsCauseIn files dir objects (Source other) → fault ≡ other
project_source one law files dir objects fault other (inl h) (inl k) = law files dir objects fault other h k
project_source one law files dir objects fault other (inl h) (inr k) = absurd ((one files dir objects k.0 fault k.1).1 h)
project_source one law files dir objects fault other (inr h) (inl k) = absurd ((one files dir objects h.0 other h.1).1 k)
project_source one law files dir objects fault other (inr h) (inr k) = many_source one files dir objects fault other h k

project_taken : FoldersHaveOneAnswer → (files : Told) (dir : List ℕ) (objects : List (List ℕ)) (p : ProjectTrees) (fault : SourceFault) → HoldsProject files dir objects p
    → HaveFewTables p.modules → IsCauseIn files dir objects (Source fault) → ⊥
project_taken one files dir objects p fault holds few (inl h) = (one files dir objects p fault holds).1 h
project_taken one files dir objects p fault holds few (inr (q, holds', m, beyond, line, is, e)) =
    let same : p ≡ q = (one files dir objects p fault holds).0 q holds' in
    many_or_few q.modules (many_of_beyond q.modules m beyond) (subst (λ (x : ProjectTrees). HaveFewTables x.modules) same few)

project_modules : FoldersHaveOneAnswer → (files : Told) (dir : List ℕ) (objects : List (List ℕ)) (fault other : BuildFault) (told : SourceFault) (p q : ProjectTrees)
    → HoldsProject files dir objects p → HoldsProject files dir objects q → IsCauseOf p fault → IsCauseOf q other → AreOne fault other
project_modules one files dir objects fault other told p q holds holds' h k =
    let same : p ≡ q = (one files dir objects p told holds).0 q holds' in
    one_of_modules q fault other (subst (λ (x : ProjectTrees). IsCauseOf x fault) same h) k

pub one_of_projects : FoldersHaveOneAnswer → RefusalsHaveOneCause → ProjectsHaveOneCause
one_of_projects one law files dir objects (Source fault) (Source other) h k = project_source one law files dir objects fault other h k
one_of_projects one law files dir objects (Source fault) (NotBuilt file at) h (p, holds, few, k) = project_taken one files dir objects p fault holds few h
one_of_projects one law files dir objects (Source fault) (Refused file at told) h (p, holds, few, k) = project_taken one files dir objects p fault holds few h
one_of_projects one law files dir objects (Source fault) ReadFault h k = tt
one_of_projects one law files dir objects (Source fault) Memory h k = tt
one_of_projects one law files dir objects (NotBuilt file at) (Source fault) (p, holds, few, h) k = project_taken one files dir objects p fault holds few k
one_of_projects one law files dir objects (NotBuilt file at) (NotBuilt other place) (p, holds, few, h) (q, holds', few', k) =
    project_modules one files dir objects (NotBuilt file at) (NotBuilt other place) SourceFault.Memory p q holds holds' h k
one_of_projects one law files dir objects (NotBuilt file at) (Refused other place told) (p, holds, few, h) (q, holds', few', k) =
    project_modules one files dir objects (NotBuilt file at) (Refused other place told) SourceFault.Memory p q holds holds' h k
one_of_projects one law files dir objects (NotBuilt file at) ReadFault h k = tt
one_of_projects one law files dir objects (NotBuilt file at) Memory h k = tt
one_of_projects one law files dir objects (Refused file at told) (Source fault) (p, holds, few, h) k = project_taken one files dir objects p fault holds few k
one_of_projects one law files dir objects (Refused file at told) (NotBuilt other place) (p, holds, few, h) (q, holds', few', k) =
    project_modules one files dir objects (Refused file at told) (NotBuilt other place) SourceFault.Memory p q holds holds' h k
one_of_projects one law files dir objects (Refused file at told) (Refused other place again) h k = tt
one_of_projects one law files dir objects (Refused file at told) ReadFault h k = tt
one_of_projects one law files dir objects (Refused file at told) Memory h k = tt
one_of_projects one law files dir objects ReadFault other h k = tt
one_of_projects one law files dir objects Memory other h k = tt
