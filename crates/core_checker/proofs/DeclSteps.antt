-- Steps of the loops over declarations and what is in them.
use Rattle.std.proofs.Common.{◌≡◌, ℕ, zero, suc, ◌+◌, ◌<◌, ◌≤◌, List, [], ◌∷◌, ◌++◌, length, map, get_or, take, drop, Some, slice_get, refl, ap, sym, subst, ◌∙◌, arith, drop_of_length-le}
use Rattle.std.proofs.lemmas.List.{append_assoc, map-append}
use Rattle.con_terms.specs.Trees.{Kd, types, to, Cn}
use Rattle.con_terms.specs.declared.symbol.Sym.{Sym}
use Rattle.core_terms.specs.Trees.{Cd, Pg}
use Rattle.core_terms.specs.Types.{type_taking}
use Rattle.core_terms.specs.View.{constructor_view, datatype_view, decl_tree, folder_view, named_from, named_tree}
use Rattle.core_terms.specs.declared.decl.Constructor.{Constructor}
use Rattle.core_terms.specs.declared.decl.Datatype.{Datatype}
use Rattle.core_terms.specs.declared.decl.Decl.{Decl}
use Rattle.core_terms.specs.declared.exp.Named.{Named}
use Rattle.core_terms.specs.declared.program.FolderName.{FolderName}
use Rattle.core_typing.specs.Declarations.{under_types}
use Rattle.core_typing.specs.Scopes.{Sc, datatype_kinds, folder_kinds, under_con}
use Rattle.node_rules.specs.Locals.{Ls, none_yet, and_then_found}
use Rattle.markup_rules.proofs.Loops.{taken_next as taken}
pub use Rattle.site_routes.proofs.Steps.{open_at}
use Rattle.core_checker.specs.Declarations.{Gl, After, DeclsJudge, ProgramJudges, at_start, constructors_found, of_constructor, types_of}

-- kinds
pub taking_on : (n : ℕ) (k old : Kd) → old ≡ type_taking n → k ≡ to types old → k ≡ type_taking (n + 1)
taking_on n k old e h = h ∙ ap (to types) e ∙ ap type_taking (let p : suc n ≡ n + 1 = omega arith in p)

pub taking_end : (n count : ℕ) (k : Kd) → n ≤ count → count ≤ n → k ≡ type_taking n → k ≡ type_taking count
taking_end n count k a b e = e ∙ ap type_taking (let p : n ≡ count = omega (arith, a, b) in p)

pub datatypes_on : (xs : List Datatype) (i : ℕ) (x : Datatype) (old new all : List (ℕ × Kd)) → x ≡ get_or xs i x → i < length xs →
    new ≡ old ++ datatype_kinds (datatype_view x ∷ []) →
    old ++ datatype_kinds (map datatype_view (drop i xs)) ≡ all →
    new ++ datatype_kinds (map datatype_view (drop (i + 1) xs)) ≡ all
datatypes_on xs i x old new all e h n k =
    let rest = datatype_kinds (map datatype_view (drop (i + 1) xs)) in
    ap (λ ys. ys ++ rest) n ∙ append_assoc old (datatype_kinds (datatype_view x ∷ [])) rest
    ∙ ap (λ ys. old ++ datatype_kinds (map datatype_view ys)) (sym (open_at xs i x e h)) ∙ k

pub folders_on : (xs : List FolderName) (i : ℕ) (x : FolderName) (old new all : List (ℕ × Kd)) → x ≡ get_or xs i x → i < length xs →
    new ≡ old ++ folder_kinds (folder_view x ∷ []) →
    old ++ folder_kinds (map folder_view (drop i xs)) ≡ all →
    new ++ folder_kinds (map folder_view (drop (i + 1) xs)) ≡ all
folders_on xs i x old new all e h n k =
    let rest = folder_kinds (map folder_view (drop (i + 1) xs)) in
    ap (λ ys. ys ++ rest) n ∙ append_assoc old (folder_kinds (folder_view x ∷ [])) rest
    ∙ ap (λ ys. old ++ folder_kinds (map folder_view ys)) (sym (open_at xs i x e h)) ∙ k

-- the types of names
pub types_on : (xs : List Named) (i : ℕ) (x : Named) (old new all : List Cn) → x ≡ get_or xs i x → i < length xs →
    new ≡ old ++ (named_tree x).3 ∷ [] →
    old ++ types_of (named_from (map named_tree (drop i xs))) ≡ all →
    new ++ types_of (named_from (map named_tree (drop (i + 1) xs))) ≡ all
types_on xs i x old new all e h n k =
    let rest = types_of (named_from (map named_tree (drop (i + 1) xs))) in
    ap (λ ys. ys ++ rest) n ∙ append_assoc old ((named_tree x).3 ∷ []) rest
    ∙ ap (λ ys. old ++ types_of (named_from (map named_tree ys))) (sym (open_at xs i x e h)) ∙ k

-- the parameters of a datatype
pub under_on : (xs : List Sym) (i : ℕ) (x : Sym) (G H all : Sc) → x ≡ get_or xs i x → i < length xs →
    H ≡ under_con x.number types G →
    under_types (map (λ s. s.number) (drop i xs)) G ≡ all →
    under_types (map (λ s. s.number) (drop (i + 1) xs)) H ≡ all
under_on xs i x G H all e h n k =
    ap (under_types (map (λ (s : Sym). s.number) (drop (i + 1) xs))) n
    ∙ ap (λ ys. under_types (map (λ (s : Sym). s.number) ys) G) (sym (open_at xs i x e h)) ∙ k

-- constructors
same : {X : Type 0} (x y : X) → Some x ≡ Some y → x ≡ y
same x y h = cc

there : {X : Type 0} (xs : List X) (i : ℕ) → i < length xs → (x : X) × (slice_get xs i ≡ Some x)
there [] i h = absurd (omega (arith, h))
there (x ∷ xs) zero h = (x, refl)
there (x ∷ xs) (suc i) h = there xs i (omega (arith, h))

dropped : {X : Type 0} (xs : List X) (i : ℕ) (x : X) → slice_get xs i ≡ Some x → drop i xs ≡ x ∷ drop (suc i) xs
dropped [] i x e = absurd cc
dropped (y ∷ ys) zero x e = ap (λ z. z ∷ ys) (same y x e)
dropped (y ∷ ys) (suc i) x e = dropped ys i x e

constructor_on : (G : Sc) (xs : List Constructor) (i : ℕ) (c : Constructor) (old : Ls) → slice_get xs i ≡ Some c →
    constructors_found G (map constructor_view (take (suc i) xs))
    (and_then_found old (of_constructor G (map constructor_view (take i xs)) (constructor_view c)))
    (map constructor_view (drop (suc i) xs))
    ≡ constructors_found G (map constructor_view (take i xs)) old (map constructor_view (drop i xs))
constructor_on G xs i c old e =
    let new = and_then_found old (of_constructor G (map constructor_view (take i xs)) (constructor_view c)) in
    ap (λ bs. constructors_found G bs new (map constructor_view (drop (suc i) xs)))
    (ap (map constructor_view) (taken xs i c e) ∙ map-append constructor_view (take i xs) (c ∷ []))
    ∙ ap (λ ys. constructors_found G (map constructor_view (take i xs)) old (map constructor_view ys)) (sym (dropped xs i c e))

pub constructors_on : (G : Sc) (xs : List Constructor) (i : ℕ) (old next new all : Ls) → i < length xs →
    ((c : Constructor) → slice_get xs i ≡ Some c → next ≡ of_constructor G (map constructor_view (take i xs)) (constructor_view c)) →
    new ≡ and_then_found old next →
    constructors_found G (map constructor_view (take i xs)) old (map constructor_view (drop i xs)) ≡ all →
    constructors_found G (map constructor_view (take (i + 1) xs)) new (map constructor_view (drop (i + 1) xs)) ≡ all
constructors_on G xs i old next new all h f n k =
    let c = there xs i h in
    ap (λ m. constructors_found G (map constructor_view (take m xs)) new (map constructor_view (drop m xs))) (let p : i + 1 ≡ suc i = omega arith in p)
    ∙ ap (λ z. constructors_found G (map constructor_view (take (suc i) xs)) z (map constructor_view (drop (suc i) xs)))
    (n ∙ ap (and_then_found old) (f c.0 c.1))
    ∙ constructor_on G xs i c.0 old c.1 ∙ k

pub constructors_end : (G : Sc) (xs : List Constructor) (i : ℕ) (bs : List Cd) (old all : Ls) → length xs ≤ i →
    constructors_found G bs old (map constructor_view (drop i xs)) ≡ all → old ≡ all
constructors_end G xs i bs old all h k =
    ap (λ ys. constructors_found G bs old (map constructor_view ys)) (sym (drop_of_length-le xs h)) ∙ k

-- declarations
pub begun : (p : Pg) (xs : List Decl) (s : Gl) (past : Ls) → s ≡ at_start p → past ≡ none_yet → p.decls ≡ map decl_tree xs →
    (r : Ls) → DeclsJudge s past (map decl_tree (drop 0 xs)) r → ProgramJudges p r
begun p xs s past a b c r j =
    subst (λ z. DeclsJudge z none_yet p.decls r) a (subst (λ z. DeclsJudge s z p.decls r) b (subst (λ z. DeclsJudge s past z r) (sym c) j))

pub decls_on : (p : Pg) (xs : List Decl) (i : ℕ) (x : Decl) (s s' : Gl) (past next new : Ls) → x ≡ get_or xs i x → i < length xs →
    After (decl_tree x) s next s' → new ≡ and_then_found past next →
    ((r : Ls) → DeclsJudge s past (map decl_tree (drop i xs)) r → ProgramJudges p r) →
    (r : Ls) → DeclsJudge s' new (map decl_tree (drop (i + 1) xs)) r → ProgramJudges p r
decls_on p xs i x s s' past next new e h a n f r j =
    f r (subst (λ ys. DeclsJudge s past (map decl_tree ys) r) (sym (open_at xs i x e h))
    (s', next, (a, subst (λ z. DeclsJudge s' z (map decl_tree (drop (i + 1) xs)) r) n j)))

pub decls_end : (p : Pg) (xs : List Decl) (i : ℕ) (s : Gl) (past : Ls) → length xs ≤ i →
    ((r : Ls) → DeclsJudge s past (map decl_tree (drop i xs)) r → ProgramJudges p r) → ProgramJudges p past
decls_end p xs i s past h f = f past (subst (λ ys. DeclsJudge s past (map decl_tree ys) past) (sym (drop_of_length-le xs h)) refl)
